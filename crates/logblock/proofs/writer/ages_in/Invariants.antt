-- `logblock::writer::ages_in` meets its contract: a turn tests one age more. Assumes nothing.
use mathlib.Core.Path.{◌≡◌}
use Rattle.lists.specs.All.{all_to}
use Rattle.plan.specs.Ranges.{longest, within}
use Rattle.logblock.specs.Entries.{entry_at}
use Rattle.logblock.proofs.writer.ages_in.Given as goal

abbrev pub invariant-loop-entry : goal.invariant-loop-entry
invariant-loop-entry l = l.ok ≡ all_to (λ j. within 1 longest ((entry_at l.fn.jobs j).age)) l.entry-index
