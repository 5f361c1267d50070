-- `logblock::writer::put_log` meets its contract: zeros, kind and number of jobs, an entry at each turn, and the check.
-- Assumes nothing.
use mathlib.Core.Path.{◌≡◌}
use mathlib.Core.List.{List}
use Prim.Native.Nat.{ℕ}
use lib.ListN.{length}
use Rattle.block.specs.Layout.{block_words}
use Rattle.blockparts.specs.Parts.{with_entries}
use Rattle.logblock.specs.declared.Entry.{Entry}
use Rattle.logblock.specs.Layout.{first_entry}
use Rattle.logblock.specs.Entries.{entry_at}
use Rattle.blockparts.proofs.Parts.{laid}
use Rattle.logblock.proofs.writer.put_log.Given as goal

abbrev pub invariant-loop-i : goal.invariant-loop-i
invariant-loop-i l =
    let e : ℕ → Entry = entry_at l.jobs in
    (x t : List ℕ)
    → length x ≡ block_words
    → l.initial.buf ≡ laid x t
    → l.buf ≡ laid (with_entries first_entry (λ j. (e j).guest) (λ j. (e j).task) (λ j. (e j).age) l.i x) t
