-- `blockfile::files::check_first` meets its contract: what is left has the same first refusal. Assumes nothing.
use Rattle.std.proofs.Common.{◌≡◌, ◌-◌}
use Rattle.plan.specs.First.{first_refused}
use Rattle.blockfile.specs.File.{number_at}
use Rattle.blockfile.proofs.files.check_first.Given as goal

abbrev pub invariant-loop-k : goal.invariant-loop-k
invariant-loop-k l =
    first_refused (number_at l.placed l.s) (l.n - l.k) l.k ≡ first_refused (number_at l.placed l.s) l.n 0
