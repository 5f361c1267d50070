-- `response::guest::all_fitted` meets its contract: the guests passed are all fitted. Assumes nothing.
use mathlib.Core.Path.{◌≡◌}
use mathlib.Core.Bool.{true}
use Rattle.lists.specs.All.{all_to}
use Rattle.response.specs.Columns.{fitted_of}
use Rattle.response.proofs.guest.all_fitted.Given as goal

abbrev pub invariant-loop-k : goal.invariant-loop-k
invariant-loop-k l = all_to (fitted_of l.servers) l.k ≡ true
