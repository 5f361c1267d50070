-- What each promise permits is one outcome. Assumes nothing.
use mathlib.Core.Path.{◌≡◌}
use Prim.Native.Nat.{ℕ}
use Rattle.plan.specs.declared.Plan.{Plan}
use Rattle.show.specs.declared.Line.{Line}
use Rattle.show.specs.Promises.{ShowsGuest, ShowsTask, ShowsPlan}
use Rattle.plan.proofs.Promises.{one_outcome}

-- Guest_line.
pub shows_guest_once : (p : Plan) (id : ℕ) (r s : Line) → ShowsGuest p id r → ShowsGuest p id s → r ≡ s
shows_guest_once p id r s = one_outcome

-- Task_line.
pub shows_task_once : (p : Plan) (id number : ℕ) (r s : Line) → ShowsTask p id number r → ShowsTask p id number s
    → r ≡ s
shows_task_once p id number r s = one_outcome

-- Last_line.
pub shows_plan_once : (p : Plan) (r s : Line) → ShowsPlan p r → ShowsPlan p s → r ≡ s
shows_plan_once p r s = one_outcome
