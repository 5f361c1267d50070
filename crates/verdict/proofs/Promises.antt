-- What each promise permits is one outcome. Assumes nothing.
use Rattle.std.specs.Prelude.{Result}
use mathlib.Core.Path.{◌≡◌}
use Prim.Native.Nat.{ℕ}
use Rattle.plan.specs.declared.Plan.{Plan}
use Rattle.plan.specs.declared.Refusal.{Refusal}
use Rattle.verdict.specs.declared.GuestVerdict.{GuestVerdict}
use Rattle.verdict.specs.declared.TaskVerdict.{TaskVerdict}
use Rattle.verdict.specs.declared.Acceptance.{Acceptance}
use Rattle.verdict.specs.Promises.{GuestJudged, TaskJudged, Accepts}
use Rattle.plan.proofs.Promises.{one_outcome}

-- guest_verdict has one outcome
pub guest_judged_once : (p : Plan) (id : ℕ) (r s : Result GuestVerdict Refusal) → GuestJudged p id r
    → GuestJudged p id s
    → r ≡ s
guest_judged_once p id r s = one_outcome

-- task_verdict has one outcome
pub task_judged_once : (p : Plan) (id number : ℕ) (r s : Result TaskVerdict Refusal) → TaskJudged p id number r
    → TaskJudged p id number s → r ≡ s
task_judged_once p id number r s = one_outcome

-- accept has one outcome
pub accepts_once : (p : Plan) (r s : Result Acceptance Refusal) → Accepts p r → Accepts p s → r ≡ s
accepts_once p r s = one_outcome
