-- The verdicts that quote a response. Assumes nothing.
use Rattle.std.specs.Prelude.{Ok}
use mathlib.Core.Path.{◌≡◌, refl}
use Prim.Native.Nat.{ℕ}
use Rattle.plan.specs.declared.Plan.{Plan}
use Rattle.verdict.specs.declared.TaskVerdict.TheVariants.{Met, UnmetAt}
use Rattle.verdict.specs.Verdict.{task_verdict}
use Rattle.verdict.specs.Quoted.{Quoted}

-- met R quotes R
pub met_quoted : (p : Plan) (id number R : ℕ) → task_verdict p id number ≡ Ok (Met R) → Quoted p id number R
met_quoted p id number R e = rw e refl

-- unmet R quotes R
pub unmet_quoted : (p : Plan) (id number R : ℕ) → task_verdict p id number ≡ Ok (UnmetAt R) → Quoted p id number R
unmet_quoted p id number R e = rw e refl
