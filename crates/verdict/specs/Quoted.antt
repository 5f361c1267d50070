-- Which response a task is quoted: the one definition that the promises to a tenant speak of.
use Rattle.std.specs.Prelude.{◌≡◌, ℕ, Result, Ok, Err}
use Rattle.plan.specs.declared.Plan.{Plan}
use Rattle.plan.specs.declared.Refusal.{Refusal}
use Rattle.verdict.specs.declared.TaskVerdict.{TaskVerdict}
use Rattle.verdict.specs.declared.TaskVerdict.TheVariants.{Met, UnmetAt, Unmet, Unjudged}
use Rattle.verdict.specs.Verdict.{task_verdict}

-- a verdict quotes R: it is met R, or unmet R
abbrev pub Quotes : Result TaskVerdict Refusal → ℕ → Type 0
Quotes (Err refusal) R = ⊥
Quotes (Ok (Met r)) R = r ≡ R
Quotes (Ok (UnmetAt r)) R = r ≡ R
Quotes (Ok Unmet) R = ⊥
Quotes (Ok Unjudged) R = ⊥

-- the task with that number of the guest with that id is quoted R
abbrev pub Quoted : Plan → (id number R : ℕ) → Type 0
Quoted p id number R = Quotes (task_verdict p id number) R
