-- Each promise fixes the number and values that the answer's case sets out. Assumes nothing.
use Rattle.std.proofs.Common.{Result}
use mathlib.Core.Path.{refl, ap, ◌∙◌}
use mathlib.Core.List.{List}
use Prim.Native.Nat.{ℕ}
use Rattle.verdict.specs.declared.GuestVerdict.{GuestVerdict}
use Rattle.verdict.specs.declared.TaskVerdict.{TaskVerdict}
use Rattle.verdict.specs.declared.Acceptance.{Acceptance}
use Rattle.verdict.specs.Told.{guest_told, task_told, plan_told}
use Rattle.plan.specs.declared.Refusal.{Refusal}
use Rattle.capacity.specs.Told.{capacity_told}
use Rattle.amendment.specs.Verdict.{pair_or, refusing_answer}
use Rattle.amendment.specs.Promises.{GuestJudgedIn, TaskJudgedIn, AcceptsPair, SizedIn}
use Rattle.amendment.specs.Told.{GuestTellsIn, TaskTellsIn, PairTells, CapacityTellsIn}
use Rattle.plan.proofs.First.{refused_told}

module _ (plan sheet : List ℕ) where
  -- What `guest_verdict` tells.
  pub guest_told_lem : (id : ℕ) (r : Result GuestVerdict Refusal) → GuestJudgedIn plan sheet id r
      → GuestTellsIn plan sheet id r
  unfolding pair_or guest_told
  guest_told_lem id r e = ap guest_told e ∙ refused_told guest_told refusing_answer _ _ _ _ refl

  -- What `task_verdict` tells.
  pub task_told_lem : (id number : ℕ) (r : Result TaskVerdict Refusal) → TaskJudgedIn plan sheet id number r
      → TaskTellsIn plan sheet id number r
  unfolding pair_or task_told
  task_told_lem id number r e = ap task_told e ∙ refused_told task_told refusing_answer _ _ _ _ refl

  -- What `accept` tells.
  pub pair_told : (r : Result Acceptance Refusal) → AcceptsPair plan sheet r → PairTells plan sheet r
  unfolding pair_or plan_told
  pair_told r e = ap plan_told e ∙ refused_told plan_told refusing_answer _ _ _ _ refl

  -- What `smallest_capacity` tells.
  pub capacity_told_lem : (id : ℕ) (r : Result ℕ Refusal) → SizedIn plan sheet id r → CapacityTellsIn plan sheet id r
  unfolding pair_or capacity_told
  capacity_told_lem id r e = ap capacity_told e ∙ refused_told capacity_told refusing_answer _ _ _ _ refl
