-- What each promise permits is one outcome. Assumes nothing.
use Rattle.std.proofs.Common.{Result}
use mathlib.Core.Path.{◌≡◌}
use mathlib.Core.List.{List}
use Prim.Native.Nat.{ℕ}
use Rattle.verdict.specs.declared.GuestVerdict.{GuestVerdict}
use Rattle.verdict.specs.declared.TaskVerdict.{TaskVerdict}
use Rattle.verdict.specs.declared.Acceptance.{Acceptance}
use Rattle.plan.specs.declared.Refusal.{Refusal}
use Rattle.amendment.specs.declared.Located.{Located}
use Rattle.amendment.specs.Promises.{LocatesIn, FindsIn, GuestJudgedIn, TaskJudgedIn, AcceptsPair, SizedIn}
use Rattle.plan.proofs.Promises.{one_outcome}

module _ (plan sheet : List ℕ) where
  -- `find_place` has one outcome.
  pub locates_once : (id : ℕ) (r q : Located) → LocatesIn plan sheet id r → LocatesIn plan sheet id q → r ≡ q
  locates_once id r q = one_outcome

  -- `find` has one outcome.
  pub finds_once : (id : ℕ) (r q : List ℕ) → FindsIn plan sheet id r → FindsIn plan sheet id q → r ≡ q
  finds_once id r q = one_outcome

  -- `guest_verdict` has one outcome.
  pub guest_once : (id : ℕ) (r q : Result GuestVerdict Refusal) → GuestJudgedIn plan sheet id r
      → GuestJudgedIn plan sheet id q
      → r ≡ q
  guest_once id r q = one_outcome

  -- `task_verdict` has one outcome.
  pub task_once : (id number : ℕ) (r q : Result TaskVerdict Refusal) → TaskJudgedIn plan sheet id number r
      → TaskJudgedIn plan sheet id number q
      → r ≡ q
  task_once id number r q = one_outcome

  -- `accept` has one outcome.
  pub accepts_once : (r q : Result Acceptance Refusal) → AcceptsPair plan sheet r → AcceptsPair plan sheet q → r ≡ q
  accepts_once r q = one_outcome

  -- `smallest_capacity` has one outcome.
  pub sized_once : (id : ℕ) (r q : Result ℕ Refusal) → SizedIn plan sheet id r → SizedIn plan sheet id q → r ≡ q
  sized_once id r q = one_outcome
