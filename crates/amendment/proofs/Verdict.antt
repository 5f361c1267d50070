-- How the code comes to an answer about a pair. Assumes nothing.
use mathlib.Core.Path.{◌≡◌, refl, ap, ◌∙◌}
use mathlib.Core.List.{List}
use Prim.Native.Nat.{ℕ, ◌≤◌, ◌<◌}
use native.Mathlib.Omega.{arith}
use Rattle.std.proofs.Common.{Result, Ok, Err}
use Rattle.plan.specs.declared.Refusal.{Refusal}
use Rattle.plan.specs.First.{unless_refused}
use Rattle.plan.specs.Ranges.{most_guests}
use Rattle.plan.specs.declared.Plan.{Plan}
use Rattle.blockfile.specs.File.{blocks_in}
use Rattle.amendment.specs.declared.Located.{Located}
use Rattle.amendment.specs.Pair.{pair_refusal}
use Rattle.amendment.specs.Amended.{amended}
use Rattle.amendment.specs.Verdict.{refusing_answer, pair_or, answer_refusal}
use Rattle.plan.proofs.First.{ok_says, err_says, number_refuses, number_passes}
use Rattle.amendment.proofs.Pair.{sizes}

-- What `check_for_answer` says of a pair by its outcome.
abbrev pub Checks : (plan sheet : List ℕ) → Result Unit Refusal → Type 0
Checks plan sheet r = r ≡ unless_refused (answer_refusal plan sheet) tt

-- The check passed: the pair is not refused.
passes : (plan sheet : List ℕ) → Checks plan sheet (Ok tt) → (pair_refusal plan sheet).number ≤ 0
passes plan sheet q = let e = ok_says (answer_refusal plan sheet) q in omega (arith, e.0)

module _ {A : Type 0} (refuse : ℕ → ℕ → A) (plan sheet : List ℕ) (answer : Plan → A) where
  -- The pair is refused.
  pub pair_refuses : (r : Located) → r ≡ pair_refusal plan sheet → 0 < r.number
      → refuse r.number r.place ≡ pair_or refuse plan sheet answer
  unfolding pair_or
  pair_refuses r e h = rw (← e) (number_refuses refuse r.number r.place _ h)

  -- The amended plan is answered for.
  pub pair_answers : (r : Located) → r ≡ pair_refusal plan sheet → r.number ≤ 0
      → answer (amended plan sheet) ≡ pair_or refuse plan sheet answer
  unfolding pair_or
  pair_answers r e h = rw (← e) (number_passes refuse r.number r.place _ h)

  -- The check passed, and the plan that was made is answered for.
  pub check_answers : {p : Plan} → Checks plan sheet (Ok tt) → p ≡ amended plan sheet
      → answer p ≡ pair_or refuse plan sheet answer
  check_answers q e = ap answer e ∙ pair_answers (pair_refusal plan sheet) refl (passes plan sheet q)

module _ (plan sheet : List ℕ) where
  -- The check passed: the plan may be made.
  pub check_sizes : Checks plan sheet (Ok tt) → (blocks_in plan ≤ most_guests) × (blocks_in sheet ≤ most_guests)
  check_sizes q = sizes plan sheet (pair_refusal plan sheet) refl (passes plan sheet q)

  -- The check failed: its refusal is the answer.
  pub check_refuses : {A : Type 0} (answer : Plan → Result A Refusal) {s : Refusal} → Checks plan sheet (Err s)
      → Err s ≡ pair_or refusing_answer plan sheet answer
  check_refuses answer q =
      let e = err_says (answer_refusal plan sheet) tt q in
      rw e.0 (pair_refuses refusing_answer plan sheet answer (pair_refusal plan sheet) refl e.1)
