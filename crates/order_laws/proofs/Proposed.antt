-- The answer and its number, refusal 21's test, and what an answer without refusal says. Assumes nothing.
use mathlib.Core.Path.{◌≡◌, refl, sym, ◌∙◌, ap}
use mathlib.Core.Bool.{Bool, true, false, not, ◌&&◌}
use mathlib.Core.List.{List, [], ◌∷◌}
use mathlib.Core.Logic.{◌⊎◌, inl, inr}
use Prim.Native.Nat.{ℕ, zero, suc, ◌<◌}
use native.Mathlib.Omega.{arith}
use borrow.Author.Tests.{not-true, not-false}
use Rattle.lists.specs.All.{all_to}
use Rattle.lists.specs.Exactly.{◌exactly_when◌}
use Rattle.lists.specs.Refusals.{Test, refusal, ◌or_refuse◌}
use Rattle.plan.specs.First.{refused, or_else, refused_by}
use Rattle.plan.specs.Marks.{is_bound}
use Rattle.plan.specs.Order.{plan_refusal, records_then}
use Rattle.plan.specs.Place.{place_of, has_guest}
use Rattle.plan.specs.Records.{guest_at}
use Rattle.plan.specs.Server.{is_deferrable}
use Rattle.plan.specs.declared.Guest.{Guest}
use Rattle.plan.specs.declared.Plan.{Plan}
use Rattle.verdict_laws.specs.Guests.{There}
use Rattle.order.specs.declared.Ordered.{Ordered}
use Rattle.order.specs.Proposed.{may_reorder, order_works, answering, proposed}
use Rattle.order.specs.Reordered.{by_deadline, with_order}
use Rattle.order_laws.specs.Proposals.{Orderable}
use Rattle.lists.proofs.All.{and_left, and_right, and_true, and_false_left, and_false_right, all_at, all_by, all_false, all_fails}
use Rattle.lists.proofs.Refusals.{passed, go_on}
use Rattle.plan.proofs.First.{refused_here}
use Rattle.plan.proofs.Order.{records_none}
use Rattle.verdict_laws.proofs.Guests.{there_place, there_has, has_there}

-- The tests after the records' order.
abbrev pub tests : Plan → (id : ℕ) → List Test
tests p id =
    let g = guest_at p.guests (place_of p id) in
    has_guest p id or_refuse 7 ∷ may_reorder g or_refuse 21 ∷ order_works p (place_of p id) (by_deadline g) or_refuse 22 ∷ []

-- The number is that of the first test to fail.
number_by : (p : Plan) (n place : ℕ) (q : Plan)
    → (refused_by (answering p) n place (answering q 0 0)).refusal.number ≡ n
unfolding refused_by
number_by p zero place q = refl
number_by p (suc n) place q = refl

pub number_is : (p : Plan) (id : ℕ) → (proposed p id).refusal.number ≡ (records_then p (tests p id)).number
unfolding proposed
number_is p id = number_by p _ _ _

-- Where a number is given it is the answer's.
refused_by_lem : (p : Plan) (n place : ℕ) (other : Ordered)
    → 0 < n
    → refused_by (answering p) n place other ≡ answering p n place
unfolding refused_by
refused_by_lem p zero place other h = absurd (omega arith)
refused_by_lem p (suc n) place other h = refl

-- Records that are not in order have their own refusal, and come back.
pub records_refused :
    (p : Plan) (id : ℕ)
    → 0 < (plan_refusal p).number
    → proposed p id ≡ answering p (plan_refusal p).number (plan_refusal p).place
unfolding proposed records_then
records_refused p id h =
    rw (← refused_here (plan_refusal p).number (plan_refusal p).place (refused (refusal (tests p id)) 0) h)
    (refused_by_lem p (plan_refusal p).number (plan_refusal p).place _ h)

-- A refusal leaves the plan.
kept_by_lem : (p : Plan) (n place : ℕ) (q : Plan)
    → 0 < (refused_by (answering p) n place (answering q 0 0)).refusal.number
    → (refused_by (answering p) n place (answering q 0 0)).plan ≡ p
unfolding refused_by
kept_by_lem p zero place q h = absurd (omega arith)
kept_by_lem p (suc n) place q h = refl

-- On a refusal the plan comes back as it was.
pub kept_on_refusal : (p : Plan) (id : ℕ) → 0 < (proposed p id).refusal.number → (proposed p id).plan ≡ p
unfolding proposed
kept_on_refusal p id h = kept_by_lem p _ _ _ h

-- Where no number is given the order by deadline is.
plan_by_lem : (p : Plan) (n place : ℕ) (q : Plan) → n ≡ 0
    → refused_by (answering p) n place (answering q 0 0) ≡ answering q 0 0
unfolding refused_by
plan_by_lem p n place q e = rw e refl

-- Where the records are not refused the tests decide.
pub records_number : (p : Plan) (ts : List Test) → (plan_refusal p).number ≡ 0 → (records_then p ts).number ≡ refusal ts
unfolding records_then or_else
records_number p ts e = rw e refl

-- A guest that is there is tested by 21 and 22.
pub there_number : (p : Plan) (id k : ℕ) → There p id k
    → (proposed p id).refusal.number
    ≡ refusal (may_reorder (guest_at p.guests k) or_refuse 21
    ∷ order_works p k (by_deadline (guest_at p.guests k)) or_refuse 22
    ∷ [])
there_number p id k t =
    number_is p id ∙ records_number p (tests p id) t.order ∙ go_on 7 _ (there_has p id k t)
    ∙ rw (there_place p id k t) refl

-- ---- 21's test
module _ (g : Guest) where
  -- A guest that passes it is Periodic, and none of its tasks is bound.
  may_says : may_reorder g ≡ true → (is_deferrable g ≡ false) × ((i : ℕ) → i < g.tasks → is_bound g i ≡ false)
  unfolding may_reorder
  may_says e = (
    not-true (is_deferrable g) (and_left (not (is_deferrable g)) _ e),
    λ i h. not-true (is_bound g i)
        (all_at (λ i. not (is_bound g i)) g.tasks i h (and_right (not (is_deferrable g)) _ e)),
  )

  -- Such a guest passes it.
  pub says_may : is_deferrable g ≡ false → ((i : ℕ) → i < g.tasks → is_bound g i ≡ false) → may_reorder g ≡ true
  unfolding may_reorder
  says_may p b =
      and_true (ap not p) (all_by (λ i. not (is_bound g i)) g.tasks (λ i h. ap not (b i h)))

  -- It fails exactly of a Deferrable guest and of one with a bound task.
  pub may_not : (may_reorder g ≡ false)
      exactly_when ((is_deferrable g ≡ true) ⊎ ((i : ℕ) × (i < g.tasks) × (is_bound g i ≡ true)))
  unfolding may_reorder
  may_not = (by (is_deferrable g) refl, back)
    where
      by : (b : Bool) → is_deferrable g ≡ b → (not b && all_to (λ i. not (is_bound g i)) g.tasks) ≡ false
          → (is_deferrable g ≡ true) ⊎ ((i : ℕ) × (i < g.tasks) × (is_bound g i ≡ true))
      by true q e = inl q
      by false q e =
          let (i, h, n) = all_false (λ i. not (is_bound g i)) g.tasks e in
          inr (i, h, not-false (is_bound g i) n)

      back : (is_deferrable g ≡ true) ⊎ ((i : ℕ) × (i < g.tasks) × (is_bound g i ≡ true))
          → (not (is_deferrable g) && all_to (λ i. not (is_bound g i)) g.tasks) ≡ false
      back (inl q) = and_false_left _ (ap not q)
      back (inr (i, h, b)) =
          and_false_right (not (is_deferrable g)) (sym (all_fails (λ i. not (is_bound g i)) g.tasks i h (ap not b)))

-- ---- an order that is proposed
-- What an answer without refusal says.
pub record Given (p : Plan) (id : ℕ) : Type 0 where
  pub able : Orderable p id (place_of p id)
  pub works : order_works p (place_of p id) (by_deadline (guest_at p.guests (place_of p id))) ≡ true
  pub is : proposed p id
      ≡ answering (with_order p (place_of p id) (by_deadline (guest_at p.guests (place_of p id)))) 0 0

-- No test was failed.
pub given : (p : Plan) (id : ℕ) → (proposed p id).refusal.number ≡ 0 → Given p id
unfolding proposed
given p id e =
    let g = guest_at p.guests (place_of p id) in
    let none : (records_then p (tests p id)).number ≡ 0 = sym (number_is p id) ∙ e in
    let o = records_none p (tests p id) none in
    let seven = passed (has_guest p id) 7 _ (omega arith) o.1 in
    let able = passed (may_reorder g) 21 _ (omega arith) seven.1 in
    let may = may_says g able.0 in
    record {
      able = record { there = has_there p id o.0 seven.0; periodic = may.0; unbound = may.1 };
      works = (passed (order_works p (place_of p id) (by_deadline g)) 22 [] (omega arith) able.1).0;
      is = plan_by_lem p _ _ _ none;
    }
