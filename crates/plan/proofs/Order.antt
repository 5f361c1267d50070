-- How the code comes to the records' refusal, and what records that pass say. Assumes nothing.
use mathlib.Core.Path.{◌≡◌, refl, sym, ◌∙◌}
use mathlib.Core.Bool.{Bool, true, false, ◌&&◌}
use mathlib.Core.List.{List, [], ◌∷◌}
use Prim.Native.Nat.{ℕ, zero, suc, ◌≤◌, ◌<◌}
use native.Mathlib.Omega.{arith}
use borrow.Author.Tests.{le-leb}
use Rattle.lists.specs.Places.{nth}
use Rattle.lists.specs.Refusals.{Test, unless, refusal, ◌or_refuse◌}
use Rattle.plan.specs.declared.Guest.{Guest}
use Rattle.plan.specs.declared.Plan.{Plan}
use Rattle.plan.specs.Records.{guest_at}
use Rattle.plan.specs.Ranges.{most_guests, within, guest_ok, tasks_ok}
use Rattle.plan.specs.Filled.{Filled}
use Rattle.plan.specs.First.{refused, fine, or_else, first_refused, refused_by, refuse_or}
use Rattle.plan.specs.Order.{new_id, number_of, guest_number, counted_by, plan_refusal, records_then}
use Rattle.std.specs.Prelude.{Ok}
use Rattle.plan.specs.Promises.{Checks}
use Rattle.lists.proofs.All.{and_left, and_right, and_true, all_ext}
use Rattle.lists.proofs.Refusals.{none_left, go_on, passed}
use Rattle.plan.proofs.First.{none_refused, first_fine, after_zero, ok_says}
use Rattle.plan.proofs.RangesLaws.{within_says, GuestIn, guest_says_lem}

-- a guest that is in its ranges with all its tasks, and whose id is new, is refused by no number
pub none : (g : Guest) (new : Bool) → guest_ok g ≡ true → new ≡ true → tasks_ok g ≡ true → 0 ≡ number_of g new
unfolding number_of
none g new p q e = sym (go_on 4 _ (and_true p q) ∙ go_on 6 _ e ∙ none_left)

-- the number that the code comes to, by the ids in a column, is the guest's
pub number_is : (gs : List Guest) (ids : List ℕ) (k : ℕ) → k < most_guests
    → Filled ids (λ j. (guest_at gs j).id) most_guests → {g : Guest} {new : Bool} → g ≡ guest_at gs k → new ≡ new_id (nth ids) k
    → number_of g new ≡ guest_number gs k
unfolding guest_number new_id
number_is gs ids k h f e q =
    let same : new_id (nth ids) k ≡ new_id (λ j. (guest_at gs j).id) k =
    all_ext _ _ k (λ j l. rw (f.holds j (omega arith), f.holds k (omega arith)) refl) in
    rw (e, q, same) refl

-- a plan of no guest, or of more than 8, is refused by 1
pub count_out : (p : Plan) → within 1 most_guests p.count ≡ false → refused 1 0 ≡ plan_refusal p
unfolding plan_refusal counted_by
count_out p e = rw e refl

-- a plan of 1 to 8 guests is refused as the first of its guests that is
pub counted : (p : Plan) → 1 ≤ p.count → p.count ≤ most_guests
    → first_refused (guest_number p.guests) p.count 0 ≡ plan_refusal p
unfolding plan_refusal counted_by
counted p l h = rw (le-leb 1 p.count l, le-leb p.count most_guests h) refl

-- Records in order: 1 to 8 guests, each in its ranges, each with an id of its own.
pub record PlanIn (p : Plan) : Type 0 where
  pub some : 1 ≤ p.count
  pub few : p.count ≤ most_guests
  pub guests : (k : ℕ) → k < p.count → GuestIn (guest_at p.guests k)
  pub new : (k : ℕ) → k < p.count → new_id (λ j. (guest_at p.guests j).id) k ≡ true

-- a guest that no number refuses is in its ranges, and its id is new
pub number_none : (gs : List Guest) (k : ℕ) → guest_number gs k ≡ 0
    → GuestIn (guest_at gs k) × (new_id (λ j. (guest_at gs j).id) k ≡ true)
unfolding guest_number number_of
number_none gs k e =
    let a = passed (guest_ok (guest_at gs k) && new_id (λ j. (guest_at gs j).id) k) 4 _ (omega arith) e in
    let b = passed (tasks_ok (guest_at gs k)) 6 [] (omega arith) a.1 in (
      guest_says_lem (guest_at gs k) (and_left (guest_ok (guest_at gs k)) _ a.0) b.0,
      and_right (guest_ok (guest_at gs k)) _ a.0,
    )

-- a plan that is not refused has a count from 1 to 8, and no guest of it is refused
counted_none : (b : Bool) (p : Plan) → (counted_by b p).number ≡ 0
    → (b ≡ true) × ((first_refused (guest_number p.guests) p.count 0).number ≡ 0)
unfolding counted_by
counted_none true p e = (refl, e)
counted_none false p e = absurd (omega arith)

-- records that are not refused: no number refuses a guest
pub numbers_none : (p : Plan) → (plan_refusal p).number ≡ 0 → (k : ℕ) → k < p.count → guest_number p.guests k ≡ 0
unfolding plan_refusal
numbers_none p e k h =
    let c = counted_none (within 1 most_guests p.count) p e in
    none_refused (guest_number p.guests) p.count 0 c.1 k (omega arith) (omega arith)

-- records that are not refused are in order
pub plan_in : (p : Plan) → (plan_refusal p).number ≡ 0 → PlanIn p
unfolding plan_refusal
plan_in p e =
    let c = counted_none (within 1 most_guests p.count) p e in
    let w = within_says 1 most_guests p.count c.0 in
    record {
      some = w.0;
      few = w.1;
      guests = λ k h. (number_none p.guests k (numbers_none p e k h)).0;
      new = λ k h. (number_none p.guests k (numbers_none p e k h)).1;
    }

-- records that the check lets pass are in order
pub check_order : (p : Plan) → Checks p (Ok tt) → PlanIn p
check_order p e = plan_in p (ok_says (plan_refusal p) e).0

-- records of 1 to 8 guests that no number refuses are not refused
pub numbers_fine : (p : Plan) → 1 ≤ p.count → p.count ≤ most_guests
    → ((k : ℕ) → k < p.count → guest_number p.guests k ≡ 0)
    → plan_refusal p ≡ fine
numbers_fine p l h n =
    sym (counted p l h) ∙ first_fine (guest_number p.guests) p.count 0 (λ z a b. n z (omega arith))

-- the first test's refusal does not depend on those after it
then_first : (x k : ℕ) (b : Bool) (n : ℕ) (ts : List Test)
    → 0 < (or_else x k (refused (refusal (b or_refuse n ∷ [])) 0)).number
    → or_else x k (refused (refusal (b or_refuse n ∷ [])) 0) ≡ or_else x k (refused (refusal (b or_refuse n ∷ ts)) 0)
unfolding or_else refusal unless
then_first zero k true n ts h = absurd (omega arith)
then_first zero k false n ts h = refl
then_first (suc x) k b n ts h = refl

-- a refusal by the records' order and one test does not depend on the tests after it
pub records_first : (p : Plan) (b : Bool) (n : ℕ) (ts : List Test) → 0 < (records_then p (b or_refuse n ∷ [])).number
    → records_then p (b or_refuse n ∷ []) ≡ records_then p (b or_refuse n ∷ ts)
unfolding records_then
records_first p b n ts h = then_first (plan_refusal p).number (plan_refusal p).place b n ts h

-- where the records are not refused the tests decide
pub records_pass : {A : Type 0} (refuse : ℕ → ℕ → A) (p : Plan) (tests : List Test) (v : A) → (plan_refusal p).number ≡ 0
    → refused_by refuse (refusal tests) 0 v ≡ refuse_or refuse (records_then p tests) v
unfolding records_then or_else
records_pass refuse p tests v e = rw e refl

-- where the number is 0 the records are not refused and no test after them fails
pub records_none : (p : Plan) (tests : List Test) → (records_then p tests).number ≡ 0
    → ((plan_refusal p).number ≡ 0) × (refusal tests ≡ 0)
unfolding records_then
records_none p tests e = after_zero (plan_refusal p).number (plan_refusal p).place (refused (refusal tests) 0) e
