-- How one pass over the records comes to the check and to the columns, and what a check that passed says. Assumes
-- nothing.
use mathlib.Core.Path.{◌≡◌, refl, sym}
use mathlib.Core.Bool.{Bool, true, ◌&&◌}
use mathlib.Core.List.{List}
use Prim.Native.Nat.{ℕ, ◌+◌, ◌≤◌, ◌<◌}
use native.Mathlib.Omega.{arith}
use lib.Dec.{leb}
use lib.ListN.{length}
use borrow.Author.Tests.{lt-ltb, le-ltb, leb-true}
use Rattle.lists.specs.Places.{nth}
use Rattle.lists.specs.All.{all_to}
use Rattle.plan.specs.declared.Columns.{Columns}
use Rattle.plan.specs.declared.Guest.{Guest}
use Rattle.plan.specs.declared.Plan.{Plan}
use Rattle.plan.specs.Records.{guest_at}
use Rattle.plan.specs.Ranges.{most_guests, within, guest_ok, tasks_ok}
use Rattle.plan.specs.Order.{new_id}
use Rattle.plan.specs.Filled.{Filled, ColumnsOf}
use Rattle.refusals.specs.Rows.{guest_is_ok, row_is_blank}
use Rattle.refusals.specs.Check.{goes, past_ok, passes}
use Rattle.lists.proofs.All.{and_left, and_right, all_turn, all_by, all_at, all_ext}

-- The ids in the column are the records'.
new_is : (p : Plan) (ids : List ℕ) (k : ℕ) → Filled ids (λ j. (guest_at p.guests j).id) (k + 1)
    → new_id (nth ids) k ≡ new_id (λ j. (guest_at p.guests j).id) k
unfolding new_id
new_is p ids k f = all_ext _ _ k (λ j l. rw (f.holds j (omega arith), f.holds k (omega arith)) refl)

-- Before a loop no guest's numbers are written yet.
begin : (f : ℕ → ℕ) {r : List ℕ} → length r ≡ 16 → Filled r f 0
begin f e = record { long = e; holds = λ k h. absurd (omega arith) }

pub columns_begin : (gs : List Guest) (c : Columns) → length c.ids ≡ 16 → length c.capacities ≡ 16
    → length c.periods ≡ 16 → length c.tasks ≡ 16 → length c.deferrable ≡ 16 → ColumnsOf gs 0 c
columns_begin gs c i p q t d = record {
  ids = begin _ i;
  capacities = begin _ p;
  periods = begin _ q;
  tasks = begin _ t;
  deferrable = begin _ d;
}

module _ (n : ℕ) (left position rest wait age : List ℕ) where
  -- The rows of the guests are not looked at.
  pub past_none : true ≡ all_to (past_ok n left position rest wait age) n
  past_none = sym (all_by _ n (λ k h. rw (lt-ltb k n h) refl))

  -- The loop's turn: one row more is blank.
  pub past_turn : (k : ℕ) {ok r : Bool} → n ≤ k → ok ≡ all_to (past_ok n left position rest wait age) k
      → r ≡ row_is_blank k (nth left k) (nth position k) rest wait age
      → (ok && r) ≡ all_to (past_ok n left position rest wait age) (k + 1)
  past_turn k {ok} {r} h e f = all_turn _ k ok r e (rw (le-ltb k n h) f)

module _ (p : Plan) (left position rest wait age : List ℕ) where
  -- The loop's turn: one guest more goes.
  pub goes_turn : {ids : List ℕ} (k : ℕ) {ok new good : Bool} → Filled ids (λ j. (guest_at p.guests j).id) (k + 1)
      → ok ≡ all_to (goes p left position rest wait age) k
      → new ≡ new_id (nth ids) k
      → good ≡ guest_is_ok (guest_at p.guests k) k (nth left k) (nth position k) rest wait age
      → (ok && (new && good)) ≡ all_to (goes p left position rest wait age) (k + 1)
  goes_turn {ids} k {ok} {new} {good} f e g h =
      all_turn (goes p left position rest wait age) k ok (new && good) e (rw (g, new_is p ids k f, h) refl)

  module _ (e : passes p left position rest wait age ≡ true) where
    -- A plan that passes has at most 8 guests.
    pub few_guests : p.count ≤ most_guests
    unfolding passes
    few_guests =
        leb-true p.count most_guests (and_right (leb 1 p.count) _ (and_left (within 1 most_guests p.count) _ e))

    -- The records of a plan that passes are in their ranges.
    pub records_in_lem : (k : ℕ) → k < p.count
        → (guest_ok (guest_at p.guests k) ≡ true) × (tasks_ok (guest_at p.guests k) ≡ true)
    unfolding passes guest_is_ok
    records_in_lem k h =
        let a = and_left (all_to (goes p left position rest wait age) p.count) _
        (and_right (within 1 most_guests p.count) _ e) in
        let g = and_right (new_id (λ j. (guest_at p.guests j).id) k) _
        (all_at (goes p left position rest wait age) p.count k h a) in
        let r = and_left (guest_ok (guest_at p.guests k) && tasks_ok (guest_at p.guests k)) _ g in
        (and_left (guest_ok (guest_at p.guests k)) _ r, and_right (guest_ok (guest_at p.guests k)) _ r)
