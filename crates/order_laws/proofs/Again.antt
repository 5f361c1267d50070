-- The order proposed of an order proposed is itself: keys that rise stand in order, so nothing moves. Assumes nothing.
use mathlib.Core.Path.{◌≡◌, refl, sym, ◌∙◌, ap}
use mathlib.Core.Bool.{◌&&◌}
use mathlib.Core.List.{List, []}
use Prim.Native.Nat.{ℕ, zero, suc, ◌≤◌, ◌<◌}
use native.Mathlib.Decide.{dec_lt}
use native.Mathlib.Omega.{arith}
use Rattle.lists.specs.Places.{nth}
use Rattle.plan.specs.Place.{place_of}
use Rattle.plan.specs.Placed.{with_guest}
use Rattle.plan.specs.Records.{guest_at, deadline_of}
use Rattle.plan.specs.declared.Guest.{Guest}
use Rattle.plan.specs.declared.Plan.{Plan}
use Rattle.response.specs.Guest.{fitted_to}
use Rattle.response.specs.Met.{all_met}
use Rattle.verdict_laws.specs.Guests.{There}
use Rattle.order.specs.Proposed.{order_works, answering, proposed}
use Rattle.order.specs.Reordered.{in_order, reordered, by_deadline, with_order}
use Rattle.order.specs.Sorting.{sorted}
use Rattle.lists.proofs.Places.{up_to_none, up_to_short}
use Rattle.lists.proofs.Refusals.{go_on, none_left}
use Rattle.plan.proofs.Placed.{placed_own}
use Rattle.plan.proofs.RangesLaws.{GuestIn}
use Rattle.verdict_laws.proofs.Guests.{there_place}
use Rattle.order.proofs.Reordered.{deadline_at}
use Rattle.order.proofs.SortingLaws.{next_at, next_goes, next_inserts, sorted_below}
use Rattle.order_laws.proofs.Orders.{sorted_order, sorted_goes}
use Rattle.order_laws.proofs.Placed.{guest_in_lem, ordered_there, order_there}
use Rattle.order_laws.proofs.Proposed.{given, there_number, says_may}

-- Places whose keys rise stand in the order of their keys.
rising_own : (key : ℕ → ℕ) (n : ℕ) → ((i j : ℕ) → i < j → j < n → key i ≤ key j)
    → (i : ℕ) → i < n → nth (sorted key n) i ≡ i
rising_own key zero rises i h = absurd (omega arith)
rising_own key (suc n) rises i h =
    let p = next_at key n in
    let g = next_goes key n in
    let s = next_inserts key n in
    let old = rising_own key n (λ i j l b. rises i j l (omega arith)) in
    let last : p ≡ n = elim (dec_lt p n) [
      | yes l ↦ absurd (omega (arith, g.before l, ap key (old p l), rises p n l (omega arith)))
      | no l ↦ omega (arith, g.within)
    ] in
    elim (dec_lt i n) [
      | yes l ↦ s.above i (omega arith) ∙ old i l
      | no l ↦
          let e : i ≡ p = omega arith in
          ap (nth (sorted key (suc n))) e ∙ s.here ∙ sym last ∙ sym e
    ]

-- A column whose places all stand where they stood is the column.
own_order : (order : List ℕ) (n : ℕ) (column : List ℕ) → ((i : ℕ) → i < n → nth order i ≡ i)
    → in_order order n column ≡ column
unfolding in_order
own_order order n column own =
    up_to_short _ 0 n column (omega arith) (λ i l h. ap (nth column) (own i h)) ∙ up_to_none _ column

-- A guest whose deadlines rise stands in the order by deadline.
stands_own : (g : Guest) → ((i j : ℕ) → i < j → j < g.tasks → deadline_of g i ≤ deadline_of g j)
    → reordered g (by_deadline g) ≡ g
stands_own g rises =
    let own = rising_own (deadline_of g) g.tasks rises in
    let same : (column : List ℕ) → in_order (by_deadline g) g.tasks column ≡ column =
    λ column. own_order (by_deadline g) g.tasks column own in
    rw (same g.run, same g.every, same g.deadline) refl

-- A guest in the order by deadline has deadlines that rise.
rises_there : (g : Guest) → GuestIn g → (i j : ℕ) → i < j → j < g.tasks
    → deadline_of (reordered g (by_deadline g)) i ≤ deadline_of (reordered g (by_deadline g)) j
rises_there g s i j h l =
    let named = sorted_below (deadline_of g) g.tasks in
    omega (
      arith,
      deadline_at g s (by_deadline g) named i (omega arith),
      deadline_at g s (by_deadline g) named j l,
      (sorted_goes (deadline_of g) g.tasks).rises i j h l,
    )

module _ (p : Plan) (id : ℕ) (e : (proposed p id).refusal.number ≡ 0) where
  -- The guest's place, the guest, and the plan with its tasks in the order proposed.
  abbrev k : ℕ
  k = place_of p id

  abbrev g : Guest
  g = guest_at p.guests k

  abbrev q : Plan
  q = with_order p k (by_deadline g)

  -- The order proposed for that plan leaves it as it is.
  own : with_order q k (by_deadline (guest_at q.guests k)) ≡ q
  own =
      let a = (given p id e).able in
      ap (with_guest q k)
      (rw (ordered_there p id k a (by_deadline g))
      (stands_own (reordered g (by_deadline g)) (rises_there g (guest_in_lem p id k a))))
      ∙ placed_own q k

  -- Its guest is there.
  there : There q id k
  there = order_there p id k (given p id e).able (by_deadline g) (sorted_order (deadline_of g) g.tasks)

  -- It may be reordered, and the order works.
  number_none : (proposed q id).refusal.number ≡ 0
  unfolding order_works
  number_none =
      let v = given p id e in
      there_number q id k there
      ∙ go_on 21 _ (rw (ordered_there p id k v.able (by_deadline g))
      (says_may (reordered g (by_deadline g)) v.able.periodic v.able.unbound))
      ∙ go_on 22 [] (ap (λ (r : Plan). fitted_to r k && all_met r k) own ∙ v.works)
      ∙ none_left

  -- The order proposed of an order proposed is itself, and is not refused.
  pub proposed_again : proposed (proposed p id).plan id ≡ proposed p id
  proposed_again =
      rw (given p id e).is
      ((given q id number_none).is
      ∙ ap (λ (j : ℕ). answering (with_order q j (by_deadline (guest_at q.guests j))) 0 0)
      (there_place q id k there)
      ∙ ap (λ (r : Plan). answering r 0 0) own)
