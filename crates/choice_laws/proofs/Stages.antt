-- A choice guest by guest: after k of them the first k are fitted with all their tasks met, and what comes below changes
-- none of that. Assumes nothing.
use Rattle.std.specs.Prelude.{Option, Some, None, is_some}
use mathlib.Core.Path.{◌≡◌, refl, sym, ◌∙◌, ap, subst}
use mathlib.Core.Bool.{Bool, true, false≢true}
use Prim.Native.Nat.{ℕ, zero, suc, ◌+◌, ◌≤◌, ◌<◌}
use native.Mathlib.Decide.{dec_le, ℕ_discrete}
use native.Mathlib.Omega.{arith}
use Rattle.lists.specs.All.{all_to}
use Rattle.equation.specs.System.{task_under}
use Rattle.plan.specs.Order.{plan_refusal}
use Rattle.plan.specs.Placed.{with_guest}
use Rattle.plan.specs.Records.{guest_at, deadline_of}
use Rattle.plan.specs.declared.Guest.{Guest}
use Rattle.plan.specs.declared.Plan.{Plan}
use Rattle.plan.specs.declared.Refusal.{Refusal}
use Rattle.response.specs.Guest.{fitted, fitted_to}
use Rattle.response.specs.Interference.{interference}
use Rattle.response.specs.Met.{met, all_met, accepted}
use Rattle.response.specs.Task.{system_of, response_to}
use Rattle.capacity.specs.Capacity.{at_capacity, with_capacity, works, smallest}
use Rattle.choice.specs.Capacities.{answering, chosen_from}
use Rattle.choice.specs.declared.Chosen.{Chosen}
use Rattle.lists.proofs.All.{and_left, and_right, and_true, all_at, all_by, all_none}
use Rattle.lists.proofs.Search.{Says, least_says}
use Rattle.plan.proofs.Order.{plan_in}
use Rattle.plan.proofs.Placed.{in_list, placed_there, placed_other}
use Rattle.response.proofs.PlacedLaws.{placed_take}
use Rattle.capacity.proofs.Capacity.{capacity_fine}

-- The plan q after k guests: p with other capacities, in order, whose first k guests are fitted with their tasks met.
pub record Stage (p q : Plan) (k : ℕ) : Type 0 where
  pub order : (plan_refusal q).number ≡ 0
  pub many : q.count ≡ p.count
  pub others : (j : ℕ) → guest_at q.guests j ≡ at_capacity (guest_at p.guests j) (guest_at q.guests j).capacity
  pub fits : all_to (fitted q) k ≡ true
  pub meets : all_to (all_met q) k ≡ true

-- before the first
pub stage_first : (p : Plan) → (plan_refusal p).number ≡ 0 → Stage p p 0
stage_first p ok = record { order = ok; many = refl; others = λ j. refl; fits = all_none _; meets = all_none _ }

-- after the last it is accepted
pub stage_last : (p q : Plan) → Stage p q p.count → accepted q ≡ true
unfolding accepted
stage_last p q s = and_true (ap (all_to (fitted q)) s.many ∙ s.fits) (ap (all_to (all_met q)) s.many ∙ s.meets)

-- What a search says of the capacity that it found.
pub record Least (q : Plan) (k a : ℕ) : Type 0 where
  pub low : 1 ≤ a
  pub high : a ≤ (guest_at q.guests k).period
  pub holds : works q k a ≡ true
  pub first : (z : ℕ) → 1 ≤ z → works q k z ≡ true → a ≤ z

-- the capacity found is such
pub least_of : (q : Plan) (k a : ℕ) → smallest q k ≡ Some a → Least q k a
unfolding smallest
least_of q k a e = go (smallest q k) e (least_says (works q k) (guest_at q.guests k).period 1)
  where
    go : (f : Option ℕ) → f ≡ Some a → Says (works q k) (guest_at q.guests k).period 1 f → Least q k a
    go None e s = absurd (let z : ◌≡◌ {A = ℕ} 0 1 = cc in omega arith)
    go (Some b) e s =
        let z : b ≡ a = cc in
        rw (← z) record {
          low = s.low;
          high = omega (arith, s.high);
          holds = s.holds;
          first = λ y l w. not_below y l w;
        }
      where
        not_below : (y : ℕ) → 1 ≤ y → works q k y ≡ true → b ≤ y
        not_below y l w =
            elim (dec_le b y) [
              | yes h ↦ h
              | no h ↦ absurd (false≢true (sym (s.first y l (omega arith)) ∙ w))
            ]

-- whether a guest's tasks are met under guests that take so much
abbrev meets_under : (above : ℕ → ℕ) → Guest → Bool
meets_under above g = all_to (λ i. is_some (task_under (system_of above g) i (deadline_of g i))) g.tasks

module _ (p q : Plan) (k : ℕ) (s : Stage p q k) (h : k < p.count) (a : ℕ) (L : Least q k a) where
  abbrev after : Plan
  after = with_capacity q k a

  -- the place is one of the plan's
  inside : k < q.count
  inside = omega (arith, s.many)

  -- the tasks of those above are met where they were
  meets_above : (j : ℕ) → j < k → all_met after j ≡ all_met q j
  unfolding all_met met response_to
  meets_above j l =
      let g = at_capacity (guest_at q.guests k) a in
      ap (λ (above : ℕ → ℕ). meets_under above (guest_at after.guests j)) (placed_take q k g j (omega arith))
      ∙ ap (meets_under (interference q j)) (placed_other q k g j (λ e. omega arith))

  -- each guest differs from the plan's in its capacity alone
  others_after : (j : ℕ) → guest_at after.guests j ≡ at_capacity (guest_at p.guests j) (guest_at after.guests j).capacity
  others_after j =
      elim (ℕ_discrete j k) [
        | yes e ↦
            rw (e, placed_there q k (at_capacity (guest_at q.guests k) a) (in_list q (plan_in q s.order) k inside))
            (ap (λ (g : Guest). at_capacity g a) (s.others k))
        | no n ↦ rw (placed_other q k (at_capacity (guest_at q.guests k) a) j n) (s.others j)
      ]

  -- one guest more
  pub stage_next : Stage p after (suc k)
  unfolding works with_guest fitted_to
  stage_next = record {
    order = ap (λ (r : Refusal). r.number) (capacity_fine q s.order k inside a L.low L.high);
    many = s.many;
    others = others_after;
    fits = and_left (fitted_to after k) _ L.holds;
    meets = all_by (all_met after) (suc k) (λ j l.
        elim (ℕ_discrete j k) [
          | yes e ↦ rw e (and_right (fitted_to after k) _ L.holds)
          | no n ↦ meets_above j (omega arith) ∙ all_at (all_met q) k j (omega arith) s.meets
        ]);
  }

-- A choice that no number refuses ends with the last stage.
pub chosen_stage : (p : Plan) (m k : ℕ) (q : Plan) → Stage p q k → k + m ≡ p.count
    → (chosen_from p q m k).refusal.number ≡ 0 → Stage p (chosen_from p q m k).plan p.count
unfolding chosen_from
chosen_stage p zero k q s e z = let n : k ≡ p.count = omega arith in subst (λ (j : ℕ). Stage p q j) n s
chosen_stage p (suc m) k q s e z =
    go (smallest q k) refl (λ c t y. chosen_stage p m (suc k) (with_capacity q k c) t (omega arith) y) z
  where
    next : Option ℕ → Chosen
    next f = elim f [ Some c ↦ chosen_from p (with_capacity q k c) m (suc k) | None ↦ answering p 11 k ]

    go : (f : Option ℕ) → smallest q k ≡ f
        → ((c : ℕ) → Stage p (with_capacity q k c) (suc k) → (chosen_from p (with_capacity q k c) m (suc k)).refusal.number ≡ 0
        → Stage p (chosen_from p (with_capacity q k c) m (suc k)).plan p.count)
        → (next f).refusal.number ≡ 0
        → Stage p (next f).plan p.count
    go None r rec y = absurd (omega arith)
    go (Some a) r rec y = rec a (stage_next p q k s (omega arith) a (least_of q k a r)) y
