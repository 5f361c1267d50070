-- What the order proposed for a guest's tasks is, and when each refusal is given. Assumes nothing.
use mathlib.Core.Path.{◌≡◌, refl, sym, ◌∙◌, ap}
use mathlib.Core.Bool.{Bool, true, false, false≢true, ◌&&◌}
use mathlib.Core.List.{List, []}
use mathlib.Core.Logic.{◌⊎◌}
use Prim.Native.Nat.{ℕ, ◌≤◌, ◌<◌}
use native.Mathlib.Omega.{arith}
use Rattle.lists.specs.Exactly.{◌exactly_when◌}
use Rattle.lists.specs.Places.{nth}
use Rattle.plan.specs.Marks.{is_bound}
use Rattle.plan.specs.Order.{plan_refusal}
use Rattle.plan.specs.Place.{place_of, has_guest}
use Rattle.plan.specs.Records.{guest_at, deadline_of}
use Rattle.plan.specs.Server.{is_deferrable}
use Rattle.plan.specs.declared.Guest.{Guest}
use Rattle.plan.specs.declared.Plan.{Plan}
use Rattle.response.specs.Interference.{interference}
use Rattle.response.specs.Columns.{accepted_under}
use Rattle.response.specs.Guest.{fitted}
use Rattle.lists.specs.All.{all_to}
use Rattle.verdict_laws.specs.Guests.{There}
use Rattle.order.specs.Proposed.{may_reorder, order_works, proposed}
use Rattle.order.specs.Reordered.{in_order, reordered, by_deadline, with_order}
use Rattle.order_laws.specs.Orders.{IsOrder}
use Rattle.order_laws.specs.Proposals.{Orderable, Reorders, OnlyReordered, SaidMet, NoOrder}
use Rattle.lists.proofs.All.{and_left, and_right, and_true}
use Rattle.lists.proofs.Exactly.{among, given_first}
use Rattle.lists.proofs.Places.{up_to_rest}
use Rattle.lists.proofs.Refusals.{go_on}
use Rattle.plan.proofs.Placed.{placed_count, placed_other}
use Rattle.response.proofs.ColumnsLaws.{interference_grows}
use Rattle.response.proofs.PlacedLaws.{placed_works}
use Rattle.verdict_laws.proofs.Guests.{there_has, has_there}
use Rattle.order.proofs.Reordered.{run_at, every_at, deadline_at}
use Rattle.order_laws.proofs.Orders.{sorted_order, sorted_goes}
use Rattle.order_laws.proofs.Placed.{guest_in_lem, here, ordered_there, order_there}
use Rattle.order_laws.proofs.Proposed.{tests, number_is, records_number, there_number, says_may, may_not, given}
use Rattle.order_laws.proofs.Reordered.{best_order}
use Rattle.order_laws.proofs.Said.{works_said, fails_said, said_fails}

-- Entries past the tasks are as they were.
past_order : (order : List ℕ) (n : ℕ) (column : List ℕ) (i : ℕ) → n ≤ i → nth (in_order order n column) i ≡ nth column i
unfolding in_order
past_order order n column i h = up_to_rest _ n column i h

-- A guest of an orderable place in an order has the same tasks, each once, and nothing else moved.
reorders : (p : Plan) (id k : ℕ) → Orderable p id k → (order : List ℕ)
    → IsOrder (guest_at p.guests k).tasks order
    → Reorders (guest_at p.guests k) order (reordered (guest_at p.guests k) order)
reorders p id k t order o =
    let g = guest_at p.guests k in
    let s = guest_in_lem p id k t in
    record {
      each_once = o;
      id = refl;
      capacity = refl;
      period = refl;
      tasks = refl;
      charge = refl;
      marks = refl;
      deferrable = refl;
      task = λ i h. record {
        run = run_at g s order o.named i h;
        every = every_at g s order o.named i h;
        deadline = deadline_at g s order o.named i h;
      };
      past = λ i h. record {
        run = past_order order g.tasks g.run i h;
        every = past_order order g.tasks g.every i h;
        deadline = past_order order g.tasks g.deadline i h;
      };
    }

-- An order that is proposed has the same tasks, each as often as before, by deadline with equals as handed in, and
-- nothing else moved.
pub only_reordered : (p : Plan) (id : ℕ) → (proposed p id).refusal.number ≡ 0
    → OnlyReordered p (place_of p id) (proposed p id).plan
only_reordered p id e =
    let v = given p id e in
    let k = place_of p id in
    let g = guest_at p.guests k in
    let o = sorted_order (deadline_of g) g.tasks in
    rw v.is record {
      order = by_deadline g;
      guest = rw (ordered_there p id k v.able (by_deadline g)) (reorders p id k v.able (by_deadline g) o);
      by_deadline = sorted_goes (deadline_of g) g.tasks;
      count = placed_count p k _;
      others = placed_other p k _;
    }

-- In the plan that comes back the guest and all above are fitted, and the verdict of each of its tasks is met.
pub all_met : (p : Plan) (id : ℕ) → (proposed p id).refusal.number ≡ 0 → SaidMet (proposed p id).plan id (place_of p id)
unfolding order_works
all_met p id e =
    let v = given p id e in
    let k = place_of p id in
    let g = guest_at p.guests k in
    let o = sorted_order (deadline_of g) g.tasks in
    rw v.is
    (works_said (with_order p k (by_deadline g)) id k (order_there p id k v.able (by_deadline g) o) v.works)

module _ (p : Plan) (id k : ℕ) (t : Orderable p id k) where
  -- An order works where all above are fitted and the guest is accepted in it.
  works_is : (order : List ℕ)
      → order_works p k order
      ≡ (all_to (fitted p) k && accepted_under (interference p k) (reordered (guest_at p.guests k) order))
  unfolding order_works
  works_is order = placed_works p k (reordered (guest_at p.guests k) order) (here p id k t)

  -- Where some order works the one by deadline does.
  pub deadline_best : (order : List ℕ) → IsOrder (guest_at p.guests k).tasks order → order_works p k order ≡ true
      → order_works p k (by_deadline (guest_at p.guests k)) ≡ true
  deadline_best order o e =
      let g = guest_at p.guests k in
      let both = sym (works_is order) ∙ e in
      works_is (by_deadline g)
      ∙ and_true (and_left (all_to (fitted p) k) _ both)
      (best_order g (guest_in_lem p id k t) t.unbound (interference p k) order (by_deadline g) o
      (sorted_order (deadline_of g) g.tasks) (interference_grows p k) (sorted_goes (deadline_of g) g.tasks)
      (and_right (all_to (fitted p) k) _ both))

  -- 22 is given exactly if no order works.
  twenty_two : ((proposed p id).refusal.number ≡ 22)
      exactly_when
      ((order : List ℕ) → IsOrder (guest_at p.guests k).tasks order → order_works p k order ≡ false)
  unfolding among
  twenty_two =
      let g = guest_at p.guests k in
      rw (there_number p id k t.there ∙ go_on 21 _ (says_may g t.periodic t.unbound))
      (given_first (order_works p k (by_deadline g)) 22 [] (omega arith) refl (
        λ e order o. fails (order_works p k order) order refl e o,
        λ none. none (by_deadline g) (sorted_order (deadline_of g) g.tasks),
      ))
    where
      fails : (b : Bool) → (order : List ℕ) → order_works p k order ≡ b
          → order_works p k (by_deadline (guest_at p.guests k)) ≡ false
          → IsOrder (guest_at p.guests k).tasks order → b ≡ false
      fails true order q e o = absurd (false≢true (sym e ∙ deadline_best order o q))
      fails false order q e o = refl

  -- That is, if in every order of its tasks some task is not met.
  pub twenty_two_exactly : ((proposed p id).refusal.number ≡ 22) exactly_when NoOrder p id k
  unfolding order_works
  twenty_two_exactly = (
    λ e order o. (
        let q = with_order p k order in
        let (i, h, n) = fails_said q id k (order_there p id k t order o) (twenty_two.0 e order o) in
        (i, rw (same order) at h, n)),
    λ none. twenty_two.1 (λ order o. (
        let q = with_order p k order in
        let (i, h, n) = none order o in
        said_fails q id k (order_there p id k t order o) i (rw (same order) h) n)),
  )
    where
      same : (order : List ℕ) → (guest_at (with_order p k order).guests k).tasks ≡ (guest_at p.guests k).tasks
      same order = ap (λ (g : Guest). g.tasks) (ordered_there p id k t order)

-- 21 is given exactly of a Deferrable guest and of one with a bound task.
pub twenty_one_exactly : (p : Plan) (id k : ℕ) → There p id k
    → ((proposed p id).refusal.number ≡ 21)
    exactly_when
    ((is_deferrable (guest_at p.guests k) ≡ true)
    ⊎ ((i : ℕ) × (i < (guest_at p.guests k).tasks) × (is_bound (guest_at p.guests k) i ≡ true)))
unfolding among
twenty_one_exactly p id k t =
    rw (there_number p id k t)
    (given_first (may_reorder (guest_at p.guests k)) 21 _ (omega arith) refl (may_not (guest_at p.guests k)))

-- 7 is given exactly if no guest of records in order has the id.
pub seven_exactly : (p : Plan) (id : ℕ) → (plan_refusal p).number ≡ 0
    → ((proposed p id).refusal.number ≡ 7)
    exactly_when ((k : ℕ) → k < p.count → (guest_at p.guests k).id ≡ id → ⊥)
unfolding among
seven_exactly p id ok =
    rw (number_is p id ∙ records_number p (tests p id) ok)
    (given_first (has_guest p id) 7 _ (omega arith) refl (
      λ e k h n. false≢true (sym e ∙ there_has p id k record { order = ok; place = h; named = n }),
      λ none. by (has_guest p id) refl none,
    ))
  where
    by : (b : Bool) → has_guest p id ≡ b → ((k : ℕ) → k < p.count → (guest_at p.guests k).id ≡ id → ⊥) → b ≡ false
    by true e none = let t = has_there p id ok e in absurd (none (place_of p id) t.place t.named)
    by false e none = refl
