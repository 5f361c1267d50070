-- How the loop comes to the least capacities. Assumes nothing.
use Rattle.std.specs.Prelude.{Option, Some, None, Err}
use mathlib.Core.Path.{◌≡◌, refl, sym, ◌∙◌, ap}
use mathlib.Core.Bool.{◌&&◌}
use Prim.Native.Nat.{ℕ, suc, ◌+◌, ◌-◌, ◌≤◌, ◌<◌}
use native.Mathlib.Omega.{arith}
use lib.ListN.{set}
use borrow.Author.Tests.{eqb-true}
use Rattle.lists.specs.All.{all_to}
use Rattle.lists.specs.Search.{least}
use Rattle.plan.specs.declared.Plan.{Plan}
use Rattle.plan.specs.declared.Refusal.{Refusal}
use Rattle.plan.specs.First.{refuse_or, unless_refused}
use Rattle.plan.specs.Order.{plan_refusal}
use Rattle.plan.specs.Periodic.{start_refusal}
use Rattle.plan.specs.Placed.{with_guest}
use Rattle.plan.specs.Ranges.{most_guests}
use Rattle.plan.specs.Records.{guest_at}
use Rattle.response.specs.Columns.{ServersOf, above_of, fitted_of, accepted_under}
use Rattle.response.specs.declared.servers.Servers.{Servers}
use Rattle.response.specs.Ready.{Seated}
use Rattle.capacity.specs.Capacity.{at_capacity, with_capacity, works, smallest}
use Rattle.choice.specs.declared.Chosen.{Chosen}
use Rattle.choice.specs.Capacities.{answering, chosen_from, least_capacities}
use Rattle.lists.proofs.Search.{First, least_says}
use Rattle.plan.proofs.First.{number_refuses, number_passes, err_says}
use Rattle.plan.proofs.Order.{plan_in}
use Rattle.plan.proofs.Placed.{in_list}
use Rattle.plan.proofs.PeriodicLaws.{periodic_at, starts_in_order, starts_periodic}
use Rattle.response.proofs.ReadyLaws.{seated_at}
use Rattle.capacity.proofs.Capacity.{smallest_is, capacity_fine}
use Rattle.choice.proofs.ColumnsPut.{servers_put, periodic_put}

-- A search that found a capacity found one from 1 to the period.
pub found_in : (p : Plan) (k c : ℕ) → Some c ≡ smallest p k → (1 ≤ c) × (c ≤ (guest_at p.guests k).period)
unfolding smallest
found_in p k c e =
    let f : First (works p k) (guest_at p.guests k).period 1 c =
    rw (← e) at (least_says (works p k) (guest_at p.guests k).period 1) in
    (f.low, omega (arith, f.high))

-- The answer of the guests that are left, after one of them.
module _ (given p : Plan) (n k : ℕ) (h : k < n) where
  -- as many are left as after it, and it
  left : n - k ≡ suc (n - (k + 1))
  left = omega arith

  -- the answer by what the search for it finds
  by_found : (f : Option ℕ) → smallest p k ≡ f
      → chosen_from given p (suc (n - (k + 1))) k
      ≡ elim f [
        | Some c ↦ chosen_from given (with_capacity p k c) (n - (k + 1)) (suc k)
        | None ↦ answering given 11 k
      ]
  unfolding chosen_from
  by_found f e =
      ap (λ (g : Option ℕ).
      elim g [
        | Some c ↦ chosen_from given (with_capacity p k c) (n - (k + 1)) (suc k)
        | None ↦ answering given 11 k
      ])
      e

  -- where none works for it
  pub chosen_none : smallest p k ≡ None → answering given 11 k ≡ chosen_from given p (n - k) k
  chosen_none e = sym (ap (λ (m : ℕ). chosen_from given p m k) left ∙ by_found None e)

  -- where one works
  pub chosen_next : (c : ℕ) → smallest p k ≡ Some c
      → chosen_from given (with_capacity p k c) (n - (k + 1)) (k + 1) ≡ chosen_from given p (n - k) k
  chosen_next c e =
      let q : k + 1 ≡ suc k = omega arith in
      ap (λ (j : ℕ). chosen_from given (with_capacity p k c) (n - (k + 1)) j) q
      ∙ sym (ap (λ (m : ℕ). chosen_from given p m k) left ∙ by_found (Some c) e)

-- where no guest is left
pub chosen_end : (given p : Plan) (n k : ℕ) → n ≤ k → answering p 0 0 ≡ chosen_from given p (n - k) k
unfolding chosen_from
chosen_end given p n k h = let e : n - k ≡ 0 = omega arith in rw e refl

-- The loop after k turns: the plan's records are in order, the servers are its own, none of its guests is Deferrable,
-- and its guests from place k on have the answer.
pub record Goes (given : Plan) (s : Servers) (p : Plan) (k : ℕ) : Type 0 where
  pub order : (plan_refusal p).number ≡ 0
  pub many : p.count ≡ given.count
  pub servers : ServersOf p.guests most_guests s
  pub periodic : (j : ℕ) → j < given.count → (guest_at p.guests j).deferrable ≡ 0
  pub same : chosen_from given p (given.count - k) k ≡ chosen_from given given given.count 0

-- Before the first turn.
pub goes_first : (given : Plan) {s : Servers} → (start_refusal given).number ≡ 0 → ServersOf given.guests most_guests s
    → Goes given s given 0
goes_first given e f = record {
  order = starts_in_order given e;
  many = refl;
  servers = f;
  periodic = λ j h. eqb-true _ 0 (periodic_at given (starts_periodic given e) j h);
  same = let n : given.count - 0 ≡ given.count = omega arith in rw n refl;
}

-- A turn.
module _ {given : Plan} {s : Servers} {p : Plan} {k : ℕ} (G : Goes given s p k) (h : k < given.count) where
  -- its place is one of the plan's
  inside : k < p.count
  inside = omega (arith, G.many)

  -- which is one of eight
  pub turn_few : k < most_guests
  turn_few = omega (arith, inside, (plan_in p G.order).few)

  -- the guest is seated among the servers, and has a task
  pub turn_seated : Seated (guest_at p.guests k) s k × (1 ≤ (guest_at p.guests k).tasks)
  turn_seated =
      (seated_at p G.servers (plan_in p G.order) k inside, ((plan_in p G.order).guests k inside).head.many)

  -- the search among the servers is the plan's
  turn_search :
      {x : Option ℕ}
      → x
      ≡ least
      (λ c. all_to (fitted_of s) k && accepted_under (above_of s k) (at_capacity (guest_at p.guests k) c))
      (guest_at p.guests k).period 1
      → x ≡ smallest p k
  turn_search e = e ∙ smallest_is p (plan_in p G.order) G.servers k inside

  -- where none works the answer is 11 with the place
  pub turn_none :
      None
      ≡ least
      (λ c. all_to (fitted_of s) k && accepted_under (above_of s k) (at_capacity (guest_at p.guests k) c))
      (guest_at p.guests k).period 1
      → answering given 11 k ≡ chosen_from given given given.count 0
  turn_none e = chosen_none given p given.count k h (sym (turn_search e)) ∙ G.same

  -- where one works the next guest is looked at under it
  pub turn_next :
      (c : ℕ)
      → Some c
      ≡ least
      (λ c. all_to (fitted_of s) k && accepted_under (above_of s k) (at_capacity (guest_at p.guests k) c))
      (guest_at p.guests k).period 1
      → Goes given (record { capacities = set s.capacities k c; periods = s.periods; jitters = s.jitters })
      (with_capacity p k c) (k + 1)
  unfolding with_guest
  turn_next c e =
      let found = turn_search e in
      let in_range = found_in p k c found in
      let here = in_list p (plan_in p G.order) k inside in
      record {
        order = ap (λ (r : Refusal). r.number) (capacity_fine p G.order k inside c in_range.0 in_range.1);
        many = G.many;
        servers = servers_put p.guests k c here (omega (arith, turn_few)) (G.periodic k h) G.servers;
        periodic = periodic_put p.guests k c here G.periodic;
        same = chosen_next given p given.count k h c (sym found) ∙ G.same;
      }

-- How an entry comes to its answer: the records' order and 23, or the choice.
module _ (p : Plan) where
  -- a start that is refused refuses a choice
  pub choice_refused : {r : Refusal} → Err r ≡ unless_refused (start_refusal p) (tt {0})
      → answering p r.number r.place ≡ least_capacities p
  unfolding least_capacities start_refusal
  choice_refused {r} e =
      let s = err_says (start_refusal p) tt e in
      number_refuses (answering p) r.number r.place (chosen_from p p p.count 0) (rw s.0 s.1)
      ∙ ap (λ (x : Refusal). refuse_or (answering p) x (chosen_from p p p.count 0)) s.0

  -- any other does not
  pub choice_made : {v : Chosen} → (start_refusal p).number ≡ 0 → v ≡ chosen_from p p p.count 0 → v ≡ least_capacities p
  unfolding least_capacities start_refusal
  choice_made e q =
      let r = start_refusal p in
      q ∙ number_passes (answering p) r.number r.place (chosen_from p p p.count 0) (omega arith)

  -- the end of the loop
  pub goes_end : {s : Servers} {q : Plan} {k : ℕ} → (start_refusal p).number ≡ 0 → Goes p s q k → p.count ≤ k
      → answering q 0 0 ≡ least_capacities p
  goes_end {s} {q} {k} e G h = choice_made e (chosen_end p q p.count k h ∙ G.same)
