-- The plan with another capacity is the plan itself above its place; so capacities are fitted downward and met upward
-- in every plan that passes the check. Assumes nothing.
use Rattle.std.specs.Prelude.{Some}
use mathlib.Core.Path.{◌≡◌, refl, sym, ◌∙◌, ap, fun_ext}
use mathlib.Core.Bool.{Bool, true, ◌&&◌}
use mathlib.Core.List.{[]}
use Prim.Native.Nat.{ℕ, ◌≤◌, ◌<◌}
use native.Mathlib.Omega.{arith}
use lib.ListN.{length}
use Rattle.lists.specs.All.{all_to}
use Rattle.lists.specs.Search.{least}
use Rattle.equation.specs.System.{task_under}
use Rattle.plan.specs.Charge.{charged}
use Rattle.plan.specs.First.{fine}
use Rattle.plan.specs.Order.{new_id, number_of, guest_number, plan_refusal}
use Rattle.plan.specs.Ranges.{most_guests, guest_ok, tasks_ok}
use Rattle.plan.specs.Records.{guest_at, run_of, every_of}
use Rattle.plan.specs.declared.Plan.{Plan}
use Rattle.response.specs.Interference.{interference}
use Rattle.response.specs.Guest.{guest_response, fitted}
use Rattle.response.specs.Task.{gap, system_of, response_to}
use Rattle.response.specs.Columns.{ServersOf, above_of, fitted_of, accepted_under}
use Rattle.response.specs.declared.servers.Servers.{Servers}
use Rattle.capacity.specs.Capacity.{at_capacity, with_capacity, works, smallest}
use Rattle.capacity.specs.Search.{fits_at}
use Rattle.plan.proofs.Charge.{charged_least}
use Rattle.lists.proofs.Refusals.{passed}
use Rattle.plan.proofs.Order.{PlanIn, plan_in, numbers_none}
use Rattle.plan.proofs.Placed.{in_list, placed_own, placed_there, placed_fine}
use Rattle.plan.proofs.RangesLaws.{head_right}
use Rattle.response.proofs.ColumnsLaws.{interference_grows, servers_take, servers_fit}
use Rattle.response.proofs.PlacedLaws.{placed_take, placed_works}
use Rattle.capacity.proofs.SearchLaws.{fits_down, met_up}

-- a plan whose guest is given the capacity that it has is the plan: nothing else of the record is altered
pub own_capacity : (p : Plan) (k : ℕ) → with_capacity p k (guest_at p.guests k).capacity ≡ p
own_capacity p k = placed_own p k

module _ (p : Plan) (k : ℕ) (here : k < length p.guests) (c : ℕ) where
  -- the guest at the place has the capacity
  pub guest_there : guest_at (with_capacity p k c).guests k ≡ at_capacity (guest_at p.guests k) c
  guest_there = placed_there p k (at_capacity (guest_at p.guests k) c) here

  -- those above take what they took
  pub same_above : (j : ℕ) → j ≤ k → interference (with_capacity p k c) j ≡ interference p j
  same_above j l = placed_take p k (at_capacity (guest_at p.guests k) c) j l

  -- the guest is fitted by its equation at the capacity
  pub fitted_there : fitted (with_capacity p k c) k ≡ fits_at (interference p k) (guest_at p.guests k).period c
  unfolding fitted guest_response fits_at
  fitted_there = rw (same_above k (omega arith), guest_there) refl

  -- The tasks of the guest respond by that.
  pub task_there : (i most : ℕ) → response_to (with_capacity p k c) k i most ≡ task_under (system_of (interference p k) (at_capacity (guest_at p.guests k) c)) i most
  unfolding response_to
  task_there i most = rw (same_above k (omega arith), guest_there) refl

  -- it works where those above are fitted and the guest with it is accepted
  pub works_split : works p k c ≡ (all_to (fitted p) k && accepted_under (interference p k) (at_capacity (guest_at p.guests k) c))
  unfolding works
  works_split = placed_works p k (at_capacity (guest_at p.guests k) c) here

-- the search among the plan's servers is the definition's
pub smallest_is : (p : Plan) → PlanIn p → {s : Servers} → ServersOf p.guests most_guests s → (k : ℕ) → k < p.count
    → least (λ x. all_to (fitted_of s) k && accepted_under (above_of s k) (at_capacity (guest_at p.guests k) x))
    (guest_at p.guests k).period 1
    ≡ smallest p k
unfolding smallest
smallest_is p o {s} f k h =
    let few : k ≤ 8 = omega (arith, o.few) in
    rw (servers_fit p f k few, servers_take p f k few)
    (ap (λ (t : ℕ → Bool). least t (guest_at p.guests k).period 1) (fun_ext (λ x. sym (works_split p k (in_list p o k h) x))))

-- a plan that passes the check does so with another capacity of a guest, from 1 to its period
pub capacity_fine : (p : Plan) → (plan_refusal p).number ≡ 0 → (k : ℕ) → k < p.count → (c : ℕ) → 1 ≤ c
    → c ≤ (guest_at p.guests k).period → plan_refusal (with_capacity p k c) ≡ fine
unfolding guest_number number_of tasks_ok
capacity_fine p ok k h c low high =
    let g = guest_at p.guests k in
    let o = ((plan_in p ok).guests k h).head in
    let head = head_right record {
      named = o.named;
      some = low;
      fits = high;
      short = o.short;
      many = o.many;
      few = o.few;
    } in
    let four = passed (guest_ok g && new_id (λ j. (guest_at p.guests j).id) k) 4 _ (omega arith) (numbers_none p ok k h) in
    placed_fine p ok k h (at_capacity g c) refl head (passed (tasks_ok g) 6 [] (omega arith) four.1).0

-- the theorem, for every plan that passes the check and each of its guests
module _ (p : Plan) (ok : (plan_refusal p).number ≡ 0) (k : ℕ) (h : k < p.count) where
  here : k < length p.guests
  here = in_list p (plan_in p ok) k h

  -- fitted at a capacity, so fitted at each smaller one
  pub fitted_down : (c c' : ℕ) → 1 ≤ c → c ≤ c' → fitted (with_capacity p k c') k ≡ true → fitted (with_capacity p k c) k ≡ true
  fitted_down c c' pos le e =
      fitted_there p k here c
      ∙ fits_down (interference p k) (interference_grows p k) (guest_at p.guests k).period c c' pos le (sym (fitted_there p k here c') ∙ e)

  -- a task that responds in time at a capacity does so at each larger one that is fitted, with no larger response
  pub met_below : (i : ℕ) → i < (guest_at p.guests k).tasks → (most c c' r : ℕ) → 1 ≤ c → c ≤ c' → fitted (with_capacity p k c') k ≡ true
      → response_to (with_capacity p k c) k i most ≡ Some r → (r' : ℕ) × (response_to (with_capacity p k c') k i most ≡ Some r') × (r' ≤ r)
  unfolding gap
  met_below i l most c c' r pos le fit e =
      let g = guest_at p.guests k in
      let o = (plan_in p ok).guests k h in
      let m = met_up (interference p k) (interference_grows p k) g.period g.marks (charged g) (every_of g)
      i c c' most r
      (omega (arith, (o.tasks i l).runs, charged_least (run_of g i) g.charge)) pos le
      (sym (fitted_there p k here c') ∙ fit) (sym (task_there p k here c i most) ∙ e) in
      (m.0, task_there p k here c' i most ∙ m.1, m.2)
