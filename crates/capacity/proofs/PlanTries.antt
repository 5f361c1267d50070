-- The search makes few tests for each guest of a plan that passes the check. Assumes nothing.
use Rattle.std.specs.Prelude.{Option, Some, None, is_some, Ok}
use mathlib.Core.Path.{◌≡◌, refl, sym, ◌∙◌, ap, fun_ext}
use mathlib.Core.Bool.{Bool, true, false}
use Prim.Native.Nat.{ℕ, ◌+◌, ◌-◌, ◌≤◌, ◌<◌}
use native.Mathlib.Omega.{arith}
use lib.ListN.{length}
use Rattle.lists.specs.All.{all_to}
use Rattle.lists.specs.Places.{nth}
use Rattle.plan.specs.Charge.{charged}
use Rattle.plan.specs.Order.{plan_refusal}
use Rattle.plan.specs.Ranges.{most_guests}
use Rattle.plan.specs.Records.{guest_at, run_of, every_of, deadline_of}
use Rattle.plan.specs.declared.Guest.{Guest}
use Rattle.plan.specs.declared.Plan.{Plan}
use Rattle.response.specs.Interference.{interference}
use Rattle.response.specs.Guest.{fitted}
use Rattle.response.specs.Met.{met}
use Rattle.response.specs.Task.{gap, system_of, response_to}
use Rattle.response.specs.Columns.{ServersOf, TasksOf, above_of}
use Rattle.response.specs.declared.servers.Servers.{Servers}
use Rattle.response.specs.declared.tasks.Tasks.{Tasks}
use Rattle.capacity.specs.Answer.{capacity_says}
use Rattle.capacity.specs.Capacity.{at_capacity, with_capacity, works, smallest}
use Rattle.capacity.specs.Search.{fits_at, met_at, meets_at, tried_system, few}
use Rattle.capacity.specs.Tries.{tests_in, tests_of, most_tests}
use Rattle.lists.proofs.All.{and_left, and_right}
use Rattle.lists.proofs.Search.{First, least_says}
use Rattle.equation.proofs.Alike.{task_alike}
use Rattle.equation.proofs.Halve.{Halving}
use Rattle.plan.proofs.Charge.{charged_least}
use Rattle.plan.proofs.Order.{plan_in}
use Rattle.plan.proofs.Placed.{in_list}
use Rattle.response.proofs.ColumnsLaws.{interference_grows, servers_take}
use Rattle.capacity.proofs.SearchLaws.{halving, works_each, works_by}
use Rattle.capacity.proofs.Capacity.{guest_there, task_there, fitted_there, works_split}
use Rattle.capacity.proofs.TestsLaws.{tests_small, tests_most, tests_ext}

module _ (p : Plan) (ok : (plan_refusal p).number ≡ 0) (k : ℕ) (h : k < p.count) where
  -- the guest at the place
  abbrev own : Guest
  own = guest_at p.guests k

  -- it stands in the list
  here : k < length p.guests
  here = in_list p (plan_in p ok) k h

  -- it is fitted by its equation
  fits_are : (λ c. fitted (with_capacity p k c) k) ≡ fits_at (interference p k) own.period
  fits_are = fun_ext (λ c. fitted_there p k here c)

  -- what the guests above take
  abbrev over : ℕ → ℕ
  over = interference p k

  -- a task is met at a capacity by its equation
  meets_are : (run : ℕ → ℕ) → ((j : ℕ) → j < own.tasks → run j ≡ charged own j) → (i : ℕ) → i < own.tasks
      → (λ c. met (with_capacity p k c) k i)
      ≡ met_at over own.period own.marks run (every_of own) (deadline_of own) i
  unfolding met gap
  meets_are run f i l =
      fun_ext (λ c.
      ap (λ (g : Guest). is_some (response_to (with_capacity p k c) k i (deadline_of g i))) (guest_there p k here c)
      ∙ ap is_some (task_there p k here c i (deadline_of own i))
      ∙ ap is_some
      (task_alike (system_of over (at_capacity own c))
      (tried_system over own.period own.marks run (every_of own) c) own.tasks i l
      record {
        capacity = refl;
        period = refl;
        above = refl;
        run = λ j h. sym (f j h);
        every = λ j h. refl;
        gap = λ j h. refl;
      }
      (deadline_of own i)))

  -- under an unfit guest nothing is tested
  none_tested : all_to (fitted p) k ≡ false → tests_of p k ≡ 0
  unfolding tests_of
  none_tested e = rw (e, tests_of) refl

  -- else the search over its capacities tests them
  all_tested : all_to (fitted p) k ≡ true
      → tests_of p k
      ≡ tests_in (λ c. fitted (with_capacity p k c) k) (λ i c. met (with_capacity p k c) k i) own.period
      own.tasks 0 1
  unfolding tests_of
  all_tested e = rw (e, tests_of) refl

  -- which tests by the equations
  tests_are : (run : ℕ → ℕ) → ((j : ℕ) → j < own.tasks → run j ≡ charged own j) → all_to (fitted p) k ≡ true
      → tests_of p k
      ≡ tests_in (fits_at over own.period)
      (met_at over own.period own.marks run (every_of own) (deadline_of own)) own.period own.tasks 0 1
  tests_are run f e =
      all_tested e
      ∙ ap (λ (t : ℕ → Bool). tests_in t (λ i c. met (with_capacity p k c) k i) own.period own.tasks 0 1) fits_are
      ∙ tests_ext (fits_at over own.period) (λ i c. met (with_capacity p k c) k i)
      (met_at over own.period own.marks run (every_of own) (deadline_of own)) own.period own.tasks
      (meets_are run f) own.tasks 0 1 (omega arith)

  -- The tests are those of the code's search, which tries capacities off columns, all guests above being fitted.
  pub tests_off : {s : Servers} → ServersOf p.guests most_guests s → {t : Tasks} → TasksOf own t
      → all_to (fitted p) k ≡ true
      → tests_of p k
      ≡ tests_in (fits_at (above_of s k) own.period)
      (met_at (above_of s k) own.period own.marks (nth t.run) (nth t.every) (nth t.deadline)) own.period t.count 0 1
  tests_off f {t} o e =
      let few : k ≤ 8 = omega (arith, (plan_in p ok).few) in
      rw (servers_take p f k few, o.every, o.deadline, o.count) (tests_are (nth t.run) o.runs.holds e)

  -- the capacities at which a task is met can be halved
  plan_halving : (i : ℕ) → i < own.tasks
      → Halving (fits_at over own.period)
      (meets_at over own.period own.marks (charged own) (every_of own) (deadline_of own) i)
  plan_halving i l =
      halving over (interference_grows p k) own.period own.marks (charged own) (every_of own) (deadline_of own) i
      (omega (arith, (((plan_in p ok).guests k h).tasks i l).runs, charged_least (run_of own i) own.charge))

  -- Where the smallest capacity a is up to 32, one test is made for each task, and one for each capacity below a: no
  -- more than a search upward makes.
  pub capacity_tests : (a : ℕ) → smallest p k ≡ Some a → a ≤ few → tests_of p k ≤ a - 1 + own.tasks
  unfolding smallest meets_at
  capacity_tests a q l =
      let s : First (works p k) own.period 1 a = rw q at (least_says (works p k) own.period 1) in
      let w = sym (works_split p k here a) ∙ s.holds in
      let e = and_left (all_to (fitted p) k) _ w in
      let by = ap (λ (t : ℕ → Bool). t a) (works_by over own (charged own) (λ j l. refl)) in
      let each = works_each over own.period own.marks (charged own) (every_of own) (deadline_of own) own.tasks a
      (by ∙ and_right (all_to (fitted p) k) _ w) in
      let t = tests_small (fits_at over own.period)
      (met_at over own.period own.marks (charged own) (every_of own) (deadline_of own)) own.period own.tasks
      plan_halving a s.low (omega (arith, s.high)) l each.0 own.tasks 0 1 (omega arith) each.1
      (omega arith) s.low in
      omega (arith, tests_are (charged own) (λ j l. refl) e, t, s.low)

  -- For no guest more than 32 + 35 * tasks are made, whether one works or none.
  pub capacity_tests_most : tests_of p k ≤ most_tests own.tasks
  unfolding meets_at
  capacity_tests_most = go (all_to (fitted p) k) refl
    where
      go : (b : Bool) → all_to (fitted p) k ≡ b → tests_of p k ≤ most_tests own.tasks
      go false e = omega (arith, none_tested e)
      go true e =
          let t = tests_most (fits_at over own.period)
          (met_at over own.period own.marks (charged own) (every_of own) (deadline_of own)) own.period
          own.tasks plan_halving ((plan_in p ok).guests k h).head.short own.tasks 0 1 (omega arith)
          (omega arith) in
          omega (arith, tests_are (charged own) (λ j l. refl) e, t)

-- what is said to be the smallest is what was found
pub said_found : (f : Option ℕ) (a : ℕ) → capacity_says f ≡ Ok a → f ≡ Some a
said_found (Some c) a e = cc
said_found None a e = absurd cc
