-- Fitted capacities are closed downward, and below a fitted one more capacity is never worse; so capacities can be
-- halved. Assumes nothing.
use Rattle.std.specs.Prelude.{Some, None, is_some}
use mathlib.Core.Path.{◌≡◌, refl, sym, ◌∙◌, ap, fun_ext}
use mathlib.Core.Bool.{Bool, true, false}
use mathlib.Core.List.{List}
use Prim.Native.Nat.{ℕ, ◌+◌, ◌-◌, ◌≤◌, ◌<◌}
use native.Mathlib.Nat.{le_refl}
use native.Mathlib.Omega.{arith}
use Rattle.lists.specs.Places.{nth}
use Rattle.lists.specs.Search.{least}
use Rattle.equation.specs.Guest.{guest_side, guest_under}
use Rattle.equation.specs.System.{System, gap_for, task_under}
use Rattle.plan.specs.Charge.{charged}
use Rattle.plan.specs.Filled.{Filled}
use Rattle.plan.specs.Marks.{marked}
use Rattle.plan.specs.Records.{every_of, deadline_of}
use Rattle.plan.specs.declared.Guest.{Guest}
use Rattle.response.specs.Task.{gap, system_of}
use Rattle.response.specs.Columns.{TasksOf, above_of, system_at, column_system, met_under, accepted_in, accepted_under}
use Rattle.response.specs.declared.tasks.Tasks.{Tasks}
use Rattle.capacity.specs.Capacity.{at_capacity}
use Rattle.capacity.specs.Search.{fits_at, tried_system, works_at, met_at, meets_at, fits_in, meets_in, SearchIn}
use Rattle.capacity.specs.declared.search.Search.{Search}
use Rattle.lists.proofs.All.{and_left, and_right, and_true, all_at}
use Rattle.lists.proofs.Search.{at_of, is_at_lem}
use Rattle.equation.proofs.Solve.{solve_at}
use Rattle.equation.proofs.System.{gap_for_grows}
use Rattle.equation.proofs.Rise.{Grows, rise_to, rise_under}
use Rattle.equation.proofs.Respond.{Roomier, respond_sooner}
use Rattle.equation.proofs.Alike.{SameTasks, task_alike}
use Rattle.equation.proofs.Halve.{Halving}
use Rattle.response.proofs.GuestLaws.{response_says, take_grows}
use Rattle.response.proofs.TaskLaws.{regular}
use Rattle.response.proofs.ColumnsLaws.{accepted_alike}
use Rattle.response.specs.Window.{MetTo}
use Rattle.capacity.proofs.Staged.{Settled, settled_met, settled_next, settled_nowhere, settled_all}
use Rattle.capacity.proofs.Staged.{none_fits, smallest_past}

module _ (above : ℕ → ℕ) (grows : Grows above) (period : ℕ) where
  -- a guest that is fitted at a capacity is fitted at each smaller one
  pub fits_down : (c c' : ℕ) → 1 ≤ c → c ≤ c' → fits_at above period c' ≡ true → fits_at above period c ≡ true
  unfolding fits_at guest_under guest_side
  fits_down c c' pos le e =
      let x = at_of (guest_under above c' period) e in
      let s = response_says above c' period x.0 x.1 in
      let f = guest_side above c in
      let y = rise_to f (λ a b h. omega (arith, grows a b h)) x.0 (omega (arith, s.sol)) c
      record { rises = omega arith; under = λ z k. omega arith } in
      is_at_lem (sym (solve_at f period y.0 (omega (arith, y.1)) (omega (arith, y.2, s.high)) y.3
      (rise_under f y.0 y.4)))

  -- a fitted capacity is at most the period
  fits_within : (c : ℕ) → fits_at above period c ≡ true → c ≤ period
  unfolding fits_at guest_side
  fits_within c e =
      let x = at_of (guest_under above c period) e in
      let s = response_says above c period x.0 x.1 in
      omega (arith, s.sol, s.high)

module _ (above : ℕ → ℕ) (grows : Grows above) (period marks : ℕ) (run every : ℕ → ℕ) where
  -- the guest at a capacity
  abbrev at : ℕ → System
  at = tried_system above period marks run every

  -- a larger capacity leaves an unbound task a smaller gap, and a bound one none as before
  roomier : (i c c' : ℕ) → c ≤ c' → Roomier (at c) (at c') i
  roomier i c c' le = record {
    period = refl;
    capacity = le;
    above = λ v. le_refl (above v);
    run = refl;
    every = refl;
    gap = λ j h. omega (arith, gap_for_grows (marked marks j) (period - c) (period - c') 0 (omega arith));
  }

  -- a task that is met at a capacity is met at each larger one that is fitted, with no larger response
  pub met_up : (i c c' d r : ℕ) → 1 ≤ run i → 1 ≤ c → c ≤ c' → fits_at above period c' ≡ true
      → task_under (at c) i d ≡ Some r → (r' : ℕ) × (task_under (at c') i d ≡ Some r') × (r' ≤ r)
  unfolding fits_at
  met_up i c c' d r runs pos le fit e =
      let sure = regular (at c') grows i record {
        some = omega arith;
        within = fits_within above grows period c' fit;
        fits = fit;
        runs = runs;
      } in
      respond_sooner (at c) (at c') i sure.0 pos sure.1 (roomier i c c' le) d r e

-- the capacities at which task i is met can be halved
pub halving : (above : ℕ → ℕ) → Grows above → (period marks : ℕ) (run every deadline : ℕ → ℕ) (i : ℕ) → 1 ≤ run i
    → Halving (fits_at above period) (meets_at above period marks run every deadline i)
unfolding meets_at
halving above grows period marks run every deadline i runs = record {
  fits = λ a w. and_left (fits_at above period a) _ w;
  down = fits_down above grows period;
  grow = λ a b pos le w f. (
      let m = at_of _ (and_right (fits_at above period a) _ w) in
      and_true f
      (is_at_lem (met_up above grows period marks run every i a b (deadline i) m.0 runs pos le f m.1).1));
}

-- a guest off the column of gaps that is made for a capacity is the guest there, seen from its first n tasks
pub tried_alike : (above : ℕ → ℕ) (period marks c : ℕ) (run every : List ℕ) (n : ℕ) {late : List ℕ}
    → Filled late (λ j. gap_for (marked marks j) (period - c)) n
    → SameTasks (column_system above c period run every late)
    (tried_system above period marks (nth run) (nth every) c) n
tried_alike above period marks c run every n f = record {
  capacity = refl;
  period = refl;
  above = refl;
  run = λ j h. refl;
  every = λ j h. refl;
  gap = f.holds;
}

-- so a task is met there as it is off the column
pub met_tried : (above : ℕ → ℕ) (period marks c : ℕ) (run every : List ℕ) (deadline : ℕ → ℕ) (n i : ℕ) {late : List ℕ}
    {b : Bool}
    → Filled late (λ j. gap_for (marked marks j) (period - c)) n → i < n
    → is_some (task_under (column_system above c period run every late) i (deadline i)) ≡ b
    → met_at above period marks (nth run) (nth every) deadline i c ≡ b
met_tried above period marks c run every deadline n i f h e =
    sym (ap is_some (task_alike _ (tried_system above period marks (nth run) (nth every) c) n i h
    (tried_alike above period marks c run every n f) (deadline i)))
    ∙ e

-- and where the capacity is fitted, that is all
pub meets_tried : (above : ℕ → ℕ) (period marks c : ℕ) (run every : List ℕ) (deadline : ℕ → ℕ) (n i : ℕ) {late : List ℕ}
    {b : Bool}
    → fits_at above period c ≡ true → Filled late (λ j. gap_for (marked marks j) (period - c)) n → i < n
    → is_some (task_under (column_system above c period run every late) i (deadline i)) ≡ b
    → meets_at above period marks (nth run) (nth every) deadline i c ≡ b
unfolding meets_at
meets_tried above period marks c run every deadline n i fits f h e =
    rw fits (met_tried above period marks c run every deadline n i f h e)

-- the tasks before i are settled at c
module _ (above : ℕ → ℕ) (period marks : ℕ) (run every deadline : ℕ → ℕ) (i c : ℕ)
    (s : Settled (fits_at above period) (met_at above period marks run every deadline) period i c) where
  -- task i is met first at c' from there on: so it is settled there with those before it
  pub task_settled : {c' : ℕ} → Some c' ≡ least (meets_at above period marks run every deadline i) (period + 1 - c) c
      → Grows above → ((j : ℕ) → j < i → 1 ≤ run j)
      → Settled (fits_at above period) (met_at above period marks run every deadline) period (i + 1) c'
  unfolding meets_at
  task_settled {c'} e grows runs =
      settled_next (fits_at above period) (met_at above period marks run every deadline) period i c s c' e
      (λ j l. halving above grows period marks run every deadline j (runs j l))

  -- or nowhere: then no capacity works
  pub task_nowhere : None ≡ least (meets_at above period marks run every deadline i) (period + 1 - c) c
      → (n : ℕ) → i < n → None ≡ least (works_at above period marks run every deadline n) period 1
  unfolding meets_at works_at accepted_in met_under fits_at
  task_nowhere e n h =
      settled_nowhere (fits_at above period) (met_at above period marks run every deadline) period i c s e n h

-- where the guest is unfit at 1, no capacity works
pub none_works : (above : ℕ → ℕ) → Grows above → (period marks : ℕ) (run every deadline : ℕ → ℕ) (n : ℕ)
    → fits_at above period 1 ≡ false → None ≡ least (works_at above period marks run every deadline n) period 1
unfolding works_at accepted_in met_under fits_at
none_works above grows period marks run every deadline n e =
    none_fits (fits_at above period) (met_at above period marks run every deadline) period n
    (λ c pos f. fits_down above grows period 1 c (omega arith) pos f) e

-- all tasks are settled at c: it is the smallest that works
pub all_settled : (above : ℕ → ℕ) (period marks : ℕ) (run every deadline : ℕ → ℕ) (i n c : ℕ) → i ≡ n → 1 ≤ n
    → Settled (fits_at above period) (met_at above period marks run every deadline) period i c
    → Some c ≡ least (works_at above period marks run every deadline n) period 1
unfolding works_at accepted_in met_under fits_at
all_settled above period marks run every deadline i n c e h s =
    settled_all (fits_at above period) (met_at above period marks run every deadline) period n c h (rw (← e) s)

-- where a capacity works it is fitted and each task is met
pub works_each : (above : ℕ → ℕ) (period marks : ℕ) (run every deadline : ℕ → ℕ) (n c : ℕ)
    → works_at above period marks run every deadline n c ≡ true
    → (fits_at above period c ≡ true)
    × ((j : ℕ) → j < n → met_at above period marks run every deadline j c ≡ true)
unfolding works_at accepted_in met_under fits_at
works_each above period marks run every deadline n c w = (
  and_left (fits_at above period c) _ w,
  λ j h. all_at (λ i. met_at above period marks run every deadline i c) n j h (and_right (fits_at above period c) _ w),
)

-- what works by the charged runs is what the guest is accepted at
pub works_by : (above : ℕ → ℕ) (g : Guest) (run : ℕ → ℕ) → ((j : ℕ) → j < g.tasks → run j ≡ charged g j)
    → works_at above g.period g.marks run (every_of g) (deadline_of g) g.tasks
    ≡ (λ c. accepted_under above (at_capacity g c))
unfolding works_at gap
works_by above g run f =
    fun_ext (λ c.
    accepted_alike (tried_system above g.period g.marks run (every_of g) c) (system_of above (at_capacity g c))
    (deadline_of g) g.tasks
    record {
      capacity = refl;
      period = refl;
      above = refl;
      run = f;
      every = λ j h. refl;
      gap = λ j h. refl;
    })

-- and so is what works off the columns of the guest's tasks
pub works_off : (above : ℕ → ℕ) (g : Guest) {t : Tasks} → TasksOf g t
    → works_at above g.period g.marks (nth t.run) (nth t.every) (nth t.deadline) t.count
    ≡ (λ c. accepted_under above (at_capacity g c))
works_off above g {t} o = rw (o.every, o.deadline, o.count) (works_by above g (nth t.run) o.runs.holds)

-- the first i tasks of the guest that is searched for are settled at c
abbrev pub SettledIn : (s : Search) (i c : ℕ) → Type 0
SettledIn s i c =
    let t = s.tasks.now in
    Settled (fits_in s)
    (met_at (above_of s.servers.now s.place) s.period s.marks (nth t.run) (nth t.every) (nth t.deadline)) s.period i c

-- the capacities at which a task of the guest that is searched for is met can be halved
pub search_halving : (s : Search) (i : ℕ) → SearchIn s × (i < s.tasks.now.count)
    → Halving (fits_in s) (meets_in s i)
search_halving s i o =
    let t = s.tasks.now in
    halving (above_of s.servers.now s.place) (take_grows s.servers.now s.place) s.period s.marks (nth t.run)
    (nth t.every) (nth t.deadline) i (o.0.tasks.runs i o.1)

-- a turn of the search task by task: the tasks before i are settled at c, and those from i up to r are met there
module _ (s : Search) {i c r : ℕ} {late : List ℕ} (so_far : SettledIn s i c)
    (f : Filled late (λ j. gap_for (marked s.marks j) (s.period - c)) s.tasks.now.count)
    (u : MetTo (system_at s.servers.now s.place c s.period s.tasks.now late) (nth s.tasks.now.deadline) i
    s.tasks.now.count r) where
  -- those before r are settled there
  pub search_passed : SettledIn s r c
  search_passed =
      let t = s.tasks.now in
      settled_met _ _ s.period i r c so_far u.low
      (λ j low h.
      met_tried (above_of s.servers.now s.place) s.period s.marks c t.run t.every (nth t.deadline) t.count j f
      (omega (arith, u.high)) (u.met j low h))

  -- task r, where there is one, is looked for past c
  pub search_past : r < s.tasks.now.count
      → least (meets_in s r) (s.period + 1 - c) c ≡ least (meets_in s r) (s.period + 1 - (c + 1)) (c + 1)
  search_past h =
      let t = s.tasks.now in
      smallest_past _ c (s.period + 1) (omega (arith, so_far.high))
      (meets_tried (above_of s.servers.now s.place) s.period s.marks c t.run t.every (nth t.deadline) t.count r
      so_far.fits f h (u.unmet h))
