-- How serving lent arrays comes to the definitions of a tick. Assumes nothing.
use mathlib.Core.Path.{◌≡◌, refl, ap, sym, subst, ◌∙◌}
use mathlib.Core.Logic.{⊎_elim}
use mathlib.Core.Bool.{Bool, true, false, ◌&&◌}
use mathlib.Core.List.{List}
use Prim.Native.Nat.{ℕ, ◌-◌, ◌*◌, ◌/◌, ◌%◌, ◌≤◌, ◌<◌}
use native.Mathlib.Omega.{arith}
use lib.Dec.{ltb, eqb}
use lib.ListN.{set}
use lib.Seq.{get_or-set_other}
use borrow.Author.Tests.{lt-ltb, le-ltb, ltb-true, eqb-true}
use Rattle.lists.specs.Places.{nth, up_to}
use Rattle.lists.specs.Search.{first_from}
use Rattle.plan.specs.declared.Plan.{Plan}
use Rattle.plan.specs.Records.{guest_at}
use Rattle.plan.specs.Order.{plan_refusal}
use Rattle.dispatcher.specs.declared.Dispatcher.{Dispatcher}
use Rattle.steps.specs.declared.Turn.{Turn}
use Rattle.arrays.specs.Place.{place_at, Small}
use Rattle.dispatcher.specs.Tick.{less_at, refilled, holder, is_held, left_after, worker, is_worked, rest_after, age_after, wait_after, position_after, next}
use Rattle.arrays.specs.Ranges.{no_job}
use Rattle.dispatcher.specs.Valid.{guest_in_range, task_in_range, row_ok, state_ok}
use Rattle.refusals.specs.Rows.{blank_at}
use Rattle.dispatcher.specs.Lent.{state_of, Quiet, Telling, Ending, Refilled, Served, Stepped, turn_by, turn}
use Rattle.plan.specs.declared.Columns.{Columns}
use Rattle.plan.specs.Filled.{ColumnsOf}
use Rattle.steps.specs.Step.{Serves, nobody, idles, works, Numbers, Steps}
use Rattle.arrays.specs.Parts.{filled, onward, grown, fallen, has_left, has_run}
use Rattle.lists.proofs.All.{and_left, and_right, and_true, and_false_right, all_at}
use Rattle.lists.proofs.Places.{up_to_get, up_to_ext, up_to_short}
use Rattle.plan.proofs.Order.{plan_in}
use Rattle.dispatcher.proofs.LentCheck.{past_task_is}
use Rattle.dispatcher.proofs.Valid.{ok_row}
use Rattle.dispatcher.proofs.Tick.{tick_counted}

module _ {d : Dispatcher} {n : ℕ} {tasks left rest : List ℕ} (l : Refilled d n tasks left rest) {k : ℕ} (e : k ≡ first_from (has_left left) n 0) where
  -- The code's guest is the rule's.
  holder_is : k ≡ holder d
  unfolding holder
  holder_is = rw (e, l.filled, l.count) refl

  module _ (h : n ≤ k) where
    -- Where no guest was found, nobody has the tick.
    not_held : is_held d ≡ false
    unfolding is_held
    not_held = rw (← holder_is) (le-ltb k d.plan.count (omega (arith, l.count)))

    -- Where no guest was found, no task works.
    not_worked : is_worked d ≡ false
    unfolding is_worked
    not_worked = rw not_held refl

    -- Where no guest was found, nothing is served.
    with_nobody : Served d left rest (record { guest = k; task = 0; had = 0 })
    unfolding left_after rest_after less_at turn turn_by
    with_nobody = record {
      lefts = rw not_held l.filled;
      runs = rw not_worked l.runs;
      had = rw (not_held, holder_is) refl;
    }

  module _ (h : k < n) {t : ℕ} (f : t ≡ first_from (has_run rest k) (nth tasks k) 0) where
    -- The guest that was found has the tick.
    held : is_held d ≡ true
    unfolding is_held
    held = rw (← holder_is) (lt-ltb k d.plan.count (omega (arith, l.count)))

    -- The guest that was found loses one.
    lefts_is : set left k (nth left k - 1) ≡ left_after d
    unfolding left_after less_at
    lefts_is = rw (held, ← l.filled, ← holder_is) refl

    -- The code's task is the rule's.
    worker_is : t ≡ worker d
    unfolding worker
    worker_is = rw (f, l.runs, l.many k h, ← holder_is) refl

    module _ (g : nth tasks k ≤ t) where
      -- Where no task was found, none works.
      idle : is_worked d ≡ false
      unfolding is_worked
      idle = and_false_right (is_held d) (rw (← worker_is, ← holder_is) (le-ltb t _ (rw (← l.many k h) g)))

      -- Where no task was found, the guest idles the tick away.
      with_idle : Served d (set left k (nth left k - 1)) rest (record { guest = k; task = t; had = 0 })
      unfolding rest_after less_at turn turn_by
      with_idle = record {
        lefts = lefts_is;
        runs = rw idle l.runs;
        had = rw (held, idle, holder_is, worker_is) refl;
      }

    module _ (g : t < nth tasks k) where
      -- The task that was found works.
      busy : is_worked d ≡ true
      unfolding is_worked
      busy = and_true held (rw (← worker_is, ← holder_is) (lt-ltb t _ (rw (← l.many k h) g)))

      -- The task that was found has the tick.
      with_work :
          Served d (set left k (nth left k - 1)) (set rest (place_at k t) (nth rest (place_at k t) - 1))
          (record { guest = k; task = t; had = nth rest (place_at k t) })
      unfolding rest_after less_at turn turn_by
      with_work = record {
        lefts = lefts_is;
        runs = rw (busy, l.runs, ← holder_is, ← worker_is) refl;
        had = rw (held, busy, l.runs, ← holder_is, ← worker_is) refl;
      }

-- Serving the lent arrays is the rule's, whoever has the tick.
served_is : {d : Dispatcher} {n : ℕ} {tasks left rest l r : List ℕ} {t : Turn} → Refilled d n tasks left rest → Serves n tasks left rest l r t → Served d l r t
served_is f (nobody e h) = with_nobody f e h
served_is f (idles e h g m) = with_idle f e h g m
served_is f (works e h g m) = with_work f e h g m

module _ {n : ℕ} {rest wait : List ℕ} (few : n ≤ 8) (z : Quiet n rest wait) where
  -- No wait falls past the guests.
  fallen_short : up_to fallen (n * 16) wait ≡ up_to fallen 128 wait
  fallen_short = sym (up_to_short fallen (n * 16) 128 wait (omega arith) (λ k a b. omega (arith, z.waits k a b)))

  -- No age rises past the guests.
  grown_short : (age : List ℕ) → up_to (grown rest) (n * 16) age ≡ up_to (grown rest) 128 age
  grown_short age = sym (up_to_short (grown rest) (n * 16) 128 age (omega arith) (λ k a b. rw (z.runs k a b) refl))

module _ {p : Plan} {n : ℕ} {c : Columns} (counts : p.count ≡ n) (u : ColumnsOf p.guests n c) (left position rest wait age usage : List ℕ) where
  -- The code's capacities are the rule's.
  refilled_is : up_to (filled position c.capacities) n left ≡ refilled (state_of p left position rest wait age usage)
  unfolding refilled
  refilled_is = rw counts (up_to_ext _ _ n left (λ k x b. rw (u.capacities.holds k b) refl))

  -- The code's positions are the rule's.
  onward_is : up_to (onward c.periods) n position ≡ position_after (state_of p left position rest wait age usage)
  unfolding position_after
  onward_is = rw counts (up_to_ext _ _ n position (λ k x b. rw (u.periods.holds k b) refl))

  -- A tick over the lent arrays is the rule's.
  pub stepped : {a : Numbers} {t : Turn} → n ≤ 8 → Quiet n rest wait
      → Steps n c.capacities c.periods c.tasks
      (record { left = left; position = position; rest = rest; wait = wait; age = age; usage = usage }) a t
      → Stepped (state_of p left position rest wait age usage) (state_of p a.left a.position a.rest a.wait a.age a.usage) t
  unfolding next wait_after age_after
  stepped few z s =
      let v = served_is {d = state_of p left position rest wait age usage} record { count = counts; many = u.tasks.holds; filled = refilled_is; runs = refl } s.served in
      record {
        state = rw (v.lefts, s.moved, onward_is, v.runs, s.fell, s.grew, fallen_short few z, grown_short few z age, s.counted, tick_counted _ v.had counts) refl;
        had = v.had;
      }

  module _ (m : Small n c.tasks) (z : Quiet n rest wait) where
    -- A place past the n guests is not the one that loses a run.
    far : (b : Bool) → is_worked (state_of p left position rest wait age usage) ≡ b → (k : ℕ) → n * 16 ≤ k → k < 128
        → nth (less_at b rest (place_at (holder (state_of p left position rest wait age usage)) (worker (state_of p left position rest wait age usage)))) k ≡ 0
    unfolding less_at is_worked is_held
    far false e k a b = z.runs k a b
    far true e k a b =
        let d = state_of p left position rest wait age usage in
        let h = ltb-true (holder d) p.count (and_left (ltb (holder d) p.count) _ e) in
        let t = ltb-true (worker d) _ (and_right (ltb (holder d) p.count) _ e) in
        let o = counts in
        let l : holder d < n = omega arith in
        let s = m.each (holder d) l in
        let y = u.tasks.holds (holder d) l in
        get_or-set_other rest (place_at (holder d) (worker d)) k _ 0 (λ q. omega arith) ∙ z.runs k a b

    -- No run is left past the guests after the tick.
    rests_kept : (k : ℕ) → n * 16 ≤ k → k < 128 → nth (rest_after (state_of p left position rest wait age usage)) k ≡ 0
    unfolding rest_after
    rests_kept k a b = far _ refl k a b

    -- No wait is left past the guests after the tick.
    waits_kept : (k : ℕ) → n * 16 ≤ k → k < 128 → nth (wait_after (state_of p left position rest wait age usage)) k ≡ 0
    unfolding wait_after
    waits_kept k a b = ⊎_elim (λ e. omega (arith, e, z.waits k a b)) (λ e. e ∙ z.waits k a b) (up_to_get fallen 128 wait k)

    -- A tick leaves the places past the guests quiet.
    pub quiet_kept : {l q r w a v : List ℕ} {t : Turn} → Stepped (state_of p left position rest wait age usage) (state_of p l q r w a v) t → Quiet n r w
    unfolding next
    quiet_kept s = record {
      runs = λ k a b. ap (λ (x : Dispatcher). nth x.rest k) s.state ∙ rests_kept k a b;
      waits = λ k a b. ap (λ (x : Dispatcher). nth x.wait k) s.state ∙ waits_kept k a b;
    }

-- The columns of a plan in order are small.
pub small_tasks : {p : Plan} {c : Columns} → (plan_refusal p).number ≡ 0 → ColumnsOf p.guests p.count c → Small p.count c.tasks
small_tasks {p} e u =
    let i = plan_in p e in
    record { guests = i.few; each = λ k h. omega (arith, u.tasks.holds k h, (i.guests k h).head.few) }

module _ {d after : Dispatcher} {t : Turn} (p : (plan_refusal after.plan).number ≡ 0) (s : Stepped d after t) where
  -- A tick keeps the plan.
  plan_kept : d.plan ≡ after.plan
  unfolding next
  plan_kept = sym (ap (λ (x : Dispatcher). x.plan) s.state)

  -- What a tick that finished no job leaves is enough to tell its answer.
  pub telling : {c : Columns} {n : ℕ} → n ≡ after.plan.count → ColumnsOf after.plan.guests after.plan.count c → (t.had ≡ 1 → ⊥) → Telling d c.ids n t
  telling e u m = record {
    sound = rw plan_kept p;
    count = ap (λ (x : Plan). x.count) plan_kept ∙ sym e;
    id = λ k h. u.ids.holds k (omega arith) ∙ ap (λ (x : Plan). (guest_at x.guests k).id) (sym plan_kept);
    had = s.had;
    more = m;
  }

  -- What a tick that finished a job leaves is enough to tell its answer.
  pub ending : t.had ≡ 1 → Ending d after.plan t after.age
  unfolding next
  ending m = record { sound = rw plan_kept p; plan = plan_kept; had = s.had; ages = ap (λ (x : Dispatcher). x.age) s.state; last = m }

module _ (d : Dispatcher) (e : state_ok d ≡ true) where
  -- A row past the guests of a state in its ranges is blank.
  blank_at_lem : (j t : ℕ) → d.plan.count ≤ j → j < 8 → t < 16 → blank_at d.rest d.wait d.age j t ≡ true
  unfolding row_ok
  blank_at_lem j t a b c =
      past_task_is d j a t
      ∙ all_at (task_in_range d j) 16 t c (and_right (guest_in_range d j) _ (ok_row d e j b))

  -- Every place past the guests of a state in its ranges is blank.
  blank_place : (k : ℕ) → d.plan.count * 16 ≤ k → k < 128 → no_job (nth d.rest k) (nth d.wait k) (nth d.age k) ≡ true
  blank_place k a b =
      let q : place_at (k / 16) (k % 16) ≡ k = omega arith in
      let h = blank_at_lem (k / 16) (k % 16) (omega arith) (omega arith) (omega arith) in
      subst (λ (x : ℕ). no_job (nth d.rest x) (nth d.wait x) (nth d.age x) ≡ true) q h

  -- No job runs or waits past the guests of a state in its ranges.
  pub quiet : Quiet d.plan.count d.rest d.wait
  quiet = record {
    runs =
        λ k a b.
        eqb-true (nth d.rest k) 0
        (and_left (eqb (nth d.rest k) 0) (eqb (nth d.wait k) 0)
        (and_left (eqb (nth d.rest k) 0 && eqb (nth d.wait k) 0) _ (blank_place k a b)));
    waits =
        λ k a b.
        eqb-true (nth d.wait k) 0
        (and_right (eqb (nth d.rest k) 0) (eqb (nth d.wait k) 0)
        (and_left (eqb (nth d.rest k) 0 && eqb (nth d.wait k) 0) _ (blank_place k a b)));
  }
