-- How the answer comes from what a step noted. Assumes nothing.
use mathlib.Core.Path.{◌≡◌, refl, ap, ◌∙◌}
use mathlib.Core.Bool.{Bool, true, false}
use mathlib.Core.List.{List}
use Prim.Native.Nat.{ℕ, ◌+◌, ◌≤◌, ◌<◌}
use native.Mathlib.Decide.{dec_lt}
use native.Mathlib.Omega.{arith}
use lib.Dec.{ltb}
use lib.IntN.{ℤ}
use lib.ListN.{length, get_or-eq_default}
use borrow.Author.Tests.{lt-ltb, le-ltb, ltb-true}
use Rattle.plan.specs.Ranges.{longest}
use Rattle.lists.specs.Choice.{pick}
use Rattle.lists.specs.Places.{nth, up_to}
use Rattle.plan.specs.declared.Plan.{Plan}
use Rattle.plan.specs.Records.{guest_at, deadline_of}
use Rattle.margins.specs.Margin.{margin_of}
use Rattle.dispatcher.specs.declared.Dispatcher.{Dispatcher}
use Rattle.steps.specs.declared.Turn.{Turn}
use Rattle.dispatcher.specs.declared.Answer.TheVariants.{Nobody, Idled, Worked, Finished}
use Rattle.arrays.specs.Place.{place_at}
use Rattle.dispatcher.specs.State.{guest_in, rest_at}
use Rattle.dispatcher.specs.Tick.{holder, is_held, worker, is_worked, age_after}
use Rattle.dispatcher.specs.Answer.{answer_by, answer, finishes}
use Rattle.dispatcher.specs.Lent.{turn_by, turn, Telling, Ending, Fits}
use Rattle.arrays.specs.Parts.{grown, has_run}
use Rattle.lists.proofs.All.{and_right}
use Rattle.lists.proofs.Places.{up_to_at, up_to_length}
use Rattle.lists.proofs.Search.{first_found}
use Rattle.plan.proofs.Order.{plan_in}

-- The guest's place is noted in any case.
turn_guest : (b : Bool) (d : Dispatcher) → (turn_by b d).guest ≡ holder d
unfolding turn_by
turn_guest true d = refl
turn_guest false d = refl

-- A guest has the tick where the holder is one of the plan's.
held_is : (d : Dispatcher) {b : Bool} → ltb (holder d) d.plan.count ≡ b → is_held d ≡ b
unfolding is_held
held_is d e = e

-- The task that works is one of its guest's.
worker_in : (d : Dispatcher) → is_worked d ≡ true → worker d < (guest_in d (holder d)).tasks
unfolding is_worked
worker_in d e = ltb-true (worker d) (guest_in d (holder d)).tasks (and_right (is_held d) _ e)

-- The task that works has run left.
pub worker_runs : (d : Dispatcher) → is_worked d ≡ true → 1 ≤ rest_at d (holder d) (worker d)
unfolding worker
worker_runs d e =
    let h : worker d < (guest_in d (holder d)).tasks = worker_in d e in
    omega (arith, ltb-true 0 (rest_at d (holder d) (worker d)) (first_found (has_run d.rest (holder d)) (guest_in d (holder d)).tasks 0 (omega arith)))

-- The age of a job with run left is at most 1,000,000 after the tick.
age_small : (rest age : List ℕ) (k : ℕ) → k < 128 → 1 ≤ nth rest k → nth (up_to (grown rest) 128 age) k ≤ longest
age_small rest age k h r =
    elim (dec_lt k (length age)) [
      | yes l ↦ rw (up_to_at (grown rest) 128 age k h l, lt-ltb 0 (nth rest k) (omega arith)) (omega arith)
      | no l ↦
          rw (get_or-eq_default (up_to (grown rest) 128 age) 0 {n = k} (omega (arith, up_to_length (grown rest) 128 age))) (omega arith)
    ]

module _ (d : Dispatcher) {t : Turn} (e : t ≡ turn d) where
  -- The guest noted is the rule's.
  guest_is : t.guest ≡ holder d
  unfolding turn
  guest_is = ap (λ (x : Turn). x.guest) e ∙ turn_guest (is_held d) d

  -- Where no guest was noted, the answer is that nobody has the tick.
  tell_nobody : d.plan.count ≤ t.guest → Nobody ≡ answer d
  unfolding answer answer_by
  tell_nobody h = rw not_held refl
    where
      not_held : is_held d ≡ false
      not_held = held_is d (rw (← guest_is) (le-ltb t.guest d.plan.count h))

  module _ (h : t.guest < d.plan.count) where
    -- Where a guest was noted, a guest has the tick.
    held : is_held d ≡ true
    held = held_is d (rw (← guest_is) (lt-ltb t.guest d.plan.count h))

    -- The task noted is the rule's.
    task_is : t.task ≡ worker d
    unfolding turn turn_by
    task_is = ap (λ (x : Turn). x.task) e ∙ rw held refl

    -- The run left noted is the task's, or 0 where none works.
    had_is : t.had ≡ pick (is_worked d) (rest_at d (holder d) (worker d)) 0
    unfolding turn turn_by
    had_is = ap (λ (x : Turn). x.had) e ∙ rw held refl

    -- Where no run left was noted, the answer is that the guest idles the tick away.
    tell_idle : {id : ℕ} → id ≡ (guest_in d t.guest).id → t.had < 1 → Idled id ≡ answer d
    unfolding answer answer_by
    tell_idle q l = rw (q, held, idle (is_worked d) refl, guest_is) refl
      where
        idle : (b : Bool) → is_worked d ≡ b → is_worked d ≡ false
        idle true w =
            let r : t.had ≡ rest_at d (holder d) (worker d) = had_is ∙ rw w refl in
            absurd (omega (arith, worker_runs d w))
        idle false w = w

    module _ (l : 1 ≤ t.had) where
      -- Where run left was noted, a task works.
      busy : is_worked d ≡ true
      busy = go (is_worked d) refl
        where
          go : (b : Bool) → is_worked d ≡ b → is_worked d ≡ true
          go true w = w
          go false w = let r : t.had ≡ 0 = had_is ∙ rw w refl in absurd (omega arith)

      -- The run left noted is that of the task that works.
      run_is : t.had ≡ rest_at d (holder d) (worker d)
      run_is = had_is ∙ rw busy refl

      -- The task noted is one of its guest's.
      task_in : t.task < (guest_in d t.guest).tasks
      task_in = rw (guest_is, task_is) (worker_in d busy)

      -- The age of the job noted is at most 1,000,000 after the tick.
      age_in : {age : List ℕ} → age ≡ age_after d → place_at t.guest t.task < 128 → nth age (place_at t.guest t.task) ≤ longest
      unfolding age_after
      age_in q b = rw q (age_small d.rest d.age _ b (rw (guest_is, task_is) (worker_runs d busy)))

      -- Where more than this tick was left, the answer names guest and task.
      tell_works : {id : ℕ} → id ≡ (guest_in d t.guest).id → 1 < t.had → Worked id (t.task + 1) ≡ answer d
      unfolding answer answer_by
      tell_works q m = rw (q, held, busy, ← run_is, lt-ltb 1 t.had m, guest_is, task_is) refl

      -- Where this tick was the last of the run, the answer is that the job is finished.
      tell_done :
          {age : List ℕ}
          → age ≡ age_after d
          → t.had ≤ 1
          → (z : ℤ)
          → z ≡ margin_of (deadline_of (guest_in d t.guest) t.task) (nth age (place_at t.guest t.task))
          → Finished (guest_in d t.guest).id (t.task + 1) (nth age (place_at t.guest t.task)) z ≡ answer d
      unfolding answer answer_by
      tell_done q m z f = rw (f, held, busy, ← run_is, le-ltb 1 t.had m, q, guest_is, task_is) refl

  -- Where a task had run left, a guest had the tick.
  worked_held : 1 ≤ t.had → t.guest < d.plan.count
  unfolding turn turn_by is_held
  worked_held l = go (is_held d) refl
    where
      go : (b : Bool) → is_held d ≡ b → t.guest < d.plan.count
      go true w = rw guest_is (ltb-true (holder d) d.plan.count w)
      go false w = let r : t.had ≡ 0 = ap (λ (x : Turn). x.had) e ∙ rw w refl in absurd (omega arith)

-- The places and numbers of a finished job are small.
pub fits : {d : Dispatcher} {p : Plan} {t : Turn} {age : List ℕ} → Ending d p t age → Fits p t age
fits {d} {p} {t} {age} s =
    let l : 1 ≤ t.had = omega (arith, s.last) in
    let h = worked_held d s.had l in
    let o = plan_in d.plan s.sound in
    let v = o.guests t.guest h in
    let i = v.tasks t.task (task_in d s.had h l) in
    let a : t.guest < 8 = omega (arith, o.few) in
    let b : t.task < 16 = omega (arith, v.head.few, task_in d s.had h l) in
    record { guest = a; task = b; deadline = rw (← s.plan) (omega (arith, i.short, i.in_time)); ages = age_in d s.had h l s.ages (omega arith) }

-- The task that works is one of 16.
pub task_small : {d : Dispatcher} {ids : List ℕ} {n : ℕ} {t : Turn} → Telling d ids n t → 1 ≤ t.had → t.task < 16
task_small {d} {ids} {n} {t} s l =
    let h = worked_held d s.had l in
    omega (arith, ((plan_in d.plan s.sound).guests t.guest h).head.few, task_in d s.had h l)

-- The answer of a tick that finishes a job is made from what was noted.
pub tell_finished : {d : Dispatcher} {p : Plan} {t : Turn} {age : List ℕ} → Ending d p t age → (z : ℤ)
    → z ≡ margin_of (deadline_of (guest_at p.guests t.guest) t.task) (nth age (place_at t.guest t.task))
    → Finished (guest_at p.guests t.guest).id (t.task + 1) (nth age (place_at t.guest t.task)) z ≡ answer d
tell_finished {d} {p} {t} {age} s z e =
    let l : 1 ≤ t.had = omega (arith, s.last) in
    rw (← s.plan) (tell_done d s.had (worked_held d s.had l) l s.ages (omega (arith, s.last)) z (rw s.plan e))

-- The answers of a tick that finishes no job.
module _ {d : Dispatcher} {ids : List ℕ} {n : ℕ} {t : Turn} (s : Telling d ids n t) where
  -- Nobody had it.
  pub says_nobody : n ≤ t.guest → Nobody ≡ answer d
  says_nobody h = tell_nobody d s.had (omega (arith, s.count))

  -- A guest idled it away.
  pub says_idle : t.guest < n → t.had < 1 → Idled (nth ids t.guest) ≡ answer d
  says_idle h l = tell_idle d s.had (omega (arith, s.count)) (s.id t.guest h) l

  -- A task had it.
  pub says_works : t.guest < n → 1 ≤ t.had → Worked (nth ids t.guest) (t.task + 1) ≡ answer d
  says_works h l = tell_works d s.had (omega (arith, s.count)) l (s.id t.guest h) more
    where
      more : 1 < t.had
      more = elim (dec_lt 1 t.had) [ yes m ↦ m | no m ↦ absurd (s.more (omega arith)) ]

-- Whether a tick finishes a job, by what was noted.
module _ (d : Dispatcher) {t : Turn} (e : t ≡ turn d) where
  -- A tick that took the last of a run finishes a job.
  pub finishes_done : t.had ≡ 1 → finishes (answer d) ≡ true
  unfolding finishes
  finishes_done m =
      let l : 1 ≤ t.had = omega arith in
      rw (← tell_done d e (worked_held d e l) l refl (omega arith) _ refl) refl

  -- Any other tick finishes none.
  pub finishes_more : (t.had ≡ 1 → ⊥) → finishes (answer d) ≡ false
  unfolding finishes
  finishes_more m =
      elim (dec_lt t.guest d.plan.count) [
        | yes h ↦
            elim (dec_lt t.had 1) [
              | yes l ↦ rw (← tell_idle d e h refl l) refl
              | no l ↦ rw (← tell_works d e h (omega arith) refl (more (omega arith))) refl
            ]
        | no h ↦ rw (← tell_nobody d e (omega arith)) refl
      ]
    where
      more : 1 ≤ t.had → 1 < t.had
      more l = elim (dec_lt 1 t.had) [ yes h ↦ h | no h ↦ absurd (m (omega arith)) ]
