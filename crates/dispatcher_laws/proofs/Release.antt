-- A release: refused, and nothing changes, or taken at one place. Assumes nothing.
use mathlib.Core.Path.{◌≡◌, refl, subst, ◌∙◌, sym}
use mathlib.Core.Bool.{true, false}
use mathlib.Core.List.{[], ◌∷◌}
use Prim.Native.Nat.{ℕ, zero, suc, ◌-◌, ◌<◌}
use native.Mathlib.Omega.{arith}
use lib.Dec.{ltb, eqb}
use lib.Seq.{get_or-set_same, get_or-set_other}
use borrow.Author.Tests.{ltb-true, eqb-true, lt-ltb, le-leb, eq-eqb, ne_eqb}
use Rattle.lists.specs.Refusals.{refusal, ◌or_refuse◌}
use Rattle.lists.specs.Exactly.{◌exactly_when◌}
use Rattle.plan.specs.Ranges.{within}
use Rattle.plan.specs.Marks.{is_bound, may_start}
use Rattle.plan.specs.Place.{place_of, has_guest, has_task}
use Rattle.dispatcher.specs.declared.Dispatcher.{Dispatcher}
use Rattle.dispatcher.specs.declared.Released.{Released}
use Rattle.arrays.specs.Place.{place_at}
use Rattle.dispatcher.specs.State.{guest_in, rest_at, wait_at}
use Rattle.dispatcher.specs.Valid.{state_ok}
use Rattle.dispatcher.specs.Release.{taken, release_number, released_by, release}
use Rattle.windows.specs.TaskTick.{Taken, Same}
use Rattle.lists.proofs.All.{and_true}
use Rattle.lists.proofs.Refusals.{none_left, go_on, stop, passed, passed_on}
use Rattle.lists.proofs.Exactly.{among, not_given, given_first}
use Rattle.plan.proofs.MarksLaws.{may_not_start}
use Rattle.plan.proofs.RangesLaws.{within_says}
use Rattle.plan.proofs.Order.{plan_in}
use Rattle.dispatcher.proofs.Valid.{ok_plan}
use Rattle.dispatcher_laws.proofs.Seen.{run_in, every_in, pos_at, tasks_at, Shaped}
use Rattle.dispatcher_laws.proofs.Valid.{ok_taken}

-- Guest k of the state has the id, task t of it the number and may start there, and nothing waits or is left.
pub record Free (d : Dispatcher) (id task k t : ℕ) : Type 0 where
  pub ok : state_ok d ≡ true
  pub guest : place_of d.plan id ≡ k
  pub in_plan : k < d.plan.count
  pub number : task ≡ suc t
  pub in_guest : t < (guest_in d k).tasks
  pub may_start : may_start (guest_in d k) (pos_at d k) t ≡ true
  pub due : wait_at d k t ≡ 0
  pub free : rest_at d k t ≡ 0

-- The number that an outcome is made by is the number that it hands back.
number_by : (n : ℕ) (d : Dispatcher) (k t : ℕ) → (released_by n d k t).refusal.number ≡ n
unfolding released_by
number_by zero d k t = refl
number_by (suc n) d k t = refl

-- A release hands back the number of its first refusal.
pub release_number_lem : (d : Dispatcher) (id task : ℕ) → (release d id task).refusal.number ≡ release_number d id task
unfolding release
release_number_lem d id task = number_by (release_number d id task) d (place_of d.plan id) (task - 1)

-- A release without a number is of a task that is free.
pub release_none : (d : Dispatcher) (id task : ℕ) → release_number d id task ≡ 0 → Free d id task (place_of d.plan id) (task - 1)
unfolding release_number has_guest has_task
release_none d id task e =
    let k = place_of d.plan id in
    let p14 = passed (state_ok d) 14 _ (omega arith) e in
    let p7 = passed (ltb k d.plan.count) 7 _ (omega arith) p14.1 in
    let p8 = passed (within 1 (guest_in d k).tasks task) 8 _ (omega arith) p7.1 in
    let p17 = passed (may_start (guest_in d k) (pos_at d k) (task - 1)) 17 _ (omega arith) p8.1 in
    let p9 = passed (eqb (wait_at d k (task - 1)) 0) 9 _ (omega arith) p17.1 in
    let p10 = passed (eqb (rest_at d k (task - 1)) 0) 10 _ (omega arith) p9.1 in
    let w = within_says 1 (guest_in d k).tasks task p8.0 in
    record {
      ok = p14.0;
      guest = refl;
      in_plan = ltb-true k d.plan.count p7.0;
      number = omega (arith, w.0);
      in_guest = omega (arith, w.0, w.1);
      may_start = p17.0;
      due = eqb-true (wait_at d k (task - 1)) 0 p9.0;
      free = eqb-true (rest_at d k (task - 1)) 0 p10.0;
    }

-- A release of task t of guest k, where both are there.
module _ (d : Dispatcher) (id k t : ℕ) (ok : state_ok d ≡ true) (guest : place_of d.plan id ≡ k)
    (in_plan : k < d.plan.count) (in_guest : t < (guest_in d k).tasks) where
  -- 14, 7 and 8 are not given.
  past_8 :
      release_number d id (suc t)
      ≡ refusal (
      may_start (guest_in d k) (pos_at d k) t or_refuse 17
      ∷ eqb (wait_at d k t) 0 or_refuse 9
      ∷ eqb (rest_at d k t) 0 or_refuse 10
      ∷ [])
  unfolding release_number has_guest has_task
  past_8 =
      let q : suc t - 1 ≡ t = omega arith in
      rw (guest, q)
      (go_on 14 _ ok
      ∙ go_on 7 _ (lt-ltb k d.plan.count in_plan)
      ∙ go_on 8 _ (and_true (le-leb 1 (suc t) (omega arith)) (le-leb (suc t) (guest_in d k).tasks in_guest)))

  -- A task that may not start where its guest stands is refused by 17.
  pub away_number : may_start (guest_in d k) (pos_at d k) t ≡ false → release_number d id (suc t) ≡ 17
  away_number m = past_8 ∙ stop 17 _ m

  module _ (m : may_start (guest_in d k) (pos_at d k) t ≡ true) where
    -- A task that may start and waits is refused by 9.
    pub waits_number : 0 < wait_at d k t → release_number d id (suc t) ≡ 9
    waits_number w = past_8 ∙ go_on 17 _ m ∙ stop 9 _ (ne_eqb (wait_at d k t) 0 (λ e. omega arith))

    module _ (w : wait_at d k t ≡ 0) where
      -- A task that may start, does not wait and has run left is refused by 10.
      pub left_number : 0 < rest_at d k t → release_number d id (suc t) ≡ 10
      left_number r =
          past_8
          ∙ go_on 17 _ m
          ∙ go_on 9 _ (eq-eqb (wait_at d k t) 0 w)
          ∙ stop 10 _ (ne_eqb (rest_at d k t) 0 (λ e. omega arith))

      -- A task that may start, does not wait and has nothing left is refused by none.
      pub none_number : rest_at d k t ≡ 0 → release_number d id (suc t) ≡ 0
      none_number r =
          past_8
          ∙ go_on 17 _ m
          ∙ go_on 9 _ (eq-eqb (wait_at d k t) 0 w)
          ∙ go_on 10 _ (eq-eqb (rest_at d k t) 0 r)
          ∙ none_left

-- A release of a free task has no number.
pub free_number : (d : Dispatcher) (id k t : ℕ) → Free d id (suc t) k t → release_number d id (suc t) ≡ 0
free_number d id k t F =
    none_number d id k t F.ok F.guest F.in_plan F.in_guest F.may_start F.due F.free

-- A release of a free task is taken.
pub free_taken : (d : Dispatcher) (id task k t : ℕ) → Free d id task k t → (release d id task).refusal.number ≡ 0
free_taken d id task k t F =
    release_number_lem d id task ∙ rw F.number (free_number d id k t (subst (λ (z : ℕ). Free d id z k t) F.number F))

-- From the state d to the outcome r: the release is refused, or task t of guest k is released.
pub data Took (d : Dispatcher) (id task : ℕ) (r : Released) : Type 0 where
  kept : (r.refusal.number ≡ 0 → ⊥) → r.state ≡ d → Took d id task r
  took : (k t : ℕ) → Free d id task k t → r.state ≡ taken d k t → Took d id task r

-- By its number a release is refused or taken.
took_by_lem : (n : ℕ) (d : Dispatcher) (id task : ℕ) → release_number d id task ≡ n → Took d id task (released_by n d (place_of d.plan id) (task - 1))
unfolding released_by
took_by_lem zero d id task e = took (place_of d.plan id) (task - 1) (release_none d id task e) refl
took_by_lem (suc n) d id task e = kept (λ z. omega arith) refl

-- Every release is refused or taken.
pub release_took : (d : Dispatcher) (id task : ℕ) → Took d id task (release d id task)
unfolding release
release_took d id task = took_by_lem (release_number d id task) d id task refl

-- A release of a free task makes its new job.
pub release_free : (d : Dispatcher) (id k t : ℕ) → Free d id (suc t) k t → (release d id (suc t)).state ≡ taken d k t
unfolding release released_by
release_free d id k t F =
    let q : suc t - 1 ≡ t = omega arith in
    rw (free_number d id k t F, F.guest, q) refl

-- ---- 14
-- A release of a state outside its ranges has 14.
pub release_14 : (d : Dispatcher) (id task : ℕ) → state_ok d ≡ false → release_number d id task ≡ 14
unfolding release_number
release_14 d id task e = stop 14 _ e

-- A release of a state in its ranges has another number than 14.
pub not_number : (d : Dispatcher) (id task : ℕ) → state_ok d ≡ true → release_number d id task ≡ 14 → ⊥
unfolding release_number among
not_number d id task ok e = not_given _ 14 (omega arith) refl (sym (go_on 14 _ ok) ∙ e)

-- ---- 17
-- Guest k of the state has the id, task t of it the number and is bound, and the guest is past position 0.
pub record Away (d : Dispatcher) (id task k t : ℕ) : Type 0 where
  pub ok : state_ok d ≡ true
  pub guest : place_of d.plan id ≡ k
  pub in_plan : k < d.plan.count
  pub number : task ≡ suc t
  pub in_guest : t < (guest_in d k).tasks
  pub bound : is_bound (guest_in d k) t ≡ true
  pub past : 0 < pos_at d k

-- A release that has 17 is of a bound task away from position 0.
away_says :
    (d : Dispatcher) (id task : ℕ) → release_number d id task ≡ 17 → Away d id task (place_of d.plan id) (task - 1)
unfolding release_number has_guest has_task among
away_says d id task e =
    let k = place_of d.plan id in
    let p14 = passed_on (state_ok d) 14 17 _ (λ q. omega arith) e in
    let p7 = passed_on (ltb k d.plan.count) 7 17 _ (λ q. omega arith) p14.1 in
    let p8 = passed_on (within 1 (guest_in d k).tasks task) 8 17 _ (λ q. omega arith) p7.1 in
    let w = within_says 1 (guest_in d k).tasks task p8.0 in
    let m = (given_first _ 17 _ (omega arith) refl (may_not_start (guest_in d k) (pos_at d k) (task - 1))).0 p8.1 in
    record {
      ok = p14.0;
      guest = refl;
      in_plan = ltb-true k d.plan.count p7.0;
      number = omega (arith, w.0);
      in_guest = omega (arith, w.0, w.1);
      bound = m.0;
      past = m.1;
    }

-- A release has 17 exactly when the state is in its ranges, guest and task are there, the task is bound, and its guest
-- is past position 0.
pub away_exactly :
    (d : Dispatcher) (id task : ℕ)
    → ((release d id task).refusal.number ≡ 17) exactly_when Away d id task (place_of d.plan id) (task - 1)
away_exactly d id task = (
  λ e. away_says d id task (sym (release_number_lem d id task) ∙ e),
  λ A.
      release_number_lem d id task
      ∙ subst (λ (z : ℕ). release_number d id z ≡ 17) (sym A.number)
      (away_number d id (place_of d.plan id) (task - 1) A.ok A.guest A.in_plan A.in_guest
      ((may_not_start (guest_in d (place_of d.plan id)) (pos_at d (place_of d.plan id)) (task - 1)).1
      (A.bound, A.past))),
)

-- A state in its ranges stays so over any release.
pub ok_took : (d : Dispatcher) (id task : ℕ) (r : Released) → state_ok d ≡ true → Took d id task r → state_ok r.state ≡ true
ok_took d id task r ok (kept n e) = rw e ok
ok_took d id task r ok (took k t F e) =
    rw e (ok_taken d k t F.in_plan F.in_guest ((plan_in d.plan (ok_plan d ok)).guests k F.in_plan).head.few ok)

-- A release that is refused hands the state back.
pub release_same : (n : ℕ) (d : Dispatcher) (k t : ℕ) → 0 < (released_by n d k t).refusal.number → (released_by n d k t).state ≡ d
unfolding released_by
release_same zero d k t h = absurd (omega arith)
release_same (suc n) d k t h = refl

-- ---- what the windows see
-- A taken release, as the tasks of its guest see it.
module _ (d : Dispatcher) (H : Shaped d) (k t : ℕ) (in_plan : k < d.plan.count) (in_guest : t < (guest_in d k).tasks) where
  -- The released task has its charged run left, its period to wait and no age.
  pub taken_here :
      wait_at d k t ≡ 0
      → rest_at d k t ≡ 0
      → Taken (run_in d.plan k) (every_in d.plan k) t (tasks_at d k) (tasks_at (taken d k t) k)
  unfolding taken
  taken_here due free = record {
    free = free;
    due = due;
    filled = get_or-set_same d.rest (place_at k t) _ 0 (omega (arith, H.few, H.tasks k in_plan, H.rest_long));
    waits = get_or-set_same d.wait (place_at k t) _ 0 (omega (arith, H.few, H.tasks k in_plan, H.wait_long));
    young = get_or-set_same d.age (place_at k t) _ 0 (omega (arith, H.few, H.tasks k in_plan, H.age_long));
  }

  -- Every other place stands.
  pub taken_else : (g m : ℕ) → (place_at g m ≡ place_at k t → ⊥) → Same m (tasks_at d g) (tasks_at (taken d k t) g)
  unfolding taken
  taken_else g m n = record {
    left = get_or-set_other d.rest (place_at k t) (place_at g m) _ 0 n;
    due = get_or-set_other d.wait (place_at k t) (place_at g m) _ 0 n;
    old = get_or-set_other d.age (place_at k t) (place_at g m) _ 0 n;
  }
