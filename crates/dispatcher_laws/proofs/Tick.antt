-- The lists of the state after a tick, by who had it, and place by place. Assumes nothing.
use mathlib.Core.Path.{◌≡◌, refl, ap, ◌∙◌}
use mathlib.Core.Bool.{Bool, true, false}
use mathlib.Core.List.{List}
use Prim.Native.Nat.{ℕ, ◌+◌, ◌-◌, ◌≤◌, ◌<◌, min}
use native.Mathlib.Omega.{arith}
use native.Mathlib.Decide.{dec_lt}
use lib.Dec.{ltb, eqb}
use lib.ListN.{set, length}
use borrow.Author.Tests.{lt-ltb, le-ltb}
use Rattle.lists.specs.Choice.{pick}
use Rattle.lists.specs.Places.{nth}
use Rattle.plan.specs.Ranges.{longest}
use Rattle.dispatcher.specs.declared.Dispatcher.{Dispatcher}
use Rattle.arrays.specs.Place.{place_at}
use Rattle.dispatcher.specs.State.{guest_in, rest_at, wait_at, age_at}
use Rattle.dispatcher.specs.Tick.{less_at, refilled, holder, is_held, left_after, worker, is_worked, rest_after, age_after, wait_after, position_after, next, usage_after}
use Rattle.arrays.specs.Usage.{idled_at, nobodys, one_more, tallied}
use Rattle.lists.proofs.All.{and_true, and_false_left, and_false_right}
use Rattle.lists.proofs.Places.{up_to_at}
use Rattle.arrays.proofs.Tallies.{more_long}
use Rattle.dispatcher_laws.proofs.Seen.{pos_at, held_at, Shaped}

-- ---- who has the tick
-- The holder is one of the guests: some guest has the tick.
pub is_held_lem : (d : Dispatcher) → holder d < d.plan.count → is_held d ≡ true
unfolding is_held
is_held_lem d h = lt-ltb _ _ h

-- The holder is none of the guests: nobody has the tick.
pub not_held : (d : Dispatcher) → d.plan.count ≤ holder d → is_held d ≡ false
unfolding is_held
not_held d h = le-ltb _ _ h

-- The worker is one of the guest's tasks: some task has the tick.
pub is_worked_lem : (d : Dispatcher) → holder d < d.plan.count → worker d < (guest_in d (holder d)).tasks → is_worked d ≡ true
unfolding is_worked
is_worked_lem d h l = and_true (is_held_lem d h) (lt-ltb _ _ l)

-- The worker is none of the guest's tasks: the tick is idled away.
pub not_worked : (d : Dispatcher) → (guest_in d (holder d)).tasks ≤ worker d → is_worked d ≡ false
unfolding is_worked
not_worked d l = and_false_right (is_held d) (le-ltb _ _ l)

-- Where nobody has the tick, no task has.
pub none_worked : (d : Dispatcher) → d.plan.count ≤ holder d → is_worked d ≡ false
unfolding is_worked
none_worked d h = and_false_left _ (not_held d h)

-- ---- what that does to the capacities and the runs left
-- Where the test holds, the place loses one.
less_hit : (b : Bool) (l : List ℕ) (k : ℕ) → b ≡ true → less_at b l k ≡ set l k (nth l k - 1)
unfolding less_at
less_hit b l k e = rw e refl

-- Where the test does not hold, the list stands.
less_miss : (b : Bool) (l : List ℕ) (k : ℕ) → b ≡ false → less_at b l k ≡ l
unfolding less_at
less_miss b l k e = rw e refl

module _ (d : Dispatcher) where
  -- The guest that has the tick loses one.
  pub left_hit : holder d < d.plan.count → (next d).left ≡ set (refilled d) (holder d) (nth (refilled d) (holder d) - 1)
  unfolding next left_after
  left_hit h = less_hit (is_held d) (refilled d) (holder d) (is_held_lem d h)

  -- Where nobody has the tick, no guest loses anything.
  pub left_miss : d.plan.count ≤ holder d → (next d).left ≡ refilled d
  unfolding next left_after
  left_miss h = less_miss (is_held d) (refilled d) (holder d) (not_held d h)

  -- The task that has the tick loses one.
  pub rest_hit :
      holder d < d.plan.count
      → worker d < (guest_in d (holder d)).tasks
      → (next d).rest ≡ set d.rest (place_at (holder d) (worker d)) (rest_at d (holder d) (worker d) - 1)
  unfolding next rest_after
  rest_hit h l = less_hit (is_worked d) d.rest (place_at (holder d) (worker d)) (is_worked_lem d h l)

  -- Where the tick is idled away, no task loses anything.
  pub rest_idle : (guest_in d (holder d)).tasks ≤ worker d → (next d).rest ≡ d.rest
  unfolding next rest_after
  rest_idle l = less_miss (is_worked d) d.rest (place_at (holder d) (worker d)) (not_worked d l)

  -- Where nobody has the tick, no task loses anything.
  pub rest_miss : d.plan.count ≤ holder d → (next d).rest ≡ d.rest
  unfolding next rest_after
  rest_miss h = less_miss (is_worked d) d.rest (place_at (holder d) (worker d)) (none_worked d h)

  -- A tick leaves the records.
  pub next_plan : (next d).plan ≡ d.plan
  unfolding next
  next_plan = refl

-- ---- what passes in every tick, place by place
module _ (d : Dispatcher) (H : Shaped d) where
  -- A guest holds what it is filled to.
  pub refilled_at : (j : ℕ) → j < d.plan.count → nth (refilled d) j ≡ held_at d j
  unfolding refilled
  refilled_at j l =
      up_to_at (λ k left. pick (eqb (nth d.position k) 0) (guest_in d k).capacity left) d.plan.count d.left j l
      (omega (arith, H.few, H.left_long))

  -- A guest's position moves on.
  pub position_at : (j : ℕ) → j < d.plan.count → pos_at (next d) j ≡ pick (ltb (pos_at d j + 1) (guest_in d j).period) (pos_at d j + 1) 0
  unfolding next position_after
  position_at j l =
      up_to_at (λ k position. pick (ltb (position + 1) (guest_in d k).period) (position + 1) 0) d.plan.count d.position j l
      (omega (arith, H.few, H.position_long))

  -- A wait falls.
  pub wait_falls : (g j : ℕ) → g < 8 → j < 16 → wait_at (next d) g j ≡ wait_at d g j - 1
  unfolding next wait_after
  wait_falls g j p q = up_to_at (λ k wait. wait - 1) 128 d.wait (place_at g j) (omega arith) (omega (arith, H.wait_long))

  -- An unfinished job's age rises.
  pub age_rises : (g j : ℕ) → g < 8 → j < 16 → 0 < rest_at d g j → age_at (next d) g j ≡ min (age_at d g j + 1) longest
  unfolding next age_after
  age_rises g j p q r =
      up_to_at (λ k age. pick (ltb 0 (nth d.rest k)) (min (age + 1) longest) age) 128 d.age (place_at g j) (omega arith)
      (omega (arith, H.age_long))
      ∙ ap (λ (b : Bool). pick b (min (age_at d g j + 1) longest) (age_at d g j)) (lt-ltb 0 (rest_at d g j) r)

-- ---- where the tick is counted
module _ (d : Dispatcher) where
  -- A tick that nobody has is counted for nobody.
  pub usage_nobody : d.plan.count ≤ holder d → usage_after d ≡ one_more d.usage nobodys
  unfolding usage_after tallied
  usage_nobody h = rw (not_held d h) refl

  -- A tick that a task has is counted for its guest.
  pub usage_worked :
      holder d < d.plan.count
      → worker d < (guest_in d (holder d)).tasks
      → usage_after d ≡ one_more d.usage (holder d)
  unfolding usage_after tallied
  usage_worked h w = rw (is_held_lem d h, is_worked_lem d h w) refl

  -- A tick that a guest idles away is counted for it, and among those that it idled away.
  pub usage_idled :
      holder d < d.plan.count
      → (guest_in d (holder d)).tasks ≤ worker d
      → usage_after d ≡ one_more (one_more d.usage (holder d)) (idled_at (holder d))
  unfolding usage_after tallied
  usage_idled h w = rw (is_held_lem d h, not_worked d w) refl

  -- Counting keeps the number of places.
  pub usage_long : length (usage_after d) ≡ length d.usage
  usage_long =
      elim (dec_lt (holder d) d.plan.count) [
        | no n ↦ ap length (usage_nobody (omega arith)) ∙ more_long d.usage nobodys
        | yes h ↦
            elim (dec_lt (worker d) (guest_in d (holder d)).tasks) [
              | yes w ↦ ap length (usage_worked h w) ∙ more_long d.usage (holder d)
              | no w ↦
                  ap length (usage_idled h (omega arith))
                  ∙ more_long (one_more d.usage (holder d)) (idled_at (holder d))
                  ∙ more_long d.usage (holder d)
            ]
      ]
