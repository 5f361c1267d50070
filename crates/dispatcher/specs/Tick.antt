-- One tick, in order: a definition for each sentence of the rule.
use Rattle.std.specs.Prelude.{Bool, true, false, ◌&&◌, List, ℕ, ◌+◌, ◌-◌, min, set, ltb, eqb}
use Rattle.lists.specs.Choice.{pick}
use Rattle.lists.specs.Places.{nth, up_to}
use Rattle.lists.specs.Search.{first_from}
use Rattle.plan.specs.Ranges.{longest}
use Rattle.dispatcher.specs.declared.Dispatcher.{Dispatcher}
use Rattle.arrays.specs.Place.{place_at}
use Rattle.arrays.specs.Usage.{tallied}
use Rattle.dispatcher.specs.State.{guest_in, rest_at}

-- one less at place k, where the test holds
unfoldable pub less_at : Bool → List ℕ → ℕ → List ℕ
less_at true l k = set l k (nth l k - 1)
less_at false l k = l

-- each guest at position 0 gets its full capacity, what was left being dropped
unfoldable pub refilled : Dispatcher → List ℕ
refilled d = up_to (λ k left. pick (eqb (nth d.position k) 0) (guest_in d k).capacity left) d.plan.count d.left

-- the first guest with capacity left has the tick; the count where there is none
unfoldable pub holder : Dispatcher → ℕ
holder d = first_from (λ k. ltb 0 (nth (refilled d) k)) d.plan.count 0

-- whether some guest has the tick
unfoldable pub is_held : Dispatcher → Bool
is_held d = ltb (holder d) d.plan.count

-- the guest that has the tick loses one
unfoldable pub left_after : Dispatcher → List ℕ
left_after d = less_at (is_held d) (refilled d) (holder d)

-- inside that guest the first task with run left has the tick; the guest's number of tasks where none has any
unfoldable pub worker : Dispatcher → ℕ
worker d = first_from (λ t. ltb 0 (rest_at d (holder d) t)) (guest_in d (holder d)).tasks 0

-- whether some task works: if none has any run left the tick is idled away by that guest
unfoldable pub is_worked : Dispatcher → Bool
is_worked d = is_held d && ltb (worker d) (guest_in d (holder d)).tasks

-- the task that has the tick loses one
unfoldable pub rest_after : Dispatcher → List ℕ
rest_after d = less_at (is_worked d) d.rest (place_at (holder d) (worker d))

-- the age of every job unfinished at the tick's start rises by one, stopping at 1,000,000
unfoldable pub age_after : Dispatcher → List ℕ
age_after d = up_to (λ k age. pick (ltb 0 (nth d.rest k)) (min (age + 1) longest) age) 128 d.age

-- each wait above 0 falls by one
unfoldable pub wait_after : Dispatcher → List ℕ
wait_after d = up_to (λ k wait. wait - 1) 128 d.wait

-- each position moves on and returns to 0 at T
unfoldable pub position_after : Dispatcher → List ℕ
position_after d =
    up_to (λ k position. pick (ltb (position + 1) (guest_in d k).period) (position + 1) 0) d.plan.count d.position

-- the tick is counted: for that guest, among those that it idled away if no task works, or for nobody
unfoldable pub usage_after : Dispatcher → List ℕ
usage_after d = tallied (is_held d) (is_worked d) (holder d) d.usage

-- the state after the tick: nothing else in it changes
unfoldable pub next : Dispatcher → Dispatcher
next d =
    record {
      plan = d.plan;
      left = left_after d;
      position = position_after d;
      rest = rest_after d;
      wait = wait_after d;
      age = age_after d;
      usage = usage_after d;
    }
