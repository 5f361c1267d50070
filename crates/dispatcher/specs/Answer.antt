-- The answer of a tick: the guest that had it or none, the task or none, and for a finished job its age and its margin.
use Rattle.std.specs.Prelude.{Bool, true, false, ℕ, ◌+◌, ltb}
use Rattle.lists.specs.Places.{nth}
use Rattle.plan.specs.Records.{deadline_of}
use Rattle.margins.specs.Margin.{margin_of}
use Rattle.dispatcher.specs.declared.Dispatcher.{Dispatcher}
use Rattle.dispatcher.specs.declared.Answer.{Answer}
use Rattle.dispatcher.specs.declared.Answer.TheVariants.{Silent, Nobody, Idled, Worked, Finished}
use Rattle.arrays.specs.Place.{place_at}
use Rattle.dispatcher.specs.State.{guest_in, rest_at}
use Rattle.dispatcher.specs.Tick.{holder, is_held, worker, is_worked, age_after}

-- the id of the guest that has the tick
abbrev pub holder_id : Dispatcher → ℕ
holder_id d = (guest_in d (holder d)).id

-- the number, from 1, of the task that has the tick
abbrev pub worker_number : Dispatcher → ℕ
worker_number d = worker d + 1

-- the age of the job of the task that has the tick, this tick included
abbrev pub worker_age : Dispatcher → ℕ
worker_age d = nth (age_after d) (place_at (holder d) (worker d))

-- the answer by whether a guest has the tick, a task has it, and the task has more run left than this tick
unfoldable pub answer_by : (held worked more : Bool) → Dispatcher → Answer
answer_by false worked more d = Nobody
answer_by true false more d = Idled (holder_id d)
answer_by true true true d = Worked (holder_id d) (worker_number d)
answer_by true true false d =
    Finished (holder_id d) (worker_number d) (worker_age d)
    (margin_of (deadline_of (guest_in d (holder d)) (worker d)) (worker_age d))

-- the answer of one tick
unfoldable pub answer : Dispatcher → Answer
answer d = answer_by (is_held d) (is_worked d) (ltb 1 (rest_at d (holder d) (worker d))) d

-- whether the tick finished a job
unfoldable pub finishes : Answer → Bool
finishes (Finished guest task age margin) = true
finishes (Worked guest task) = false
finishes (Idled guest) = false
finishes Nobody = false
finishes Silent = false
