-- The state seen guest by guest and task by task.
use Rattle.std.specs.Prelude.{ℕ}
use Rattle.lists.specs.Places.{nth}
use Rattle.plan.specs.declared.Guest.{Guest}
use Rattle.plan.specs.Records.{guest_at}
use Rattle.arrays.specs.Place.{place_at}
use Rattle.dispatcher.specs.declared.Dispatcher.{Dispatcher}

-- guest k of the state's plan
abbrev pub guest_in : Dispatcher → ℕ → Guest
guest_in d k = guest_at d.plan.guests k

-- the run left of task t of guest k
abbrev pub rest_at : Dispatcher → ℕ → ℕ → ℕ
rest_at d k t = nth d.rest (place_at k t)

-- the wait of task t of guest k
abbrev pub wait_at : Dispatcher → ℕ → ℕ → ℕ
wait_at d k t = nth d.wait (place_at k t)

-- the age of task t of guest k
abbrev pub age_at : Dispatcher → ℕ → ℕ → ℕ
age_at d k t = nth d.age (place_at k t)
