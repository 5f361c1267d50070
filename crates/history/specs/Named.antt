-- A guest and a task as callers name them: by the guest's id, and the task's number from 1.
use Rattle.std.specs.Prelude.{◌≡◌, Bool, true, ℕ, ◌-◌}
use Rattle.lists.specs.Places.{nth}
use Rattle.plan.specs.declared.Guest.{Guest}
use Rattle.plan.specs.declared.Plan.{Plan}
use Rattle.plan.specs.Marks.{is_bound}
use Rattle.plan.specs.Place.{place_of}
use Rattle.plan.specs.Records.{guest_at}
use Rattle.dispatcher.specs.declared.Dispatcher.{Dispatcher}
use Rattle.dispatcher.specs.State.{rest_at, wait_at, age_at}
use Rattle.plan.specs.Records as records

-- the guest with that id
abbrev pub guest_by : Plan → (id : ℕ) → Guest
guest_by p id = guest_at p.guests (place_of p id)

-- the period of the task with that number of the guest with that id
abbrev pub every_by : Plan → (id number : ℕ) → ℕ
every_by p id number = records.every_of (guest_by p id) (number - 1)

-- the deadline of the task with that number of the guest with that id
abbrev pub deadline_by : Plan → (id number : ℕ) → ℕ
deadline_by p id number = records.deadline_of (guest_by p id) (number - 1)

-- the run left of that task, in a state of the plan
abbrev pub rest_by : Plan → (id number : ℕ) → Dispatcher → ℕ
rest_by p id number d = rest_at d (place_of p id) (number - 1)

-- the wait of that task, in a state of the plan
abbrev pub wait_by : Plan → (id number : ℕ) → Dispatcher → ℕ
wait_by p id number d = wait_at d (place_of p id) (number - 1)

-- the age of that task, in a state of the plan
abbrev pub age_by : Plan → (id number : ℕ) → Dispatcher → ℕ
age_by p id number d = age_at d (place_of p id) (number - 1)

-- whether that task is bound to its guest's period
abbrev pub bound_by : Plan → (id number : ℕ) → Bool
bound_by p id number = is_bound (guest_by p id) (number - 1)

-- the position of that guest, in a state of the plan
abbrev pub position_by : Plan → (id : ℕ) → Dispatcher → ℕ
position_by p id d = nth d.position (place_of p id)

-- That task may be released where its guest stands: if it is bound, at position 0.
abbrev pub StartsHere : Plan → (id number : ℕ) → Dispatcher → Type 0
StartsHere p id number d = bound_by p id number ≡ true → position_by p id d ≡ 0
