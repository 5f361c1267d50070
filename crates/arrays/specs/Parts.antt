-- The parts of a tick, place by place, over lists. Inner: the rule of a tick (`dispatcher/specs/Tick`) does not name
-- this.
use Rattle.std.specs.Prelude.{ℕ, ◌+◌, ◌-◌, min, Bool, List, ◌==◌, nat_lt}
use Rattle.lists.specs.Choice.{pick}
use Rattle.lists.specs.Places.{nth}
use Rattle.plan.specs.Ranges.{longest}
use Rattle.arrays.specs.Place.{place_at}

-- the capacity left of guest k once those at position 0 are filled
abbrev pub filled : (position capacities : List ℕ) → ℕ → ℕ → ℕ
filled position capacities k left = pick ((nth position k) == 0) (nth capacities k) left

-- the position of guest k after the tick
abbrev pub onward : (periods : List ℕ) → ℕ → ℕ → ℕ
onward periods k position = pick (nat_lt (position + 1) (nth periods k)) (position + 1) 0

-- an age after the tick, by the runs left at its start
abbrev pub grown : (rest : List ℕ) → ℕ → ℕ → ℕ
grown rest k age = pick (nat_lt 0 (nth rest k)) (min (age + 1) longest) age

-- a wait after the tick
abbrev pub fallen : ℕ → ℕ → ℕ
fallen k wait = wait - 1

-- whether guest k has capacity left
abbrev pub has_left : (left : List ℕ) → ℕ → Bool
has_left left k = nat_lt 0 (nth left k)

-- whether task t of guest k has run left
abbrev pub has_run : (rest : List ℕ) → ℕ → ℕ → Bool
has_run rest k t = nat_lt 0 (nth rest (place_at k t))
