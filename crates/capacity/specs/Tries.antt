-- How many tests the search makes: for each task, one at each capacity that it tries.
use Rattle.std.specs.Prelude.{Bool, true, false, ◌&&◌, ℕ, zero, suc, ◌+◌, ◌-◌, ◌*◌, leb, Option, Some, None}
use Rattle.lists.specs.All.{all_to}
use Rattle.lists.specs.Choice.{pick}
use Rattle.lists.specs.Search.{least}
use Rattle.plan.specs.Records.{guest_at}
use Rattle.plan.specs.declared.Plan.{Plan}
use Rattle.response.specs.Guest.{fitted}
use Rattle.response.specs.Met.{met}
use Rattle.capacity.specs.Capacity.{with_capacity}
use Rattle.capacity.specs.Search.{lo_after, hi_after}

-- the capacities tried of those from lo on and below hi, in at most so many turns as there is fuel: one in each turn
unfoldable pub tries_in : (fit works : ℕ → Bool) → (period fuel lo hi : ℕ) → ℕ
tries_in fit works period zero lo hi = 0
tries_in fit works period (suc fuel) lo hi =
    elim (leb hi lo) [
      | true ↦ 0
      | false ↦ suc (tries_in fit works period fuel (lo_after fit works period lo hi) (hi_after fit works period lo hi))
    ]

-- the capacities tried for one task of all those from c to the period: c itself, and where it does not work those past it
abbrev pub tries_from : (fit works : ℕ → Bool) → (period c : ℕ) → ℕ
tries_from fit works period c = suc (pick (works c) 0 (tries_in fit works period (period + 1) (c + 1) (period + 1)))

-- where the search of task i ends, that begins at c: at the smallest capacity from c on that is fitted and meets it
abbrev pub end_of : (fit : ℕ → Bool) → (m : ℕ → ℕ → Bool) → (period i c : ℕ) → Option ℕ
end_of fit m period i c = least (λ z. fit z && m i z) (period + 1 - c) c

-- the tests for so many tasks as are left, from task i on, the first search beginning at c: each task is searched from
-- where the one before it ended, and none after one that is met nowhere
unfoldable pub tests_in : (fit : ℕ → Bool) → (m : ℕ → ℕ → Bool) → (period left i c : ℕ) → ℕ
tests_in fit m period zero i c = 0
tests_in fit m period (suc left) i c =
    tries_from fit (λ z. fit z && m i z) period c
    + elim (end_of fit m period i c) [
      | Some d ↦ tests_in fit m period left (suc i) d
      | None ↦ 0
    ]

-- the tests for the guest at place k: none where a guest above is unfit
unfoldable pub tests_of : Plan → (k : ℕ) → ℕ
tests_of p k =
    elim (all_to (fitted p) k) [
      | true ↦ tests_in (λ c. fitted (with_capacity p k c) k) (λ i c. met (with_capacity p k c) k i)
          (guest_at p.guests k).period (guest_at p.guests k).tasks 0 1
      | false ↦ 0
    ]

-- the most tries for one task
abbrev pub most_tries : ℕ
most_tries = 66

-- the most tests for a guest of so many tasks
abbrev pub most_tests : (tasks : ℕ) → ℕ
most_tests tasks = 32 + 35 * tasks
