-- A guest's row: its record, its two numbers and the three of each of its 16 places. Inner: no promise of an entry
-- names this.
use Rattle.std.specs.Prelude.{Bool, ◌&&◌, List, ℕ, ltb}
use Rattle.lists.specs.Choice.{pick}
use Rattle.lists.specs.Places.{nth}
use Rattle.lists.specs.All.{all_to}
use Rattle.plan.specs.declared.Guest.{Guest}
use Rattle.plan.specs.Ranges.{most_tasks, guest_ok, tasks_ok}
use Rattle.plan.specs.Server.{is_periodic}
use Rattle.plan.specs.Charge.{charged_run}
use Rattle.arrays.specs.Place.{place_at}
use Rattle.arrays.specs.Ranges.{server_ok, no_server, job_ok, no_job}

-- whether the three numbers of place t of guest k, of which `many` are tasks, are in their ranges
abbrev pub job_in : (rest wait age run every : List ℕ) (charge k many t : ℕ) → Bool
job_in rest wait age run every charge k many t =
    pick (ltb t many)
    (job_ok (charged_run (nth run t) charge) (nth every t) (nth rest (place_at k t)) (nth wait (place_at k t))
    (nth age (place_at k t)))
    (no_job (nth rest (place_at k t)) (nth wait (place_at k t)) (nth age (place_at k t)))

-- whether the three numbers of place t of row k, past the guests, are 0
abbrev pub blank_at : (rest wait age : List ℕ) (k t : ℕ) → Bool
blank_at rest wait age k t = no_job (nth rest (place_at k t)) (nth wait (place_at k t)) (nth age (place_at k t))

-- whether guest g at place k is in its ranges: its record, that it is Periodic, its two numbers and those of its 16
-- places
unfoldable pub guest_is_ok : Guest → (k left position : ℕ) (rest wait age : List ℕ) → Bool
guest_is_ok g k left position rest wait age =
    (guest_ok g && tasks_ok g)
    && (is_periodic g && server_ok g.capacity g.period left position
    && all_to (job_in rest wait age g.run g.every g.charge k g.tasks) most_tasks)

-- whether row k, past the guests, is blank
unfoldable pub row_is_blank : (k left position : ℕ) (rest wait age : List ℕ) → Bool
row_is_blank k left position rest wait age = no_server left position && all_to (blank_at rest wait age k) most_tasks
