-- What a taken release sets, row by row over lent arrays. Inner: no promise of an entry names this.
use Rattle.std.specs.Prelude.{◌≡◌, List, ℕ, ◌≤◌, ◌<◌, length}
use Rattle.lists.specs.Places.{nth}
use Rattle.plan.specs.declared.Guest.{Guest}
use Rattle.plan.specs.declared.Plan.{Plan}
use Rattle.plan.specs.Records.{guest_at, run_of, every_of}
use Rattle.plan.specs.Ranges.{most_tasks, longest}
use Rattle.plan.specs.Charge.{charged_run, charged}
use Rattle.arrays.specs.Place.{place_at}

-- At most 16 tasks, each with a run in its range.
pub record ShortRuns (g : Guest) : Type 0 where
  pub few : g.tasks ≤ most_tasks
  pub short : (t : ℕ) → t < g.tasks → run_of g t ≤ longest

-- Two arrays of 128 places.
pub record Long (runs periods : List ℕ) : Type 0 where
  pub runs_long : length runs ≡ 128
  pub periods_long : length periods ≡ 128

-- The row at place k of a guest with these columns is there up to task n, and the rows before it are as they were.
pub record RowTo (run every : List ℕ) (charge k n : ℕ) (runs₀ periods₀ runs periods : List ℕ) : Type 0 where
  pub runs_in : (t : ℕ) → t < n → nth runs (place_at k t) ≡ charged_run (nth run t) charge
  pub periods_in : (t : ℕ) → t < n → nth periods (place_at k t) ≡ nth every t
  pub runs_kept : (m : ℕ) → m < place_at k 0 → nth runs m ≡ nth runs₀ m
  pub periods_kept : (m : ℕ) → m < place_at k 0 → nth periods m ≡ nth periods₀ m
  pub long : Long runs periods

-- What a taken release sets, at each task's place: its charged run and its period.
pub record JobsOf (p : Plan) (runs periods : List ℕ) : Type 0 where
  pub run :
      (k t : ℕ)
      → k < p.count
      → t < (guest_at p.guests k).tasks
      → nth runs (place_at k t) ≡ charged (guest_at p.guests k) t
  pub period :
      (k t : ℕ)
      → k < p.count
      → t < (guest_at p.guests k).tasks
      → nth periods (place_at k t) ≡ every_of (guest_at p.guests k) t
