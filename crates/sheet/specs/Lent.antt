-- A sheet over lent arrays, apart from the plan. Inner: no promise of an entry names this.
use Rattle.std.specs.Prelude.{◌≡◌, not, List, [], ◌∷◌, ◌++◌, ℕ, ◌-◌, ◌<◌, eqb, ltb, length, drop, Result, Ok, Err}
use Rattle.lists.specs.Places.{nth}
use Rattle.lists.specs.Refusals.{refusal, ◌or_refuse◌}
use Rattle.lists.specs.Search.{first_from}
use Rattle.lists.specs.Table.{table}
use Rattle.plan.specs.declared.Plan.{Plan}
use Rattle.plan.specs.Marks.{marked}
use Rattle.plan.specs.Place.{has_number}
use Rattle.plan.specs.Records.{guest_at}
use Rattle.arrays.specs.Place.{place_at}
use Rattle.jobs.specs.Rows.{JobsOf}
use Rattle.jobs.specs.Barred.{barred_by}
use Rattle.dispatcher.specs.declared.Dispatcher.{Dispatcher}
use Rattle.sheet.specs.Sheet.{state_after, answer_to}

-- The columns of a plan's n guests that a sheet looks at: ids, numbers of tasks, the tasks that may not be released
-- where the guests stand, and what a taken release sets.
pub record SheetColumns (p : Plan) (n : ℕ) (position ids tasks barred runs periods : List ℕ) : Type 0 where
  pub count : p.count ≡ n
  pub id : (k : ℕ) → k < n → nth ids k ≡ (guest_at p.guests k).id
  pub many : (k : ℕ) → k < n → nth tasks k ≡ (guest_at p.guests k).tasks
  pub bars : (k : ℕ) → k < n → nth barred k ≡ barred_by (guest_at p.guests k).marks (nth position k)
  pub jobs : JobsOf p runs periods

-- The place of a guest in a column of n ids, or n where it is not there.
abbrev pub place_in : (n : ℕ) (ids : List ℕ) (id : ℕ) → ℕ
place_in n ids id = first_from (λ j. eqb (nth ids j) id) n 0

-- The number that refuses a release of a task of a guest by its id, by the columns.
unfoldable pub lent_number : (n : ℕ) (ids tasks barred rest wait : List ℕ) (id task : ℕ) → ℕ
lent_number n ids tasks barred rest wait id task =
    let k = place_in n ids id in
    let t = task - 1 in
    refusal (
    ltb k n or_refuse 7
    ∷ has_number (nth tasks k) task or_refuse 8
    ∷ not (marked (nth barred k) t) or_refuse 17
    ∷ eqb (nth wait (place_at k t)) 0 or_refuse 9
    ∷ eqb (nth rest (place_at k t)) 0 or_refuse 10
    ∷ [])

-- The place of a task whose release no number refuses, or the number that refuses it.
abbrev pub Aimed : (n : ℕ) (ids tasks barred rest wait : List ℕ) (id task : ℕ) → Result ℕ ℕ → Type 0
Aimed n ids tasks barred rest wait id task (Ok at) =
    (lent_number n ids tasks barred rest wait id task ≡ 0)
    × ((at ≡ place_at (place_in n ids id) (task - 1)) × (at < 128))
Aimed n ids tasks barred rest wait id task (Err x) = (lent_number n ids tasks barred rest wait id task ≡ x) × (0 < x)

-- All pairs released, and answered in the lent places.
pub record AllTaken (d after : Dispatcher) (pairs before answers : List ℕ) : Type 0 where
  pub state : after ≡ state_after d pairs (length pairs)
  pub answer : answers ≡ table (answer_to d pairs) (length pairs) ++ drop (length pairs) before
