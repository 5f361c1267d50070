-- Ticks over lent arrays: what is lent, and what each array holds after one and after several. Inner: the rule of a
-- tick (`dispatcher/specs/Tick`) does not name this.
use Rattle.std.specs.Prelude.{◌≡◌, List, ℕ, ◌+◌, ◌-◌, ◌*◌, ◌≤◌, ◌<◌, set, ltb}
use Rattle.lists.specs.Places.{nth, up_to}
use Rattle.lists.specs.Search.{first_from}
use Rattle.arrays.specs.Place.{place_at}
use Rattle.arrays.specs.Parts.{filled, onward, grown, fallen, has_left, has_run}
use Rattle.arrays.specs.Usage.{tallied}
use Rattle.steps.specs.declared.Turn.{Turn}
use Rattle.steps.specs.declared.Went.{Went}

-- what serving the arrays gives: nobody has the tick; the first guest with capacity left, k, idles it away; or its
-- first task with run left, t, has it
pub data Serves (n : ℕ) (tasks left rest : List ℕ) : (left' rest' : List ℕ) → Turn → Type 0 where
  nobody : {k : ℕ} → k ≡ first_from (has_left left) n 0 → n ≤ k
      → Serves n tasks left rest left rest (record { guest = k; task = 0; had = 0 })
  idles : {k t : ℕ} → k ≡ first_from (has_left left) n 0 → k < n → t ≡ first_from (has_run rest k) (nth tasks k) 0
      → nth tasks k ≤ t
      → Serves n tasks left rest (set left k (nth left k - 1)) rest (record { guest = k; task = t; had = 0 })
  works : {k t : ℕ} → k ≡ first_from (has_left left) n 0 → k < n → t ≡ first_from (has_run rest k) (nth tasks k) 0
      → t < nth tasks k
      → Serves n tasks left rest (set left k (nth left k - 1)) (set rest (place_at k t) (nth rest (place_at k t) - 1))
      (record { guest = k; task = t; had = nth rest (place_at k t) })

-- the numbers that a state holds beside its plan
pub record Numbers : Type 0 where
  pub left : List ℕ
  pub position : List ℕ
  pub rest : List ℕ
  pub wait : List ℕ
  pub age : List ℕ
  pub usage : List ℕ

-- one tick of n guests: the numbers before it and after it, and who had it
pub record Steps (n : ℕ) (capacities periods tasks : List ℕ) (b a : Numbers) (r : Turn) : Type 0 where
  pub served : Serves n tasks (up_to (filled b.position capacities) n b.left) b.rest a.left a.rest r
  pub moved : a.position ≡ up_to (onward periods) n b.position
  pub fell : a.wait ≡ up_to fallen (n * 16) b.wait
  pub grew : a.age ≡ up_to (grown b.rest) (n * 16) b.age
  pub counted : a.usage ≡ tallied (ltb r.guest n) (ltb 0 r.had) r.guest b.usage

-- ticks one after the other, of which none but the last may have finished a job: how many, the numbers after them, and
-- who had the last
pub data StepsTo (n : ℕ) (capacities periods tasks : List ℕ) (b : Numbers) : (done : ℕ) → Numbers → Turn → Type 0 where
  none : StepsTo n capacities periods tasks b 0 b (record { guest = 0; task = 0; had = 0 })
  more : {done : ℕ} {m a : Numbers} {t u : Turn} → StepsTo n capacities periods tasks b done m t → (t.had ≡ 1 → ⊥)
      → Steps n capacities periods tasks m a u
      → StepsTo n capacities periods tasks b (done + 1) a u

-- ticks until one finishes a job or their number is used up
pub record StepsOn (n : ℕ) (capacities periods tasks : List ℕ) (b a : Numbers) (ticks : ℕ) (r : Went) : Type 0 where
  pub steps : StepsTo n capacities periods tasks b r.done a r.turn
  pub most : r.done ≤ ticks
  pub over : (r.turn.had ≡ 1 → ⊥) → r.done ≡ ticks
