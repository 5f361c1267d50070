-- What the capacities of a guest come to, under guests that take `above v` from v ticks, and what a turn of the search
-- leaves. Inner: no promise of an entry names this.
use Rattle.std.specs.Prelude.{◌≡◌, Bool, true, not, ◌&&◌, ℕ, min, ◌+◌, ◌-◌, ◌*◌, ◌/◌, ◌≤◌, leb, Option, Some, is_some}
use Rattle.std.specs.Option.{option_or}
use Rattle.lists.specs.Choice.{pick}
use Rattle.lists.specs.Places.{nth}
use Rattle.lists.specs.Search.{least}
use Rattle.equation.specs.Guest.{guest_under}
use Rattle.equation.specs.System.{System, gap_for, task_under}
use Rattle.plan.specs.Marks.{marked}
use Rattle.plan.specs.Ranges.{longest}
use Rattle.response.specs.Columns.{above_of, accepted_in}
use Rattle.response.specs.Ready.{AboveIn, ColumnsIn}
use Rattle.capacity.specs.declared.search.Search.{Search}
use Rattle.capacity.specs.declared.search.Span.{Span}

-- whether a guest with such a period is fitted at capacity c
unfoldable pub fits_at : (above : ℕ → ℕ) → (period c : ℕ) → Bool
fits_at above period c = is_some (guest_under above c period)

-- a guest at capacity c, seen from its tasks, run being the charged runs: J is 0 of a bound task, else T - c
abbrev pub tried_system : (above : ℕ → ℕ) → (period marks : ℕ) → (run every : ℕ → ℕ) → (c : ℕ) → System
tried_system above period marks run every c = record {
  capacity = c;
  period = period;
  above = above;
  run = run;
  every = every;
  gap = λ j. gap_for (marked marks j) (period - c);
}

-- whether it is fitted there and its first n tasks are met
unfoldable pub works_at : (above : ℕ → ℕ) → (period marks : ℕ) → (run every deadline : ℕ → ℕ) → (n c : ℕ) → Bool
works_at above period marks run every deadline n c = accepted_in (tried_system above period marks run every c) deadline n

-- whether task i is met there
abbrev pub met_at : (above : ℕ → ℕ) → (period marks : ℕ) → (run every deadline : ℕ → ℕ) → (i c : ℕ) → Bool
met_at above period marks run every deadline i c =
    is_some (task_under (tried_system above period marks run every c) i (deadline i))

-- whether it is fitted there and task i is met
unfoldable pub meets_at : (above : ℕ → ℕ) → (period marks : ℕ) → (run every deadline : ℕ → ℕ) → (i c : ℕ) → Bool
meets_at above period marks run every deadline i c =
    fits_at above period c && met_at above period marks run every deadline i c

-- the smallest capacity from lo on and below hi that works, or else the best before it
unfoldable pub smallest_of : (works : ℕ → Bool) → (lo hi : ℕ) → (best : Option ℕ) → Option ℕ
smallest_of works lo hi best = option_or (least works (hi - lo) lo) best

-- the capacities up to this one are tried one by one
abbrev pub few : ℕ
few = 32

-- The capacity to try next, of those from lo on and below hi: the lowest up to 32; then twice the lowest, until one was
-- found that works or is unfit, so that hi is at most the period; then the middle.
unfoldable pub next_try : (period lo hi : ℕ) → ℕ
next_try period lo hi =
    pick (leb lo few) lo (pick (leb hi period) (lo + (hi - lo) / 2) (min (2 * lo) (hi - 1)))

-- whether capacity c is too small: fitted, and does not work
abbrev pub too_small : (fit works : ℕ → Bool) → (c : ℕ) → Bool
too_small fit works c = fit c && not (works c)

-- where the capacities left to try begin after a turn: past the one tried where that is too small
unfoldable pub lo_after : (fit works : ℕ → Bool) → (period lo hi : ℕ) → ℕ
lo_after fit works period lo hi = let c = next_try period lo hi in pick (too_small fit works c) (c + 1) lo

-- where they end: at the one tried where that works or is unfit
unfoldable pub hi_after : (fit works : ℕ → Bool) → (period lo hi : ℕ) → ℕ
hi_after fit works period lo hi = let c = next_try period lo hi in pick (too_small fit works c) hi c

-- a capacity that was found to work is fitted, and none past it is left to try
abbrev pub Known : (fit : ℕ → Bool) → (hi : ℕ) → (best : Option ℕ) → Type 0
Known fit hi best = (b : ℕ) → best ≡ Some b → (hi ≤ b) × (fit b ≡ true)

-- A turn leaves the capacities on the one side of the one that it tried, and the same answer.
pub record Narrows (fit works : ℕ → Bool) (period : ℕ) (s r : Span) : Type 0 where
  pub low : r.lo ≡ lo_after fit works period s.lo s.hi
  pub high : r.hi ≡ hi_after fit works period s.lo s.hi
  pub same : smallest_of works r.lo r.hi r.best ≡ smallest_of works s.lo s.hi s.best

-- What a search reads is in its ranges: the servers above the place, the period, and the columns of the tasks, of which
-- there is one.
pub record SearchIn (s : Search) : Type 0 where
  pub above : AboveIn s.servers.now s.place
  pub some : 1 ≤ s.period
  pub short : s.period ≤ longest
  pub many : 1 ≤ s.tasks.now.count
  pub tasks : ColumnsIn s.tasks.now s.tasks.now.count

-- whether the guest that is searched for is fitted at capacity c
abbrev pub fits_in : Search → (c : ℕ) → Bool
fits_in s = fits_at (above_of s.servers.now s.place) s.period

-- whether it is fitted there and its task i is met
abbrev pub meets_in : Search → (i c : ℕ) → Bool
meets_in s =
    let t = s.tasks.now in
    meets_at (above_of s.servers.now s.place) s.period s.marks (nth t.run) (nth t.every) (nth t.deadline)

-- whether it is fitted there and all its tasks are met
abbrev pub works_in : Search → (c : ℕ) → Bool
works_in s =
    let t = s.tasks.now in
    works_at (above_of s.servers.now s.place) s.period s.marks (nth t.run) (nth t.every) (nth t.deadline) t.count
