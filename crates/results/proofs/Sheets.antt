-- P5, a sheet of releases: it is its releases one by one, and what is promised to a release is promised to each of
-- its pairs. `sheeting pairs room` calls a sheet with so many places for answers; `answer_to d pairs i` is the answer
-- to pair i, from 0, of a sheet that is called in the state d.
use mathlib.Core.Path.{◌≡◌}
use mathlib.Core.Bool.{true}
use mathlib.Core.List.{List}
use Prim.Native.Nat.{ℕ, ◌≤◌, ◌<◌}
use lib.ListN.{length}
use Rattle.lists.specs.Exactly.{◌exactly_when◌}
use Rattle.lists.specs.Places.{nth}
use Rattle.plan.specs.declared.Plan.{Plan}
use Rattle.verdict.specs.Quoted.{Quoted}
use Rattle.dispatcher.specs.declared.Dispatcher.{Dispatcher}
use Rattle.dispatcher.specs.Release.{release}
use Rattle.dispatcher.specs.Valid.{state_ok}
use Rattle.sheet.specs.Sheet.{most_pairs, pair_guest, pair_task, answer_to, sheet, answered}
use Rattle.history.specs.Calls.{Call, sheeting, start, after, play, released, ticks_in, NoneTaken, CanStart}
use Rattle.history.specs.Finished.{FinishedBy}
use Rattle.history.specs.Named.{every_by, deadline_by, StartsHere}
use Rattle.history.specs.Sheets.{releases, up_to_pair, PairOf, NotBefore}
use Rattle.sheet.proofs.Answered as places
use Rattle.sheet.proofs.Causes as causes
use Rattle.history.proofs.Pairs as pairs
use Rattle.history.proofs.Sheets as sheets

-- A sheet that is not refused whole leaves the state that its releases leave, one by one in order.
pub sheet_is_releases :
    (d : Dispatcher) (pairs : List ℕ) (room : ℕ)
    → (sheet d pairs room).refusal.number ≡ 0
    → after (sheeting pairs room) d ≡ play (releases pairs) d
sheet_is_releases = sheets.sheet_is_releases

-- The answer to pair i is the number of a single release of it, after the pairs before it.
pub answer_is_release :
    (d : Dispatcher) (cs : List Call) (pairs : List ℕ) (i : ℕ)
    → i ≤ length pairs
    → answer_to (play cs d) pairs i
    ≡ (release (play (up_to_pair cs pairs i) d) (pair_guest (nth pairs i)) (pair_task (nth pairs i))).refusal.number
answer_is_release = sheets.pair_is_release

module _ (d : Dispatcher) (pairs before : List ℕ) where
  -- Each pair of a sheet that is not refused whole is answered in its place.
  pub answered_each :
      (sheet d pairs (length before)).refusal.number ≡ 0
      → (i : ℕ)
      → i < length pairs
      → nth (answered d pairs before) i ≡ answer_to d pairs i
  answered_each = places.answered_each d pairs before

  -- Places past the pairs stay as they were.
  pub answered_past : (i : ℕ) → length pairs ≤ i → nth (answered d pairs before) i ≡ nth before i
  answered_past = places.answered_past d pairs before

  -- A sheet that is refused whole changes no answer place (nor the state: `call_alters_nothing`).
  pub unanswered : 0 < (sheet d pairs (length before)).refusal.number → answered d pairs before ≡ before
  unanswered = places.unanswered d pairs before

-- Whole refusals in their order: 14 for a state outside its ranges, 15 for more than 256 pairs, 12 for fewer answer
-- places than pairs.
pub fifteen_exactly :
    (d : Dispatcher) (pairs : List ℕ) (room : ℕ)
    → ((sheet d pairs room).refusal.number ≡ 15) exactly_when ((state_ok d ≡ true) × (most_pairs < length pairs))
fifteen_exactly = causes.fifteen_exactly

pub twelve_exactly :
    (d : Dispatcher) (pairs : List ℕ) (room : ℕ)
    → ((sheet d pairs room).refusal.number ≡ 12)
    exactly_when ((state_ok d ≡ true) × ((length pairs ≤ most_pairs) × (room < length pairs)))
twelve_exactly = causes.twelve_exactly

-- Our word covers each pair: `PairOf d pairs room i id number` says that the sheet is not refused whole in the state
-- d and that its pair i is a release of that task, and `NotBefore` that no earlier pair of the sheet that is one was
-- taken.
module _ (p : Plan) (id number R : ℕ) (quoted : Quoted p id number R) (can : CanStart p) where
  module _ (cs : List Call) (ps : List ℕ) (room i : ℕ) (Q : PairOf (play cs (start p)) ps room i id number) where
    -- A pair that is taken is finished by the R-th tick after the sheet.
    pub pair_finished_by_R :
        answer_to (play cs (start p)) ps i ≡ 0
        → (ds : List Call)
        → R ≤ ticks_in ds (after (sheeting ps room) (play cs (start p)))
        → FinishedBy R (deadline_by p id number) id number ds (after (sheeting ps room) (play cs (start p)))
    pair_finished_by_R = pairs.pair_finished_by_R p id number R quoted can cs ps room i Q

    -- A pair is taken if no release of the task was taken before, where it may start.
    pub pair_first_taken :
        NoneTaken id number cs (start p)
        → StartsHere p id number (play cs (start p))
        → NotBefore (play cs (start p)) ps i id number
        → answer_to (play cs (start p)) ps i ≡ 0
    pair_first_taken = pairs.pair_first_taken p id number R quoted can cs ps room i Q

    -- A pair is never refused by 10.
    pub pair_never_10 : answer_to (play cs (start p)) ps i ≡ 10 → ⊥
    pair_never_10 = pairs.pair_never_10 p id number R quoted can cs ps room i Q

  -- A pair is taken if at least the task's period of ticks was done since the last release of it that was taken, where
  -- it may start.
  pub pair_next_taken :
      (cs : List Call)
      → (release (play cs (start p)) id number).refusal.number ≡ 0
      → (ds : List Call)
      → NoneTaken id number ds (released p id number cs)
      → every_by p id number ≤ ticks_in ds (released p id number cs)
      → StartsHere p id number (play ds (released p id number cs))
      → (ps : List ℕ) (room i : ℕ)
      → PairOf (play ds (released p id number cs)) ps room i id number
      → NotBefore (play ds (released p id number cs)) ps i id number
      → answer_to (play ds (released p id number cs)) ps i ≡ 0
  pair_next_taken = pairs.pair_next_taken p id number R quoted can
