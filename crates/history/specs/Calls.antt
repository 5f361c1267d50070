-- Histories of calls: releases, sheets of them, ticks and runs in any order, with any arguments, refused or not.
use Rattle.std.specs.Prelude.{◌≡◌, List, [], ◌∷◌, ◌++◌, ℕ, zero, suc, ◌+◌, ◌<◌, length}
use Rattle.plan.specs.declared.Plan.{Plan}
use Rattle.plan.specs.Periodic.{start_refusal}
use Rattle.dispatcher.specs.declared.Dispatcher.{Dispatcher}
use Rattle.dispatcher.specs.declared.Answer.{Answer}
use Rattle.dispatcher.specs.declared.Answer.TheVariants.{Silent, Nobody, Idled, Worked, Finished}
use Rattle.dispatcher.specs.Fresh.{fresh}
use Rattle.dispatcher.specs.Release.{release}
use Rattle.dispatcher.specs.Entries.{tick, run}
use Rattle.lists.specs.Places.{nth}
use Rattle.sheet.specs.Sheet.{pair_guest, pair_task, state_after, sheet}

-- the fresh dispatcher of a plan's records
abbrev pub start : Plan → Dispatcher
start p = (fresh p).state

-- the fresh start of a plan's records is not refused: they are in order, and no guest is Deferrable
abbrev pub CanStart : Plan → Type 0
CanStart p = (start_refusal p).number ≡ 0

-- a call of the dispatcher
pub data Call : Type 0 where
  releasing : (guest task : ℕ) → Call
  ticking : Call
  running : (budget : ℕ) → Call
  sheeting : (pairs : List ℕ) (room : ℕ) → Call

-- the state after a call
unfoldable pub after : Call → Dispatcher → Dispatcher
after (releasing guest task) d = (release d guest task).state
after ticking d = (tick d).state
after (running n) d = (run d n).state
after (sheeting pairs room) d = (sheet d pairs room).state

-- the state after a history of calls
unfoldable pub play : List Call → Dispatcher → Dispatcher
play [] d = d
play (c ∷ cs) d = play cs (after c d)

-- the state after a history from the fresh start, and then a release of the task
abbrev pub released : Plan → (guest task : ℕ) → List Call → Dispatcher
released p guest task cs = after (releasing guest task) (play cs (start p))

-- n calls of a tick
unfoldable pub times : ℕ → List Call
times zero = []
times (suc n) = ticking ∷ times n

-- the answer of a tick, if there was one
unfoldable pub listed : Answer → List Answer
listed Silent = []
listed Nobody = Nobody ∷ []
listed (Idled guest) = Idled guest ∷ []
listed (Worked guest task) = Worked guest task ∷ []
listed (Finished guest task age margin) = Finished guest task age margin ∷ []

-- the answers of n single ticks, in order
unfoldable pub singles : ℕ → Dispatcher → List Answer
singles zero d = []
singles (suc n) d = listed (tick d).answer ++ singles n (tick d).state

-- how many ticks a call does: a refused tick none, and a run says it itself
unfoldable pub ticks_of : Call → Dispatcher → ℕ
ticks_of (releasing guest task) d = 0
ticks_of ticking d = length (listed (tick d).answer)
ticks_of (running n) d = (run d n).done
ticks_of (sheeting pairs room) d = 0

-- how many ticks a history does
unfoldable pub ticks_in : List Call → Dispatcher → ℕ
ticks_in [] d = 0
ticks_in (c ∷ cs) d = ticks_of c d + ticks_in cs (after c d)

-- the answers of the ticks of a history, in order; a run's are those of its single ticks
unfoldable pub answers : List Call → Dispatcher → List Answer
answers [] d = []
answers (c ∷ cs) d = singles (ticks_of c d) d ++ answers cs (after c d)

-- the answer that a call hands back: a tick's own, a run's last, and none of a release
unfoldable pub answer_of : Call → Dispatcher → Answer
answer_of (releasing guest task) d = Silent
answer_of ticking d = (tick d).answer
answer_of (running n) d = (run d n).answer
answer_of (sheeting pairs room) d = Silent

-- the number that a call is refused by, 0 where it is not
unfoldable pub call_number : Call → Dispatcher → ℕ
call_number (releasing guest task) d = (release d guest task).refusal.number
call_number ticking d = (tick d).refusal.number
call_number (running n) d = (run d n).refusal.number
call_number (sheeting pairs room) d = (sheet d pairs room).refusal.number

-- Something holds of each release of a call and the state that it meets: of the release, or of each pair of a sheet,
-- in order. A sheet that is refused whole holds none.
unfoldable pub EachRelease : ((guest task : ℕ) → Dispatcher → Type 0) → Call → Dispatcher → Type 0
EachRelease P (releasing guest task) d = P guest task d
EachRelease P ticking d = Unit {0}
EachRelease P (running n) d = Unit {0}
EachRelease P (sheeting pairs room) d =
    (sheet d pairs room).refusal.number ≡ 0
    → (i : ℕ)
    → i < length pairs
    → P (pair_guest (nth pairs i)) (pair_task (nth pairs i)) (state_after d pairs i)

-- Something holds of each release of a history and the state that it meets.
unfoldable pub Throughout : ((guest task : ℕ) → Dispatcher → Type 0) → List Call → Dispatcher → Type 0
Throughout P [] d = Unit {0}
Throughout P (c ∷ cs) d = EachRelease P c d × Throughout P cs (after c d)

-- A release is one of that task, and it is taken.
abbrev pub Takes : (g t : ℕ) → Dispatcher → (guest task : ℕ) → Type 0
Takes g t d guest task = (g ≡ guest) × ((t ≡ task) × ((release d g t).refusal.number ≡ 0))

-- No release of that task is taken in the history.
abbrev pub NoneTaken : (guest task : ℕ) → List Call → Dispatcher → Type 0
NoneTaken guest task = Throughout (λ g t d. Takes g t d guest task → ⊥)
