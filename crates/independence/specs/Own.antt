-- What of a history concerns a guest: the ticks, and the releases of its own tasks, singly or on sheets, in order. The
-- calls alone are looked at, not the states.
use Rattle.std.specs.Prelude.{Bool, true, false, ◌&&◌, List, [], ◌∷◌, ◌++◌, ℕ, eqb, leb, length}
use Rattle.sheet.specs.Sheet.{most_pairs, pair_guest, pair_task}
use Rattle.history.specs.Calls.{Call, releasing, ticking, running, sheeting}

-- One thing asked for, as it concerns the guest.
pub data Ask : Type 0 where
  -- A single tick.
  one_tick : Ask
  -- A run of at most so many ticks.
  a_run : (budget : ℕ) → Ask
  -- A release of that task of its own.
  own_release : (task : ℕ) → Ask

-- A release, by whether it is of a task of its own.
unfoldable pub own_if : Bool → (task : ℕ) → List Ask
own_if true task = own_release task ∷ []
own_if false task = []

-- What the pairs of a sheet ask for: the releases of the guest's own tasks, in order.
unfoldable pub asks_pairs : (id : ℕ) → (pairs : List ℕ) → List Ask
asks_pairs id [] = []
asks_pairs id (pair ∷ pairs) = own_if (eqb (pair_guest pair) id) (pair_task pair) ++ asks_pairs id pairs

-- Whether a sheet is called with at most 256 pairs and a place for each answer. Otherwise it is refused whole, whatever
-- the state.
abbrev pub sheet_fits : (pairs : List ℕ) (room : ℕ) → Bool
sheet_fits pairs room = leb (length pairs) most_pairs && leb (length pairs) room

-- What a sheet asks for, by whether it fits. A sheet that is refused whole counts as no releases.
unfoldable pub asks_sheet : (fits : Bool) → (id : ℕ) → (pairs : List ℕ) → List Ask
asks_sheet true id pairs = asks_pairs id pairs
asks_sheet false id pairs = []

-- What a call asks for: the release of another guest's task leaves nothing.
unfoldable pub asks : (id : ℕ) → Call → List Ask
asks id (releasing guest task) = own_if (eqb guest id) task
asks id ticking = one_tick ∷ []
asks id (running n) = a_run n ∷ []
asks id (sheeting pairs room) = asks_sheet (sheet_fits pairs room) id pairs

-- What a history asks for, as it concerns the guest with that id.
unfoldable pub own : (id : ℕ) → List Call → List Ask
own id [] = []
own id (c ∷ cs) = asks id c ++ own id cs

-- The call that asks for it.
unfoldable pub as_call : (id : ℕ) → Ask → Call
as_call id one_tick = ticking
as_call id (a_run n) = running n
as_call id (own_release task) = releasing id task

-- The calls that ask for these things, in order.
unfoldable pub as_calls : (id : ℕ) → List Ask → List Call
as_calls id [] = []
as_calls id (a ∷ more) = as_call id a ∷ as_calls id more

-- The history with all other guests' releases taken away.
abbrev pub only : (id : ℕ) → List Call → List Call
only id cs = as_calls id (own id cs)
