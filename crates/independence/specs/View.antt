-- A guest's view of a history: its own events in order, the answers of its releases and one event for each tick done.
use Rattle.std.specs.Prelude.{Bool, true, false, List, [], ◌∷◌, ◌++◌, ℕ, zero, suc, eqb}
use Rattle.lists.specs.Choice.{pick}
use Rattle.dispatcher.specs.declared.Dispatcher.{Dispatcher}
use Rattle.dispatcher.specs.declared.Answer.{Answer}
use Rattle.dispatcher.specs.declared.Answer.TheVariants.{Silent, Nobody, Idled, Worked, Finished}
use Rattle.dispatcher.specs.Release.{release}
use Rattle.dispatcher.specs.Entries.{tick, run}
use Rattle.sheet.specs.Sheet.{pair_guest, pair_task, pair_released, sheet}
use Rattle.history.specs.Calls.{Call, releasing, ticking, running, sheeting, after, singles}
use Rattle.independence.specs.Event.{Event, answered, elsewhere, idled, worked, finished}

-- What the guest with that id can tell of a tick, by the tick's answer. Of another guest's tick it can tell no more
-- than that it was not its own; where no tick was done there is nothing to tell.
unfoldable pub told : (id : ℕ) → Answer → List Event
told id Silent = []
told id Nobody = elsewhere ∷ []
told id (Idled guest) = pick (eqb guest id) idled elsewhere ∷ []
told id (Worked guest task) = pick (eqb guest id) (worked task) elsewhere ∷ []
told id (Finished guest task age margin) = pick (eqb guest id) (finished task age margin) elsewhere ∷ []

-- What it can tell of several ticks, in order.
unfoldable pub told_all : (id : ℕ) → List Answer → List Event
told_all id [] = []
told_all id (a ∷ more) = told id a ++ told_all id more

-- What it can tell of a release, by whether that is of a task of its own.
unfoldable pub answered_if : Bool → (task number : ℕ) → List Event
answered_if true task number = answered task number ∷ []
answered_if false task number = []

-- What it can tell of the pairs of a sheet, released one by one: the answers of its own pairs, in order.
unfoldable pub sees_pairs : (id : ℕ) → (pairs : List ℕ) → Dispatcher → List Event
sees_pairs id [] d = []
sees_pairs id (pair ∷ pairs) d =
    answered_if (eqb (pair_guest pair) id) (pair_task pair) (pair_released d pair).refusal.number
    ++ sees_pairs id pairs (pair_released d pair).state

-- What it can tell of a sheet, by the number of the whole refusal, 0 for none. A sheet that is refused whole counts as
-- no releases.
unfoldable pub sees_sheet : (number : ℕ) → (id : ℕ) → (pairs : List ℕ) → Dispatcher → List Event
sees_sheet zero id pairs d = sees_pairs id pairs d
sees_sheet (suc n) id pairs d = []

-- What it can tell of a call.
unfoldable pub sees : (id : ℕ) → Call → Dispatcher → List Event
sees id (releasing guest task) d = answered_if (eqb guest id) task (release d guest task).refusal.number
sees id ticking d = told id (tick d).answer
sees id (running n) d = told_all id (singles (run d n).done d)
sees id (sheeting pairs room) d = sees_sheet (sheet d pairs room).refusal.number id pairs d

-- What it can tell of a history of calls.
unfoldable pub view : (id : ℕ) → List Call → Dispatcher → List Event
view id [] d = []
view id (c ∷ cs) d = sees id c d ++ view id cs (after c d)
