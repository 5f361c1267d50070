-- Each tenant its independence. What a guest can tell of a history is the list of its own events (`view`): the answers
-- of its releases, and for each tick whether it was its own, idled away or worked by which task, and each finished job
-- with its age and margin. No other guest shows in it.
use mathlib.Core.Path.{◌≡◌}
use mathlib.Core.List.{List}
use Prim.Native.Nat.{ℕ}
use Rattle.plan.specs.declared.Plan.{Plan}
use Rattle.history.specs.Calls.{Call, start, CanStart}
use Rattle.verdict_laws.specs.Guests.{There}
use Rattle.independence.specs.NoRuns.{NoRuns}
use Rattle.independence.specs.Own.{own, only}
use Rattle.independence.specs.SameFor.{SameFor}
use Rattle.independence.specs.View.{view}
use Rattle.independence.proofs.Independence as proved

-- Take two plans that are the same for a guest (`SameFor`): neither start is refused, the guest stands at place k with the
-- same record, and the guests above it have the same capacities and periods. Take two histories of releases, sheets and
-- single ticks that agree on the ticks, and on that guest's own releases and when they come (`own`). All other records
-- and releases may differ. The guest then gets the same answers to its releases, the same ticks, and the same finished
-- jobs with the same ages and margins, in the same order. A sheet counts by that guest's own pairs, and one that is
-- refused whole counts as no releases. Runs of several ticks are left out, since a run stops at any guest's finish.
pub independence :
    (id k : ℕ) (p q : Plan)
    → SameFor id k p q
    → (cs ds : List Call)
    → NoRuns cs
    → NoRuns ds
    → own id cs ≡ own id ds
    → view id cs (start p) ≡ view id ds (start q)
independence = proved.independence

-- For one history this says: taking all other guests' releases away changes nothing that the guest can tell.
pub alone :
    (id k : ℕ) (p : Plan)
    → There p id k
    → CanStart p
    → (cs : List Call)
    → NoRuns cs
    → view id (only id cs) (start p) ≡ view id cs (start p)
alone = proved.alone
