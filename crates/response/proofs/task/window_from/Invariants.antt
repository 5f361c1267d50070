-- `response::task::window_from` meets its contract: no turn passes a solution, so the search ends at the least one or
-- past the room. Assumes nothing.
use Prim.Native.Nat.{◌+◌, ◌-◌}
use Rattle.response.specs.Columns.{system_at}
use Rattle.response.proofs.TaskLaws.{Searching}
use Rattle.response.proofs.task.window_from.Given as goal

abbrev pub invariant-loop-next : goal.invariant-loop-next
invariant-loop-next l =
    Searching (system_at l.servers l.n l.capacity l.period l.tasks l.late) l.i l.room l.edges l.w l.load

abbrev pub decreases-loop-next : goal.decreases-loop-next
decreases-loop-next l =
    l.room + 1 - l.load
