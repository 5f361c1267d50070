-- `response::met::first_unmet` meets its contract: the tasks passed are met, and the search for the next may begin where
-- that for the last ended. Assumes nothing.
use Prim.Native.Nat.{◌<◌}
use Rattle.lists.specs.Places.{nth}
use Rattle.response.specs.Columns.{system_at}
use Rattle.response.specs.Window.{Begins}
use Rattle.response.proofs.MetLaws.{MetSo}
use Rattle.response.proofs.met.first_unmet.Given as goal

abbrev pub invariant-loop-i : goal.invariant-loop-i
invariant-loop-i l =
    let S = system_at l.servers l.k l.capacity l.period l.tasks l.late in
    MetSo S (nth l.tasks.deadline) l.from l.tasks.count l.i × (l.i < l.tasks.count → Begins S l.i l.w l.edges)
