-- The loop's invariant: the pairs passed are released and answered.
use Rattle.std.proofs.Common.{◌≡◌, true, List, ℕ}
use Rattle.plan.specs.declared.Plan.{Plan}
use Rattle.dispatcher.specs.Valid.{state_ok}
use Rattle.dispatcher.specs.Lent.{state_of}
use Rattle.sheet.specs.Lent.{SheetColumns}
use Rattle.sheet.proofs.Sheet.{TakenTo}
use Rattle.sheet.proofs.pairs.take_all.Given as goal

abbrev pub invariant-loop-i : goal.invariant-loop-i
invariant-loop-i l =
    (p : Plan) (left position usage : List ℕ)
    → SheetColumns p l.sheet.n position l.sheet.columns.now.ids l.sheet.columns.now.tasks
    l.sheet.bars.now.barred l.sheet.runs.now l.sheet.periods.now
    → state_ok (state_of p left position l.initial.rest l.initial.wait l.initial.age usage) ≡ true
    → TakenTo l.i (state_of p left position l.initial.rest l.initial.wait l.initial.age usage)
    (state_of p left position l.rest l.wait l.age usage) l.pairs l.initial.answers l.answers
