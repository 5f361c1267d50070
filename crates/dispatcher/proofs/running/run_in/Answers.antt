-- By the refusals in order, then by what the steps did: no tick, a last tick that finished a job, or one that did not.
use Rattle.std.specs.Prelude.{Some, None}
use Rattle.dispatcher.specs.declared.Dispatcher.{Dispatcher}
use Rattle.dispatcher.specs.Lent.{state_of, Gone}
use Rattle.dispatcher.specs.LentCheck.{InRange}
use Rattle.dispatcher.proofs.Valid.{ok_plan}
use Rattle.dispatcher.proofs.LentCheck.{examines}
use Rattle.dispatcher.proofs.Answers.{fits, task_small}
use Rattle.dispatcher.proofs.Lent.{small_tasks, telling, ending}
use Rattle.dispatcher.proofs.Run.{gone_in}
use Rattle.dispatcher.proofs.Entries.{run_refused, run_long, run_idle, run_done}
use Rattle.dispatcher.proofs.running.run_in.Given.{Over}
use Rattle.dispatcher.proofs.running.run_in.Goals.{Else-not-examine, After-steps-went}
use Rattle.dispatcher.proofs.running.run_in.Goals as goal

-- the state that is lent, which is in its ranges
abbrev lent : (g : Over) → Else-not-examine g → Dispatcher
lent g c =
    let a = c.args in
    state_of (g.P.AsPlan.plan a.plan.now) a.left.now a.position.now a.rest.now a.wait.now a.age.now a.usage.now

in_range : (g : Over) (c : Else-not-examine g) → InRange (lent g c) c.examine.new.columns
in_range g c = examines (lent g c) (Some c.examine.new.columns) (rw c.if-not-examine.false at c.examine.ensures)

-- the same after the steps, which are a run
abbrev before : (g : Over) → After-steps-went g → Dispatcher
before g c =
    let a = c.args in
    state_of (g.P.AsPlan.plan a.plan.now) a.left.now a.position.now a.rest.now a.wait.now a.age.now a.usage.now

abbrev after : (g : Over) → After-steps-went g → Dispatcher
after g c =
    let n = c.steps-went.new in
    state_of (g.P.AsPlan.plan c.args.plan.now) n.left n.position n.rest n.wait n.age n.usage

was_in_range : (g : Over) (c : After-steps-went g) → InRange (before g c) c.examine.new.columns
was_in_range g c = examines (before g c) (Some c.examine.new.columns) (rw c.if-not-examine.false at c.examine.ensures)

went : (g : Over) (c : After-steps-went g) → Gone (before g c) c.args.ticks c.steps-went.result.done c.steps-went.result.turn (after g c)
went g c = gone_in (was_in_range g c) (rw c.count-n.ensures at c.steps-went.ensures)

pub returns-then-not-examine-clause-ran : goal.returns-then-not-examine-clause-ran
returns-then-not-examine-clause-ran g c = run_refused _ _ (examines _ None (rw c.if-not-examine.true at c.examine.ensures))

pub returns-then-ticks-gt-LONGEST_RUN-clause-ran : goal.returns-then-ticks-gt-LONGEST_RUN-clause-ran
returns-then-ticks-gt-LONGEST_RUN-clause-ran g c =
    run_long _ _ (in_range g (goal.at.returns-then-ticks-gt-LONGEST_RUN-clause-ran g c).Else-not-examine).okay c.if-ticks-gt-LONGEST_RUN.true

pub steps-went-requires : goal.steps-went-requires
steps-went-requires g c =
    let x = in_range g (goal.at.steps-went-requires g c).Else-not-examine in
    rw c.count-n.ensures (small_tasks (ok_plan _ x.okay) x.columns)

pub returns-then-went-lt1-clause-ran : goal.returns-then-went-lt1-clause-ran
returns-then-went-lt1-clause-ran g c =
    let s = (goal.at.returns-then-went-lt1-clause-ran g c).After-steps-went in
    run_idle (was_in_range g s).okay c.if-ticks-gt-LONGEST_RUN.false (went g s) c.if-went-lt1.true

pub finished-requires : goal.finished-requires
finished-requires g c =
    let s = (goal.at.finished-requires g c).After-steps-went in
    fits (ending (ok_plan _ (was_in_range g s).okay) ((went g s).last c.if-went-lt1.false) c.if-went-eq1.true)

pub returns-then-went-eq1-clause-ran : goal.returns-then-went-eq1-clause-ran
returns-then-went-eq1-clause-ran g c =
    let s = (goal.at.returns-then-went-eq1-clause-ran g c).After-steps-went in
    let w = went g s in
    let o = (was_in_range g s).okay in
    run_done o c.if-ticks-gt-LONGEST_RUN.false w c.if-went-lt1.false
    (c.finished.ensures w.before (ending (ok_plan _ o) (w.last c.if-went-lt1.false) c.if-went-eq1.true))

pub unfinished-requires-clause-few : goal.unfinished-requires-clause-few
unfinished-requires-clause-few g c =
    let x = was_in_range g (goal.at.unfinished-requires-clause-few g c).After-steps-went in
    rw c.count-n.ensures (small_tasks (ok_plan _ x.okay) x.columns).guests

pub unfinished-requires-clause-small : goal.unfinished-requires-clause-small
unfinished-requires-clause-small g c =
    let s = (goal.at.unfinished-requires-clause-small g c).After-steps-went in
    let x = was_in_range g s in
    λ h. task_small (telling (ok_plan _ x.okay) ((went g s).last c.if-went-lt1.false) c.count-n.ensures x.columns c.if-went-eq1.false) h

pub returns-clause-ran : goal.returns-clause-ran
returns-clause-ran g c =
    let s = (goal.at.returns-clause-ran g c).After-steps-went in
    let w = went g s in
    let x = was_in_range g s in
    run_done x.okay c.if-ticks-gt-LONGEST_RUN.false w c.if-went-lt1.false
    (c.unfinished.ensures w.before
    (telling (ok_plan _ x.okay) (w.last c.if-went-lt1.false) c.count-n.ensures x.columns c.if-went-eq1.false))
