-- By the first test that passes the block over, or by its entries counted.
use mathlib.Core.Path.{◌≡◌, ap, ◌∙◌}
use Prim.Native.Nat.{◌*◌}
use native.Mathlib.Omega.{arith}
use borrow.Author.Rules.{rules}
use Rattle.std.proofs.Common.{Err}
use Rattle.logblock.specs.Layout.{most_jobs}
use Rattle.statement.specs.declared.Statement.{Statement}
use Rattle.statement.proofs.CountingLaws.{same_blocks}
use Rattle.statement.proofs.Block.{few_jobs, own_refuses, own_passes, plan_first, nineteen, passed_number, passed_after, countable, taken_number, taken_after}
use Rattle.statement.proofs.taking.take.Goals as goal

pub returns-in_err-own_number-clause-number : goal.returns-in_err-own_number-clause-number
returns-in_err-own_number-clause-number c =
    let q : c.from_residual.result ≡ Err c.in_err-own_number.field-0.0 = search rules in
    let e = own_refuses c.args.by.now.plan.now c.args.running.now.blocks c.args.b.now c.in_err-own_number.ensures in
    q ∙ passed_number _ _ c.args.running.now e.0 e.1

pub returns-in_err-own_number-clause-after : goal.returns-in_err-own_number-clause-after
returns-in_err-own_number-clause-after c =
    let e = own_refuses c.args.by.now.plan.now c.args.running.now.blocks c.args.b.now c.in_err-own_number.ensures in
    passed_after _ _ _ e.0 e.1

pub aim_all-requires : goal.aim_all-requires
aim_all-requires c =
    omega (arith, c.jobs_of-many.ensures, few_jobs (own_passes c.args.b.now c.in_ok-own_number.ensures))

pub returns-in_err-at-clause-number : goal.returns-in_err-at-clause-number
returns-in_err-at-clause-number c =
    let a = c.args in
    let B = own_passes a.b.now c.in_ok-own_number.ensures in
    let q : c.from_residual-in_err-at.result ≡ Err c.in_err-at.field-0.0 = search rules in
    let e = c.in_err-at.ensures in
    let m = rw c.jobs_of-many.ensures at e.1 in
    let f = plan_first a.by.now.plan.now a.running.now.blocks a.b.now B m e.0 in
    q ∙ passed_number _ _ a.running.now f e.0

pub returns-in_err-at-clause-after : goal.returns-in_err-at-clause-after
returns-in_err-at-clause-after c =
    let a = c.args in
    let B = own_passes a.b.now c.in_ok-own_number.ensures in
    let e = c.in_err-at.ensures in
    let m = rw c.jobs_of-many.ensures at e.1 in
    let f = plan_first a.by.now.plan.now a.running.now.blocks a.b.now B m e.0 in
    passed_after _ _ _ f e.0

pub returns-then-running-ge-MOST_BLOCKS-clause-number : goal.returns-then-running-ge-MOST_BLOCKS-clause-number
returns-then-running-ge-MOST_BLOCKS-clause-number c =
    let a = c.args in
    let B = own_passes a.b.now c.in_ok-own_number.ensures in
    let A = rw c.jobs_of-many.ensures at c.in_ok-at.ensures in
    let f = nineteen _ a.running.now.blocks _ B A c.if-running-ge-MOST_BLOCKS.true in
    passed_number _ _ a.running.now f (omega arith)

pub returns-then-running-ge-MOST_BLOCKS-clause-after : goal.returns-then-running-ge-MOST_BLOCKS-clause-after
returns-then-running-ge-MOST_BLOCKS-clause-after c =
    let a = c.args in
    let B = own_passes a.b.now c.in_ok-own_number.ensures in
    let A = rw c.jobs_of-many.ensures at c.in_ok-at.ensures in
    let f = nineteen _ a.running.now.blocks _ B A c.if-running-ge-MOST_BLOCKS.true in
    passed_after _ _ _ f (omega arith)

pub count_all-requires : goal.count_all-requires
count_all-requires c =
    let a = c.args in
    let B = own_passes a.b.now c.in_ok-own_number.ensures in
    let A = rw c.jobs_of-many.ensures at c.in_ok-at.ensures in
    let K = countable a.by.now.fits B A in
    let m = c.jobs_of-many.ensures in
    (rw m K, (most_jobs * a.running.now.blocks, (omega (arith, m, K.few), c.requires)))

pub overflow_add-running : goal.overflow_add-running
overflow_add-running c =
    let a = c.args in
    let same = same_blocks a.by.now.plan.now a.b.now c.jobs_of-many.result a.running.now in
    omega (arith, same, ap (λ (s : Statement). s.blocks) c.count_all.ensures)

pub returns-clause-number : goal.returns-clause-number
returns-clause-number c =
    let a = c.args in
    let B = own_passes a.b.now c.in_ok-own_number.ensures in
    let A = rw c.jobs_of-many.ensures at c.in_ok-at.ensures in
    taken_number a.by.now.fits B A a.running.now c.if-running-ge-MOST_BLOCKS.false

pub returns-clause-after : goal.returns-clause-after
returns-clause-after c =
    let a = c.args in
    let B = own_passes a.b.now c.in_ok-own_number.ensures in
    let A = rw c.jobs_of-many.ensures at c.in_ok-at.ensures in
    let counted = rw c.jobs_of-many.ensures at c.count_all.ensures in
    taken_after a.by.now.fits B A _ c.if-running-ge-MOST_BLOCKS.false counted
