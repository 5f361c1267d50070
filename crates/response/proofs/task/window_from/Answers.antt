-- `response::task::window_from` meets its contract: no turn passes a solution, so the search ends at the least one or
-- past the room. Assumes nothing.
use Prim.Native.Nat.{◌-◌}
use native.Mathlib.Omega.{arith}
use Rattle.lists.specs.Places.{nth}
use Rattle.response.specs.Columns.{system_at}
use Rattle.rounding.proofs.EdgesLaws.{kept_behind, kept_most}
use Rattle.equation.proofs.Standing.{stands_under}
use Rattle.response.proofs.GuestLaws.{take_grows}
use Rattle.response.proofs.TaskLaws.{regular, load_is, finds_late, search_some, search_on, search_none, search_later, search_room, search_turn, search_found}
use Rattle.response.proofs.task.window_from.Goals as goal

pub returns-then-most-gap : goal.returns-then-most-gap
returns-then-most-gap c =
    finds_late (system_at _ _ _ _ c.args.tasks.now c.args.late.now) c.args.i
    (c.args.most - nth c.args.late.now c.args.i) _ 1 (omega arith) (λ z h e. h)

pub returns-then-room-from : goal.returns-then-room-from
returns-then-room-from c =
    let S = system_at c.args.servers.now c.args.n c.args.capacity c.args.period c.args.tasks.now c.args.late.now in
    let x = regular S (take_grows c.args.servers.now c.args.n) c.args.i c.requires.ready in
    let b = c.requires.begins in
    finds_late S c.args.i (c.args.most - nth c.args.late.now c.args.i) _ c.args.from
    (omega arith) (stands_under S c.args.i x.0 x.1 c.args.from b.stands)

pub move_on-requires : goal.move_on-requires
move_on-requires c =
    let b = c.requires.begins in
    let short = c.requires.most_le_longest in
    record {
      n_bound = (
        omega (arith, c.requires.above_in.1),
        (
          λ j h. omega (arith, short.0, short.1.0 j h, c.if-room-from.false),
          λ j h. omega (arith, short.1.1 j h),
        ),
      );
      behind = b.behind;
    }

pub overflow_add-load : goal.overflow_add-load
overflow_add-load c = omega (arith, kept_most c.move_on.ensures, c.requires.above_in.1)

pub loop-next-init : goal.loop-next-init
loop-next-init c =
    let S = system_at c.args.servers.now c.args.n c.args.capacity c.args.period c.args.tasks.now c.args.late.now in
    let x = regular S (take_grows c.args.servers.now c.args.n) c.args.i c.requires.ready in
    record {
      x = x.0;
      sure = x.1;
      short = omega (arith, c.requires.most_le_longest.0);
      high = omega arith;
      stands = c.requires.begins.stands;
      kept = c.move_on.ensures;
      is = load_is S c.args.i c.args.from _ _ c.from-own.ensures c.move_on.ensures.is;
    }

pub window_of-requires : goal.window_of-requires
window_of-requires c =
    let ready = c.requires.ready in
    let i = c.loop-next.invariant in
    record {
      above_in = (c.requires.above_in.0, ((ready.some, ready.within), (search_some i, i.short)));
      rising = search_on i;
    }

pub returns-in_err-next : goal.returns-in_err-next
returns-in_err-next c =
    rw c.from_residual.ensures (search_none c.loop-next.invariant c.in_err-next.ensures)

pub move_on-requires-in-loop-next : goal.move_on-requires-in-loop-next
move_on-requires-in-loop-next c =
    let i = c.loop-next.invariant in
    let short = c.requires.most_le_longest in
    let on = search_later i _ c.in_ok-next.ensures in
    record {
      n_bound = (
        omega (arith, c.requires.above_in.1),
        (λ j h. omega (arith, on.1, i.short, short.1.0 j h), λ j h. omega (arith, short.1.1 j h)),
      );
      behind = kept_behind i.kept _ on.0;
    }

pub overflow_add-more : goal.overflow_add-more
overflow_add-more c = omega (arith, kept_most c.move_on-in-loop-next.ensures, c.requires.above_in.1)

pub returns-then-more-load : goal.returns-then-more-load
returns-then-more-load c =
    search_found c.loop-next.invariant _ c.in_ok-next.ensures _ _
    c.move_on-in-loop-next.ensures
    (load_is (system_at c.args.servers.now c.args.n _ _ c.args.tasks.now c.args.late.now) c.args.i _ _ _
    c.from-own.ensures c.move_on-in-loop-next.ensures.is)
    (omega arith)

pub loop-next-smaller : goal.loop-next-smaller
loop-next-smaller c = omega (arith, search_room c.loop-next.invariant _ c.in_ok-next.ensures)

pub loop-next-preserved : goal.loop-next-preserved
loop-next-preserved c =
    search_turn c.loop-next.invariant _ c.in_ok-next.ensures _ _
    c.move_on-in-loop-next.ensures
    (load_is (system_at c.args.servers.now c.args.n _ _ c.args.tasks.now c.args.late.now) c.args.i _ _ _
    c.from-own.ensures c.move_on-in-loop-next.ensures.is)
