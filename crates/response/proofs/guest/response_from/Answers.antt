-- `response::guest::response_from` meets its contract: x climbs and never passes a solution, so it ends at the least one
-- or past the most. Assumes nothing.
use mathlib.Core.Path.{◌≡◌}
use Prim.Native.Nat.{◌+◌}
use native.Mathlib.Omega.{arith}
use Rattle.response.specs.Columns.{above_of}
use Rattle.rounding.proofs.EdgesLaws.{kept_behind, kept_most}
use Rattle.response.proofs.GuestLaws.{take_grows, take_is, from_under, guest_turn, guest_found, guest_none}
use Rattle.response.proofs.guest.response_from.Goals as goal

pub returns-then-most-from : goal.returns-then-most-from
returns-then-most-from c = from_under _ _ _ _ c.requires.rising c.if-most-from.true

pub loop-capacities-init : goal.loop-capacities-init
loop-capacities-init c =
    let s = c.requires in (
      record {
        grows = take_grows _ _;
        short = s.above_in.1.1.1;
        low = s.above_in.1.1.0;
        high = omega arith;
        rising = s.rising;
      },
      c.none-edges.ensures _ _ _ _ _,
    )

pub overflow_add-next : goal.overflow_add-next
overflow_add-next c = omega (arith, kept_most c.move_on.ensures, c.requires.above_in.0.0)

pub returns-then-next-from : goal.returns-then-next-from
returns-then-next-from c =
    guest_found {y = c.args.capacity + c.move_on.new.self.sum} c.loop-capacities.invariant.0
    (omega (arith, take_is c.args.servers.now c.args.n c.loop-capacities.x c.move_on.new.self.sum c.move_on.ensures.is))
    (omega arith)

pub returns-then-from-next : goal.returns-then-from-next
returns-then-from-next c =
    guest_none {y = c.args.capacity + c.move_on.new.self.sum} c.loop-capacities.invariant.0
    (omega (arith, take_is c.args.servers.now c.args.n c.loop-capacities.x c.move_on.new.self.sum c.move_on.ensures.is))
    (omega arith)

pub loop-capacities-preserved : goal.loop-capacities-preserved
loop-capacities-preserved c =
    let e : c.from.result + c.move_on.new.self.sum
    ≡ c.args.capacity + above_of c.args.servers.now c.args.n c.loop-capacities.x =
    omega (arith, take_is c.args.servers.now c.args.n c.loop-capacities.x c.move_on.new.self.sum c.move_on.ensures.is) in (
      guest_turn c.loop-capacities.invariant.0 e (omega arith) (omega arith),
      kept_behind c.move_on.ensures _ (omega arith),
    )
