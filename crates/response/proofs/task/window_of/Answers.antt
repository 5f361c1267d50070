-- `response::task::window_of` meets its contract: what is left of the load climbs in its last server period. Assumes
-- nothing.
use mathlib.Core.Path.{refl, ◌∙◌}
use Prim.Native.Nat.{◌*◌}
use native.Mathlib.Omega.{arith}
use Rattle.response.specs.Columns.{above_of}
use Rattle.response.proofs.TaskLaws.{window_past, window_large, begun_rises, window_missing, window_is, window_within}
use Rattle.response.proofs.task.window_of.Goals as goal

pub returns-then-from-load : goal.returns-then-from-load
returns-then-from-load c =
    window_large (above_of c.args.servers.now c.args.n) _ c.args.period c.args.load c.args.room
    c.requires.above_in.1.0.0 c.requires.above_in.1.1.0 c.requires.above_in.1.0.1 (omega arith)

pub returns-then-from-start : goal.returns-then-from-start
returns-then-from-start c =
    window_past (above_of c.args.servers.now c.args.n) _ c.args.period c.args.load c.args.room
    c.requires.above_in.1.0.0 c.requires.above_in.1.1.0 {p = c.from-2.result * c.from-3.result} c.whole_of-m.ensures.0 (cc) refl (omega arith)

pub response_from-requires : goal.response_from-requires
response_from-requires c =
    let begins =
    begun_rises (above_of c.args.servers.now c.args.n) _ c.args.period c.args.load c.args.room
    c.requires.above_in.1.0.0 c.requires.above_in.1.1.0 {p = c.from-2.result * c.from-3.result} c.whole_of-m.ensures.0 (cc) refl
    c.args.w c.begun.result c.requires.rising c.begun.ensures in
    record {
      above_in = (
        c.requires.above_in.0,
        (omega (arith, c.whole_of-m.ensures.1), (begins.0, omega (arith, c.requires.above_in.1.1.1))),
      );
      rising = begins.1;
    }

pub returns-in_err-part : goal.returns-in_err-part
returns-in_err-part c =
    c.from_residual.ensures
    ∙ window_missing (above_of c.args.servers.now c.args.n) _ c.args.period c.args.load c.args.room
    c.requires.above_in.1.0.0 c.requires.above_in.1.1.0 {p = c.from-2.result * c.from-3.result} c.whole_of-m.ensures.0 (cc) refl c.in_err-part.ensures

pub overflow_add-result : goal.overflow_add-result
overflow_add-result c =
    omega (
      arith,
      c.requires.above_in.1.1.1,
      window_within (above_of c.args.servers.now c.args.n) _ c.args.period c.args.load c.args.room
          c.requires.above_in.1.0.0 c.requires.above_in.1.1.0 {p = c.from-2.result * c.from-3.result} c.whole_of-m.ensures.0 (cc) refl _
          (omega arith) c.in_ok-part.ensures,
    )

pub returns : goal.returns
returns c =
    window_is (above_of c.args.servers.now c.args.n) _ c.args.period c.args.load c.args.room
    c.requires.above_in.1.0.0 c.requires.above_in.1.1.0 {p = c.from-2.result * c.from-3.result} c.whole_of-m.ensures.0 (cc) refl _ c.in_ok-part.ensures
