-- `response::task::whole_of` meets its contract: a load of at least 1 takes at least one server period. Assumes nothing.
use mathlib.Core.Path.{ap}
use Prim.Native.Nat.{ℕ, ◌-◌}
use native.Mathlib.Omega.{arith}
use Rattle.rounding.proofs.Up.{blocks}
use Rattle.response.proofs.task.whole_of.Goals as goal

pub overflow_sub-result : goal.overflow_sub-result
overflow_sub-result c =
    let a = c.args in
    omega (arith, c.quotient.ensures.0, (blocks a.load a.capacity c.requires.1 c.requires.0).count)

pub returns : goal.returns
returns c =
    let a = c.args in
    let lies = (blocks a.load a.capacity c.requires.1 c.requires.0).more in
    let e = c.quotient.ensures.0 in
    (ap (λ (q : ℕ). q - 1) e, rw e lies)
