-- A turn takes one block more or passes it over.
use mathlib.Core.Path.{◌≡◌}
use Prim.Native.Nat.{◌≤◌}
use Rattle.statement.specs.Call.{stated_over}
use Rattle.statement.proofs.taking.count_log.Given as goal

abbrev pub invariant-loop-k : goal.invariant-loop-k
invariant-loop-k l = (l.stated.passed ≤ l.k) × (l.stated ≡ stated_over l.plan l.log l.k l.fn.stated.statement)
