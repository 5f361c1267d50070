-- `rows::rows_of` meets its contract: after k turns the first k rows say their guests. Assumes nothing.
use Rattle.std.proofs.Common.{◌≡◌, ◌<◌, ℕ, [], length, get_or}
use Rattle.plan.specs.Records.{guest_at}
use Rattle.rows.specs.Words.{guest_of}
use Rattle.rows.proofs.rows_of.Given as goal

abbrev pub invariant-loop-k : goal.invariant-loop-k
invariant-loop-k l = record {
  long : length l.rows ≡ 8;
  each : (j : ℕ) → j < l.k → guest_of (get_or l.rows j []) ≡ guest_at l.plan.guests j;
}
