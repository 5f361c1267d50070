-- The loop's invariant: the words passed stand.
use Rattle.std.proofs.Common.{◌≡◌, ℕ, ◌+◌, ◌<◌, length}
use Rattle.lists.specs.Places.{nth}
use Rattle.rows.proofs.column_at.Given as goal

abbrev pub invariant-loop-i : goal.invariant-loop-i
invariant-loop-i l = (length l.x ≡ 16) × ((k : ℕ) → k < l.i → nth l.x k ≡ nth l.row (l.first + k))
