-- Laws of a guest's move. Assumes nothing.
use mathlib.Core.Path.{◌≡◌}
use Prim.Native.Nat.{ℕ, zero, suc, ◌+◌, ◌*◌, ◌≤◌, ◌<◌}
use native.Mathlib.Omega.{arith}
use Rattle.windows.specs.GuestTick.{Moved}
use Rattle.windows.specs.GuestTick.Moved.{on, over}

-- after its move a position is inside the period
pub moved_inside : {cap per p l q h : ℕ} → Moved cap per p l q h → q < per
moved_inside (on a b e) = omega arith
moved_inside (over a b e) = omega arith

-- how many periods begin at a position: 1 at a period's start, else 0
unfoldable pub begun : ℕ → ℕ
begun zero = 1
begun (suc p) = 0

-- what a guest may hold after its move: what it had left, and a whole capacity more at a period's start
pub held_le : {cap per p l q h : ℕ} → Moved cap per p l q h → h ≤ l + begun q * cap
unfolding begun
held_le (on a b e) = omega arith
held_le {cap = c} (over a b e) = rw b (omega arith)

-- a window of y ticks with its count goes on, and counts a period's start
pub count_on : {cap per p l q h : ℕ} (m y : ℕ) → Moved cap per p l q h → m * per + p ≤ y + per
    → (m + begun q) * per + q ≤ suc y + per
unfolding begun
count_on {q = zero} m y (on a b e) i = absurd (omega arith)
count_on {q = suc q} m y (on a b e) i = omega arith
count_on m y (over a b e) i = rw b (omega arith)

-- a window that starts now counts a period's start alone
pub count_new : {cap per p l q h : ℕ} → Moved cap per p l q h → begun q * per + q ≤ 0 + per
unfolding begun
count_new {q = zero} (on a b e) = absurd (omega arith)
count_new {q = suc q} (on a b e) = omega arith
count_new (over a b e) = rw b (omega arith)

-- a guest keeps its ranges
pub most_on : {cap per p l q h : ℕ} → Moved cap per p l q h → l ≤ cap → h ≤ cap
most_on (on a b e) i = omega arith
most_on (over a b e) i = omega arith

-- what a guest used is at most its position
pub pace_on : {cap per p l q h : ℕ} → Moved cap per p l q h → cap ≤ l + suc p → cap ≤ h + q
pace_on (on a b e) i = omega arith
pace_on (over a b e) i = omega arith

-- while a guest is owed, the window covers its position
pub owed_on : {cap per p l q h : ℕ} (y : ℕ) → Moved cap per p l q h → (0 < l → p ≤ y) → 0 < h → q ≤ suc y
owed_on y (on a b e) i s = omega (arith, i (omega arith))
owed_on y (over a b e) i s = omega arith

-- a new window starts at a guest's position, if it is owed
pub owed_new : {cap per p l q h : ℕ} → Moved cap per p l q h → l ≡ 0 → 0 < h → q ≤ 0
owed_new (on a b e) i s = absurd (omega arith)
owed_new (over a b e) i s = omega arith
