-- The equation of a guest under guests that take `above x` from x ticks.
use Rattle.std.specs.Prelude.{ℕ, ◌+◌, Option}
use Rattle.equation.specs.Solve.{solve}

-- the right side at x: the guest's capacity, and what the guests above take from x ticks
unfoldable pub guest_side : (above : ℕ → ℕ) → (capacity x : ℕ) → ℕ
guest_side above capacity x = capacity + above x

-- the guest's response: the least x from 1 to its period that is its own right side
unfoldable pub guest_under : (above : ℕ → ℕ) → (capacity period : ℕ) → Option ℕ
guest_under above capacity period = solve (guest_side above capacity) period
