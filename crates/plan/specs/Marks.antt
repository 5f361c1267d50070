-- The marks of a guest: one bit for each task, bit 0 for task 1. Those past its tasks are not looked at.
use Rattle.std.specs.Prelude.{Bool, not, ◌||◌, ℕ, ◌/◌, ◌%◌, ◌^◌, eqb}
use Rattle.plan.specs.declared.Guest.{Guest}

-- whether bit i of the marks is set
unfoldable pub marked : (marks i : ℕ) → Bool
marked marks i = eqb (marks / 2 ^ i % 2) 1

-- whether task i is bound to its guest's period
abbrev pub is_bound : Guest → ℕ → Bool
is_bound g i = marked g.marks i

-- whether task i may be released where its guest stands: anywhere, but a bound one at position 0 alone
unfoldable pub may_start : Guest → (position i : ℕ) → Bool
may_start g position i = not (is_bound g i) || eqb position 0

-- the marks of the first n tasks alone
unfoldable pub marks_of : (marks n : ℕ) → ℕ
marks_of marks n = marks % 2 ^ n

-- the marks of a guest's tasks, which alone are looked at
abbrev pub live_marks : Guest → ℕ
live_marks g = marks_of g.marks g.tasks
