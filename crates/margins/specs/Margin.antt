-- The margin of a finished job.
use Rattle.std.specs.Prelude.{ℕ, ℤ, pos, ◌-ℤ◌}

-- The deadline less the age, negative when late.
unfoldable pub margin_of : (deadline age : ℕ) → ℤ
margin_of deadline age = pos deadline -ℤ pos age

-- The largest size of a margin: deadline and age are both 1 to 1,000,000.
abbrev pub widest : ℕ
widest = 999999
