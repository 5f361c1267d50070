-- Numbers small enough for a sum of 16. Inner: no promise of an entry names this.
use Rattle.std.specs.Prelude.{List, ℕ, ◌+◌, ◌<◌}
use Rattle.lists.specs.Places.{nth}

-- 2 to the 32: the first number that 32 bits do not hold
abbrev pub bound : ℕ
bound = 4294967296

-- the first window that is not short: up to it no sum of 16 quotients with their costs leaves 64 bits
abbrev pub long : ℕ
long = 134217728

-- a window of v ticks is short for each of the first n, longer though it is by what that one can be put off
abbrev pub Short : (late : List ℕ) → (n v : ℕ) → Type 0
Short late n v = (k : ℕ) → k < n → v + nth late k < long

-- each of the first n asks once in so few ticks that no edge leaves 32 bits
abbrev pub Often : (every : List ℕ) → (n : ℕ) → Type 0
Often every n = (k : ℕ) → k < n → nth every k < long
