-- Sums of words modulo 2 to the 32.
use Rattle.std.specs.Prelude.{ℕ, ◌-◌, ◌%◌}
use Rattle.lists.specs.Sum.{sum_to}
use Rattle.words.specs.Word.{word_wrap}

-- The sum of the words f 0, f 1, … and f (n - 1), modulo 4,294,967,296.
abbrev pub wrapped : (ℕ → ℕ) → ℕ → ℕ
wrapped f n = sum_to f n % word_wrap

-- The word that makes a sum s zero, modulo 4,294,967,296.
abbrev pub complement : ℕ → ℕ
complement s = (word_wrap - s) % word_wrap
