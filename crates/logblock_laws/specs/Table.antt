-- P10's lines of a log block in bytes: where each number stands that the definitions of reading give, with no word
-- named.
use Rattle.std.specs.Prelude.{◌≡◌, true, List, ℕ, ◌+◌, ◌*◌, ◌%◌}
use Rattle.lists.specs.Sum.{sum_to}
use Rattle.lists.specs.Exactly.{◌exactly_when◌}
use Rattle.words.specs.Word.{word_wrap, u16_at, u32_at}
use Rattle.block.specs.Reading.{sums_to_zero}
use Rattle.block.specs.Table.{ZeroBytes}
use Rattle.logblock.specs.Reading.{jobs_in, entry_in, is_log, rest_zero}

-- The bytes that must be zero in a log block of n jobs are: bytes 4-7, and those past the entries.
pub record LogZeros (b : List ℕ) (n : ℕ) : Type 0 where
  pub blank : ZeroBytes b 4 8
  pub past_entries : ZeroBytes b (8 + 12 * n) 508

-- Bytes 0-1 are the kind, 3; 2-3 the number of jobs; 4-7 zero; then entries of 12 bytes, each with guest, task and age;
-- zeros past them; and 508-511 the check.
pub record LogInBytes (b : List ℕ) : Type 0 where
  pub kind : (is_log b ≡ true) exactly_when (u16_at b 0 ≡ 3)
  pub jobs : jobs_in b ≡ u16_at b 2
  pub guest : (i : ℕ) → (entry_in b i).guest ≡ u32_at b (8 + 12 * i)
  pub task : (i : ℕ) → (entry_in b i).task ≡ u32_at b (12 + 12 * i)
  pub age : (i : ℕ) → (entry_in b i).age ≡ u32_at b (16 + 12 * i)
  pub zeros : (rest_zero b ≡ true) exactly_when LogZeros b (jobs_in b)
  pub check : (sums_to_zero b ≡ true) exactly_when ((sum_to (λ k. u32_at b (4 * k)) 127 + u32_at b 508) % word_wrap ≡ 0)
