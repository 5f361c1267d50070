-- The layout, said in words, says P10's lines, said in bytes. Assumes nothing.
use mathlib.Core.Path.{◌≡◌, sym, ◌∙◌}
use mathlib.Core.Bool.{true}
use mathlib.Core.List.{List}
use Prim.Native.Nat.{ℕ, ◌*◌}
use native.Mathlib.Omega.{arith}
use lib.Dec.{eqb}
use borrow.Author.Tests.{eq-eqb, eqb-true}
use Rattle.lists.specs.All.{all_to}
use Rattle.lists.specs.Exactly.{◌exactly_when◌}
use Rattle.words.specs.Word.{u32_at, word}
use Rattle.words.specs.Bytes.{Bytes}
use Rattle.block.specs.Layout.{check_word}
use Rattle.block.specs.Reading.{zero_between}
use Rattle.block.specs.Table.{ZeroBytes}
use Rattle.logblock.specs.Layout.{kind_jobs_word, blank_word, first_entry, guest_word, task_word, age_word, past_entries}
use Rattle.logblock.specs.Reading.{jobs_in, entry_in, rest_zero}
use Rattle.logblock_laws.specs.Table.{LogZeros, LogInBytes}
use Rattle.lists.proofs.All.{and_left, and_right, and_true}
use Rattle.block.proofs.Table.{word_bytes, low_bytes, high_bytes, zero_bytes, sum_with_check}

-- A word stands where its first byte does.
word_from : (b : List ℕ) (k from : ℕ) → 4 * k ≡ from → word b k ≡ u32_at b from
word_from b k from e = rw (← e) (word_bytes b k)

-- Bytes 4-7 are one word.
blank_bytes : (b : List ℕ) → (eqb (word b blank_word) 0 ≡ true) exactly_when ZeroBytes b 4 8
unfolding zero_between all_to
blank_bytes b = zero_bytes b blank_word first_entry

zeros_stand : (b : List ℕ) → (rest_zero b ≡ true) exactly_when LogZeros b (jobs_in b)
zeros_stand b =
    let blank = blank_bytes b in
    let past = zero_bytes b (past_entries (jobs_in b)) check_word in (
      λ e. record {
        blank = blank.0 (and_left (eqb (word b blank_word) 0) _ e);
        past_entries = λ i l u. past.0 (and_right (eqb (word b blank_word) 0) _ e) i (omega arith) u;
      },
      λ z. and_true (blank.1 z.blank) (past.1 (λ i l u. z.past_entries i (omega arith) u)),
    )

-- What the definitions of reading say of bytes, line by line.
pub log_in_bytes : (b : List ℕ) → Bytes b → LogInBytes b
unfolding entry_in
log_in_bytes b h = record {
  kind =
      let e = low_bytes b kind_jobs_word h in
      (λ k. sym e ∙ eqb-true _ _ k, λ k. eq-eqb _ _ (e ∙ k));
  jobs = high_bytes b kind_jobs_word h;
  guest = λ i. word_from b (guest_word i) _ (omega arith);
  task = λ i. word_from b (task_word i) _ (omega arith);
  age = λ i. word_from b (age_word i) _ (omega arith);
  zeros = zeros_stand b;
  check = (
    λ e. sym (sum_with_check b) ∙ eqb-true _ _ e,
    λ e. eq-eqb _ _ (sum_with_check b ∙ e),
  );
}
