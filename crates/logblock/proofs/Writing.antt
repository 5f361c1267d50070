-- When the writer does not refuse, and how the code comes to the log block written. Assumes nothing.
use mathlib.Core.Path.{◌≡◌, sym, ◌∙◌}
use mathlib.Core.Bool.{true}
use mathlib.Core.List.{List, [], ◌++◌}
use Prim.Native.Nat.{ℕ, ◌≤◌}
use native.Mathlib.Omega.{arith}
use lib.ListN.{length, set, replicate, length-set, length-replicate}
use lib.Dec.{leb}
use borrow.Author.Tests.{le-leb, leb-true}
use Rattle.words.specs.Word.{word}
use Rattle.words.specs.Bytes.{with_word}
use Rattle.words.specs.Wrap.{wrapped, complement}
use Rattle.block.specs.Layout.{block_size, block_words, check_word, halves}
use Rattle.logblock.specs.declared.Entries.{Entries}
use Rattle.logblock.specs.Layout.{kind_jobs_word, log_kind, first_entry}
use Rattle.logblock.specs.Entries.{entry_at, jobs_ok}
use Rattle.logblock.specs.Writing.{log_words, log_of, log_number}
use Rattle.lists.proofs.Refusals.{none_left, go_on, passed}
use Rattle.blockparts.proofs.Parts.{laid, zeros_laid, put_laid, check_laid, entries_length}

-- Entries in their ranges are refused by no number where there is room for the block.
pub none :
    (es : Entries) (n : ℕ) → block_size ≤ n → jobs_ok es.count (λ i. (entry_at es i).age) ≡ true → 0 ≡ log_number es n
unfolding log_number
none es n h e = sym (go_on 12 _ (le-leb block_size n h) ∙ go_on 18 _ e ∙ none_left)

-- Entries that the writer does not refuse are in their ranges, and there is room for the block.
pub record LogIn (es : Entries) (n : ℕ) : Type 0 where
  pub room : block_size ≤ n
  pub jobs : jobs_ok es.count (λ i. (entry_at es i).age) ≡ true

pub log_in : (es : Entries) (n : ℕ) → log_number es n ≡ 0 → LogIn es n
unfolding log_number
log_in es n e =
    let a = passed (leb block_size n) 12 _ (omega arith) e in
    let j = passed (jobs_ok es.count (λ i. (entry_at es i).age)) 18 [] (omega arith) a.1 in
    record { room = leb-true block_size n a.0; jobs = j.0 }

-- The words before the entries are put in: the kind and the number of jobs, and zeros everywhere else.
abbrev pub opening : Entries → List ℕ
opening es = set (replicate block_words 0) kind_jobs_word (halves log_kind es.count)

-- The words have their number.
pub opening_length : (es : Entries) → length (opening es) ≡ block_words
opening_length es =
    length-set (replicate block_words 0) kind_jobs_word (halves log_kind es.count)
    ∙ length-replicate {A = ℕ} block_words 0

pub words_length : (es : Entries) → length (log_words es) ≡ block_words
unfolding log_words
words_length es = entries_length first_entry _ _ _ es.count (opening es) ∙ opening_length es

-- Zero bytes, then the kind and the number of jobs put into them.
pub opening_laid : (es : Entries) (t z b : List ℕ) → z ≡ replicate block_size 0 ++ t
    → b ≡ with_word z kind_jobs_word (halves log_kind es.count) → b ≡ laid (opening es) t
opening_laid es t z b e q =
    put_laid (replicate block_words 0) t z b kind_jobs_word (halves log_kind es.count)
    (length-replicate {A = ℕ} block_words 0) (omega arith) (e ∙ zeros_laid t) q

-- The check put in.
pub log_laid : (es : Entries) (t b : List ℕ) → b ≡ laid (log_words es) t
    → with_word b check_word (complement (wrapped (word b) check_word)) ≡ log_of es ++ t
unfolding log_of
log_laid es t b e = check_laid (log_words es) b t (words_length es) e
