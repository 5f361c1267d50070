-- Read-back: the log block of entries that the writer does not refuse passes, and says those entries. Assumes nothing.
use mathlib.Core.Path.{◌≡◌, sym, ◌∙◌}
use mathlib.Core.Bool.{true}
use Prim.Native.Nat.{ℕ, ◌≤◌, ◌<◌}
use native.Mathlib.Omega.{arith}
use lib.ListN.{length}
use borrow.Author.Tests.{eq-eqb}
use Rattle.lists.specs.Places.{nth}
use Rattle.words.specs.Word.{word_wrap, word}
use Rattle.words.specs.Bytes.{Below}
use Rattle.plan.specs.Ranges.{within}
use Rattle.block.specs.Layout.{block_size, block_words, check_word, low_half, halves}
use Rattle.block.specs.Reading.{sums_to_zero}
use Rattle.blockparts.specs.Parts.{with_check}
use Rattle.logblock.specs.declared.Entries.{Entries}
use Rattle.logblock.specs.Layout.{kind_jobs_word, log_kind, most_jobs, blank_word, guest_word, task_word, age_word, past_entries}
use Rattle.logblock.specs.Entries.{entry_at, jobs_ok}
use Rattle.logblock.specs.Reading.{jobs_in, entry_in, is_log, jobs_pass, rest_zero}
use Rattle.logblock.specs.Writing.{log_words, log_of, log_number}
use Rattle.logblock_laws.specs.Entries.{JobsInTypes, ReadBack}
use Rattle.lists.proofs.All.{and_left, and_right, and_true, all_ext}
use Rattle.words.proofs.Bytes.{length_bytes_of}
use Rattle.block.proofs.Reading.{zeros_pass}
use Rattle.blockparts.proofs.Words.{word_back, sums_back}
use Rattle.logblock.proofs.EntriesLaws.{jobs_few, age_in}
use Rattle.logblock.proofs.Reading.{none}
use Rattle.logblock.proofs.Writing.{log_in, words_length}
use Rattle.logblock_laws.proofs.Words.{WordsAt, words_at, words_fit}

module _ (es : Entries) (fits : JobsInTypes es) (ok : jobs_ok es.count (λ i. (entry_at es i).age) ≡ true) where
  few : es.count ≤ most_jobs
  few = jobs_few _ _ ok

  written : WordsAt es
  written = words_at es few

  fit : Below word_wrap (log_words es)
  fit = words_fit es fits few (λ i l. (age_in _ _ ok i l).1)

  -- Each word of the bytes is the one meant.
  at : (k : ℕ) → k < check_word → word (log_of es) k ≡ nth (log_words es) k
  unfolding log_of
  at = word_back (log_words es) (words_length es) fit

  sums : sums_to_zero (log_of es) ≡ true
  unfolding log_of
  sums = sums_back (log_words es) (words_length es) fit

  long : length (log_of es) ≡ block_size
  unfolding log_of
  long = length_bytes_of (nth (with_check (log_words es))) block_words

  opens : word (log_of es) kind_jobs_word ≡ halves log_kind es.count
  opens = at kind_jobs_word (omega arith) ∙ written.kind_jobs

  count_is : jobs_in (log_of es) ≡ es.count
  count_is = omega (arith, opens)

  log : is_log (log_of es) ≡ true
  log = eq-eqb (low_half (word (log_of es) kind_jobs_word)) log_kind (omega (arith, opens))

  entry_is : (i : ℕ) → i < es.count → entry_in (log_of es) i ≡ entry_at es i
  unfolding entry_in
  entry_is i l =
      let e = written.entry i l in
      let g : word (log_of es) (guest_word i) ≡ (entry_at es i).guest = at _ (omega (arith, few)) ∙ e.one in
      let t : word (log_of es) (task_word i) ≡ (entry_at es i).task = at _ (omega (arith, few)) ∙ e.two in
      let a : word (log_of es) (age_word i) ≡ (entry_at es i).age = at _ (omega (arith, few)) ∙ e.three in
      λ k. record { guest = g k; task = t k; age = a k }

  jobs_pass_lem : jobs_pass (log_of es) ≡ true
  unfolding jobs_ok
  jobs_pass_lem =
      rw count_is
      (and_true (and_left (within 1 most_jobs es.count) _ ok)
      (all_ext _ _ es.count
      (λ i l. rw (at (age_word i) (omega (arith, few)) ∙ (written.entry i l).three))
      ∙ and_right (within 1 most_jobs es.count) _ ok))

  zeros : rest_zero (log_of es) ≡ true
  zeros =
      and_true (eq-eqb _ _ (at blank_word (omega arith) ∙ written.blank))
      (rw count_is
      (zeros_pass (log_of es) (past_entries es.count) check_word (λ k h l. at k l ∙ written.past k h (omega arith))))

-- What the writer does not refuse comes back.
pub log_back : (es : Entries) (size : ℕ) → JobsInTypes es → log_number es size ≡ 0 → ReadBack es
log_back es size fits e =
    let ok = (log_in es size e).jobs in
    record {
      long = long es fits ok;
      passes = sym (none (log_of es) (sums es fits ok) (log es fits ok) (jobs_pass_lem es fits ok) (zeros es fits ok));
      count = count_is es fits ok;
      entry = entry_is es fits ok;
    }
