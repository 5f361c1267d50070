-- Only what the writer writes passes: each word of a block that no number refuses is the one that the writer would
-- write of its entries. Assumes nothing.
use mathlib.Core.Path.{◌≡◌, sym, ap, ◌∙◌}
use mathlib.Core.List.{List}
use Prim.Native.Nat.{ℕ, zero, suc, ◌-◌, ◌/◌, ◌≤◌, ◌<◌}
use native.Mathlib.Decide.{dec_lt}
use native.Mathlib.Omega.{arith}
use lib.ListN.{length}
use lib.Dec.{eqb}
use borrow.Author.Tests.{eqb-true}
use Rattle.lists.specs.Places.{nth}
use Rattle.words.specs.Word.{word}
use Rattle.words.specs.Bytes.{Bytes}
use Rattle.plan.specs.Ranges.{longest, within}
use Rattle.block.specs.Layout.{block_size, entry_words, check_word, low_half}
use Rattle.logblock.specs.declared.Entry.{Entry}
use Rattle.logblock.specs.Layout.{kind_jobs_word, log_kind, most_jobs, blank_word, first_entry, guest_word, past_entries}
use Rattle.logblock.specs.Entries.{no_entry, entry_at, jobs_ok}
use Rattle.logblock.specs.Reading.{jobs_in, entry_in, own_number}
use Rattle.logblock.specs.Writing.{log_words, log_of, log_number}
use Rattle.logblock_laws.specs.Entries.{entries_in}
use Rattle.lists.proofs.All.{and_left, and_right, and_true, all_ext}
use Rattle.lists.proofs.Table.{table_at}
use Rattle.block.proofs.Reading.{zero_at}
use Rattle.blockparts.proofs.Words.{entry_word, again}
use Rattle.logblock.proofs.EntriesLaws.{jobs_few}
use Rattle.logblock.proofs.Reading.{OwnIn, own_in}
use Rattle.logblock.proofs.Writing.{none, words_length}
use Rattle.logblock_laws.proofs.Words.{WordsAt, words_at}

module _ (b : List ℕ) (ok : own_number b ≡ 0) where
  passed : OwnIn b
  passed = own_in b ok

  few : jobs_in b ≤ most_jobs
  few = jobs_few _ _ passed.jobs

  written : WordsAt (entries_in b)
  written = words_at (entries_in b) few

  -- An entry that the block says.
  said : (i : ℕ) → i < jobs_in b → entry_at (entries_in b) i ≡ entry_in b i
  said i l = table_at (entry_in b) no_entry most_jobs i (omega (arith, few))

  -- Kind and number of jobs, then bytes 4-7.
  opening_at : (k : ℕ) → k < first_entry → nth (log_words (entries_in b)) k ≡ word b k
  opening_at zero h =
      let k = eqb-true (low_half (word b kind_jobs_word)) log_kind passed.opens in
      omega (arith, written.kind_jobs, k)
  opening_at (suc zero) h =
      written.blank ∙ sym (eqb-true (word b blank_word) 0 (and_left (eqb (word b blank_word) 0) _ passed.rest))
  opening_at (suc (suc k)) h = absurd (omega arith)

  -- The words of entry i.
  entry_at_lem : (i : ℕ) → i < jobs_in b → (k : ℕ) → guest_word i ≤ k → k < guest_word (suc i)
      → nth (log_words (entries_in b)) k ≡ word b k
  unfolding entry_in
  entry_at_lem i l k m h =
      let o = written.entry i l in
      entry_word first_entry (λ k. nth (log_words (entries_in b)) k ≡ word b k) i k m h
      (o.one ∙ ap (λ (e : Entry). e.guest) (said i l))
      (o.two ∙ ap (λ (e : Entry). e.task) (said i l))
      (o.three ∙ ap (λ (e : Entry). e.age) (said i l))

  -- The bytes past the entries.
  past_at : (k : ℕ) → past_entries (jobs_in b) ≤ k → k < check_word → nth (log_words (entries_in b)) k ≡ word b k
  past_at k h l =
      written.past k h (omega arith)
      ∙ sym (zero_at b (past_entries (jobs_in b)) check_word k h l (and_right (eqb (word b blank_word) 0) _ passed.rest))

  word_at : (k : ℕ) → k < check_word → nth (log_words (entries_in b)) k ≡ word b k
  word_at k l =
      elim (dec_lt k first_entry) [
        | yes h ↦ opening_at k h
        | no h ↦ elim (dec_lt k (past_entries (jobs_in b))) [
          | yes m ↦ entry_at_lem ((k - first_entry) / entry_words) (omega arith) k (omega arith) (omega arith)
          | no m ↦ past_at k (omega arith) l
        ]
      ]

-- A block that passes is what the writer writes of the entries that it says.
pub log_only : (b : List ℕ) → length b ≡ block_size → Bytes b → own_number b ≡ 0 → log_of (entries_in b) ≡ b
unfolding log_of
log_only b long bytes ok =
    again (log_words (entries_in b)) (words_length (entries_in b)) b bytes (own_in b ok).sums (word_at b ok) long

-- The writer does not refuse them.
pub said_pass : (b : List ℕ) (size : ℕ) → block_size ≤ size → own_number b ≡ 0 → log_number (entries_in b) size ≡ 0
unfolding jobs_ok entry_in
said_pass b size h ok =
    let j = (own_in b ok).jobs in
    sym
    (none (entries_in b) size h
    (and_true (and_left (within 1 most_jobs (jobs_in b)) _ j)
    (all_ext _ _ (jobs_in b) (λ i l. ap (λ (e : Entry). within 1 longest e.age) (said b ok i l))
    ∙ and_right (within 1 most_jobs (jobs_in b)) _ j)))
