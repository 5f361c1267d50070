-- One block that is read: each word is the one that the block of its record has. Assumes nothing.
use mathlib.Core.Path.{◌≡◌, sym, ◌∙◌}
use mathlib.Core.Bool.{Bool, true, ◌&&◌}
use mathlib.Core.List.{List}
use Prim.Native.Nat.{ℕ, zero, suc, ◌-◌, ◌/◌, ◌≤◌, ◌<◌}
use native.Mathlib.Decide.{dec_lt}
use native.Mathlib.Omega.{arith}
use lib.ListN.{length}
use borrow.Author.Tests.{eqb-true}
use Rattle.plan.specs.Ranges.{most_tasks}
use Rattle.block.specs.Layout.{block_size, kind_place_word, id_word, capacity_word, period_word, tasks_charge_word, marks_server_word, spare_from, spare_to, entry_words, first_task, run_word, every_word, deadline_word, unused_from, check_word}
use Rattle.words.specs.Word.{word}
use Rattle.words.specs.Bytes.{Bytes}
use Rattle.block.specs.Reading.{place_in, task_count, guest_of, kind_ok, own_place, zero_between, marks_ok, block_number}
use Rattle.lists.specs.Places.{nth}
use Rattle.blockwriter.specs.Writing.{words_of, block_of}
use Rattle.lists.proofs.All.{and_left, and_right}
use Rattle.block.proofs.Reading.{BlockIn, block_in, few_in_block, zero_at, column_at}
use Rattle.blockparts.proofs.Words.{entry_word, again}
use Rattle.blockwriter.proofs.Writing.{words_length}
use Rattle.planfile_laws.proofs.Marks.{word_again, kind_again}
use Rattle.planfile_laws.proofs.Words.{WordsAt, words_at}

-- A word of the head is one of six.
head_word : (P : ℕ → Type 0) → P kind_place_word → P id_word → P capacity_word → P period_word → P tasks_charge_word
    → P marks_server_word → (k : ℕ) → k < spare_from → P k
head_word P a b c d e f zero h = a
head_word P a b c d e f (suc zero) h = b
head_word P a b c d e f (suc (suc zero)) h = c
head_word P a b c d e f (suc (suc (suc zero))) h = d
head_word P a b c d e f (suc (suc (suc (suc zero)))) h = e
head_word P a b c d e f (suc (suc (suc (suc (suc zero))))) h = f
head_word P a b c d e f (suc (suc (suc (suc (suc (suc j)))))) h = absurd (omega arith)

module _ (b : List ℕ) (p : ℕ) (new : Bool) (long : length b ≡ block_size) (bytes : Bytes b)
    (ok : block_number b (own_place b p) new ≡ 0) where
  passed : BlockIn b (own_place b p) new
  passed = block_in b (own_place b p) new ok

  few : task_count b ≤ most_tasks
  few = few_in_block b new passed.heads

  written : WordsAt (guest_of b) p
  written = words_at (guest_of b) p few

  -- The tests of 5 that it passed.
  before_unused : (marks_ok b && zero_between b spare_from spare_to) ≡ true
  before_unused = and_left (marks_ok b && zero_between b spare_from spare_to) _ passed.zeros

  -- The head.
  head_at : (k : ℕ) → k < spare_from → nth (words_of (guest_of b) p) k ≡ word b k
  head_at =
      let k = and_left (kind_ok b) (own_place b p) passed.opens in
      let m = and_left (marks_ok b) _ before_unused in
      let k1 = kind_again b m k in
      let k2 : place_in b ≡ p = eqb-true _ _ (and_right (kind_ok b) (own_place b p) passed.opens) in
      let e0 = written.kind_place in
      let e4 = written.tasks_charge in
      head_word (λ k. nth (words_of (guest_of b) p) k ≡ word b k) (omega arith) written.id written.capacity
      written.period (omega arith) (written.marks_server ∙ word_again b m)

  -- The bytes that must be zero.
  spare_at : (k : ℕ) → spare_from ≤ k → k < spare_to → nth (words_of (guest_of b) p) k ≡ word b k
  spare_at k h l =
      written.spare k h l
      ∙ sym (zero_at b spare_from spare_to k h l (and_right (marks_ok b) _ before_unused))

  unused_at : (k : ℕ) → unused_from (task_count b) ≤ k → k < check_word → nth (words_of (guest_of b) p) k ≡ word b k
  unused_at k h l =
      written.unused k h (omega arith)
      ∙ sym
      (zero_at b (unused_from (task_count b)) check_word k h l
      (and_right (marks_ok b && zero_between b spare_from spare_to) _ passed.zeros))

  -- The words of entry i.
  entry_at_lem : (i : ℕ) → i < task_count b → (k : ℕ) → run_word i ≤ k → k < run_word (suc i)
      → nth (words_of (guest_of b) p) k ≡ word b k
  entry_at_lem i l k m h =
      let o = written.entry i l in
      entry_word first_task (λ k. nth (words_of (guest_of b) p) k ≡ word b k) i k m h
      (o.one ∙ column_at b run_word i (omega (arith, few)))
      (o.two ∙ column_at b every_word i (omega (arith, few)))
      (o.three ∙ column_at b deadline_word i (omega (arith, few)))

  word_at : (k : ℕ) → k < check_word → nth (words_of (guest_of b) p) k ≡ word b k
  word_at k l =
      elim (dec_lt k spare_from) [
        | yes h ↦ head_at k h
        | no h ↦ elim (dec_lt k spare_to) [
          | yes m ↦ spare_at k (omega arith) m
          | no m ↦ elim (dec_lt k (unused_from (task_count b))) [
            | yes n ↦ entry_at_lem ((k - run_word 0) / entry_words) (omega arith) k (omega arith) (omega arith)
            | no n ↦ unused_at k (omega arith) l
          ]
        ]
      ]

  -- The block of what the reader gives.
  pub written_again : block_of (guest_of b) p ≡ b
  unfolding block_of
  written_again =
      again (words_of (guest_of b) p) (words_length (guest_of b) p) b bytes passed.sums word_at long
