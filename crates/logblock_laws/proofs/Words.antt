-- The words that the writer of log blocks writes, one by one: kind and number of jobs, the entries, and zeros
-- everywhere else. Assumes nothing.
use mathlib.Core.Path.{◌≡◌, ◌∙◌}
use Prim.Native.Nat.{ℕ, ◌≤◌, ◌<◌}
use native.Mathlib.Omega.{arith}
use lib.ListN.{replicate, get_or-replicate}
use lib.Seq.{get_or-set_other}
use Rattle.lists.specs.Places.{nth}
use Rattle.words.specs.Word.{word_wrap}
use Rattle.words.specs.Bytes.{Below}
use Rattle.plan.specs.Ranges.{longest}
use Rattle.block.specs.Layout.{block_words, halves}
use Rattle.logblock.specs.declared.Entries.{Entries}
use Rattle.logblock.specs.Layout.{kind_jobs_word, log_kind, most_jobs, blank_word, first_entry, past_entries}
use Rattle.logblock.specs.Entries.{entry_at}
use Rattle.logblock.specs.Writing.{log_words}
use Rattle.logblock_laws.specs.Entries.{JobsInTypes}
use Rattle.blockparts.proofs.Words.{set_fits, zeros_fit, EntryAt, entries_before, entries_after, entries_at, entries_fit}
use Rattle.logblock.proofs.Writing.{opening, opening_length}

module _ (es : Entries) where
  -- The words of the block but for the check.
  pub record WordsAt : Type 0 where
    pub kind_jobs : nth (log_words es) kind_jobs_word ≡ halves log_kind es.count
    pub blank : nth (log_words es) blank_word ≡ 0
    pub entry : (i : ℕ) → i < es.count
        → EntryAt first_entry (log_words es) i (entry_at es i).guest (entry_at es i).task (entry_at es i).age
    pub past : (k : ℕ) → past_entries es.count ≤ k → k < block_words → nth (log_words es) k ≡ 0

  pub words_at : es.count ≤ most_jobs → WordsAt
  unfolding log_words
  words_at few =
      let before = entries_before first_entry _ _ _ es.count (opening es) in
      record {
        kind_jobs = before kind_jobs_word (omega arith);
        blank = before blank_word (omega arith);
        entry = entries_at first_entry _ _ _ es.count (opening es) (omega arith) (opening_length es);
        past =
            λ k l u.
            entries_after first_entry _ _ _ es.count (opening es) k l
            ∙ get_or-set_other (replicate block_words 0) kind_jobs_word k (halves log_kind es.count) 0 (λ q. omega arith)
            ∙ get_or-replicate block_words k 0 0 u;
      }

  -- Numbers that fit their types fit the words.
  pub words_fit : JobsInTypes es → es.count ≤ most_jobs → ((i : ℕ) → i < es.count → (entry_at es i).age ≤ longest)
      → Below word_wrap (log_words es)
  unfolding log_words
  words_fit f few short =
      entries_fit first_entry _ _ _ word_wrap es.count (opening es)
      (λ i l. (f.guest i l, (f.task i l, omega (arith, short i l))))
      (set_fits word_wrap (replicate block_words 0) kind_jobs_word (halves log_kind es.count) zeros_fit (omega arith))
