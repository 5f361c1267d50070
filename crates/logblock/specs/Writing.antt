-- The log block that is written of entries, and the writer's refusals in their order: 12, 18.
use Rattle.std.specs.Prelude.{List, [], ◌∷◌, ℕ, leb, set, length, replicate}
use Rattle.lists.specs.Places.{nth}
use Rattle.lists.specs.Refusals.{refusal, ◌or_refuse◌}
use Rattle.words.specs.Bytes.{bytes_of}
use Rattle.plan.specs.declared.Refusal.{Refusal}
use Rattle.plan.specs.First.{refused}
use Rattle.block.specs.Layout.{block_size, block_words, halves}
use Rattle.blockparts.specs.Parts.{with_entries, with_check, written_by}
use Rattle.logblock.specs.declared.Entries.{Entries}
use Rattle.logblock.specs.Layout.{kind_jobs_word, log_kind, first_entry}
use Rattle.logblock.specs.Entries.{entry_at, jobs_ok}

-- The block's words but for the check: the kind, the number of jobs, the entries, and zeros everywhere else.
unfoldable pub log_words : Entries → List ℕ
log_words es =
    with_entries first_entry (λ i. (entry_at es i).guest) (λ i. (entry_at es i).task) (λ i. (entry_at es i).age) es.count
    (set (replicate block_words 0) kind_jobs_word (halves log_kind es.count))

-- The log block of entries.
unfoldable pub log_of : Entries → List ℕ
log_of es = bytes_of (nth (with_check (log_words es))) block_words

-- The number that the writer refuses by, 0 for none, for a lent buffer of so many bytes.
unfoldable pub log_number : Entries → (size : ℕ) → ℕ
log_number es size =
    refusal (leb block_size size or_refuse 12 ∷ jobs_ok es.count (λ i. (entry_at es i).age) or_refuse 18 ∷ [])

-- The writer's refusal.
abbrev pub log_refusal : Entries → (size : ℕ) → Refusal
log_refusal es size = refused (log_number es size) 0

-- The lent bytes after the writer.
abbrev pub log_written : Entries → List ℕ → List ℕ
log_written es before = written_by (log_number es (length before)) (log_of es) before
