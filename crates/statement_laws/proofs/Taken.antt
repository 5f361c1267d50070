-- What each taken block keeps, calls one after the other keep. Assumes nothing.
use mathlib.Core.Path.{◌≡◌, refl}
use mathlib.Core.List.{List, [], ◌∷◌, ◌++◌, append_assoc, append-nil}
use Prim.Native.Nat.{ℕ, zero, suc, ◌+◌}
use native.Mathlib.Nat.{add_assoc, add-zero}
use Rattle.plan.specs.declared.Plan.{Plan}
use Rattle.blockfile.specs.File.{block_at, blocks_in, file_refusal}
use Rattle.planfile.specs.Records.{read_of}
use Rattle.logblock.specs.declared.Entry.{Entry}
use Rattle.statement.specs.declared.Statement.{Statement}
use Rattle.statement.specs.Counting.{block_counted}
use Rattle.statement.specs.Block.{block_number}
use Rattle.statement.specs.Log.{taken_by, after_blocks, passed_by}
use Rattle.statement.specs.Call.{call_refusal, stated_by, stated}
use Rattle.statement_laws.specs.Entries.{entries_of}
use Rattle.statement_laws.specs.Taken.{added_by, took_by, taken_entries, taken_blocks, entries_by, blocks_by, statement_after, counted_entries, counted_blocks}
use Rattle.plan.proofs.First.{after_zero}

-- Something that may hold of a statement, of how many blocks are counted in it, and of their entries.
abbrev pub Claim : Type 1
Claim = Statement → (blocks : ℕ) → List Entry → Type 0

-- Each block that is taken keeps it.
abbrev pub KeptBy : Claim → Plan → Type 0
KeptBy C p =
    (b : List ℕ) (s : Statement) (m : ℕ) (es : List Entry)
    → block_number p s.blocks b ≡ 0
    → C s m es
    → C (block_counted p b s) (m + 1) (es ++ entries_of b)

-- A block that is passed over adds no entry.
passed_adds_none : (number : ℕ) (b : List ℕ) (es : List Entry) → es ++ added_by (suc number) b ≡ es
unfolding added_by
passed_adds_none number b es = append-nil es

-- A call that is refused adds none.
refused_adds_none : (number : ℕ) (s : Statement) (plan log : List ℕ) (es : List Entry)
    → es ++ entries_by (suc number) s plan log ≡ es
unfolding entries_by
refused_adds_none number s plan log es = append-nil es

-- So a log keeps it.
module _ (C : Claim) (p : Plan) (log : List ℕ) (step : KeptBy C p) where
  block_keeps :
      (b : List ℕ) (s : Statement) (m : ℕ) (es : List Entry) (number : ℕ)
      → block_number p s.blocks b ≡ number
      → C s m es
      → C (taken_by number p b s) (m + took_by number) (es ++ added_by number b)
  unfolding taken_by took_by added_by
  block_keeps b s m es zero e c = step b s m es e c
  block_keeps b s m es (suc number) e c = rw (add-zero, passed_adds_none number b es) c

  log_keeps : (n : ℕ) (s : Statement) (m : ℕ) (es : List Entry) → C s m es
      → C (after_blocks p log n s) (m + taken_blocks p log s n) (es ++ taken_entries p log s n)
  unfolding after_blocks passed_by taken_blocks taken_entries
  log_keeps zero s m es c = rw (add-zero, append-nil) c
  log_keeps (suc n) s m es c =
      rw (← add_assoc m, ← append_assoc es)
      (block_keeps (block_at log n) (after_blocks p log n s) (m + taken_blocks p log s n) (es ++ taken_entries p log s n) _
      refl (log_keeps n s m es c))

-- So calls with one plan keep it, whatever is refused; a call takes blocks only where the plan's bytes are not refused.
module _ (C : Claim) (plan : List ℕ) (step : (file_refusal plan).number ≡ 0 → KeptBy C (read_of plan).plan) where
  call_keeps : (log : List ℕ) (s : Statement) (m : ℕ) (es : List Entry) → C s m es
      → C (stated s plan log).statement (m + blocks_by (stated s plan log).refusal.number s plan log)
      (es ++ entries_by (stated s plan log).refusal.number s plan log)
  unfolding stated stated_by blocks_by entries_by call_refusal
  call_keeps log s m es c = by (call_refusal s plan log).number refl
    where
      by : (r : ℕ) → (call_refusal s plan log).number ≡ r
          → C (stated_by r s plan log).statement (m + blocks_by (stated_by r s plan log).refusal.number s plan log)
          (es ++ entries_by (stated_by r s plan log).refusal.number s plan log)
      by zero e = log_keeps C (read_of plan).plan log (step (after_zero (file_refusal plan).number _ _ e).0)
          (blocks_in log) s m es c
      by (suc r) e = rw (e, add-zero, refused_adds_none r s plan log es) c

  pub calls_keep : (logs : List (List ℕ)) (s : Statement) (m : ℕ) (es : List Entry) → C s m es
      → C (statement_after plan logs s) (m + counted_blocks plan logs s) (es ++ counted_entries plan logs s)
  unfolding statement_after counted_blocks counted_entries
  calls_keep [] s m es c = rw (add-zero, append-nil) c
  calls_keep (log ∷ logs) s m es c =
      rw (← add_assoc m, ← append_assoc es)
      (calls_keep logs (stated s plan log).statement _ _ (call_keeps log s m es c))
