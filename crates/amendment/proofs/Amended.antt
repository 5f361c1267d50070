-- Which block counts for a guest. Assumes nothing.
use Rattle.std.specs.Prelude.{Some, None}
use mathlib.Core.Path.{◌≡◌, refl}
use mathlib.Core.List.{List}
use Prim.Native.Nat.{ℕ}
use Rattle.blockfile.specs.File.{block_at, id_at, first_with}
use Rattle.amendment.specs.Amended.{block_or, amended_block}

module _ (plan sheet : List ℕ) (k : ℕ) where
  -- The sheet has a block for the guest at place k.
  pub from_sheet : (j : ℕ) → first_with sheet (id_at plan k) ≡ Some j → block_at sheet j ≡ amended_block plan sheet k
  unfolding block_or
  from_sheet j e = rw e refl

  -- It has none.
  pub from_plan : first_with sheet (id_at plan k) ≡ None → block_at plan k ≡ amended_block plan sheet k
  unfolding block_or
  from_plan e = rw e refl
