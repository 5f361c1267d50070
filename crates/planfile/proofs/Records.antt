-- How the code comes to the records read. Assumes nothing.
use mathlib.Core.Path.{◌≡◌, refl, sym, ap}
use mathlib.Core.List.{List}
use Prim.Native.Nat.{ℕ, zero, suc, ◌≤◌, ◌<◌}
use native.Mathlib.Omega.{arith}
use Rattle.plan.specs.declared.Plan.{Plan}
use Rattle.plan.specs.declared.Refusal.{Refusal}
use Rattle.planfile.specs.declared.Reading.{Reading}
use Rattle.blockfile.specs.File.{block_at, blocks_in, file_refusal}
use Rattle.blockfile.specs.Records.{records_of}
use Rattle.std.specs.Prelude.{true}
use Rattle.plan.specs.First.{fine}
use Rattle.plan.specs.Records.{blank_plan}
use Rattle.planfile.specs.Records.{plan_by, read_of}
use Rattle.blockfile.proofs.File.{blocks_fine}

-- A reading by its parts.
abbrev pub reading : Refusal → Plan → Reading
reading r p = record { refusal = r; plan = p }

-- Where nothing is refused, the plan has every block's record.
pub plan_fine : (s : List ℕ) → (file_refusal s).number ≡ 0
    → record { count = blocks_in s; guests = records_of (block_at s) (blocks_in s) } ≡ (read_of s).plan
unfolding read_of plan_by
plan_fine s e = rw e refl

-- Where nothing is refused, every block's record is read.
pub read_fine : (s : List ℕ) (r : Refusal) → r ≡ file_refusal s → r.number ≤ 0
    → reading r (record { count = blocks_in s; guests = records_of (block_at s) (blocks_in s) }) ≡ read_of s
unfolding read_of plan_by
read_fine s r e h = let z : r.number ≡ 0 = omega arith in rw (← e, z) refl

-- On a refusal no block's record is read.
pub read_refused : (s : List ℕ) → 0 < (file_refusal s).number → reading (file_refusal s) blank_plan ≡ read_of s
unfolding read_of plan_by
read_refused s h = ap (reading (file_refusal s)) (by (file_refusal s).number h)
  where
    by : (n : ℕ) → 0 < n → blank_plan ≡ plan_by n s
    by zero l = absurd (omega arith)
    by (suc n) l = refl

-- Where nothing is refused, the refusal that is read has number and place 0.
pub read_unrefused : (s : List ℕ) → (file_refusal s).number ≡ 0 → reading fine (read_of s).plan ≡ read_of s
unfolding read_of
read_unrefused s e = ap (λ (r : Refusal). reading r (read_of s).plan) (sym (blocks_fine true s e))
