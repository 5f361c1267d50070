-- Demand 2, plan files: plans read back as written, and the only bytes accepted are those we would write, for plans
-- without Deferrable guests. Bytes of the others are those of the one form that such plans have. `file_of p` is the block
-- of each guest of p at its place in that form, one after the other; `cleared p` is p with zeros past its guests and past
-- their tasks.
use mathlib.Core.Path.{◌≡◌}
use mathlib.Core.Bool.{true}
use mathlib.Core.List.{List, ◌++◌}
use Prim.Native.Nat.{ℕ, ◌≤◌, ◌<◌}
use lib.ListN.{length, drop}
use Rattle.plan.specs.First.{fine}
use Rattle.plan.specs.Order.{plan_refusal}
use Rattle.plan.specs.Periodic.{all_periodic}
use Rattle.plan.specs.Records.{guest_at}
use Rattle.plan.specs.declared.Guest.{Guest}
use Rattle.plan.specs.declared.Plan.{Plan}
use Rattle.lists.specs.Places.{nth}
use Rattle.words.specs.Bytes.{Bytes}
use Rattle.block.specs.Layout.{block_size}
use Rattle.block.specs.Table.{InBytes}
use Rattle.blockwriter.specs.Writing.{block_of, write_refusal, written}
use Rattle.blockfile.specs.File.{block_at, blocks_in}
use Rattle.planfile.specs.Records.{read_of}
use Rattle.planfile_laws.specs.File.{file_of, cleared}
use Rattle.planfile_laws.specs.Fits.{PlanInTypes}
use Rattle.block.proofs.Table as table
use Rattle.planfile_laws.proofs.OnlyOurs as ours
use Rattle.planfile_laws.proofs.ReadBack as back
use Rattle.planfile_laws.proofs.Written as writing

-- Each number stands in a block where document 01's table has it, byte by byte.
pub in_bytes : (b : List ℕ) → Bytes b → InBytes b
in_bytes = table.in_bytes

-- The file of records that pass the check reads as those records.
pub read_back :
    (p : Plan)
    → PlanInTypes p
    → (plan_refusal p).number ≡ 0
    → read_of (file_of p) ≡ record { refusal = fine; plan = cleared p }
read_back = back.read_back

-- Where no guest is Deferrable, each block of that file is what the writer, which refuses none of them, leaves in the
-- first 512 of the lent bytes.
pub written_so :
    (p : Plan) → (plan_refusal p).number ≡ 0 → all_periodic p ≡ true
    → (k : ℕ) → k < p.count → (before : List ℕ) → block_size ≤ length before
    → (write_refusal (guest_at p.guests k) k (length before) ≡ fine)
    × (written (guest_at p.guests k) k before ≡ block_of (guest_at p.guests k) k ++ drop block_size before)
written_so = back.written_so

-- Byte 22 of what the writer wrote is 0: it writes no Deferrable guest.
pub byte_22_zero :
    (g : Guest) (place : ℕ) (before : List ℕ)
    → (write_refusal g place (length before)).number ≡ 0
    → nth (written g place before) 22 ≡ 0
byte_22_zero = writing.byte_22_zero

-- Bytes that read as a plan without Deferrable guests are exactly what the writer writes for what was read.
pub only_written :
    (s : List ℕ) → Bytes s → (read_of s).refusal.number ≡ 0 → all_periodic (read_of s).plan ≡ true
    → (k : ℕ) → k < blocks_in s → (before : List ℕ) → block_size ≤ length before
    → (write_refusal (guest_at (read_of s).plan.guests k) k (length before) ≡ fine)
    × (written (guest_at (read_of s).plan.guests k) k before ≡ block_at s k ++ drop block_size before)
only_written = writing.only_written

-- Bytes that read as any plan are exactly the file of what was read: a plan has one form, with Deferrable guests too.
pub only_ours : (s : List ℕ) → Bytes s → (read_of s).refusal.number ≡ 0 → file_of (read_of s).plan ≡ s
only_ours = ours.only_ours

-- A plan that was read passes the check.
pub read_passes : (s : List ℕ) → (read_of s).refusal.number ≡ 0 → plan_refusal (read_of s).plan ≡ fine
read_passes = ours.read_passes
