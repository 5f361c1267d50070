-- How the code comes to the records of several blocks. Assumes nothing.
use mathlib.Core.Path.{◌≡◌, refl}
use mathlib.Core.List.{List}
use Prim.Native.Nat.{ℕ, ◌+◌, ◌<◌}
use lib.ListN.{set, replicate}
use Rattle.plan.specs.Ranges.{most_guests}
use Rattle.lists.specs.Table.{table}
use Rattle.plan.specs.declared.Guest.{Guest}
use Rattle.plan.specs.Records.{blank}
use Rattle.block.specs.Reading.{guest_of}
use Rattle.blockfile.specs.Records.{records_of}
use Rattle.lists.proofs.Table.{table_turn}

-- No block is read yet.
pub no_records : (block : ℕ → List ℕ) → replicate most_guests blank ≡ records_of block 0
unfolding records_of table
no_records block = refl

-- A loop's turn: block k's record is put in.
pub records_next : (block : ℕ → List ℕ) (k : ℕ) (gs : List Guest) (g : Guest) → k < most_guests
    → gs ≡ records_of block k → g ≡ guest_of (block k)
    → set gs k g ≡ records_of block (k + 1)
unfolding records_of
records_next block k gs g h e q = table_turn (λ i. guest_of (block i)) blank k (replicate most_guests blank) gs g h e q
