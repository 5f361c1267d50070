-- The records of several blocks.
use Rattle.std.specs.Prelude.{List, ◌++◌, ℕ, drop, replicate}
use Rattle.lists.specs.Table.{table}
use Rattle.plan.specs.declared.Guest.{Guest}
use Rattle.plan.specs.Records.{blank}
use Rattle.plan.specs.Ranges.{most_guests}
use Rattle.block.specs.Reading.{guest_of}

-- The records of n blocks, and records of zeros past them.
unfoldable pub records_of : (block : ℕ → List ℕ) → ℕ → List Guest
records_of block n = table (λ k. guest_of (block k)) n ++ drop n (replicate most_guests blank)
