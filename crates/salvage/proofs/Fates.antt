-- How the code comes to what becomes of a block, and to the list. Assumes nothing.
use Rattle.std.proofs.Common.{◌≡◌, ℕ, ◌+◌, ◌<◌, List, set, replicate, refl}
use Rattle.lists.specs.Table.{table}
use Rattle.plan.specs.Ranges.{most_guests}
use Rattle.salvage.specs.declared.Fate.{Fate}
use Rattle.salvage.specs.Fates.{fate, no_fate, fates_of}
use Rattle.lists.proofs.Table.{table_turn}

-- Nothing is listed yet.
pub no_fates : (s : List ℕ) → replicate most_guests no_fate ≡ fates_of s 0
unfolding fates_of table
no_fates s = refl

-- A loop's turn: what becomes of block k is put in.
pub fates_next : (s : List ℕ) (k : ℕ) (fs : List Fate) (f : Fate) → k < most_guests → fs ≡ fates_of s k → f ≡ fate s k
    → set fs k f ≡ fates_of s (k + 1)
unfolding fates_of
fates_next s k fs f h e q = table_turn (fate s) no_fate k (replicate most_guests no_fate) fs f h e q
