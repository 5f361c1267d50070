-- The list that says of each block of a damaged file what becomes of it.
use Rattle.std.specs.Prelude.{ℕ, zero, suc, List, ◌++◌, drop, replicate}
use Rattle.lists.specs.Table.{table}
use Rattle.plan.specs.Ranges.{most_guests}
use Rattle.salvage.specs.declared.Fate.{Fate}
use Rattle.salvage.specs.Keeping.{drop_number, new_place}

-- Kept, number 0 with the new place, or dropped, the number with place 0.
unfoldable pub fate_by : (number place : ℕ) → Fate
fate_by zero place = record { number = 0; place = place }
fate_by (suc n) place = record { number = suc n; place = 0 }

-- What becomes of block k.
abbrev pub fate : List ℕ → ℕ → Fate
fate s k = fate_by (drop_number s k) (new_place s k)

-- A line of the list that says nothing.
abbrev pub no_fate : Fate
no_fate = record { number = 0; place = 0 }

-- The list of n blocks, and zeros past them.
unfoldable pub fates_of : List ℕ → ℕ → List Fate
fates_of s n = table (fate s) n ++ drop n (replicate most_guests no_fate)
