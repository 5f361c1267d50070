-- Which blocks of a damaged file are kept. What comes behind its whole blocks is no block.
use Rattle.std.specs.Prelude.{ℕ, zero, suc, Bool, true, not, List, [], ◌∷◌, ◌++◌, length, ◌==◌}
use Rattle.lists.specs.All.{all_to}
use Rattle.lists.specs.Places.{nth}
use Rattle.block.specs.Reading.{block_number}
use Rattle.blockfile.specs.File.{block_at, id_at}

-- The id of block k is none of the blocks' that were kept so far; these are known by their places in the file.
unfoldable pub new_among : List ℕ → (kept : List ℕ) → ℕ → Bool
new_among s kept k = all_to (λ j. not (id_at s (nth kept j) == id_at s k)) (length kept)

-- The number that block k is dropped by, 0 where it is kept: 2, then 3 by the kind alone, 4 by the ids of the blocks
-- that were kept so far, 5, 6.
unfoldable pub number_after : List ℕ → (kept : List ℕ) → ℕ → ℕ
number_after s kept k = block_number (block_at s k) true (new_among s kept k)

-- The places that were kept so far, with place k behind them where its block's number is 0.
unfoldable pub kept_by : (number place : ℕ) → List ℕ → List ℕ
kept_by zero k kept = kept ++ (k ∷ [])
kept_by (suc n) k kept = kept

-- The places in the file of the kept ones among its first n blocks, in order.
unfoldable pub kept_places : List ℕ → ℕ → List ℕ
kept_places s zero = []
kept_places s (suc n) = kept_by (number_after s (kept_places s n) n) n (kept_places s n)

-- The number that block k of a file is dropped by, 0 where it is kept.
abbrev pub drop_number : List ℕ → ℕ → ℕ
drop_number s k = number_after s (kept_places s k) k

-- The place that block k of a file moves up to: as many blocks before it are kept.
abbrev pub new_place : List ℕ → ℕ → ℕ
new_place s k = length (kept_places s k)
