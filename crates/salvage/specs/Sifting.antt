-- The first blocks of a file gone through once. Inner: no promise of the entry names this.
use Rattle.std.specs.Prelude.{◌≡◌, ℕ, List, take}
use Rattle.salvage.specs.declared.kept.Kept.{Kept}
use Rattle.salvage.specs.declared.Sifted.{Sifted}
use Rattle.salvage.specs.Keeping.{kept_places}
use Rattle.salvage.specs.Fates.{fates_of}

-- The places that are kept: as many as are counted, from the first on.
abbrev pub places_of : Kept → List ℕ
places_of k = take k.count k.places

-- Its places are those of the kept ones among the first n blocks, and its list is that of the n blocks.
abbrev pub Sifts : List ℕ → ℕ → Sifted → Type 0
Sifts s n t = (places_of t.kept ≡ kept_places s n) × (t.fates ≡ fates_of s n)
