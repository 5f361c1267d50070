-- What is saved of a damaged file.
use Rattle.std.specs.Prelude.{◌⊎◌, List, ℕ, ◌≤◌, ◌<◌}
use Rattle.lists.specs.Places.{nth}
use Rattle.blockfile.specs.File.{block_at}
use Rattle.salvage.specs.Moving.{moved_up}
use Rattle.salvage.specs.Outcome.{kept_in}

-- Kept block j, from 0, as it stands in the file.
abbrev pub kept_block : List ℕ → ℕ → List ℕ
kept_block s j = block_at s (nth (kept_in s) j)

-- The bytes saved: the kept blocks, moved up.
abbrev pub saved : List ℕ → List ℕ
saved s = moved_up s (kept_in s)

-- The bytes of a block that are written anew: the place, bytes 2-3, and the check, bytes 508-511.
abbrev pub Anew : ℕ → Type 0
Anew i = ((2 ≤ i) × (i < 4)) ⊎ ((508 ≤ i) × (i < 512))
