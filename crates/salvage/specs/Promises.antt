-- What the crate's entry promises.
use Rattle.std.specs.Prelude.{◌≡◌, ℕ, List, length}
use Rattle.salvage.specs.declared.Salvaged.{Salvaged}
use Rattle.salvage.specs.Outcome.{salvaged_of, output_of}

-- `salvage` gives the refusal, or number 0, how many bytes it wrote and the list of the file's blocks, and settles
-- every byte of the lent output.
abbrev pub Salvages : (file before : List ℕ) → Salvaged → (after : List ℕ) → Type 0
Salvages file before r after = (r ≡ salvaged_of file (length before)) × (after ≡ output_of file before)
