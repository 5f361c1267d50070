-- The cause of refusal 16, in document 02's words.
use Rattle.std.specs.Prelude.{◌≡◌, ◌⊎◌, ◌≢◌, List, ℕ, ◌<◌}
use Rattle.block.specs.Reading.{place_in}
use Rattle.blockfile.specs.File.{block_at, id_at, blocks_in}

-- The plan has a guest of that id.
abbrev pub HasId : List ℕ → (id : ℕ) → Type 0
HasId plan id = (j : ℕ) × ((j < blocks_in plan) × (id_at plan j ≡ id))

-- 16: the id of the sheet's block k is not in the plan, or the block's place is not its guest's.
abbrev pub Foreign : (plan sheet : List ℕ) → ℕ → Type 0
Foreign plan sheet k =
    (HasId plan (id_at sheet k) → ⊥)
    ⊎ ((j : ℕ) × ((j < blocks_in plan) × ((id_at plan j ≡ id_at sheet k) × (place_in (block_at sheet k) ≢ j))))
