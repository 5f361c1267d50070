-- What of a block a conversion changes.
use Rattle.std.specs.Prelude.{◌≡◌, ◌⊎◌, List, ℕ, ◌≤◌, ◌<◌}
use Rattle.lists.specs.Places.{nth}
use Rattle.words.specs.Word.{u16_at}

-- The bytes of a block that can change: the kind, bytes 0-1, the server, byte 22, and the check, bytes 508-511.
abbrev pub CanChange : ℕ → Type 0
CanChange i = (i < 2) ⊎ ((i ≡ 22) ⊎ ((508 ≤ i) × (i < 512)))

-- A block and the same one converted: no byte but those differs, the server is 0, and the kind is 1 where bytes 20-21
-- have no mark and else as it was.
pub record OnlyThese (block converted : List ℕ) : Type 0 where
  pub others : (i : ℕ) → (CanChange i → ⊥) → nth converted i ≡ nth block i
  pub server : nth converted 22 ≡ 0
  pub unmarked : u16_at block 20 ≡ 0 → u16_at converted 0 ≡ 1
  pub marked : 0 < u16_at block 20 → u16_at converted 0 ≡ u16_at block 0
