-- A guest's block in a plan's bytes, found by the guest's id.
use Rattle.std.specs.Prelude.{List, [], ℕ, zero, suc, Option, Some, None}
use Rattle.plan.specs.declared.Refusal.{Refusal}
use Rattle.plan.specs.First.{refused, or_else}
use Rattle.blockfile.specs.File.{block_at, file_refusal, first_with}

-- What was found as number and place: 0 and the place, or refusal 7.
abbrev pub place_or_seven : Option ℕ → Refusal
place_or_seven (Some k) = refused 0 k
place_or_seven None = refused 7 0

-- The finder's companion: the reading order, then 7, then the found block's place.
unfoldable pub found_place : List ℕ → (id : ℕ) → Refusal
found_place s id = or_else (file_refusal s).number (file_refusal s).place (place_or_seven (first_with s id))

-- The block at a place as it stands in the bytes; nothing on a refusal.
unfoldable pub part_by : (number place : ℕ) → List ℕ → List ℕ
part_by zero place s = block_at s place
part_by (suc n) place s = []

-- The finder: the guest's 512 bytes.
unfoldable pub found : List ℕ → (id : ℕ) → List ℕ
found s id = part_by (found_place s id).number (found_place s id).place s
