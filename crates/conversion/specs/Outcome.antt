-- A plan's bytes converted into a lent output: the refusals in their order, and the output.
use Rattle.std.specs.Prelude.{List, [], ◌∷◌, ◌++◌, ℕ, zero, suc, leb, length, drop}
use Rattle.lists.specs.Refusals.{refusal, ◌or_refuse◌}
use Rattle.plan.specs.declared.Refusal.{Refusal}
use Rattle.plan.specs.First.{refused, or_else}
use Rattle.blockfile.specs.File.{file_refusal}
use Rattle.conversion.specs.Converting.{converted_bytes}

-- The number that an output of so many bytes is refused by: 12 where it is shorter than the plan.
unfoldable pub room_number : (size room : ℕ) → ℕ
room_number size room = refusal (leb size room or_refuse 12 ∷ [])

-- The converter's refusal for an output of so many bytes: the reading order, then 12.
unfoldable pub convert_refusal : List ℕ → (room : ℕ) → Refusal
convert_refusal s room = or_else (file_refusal s).number (file_refusal s).place (refused (room_number (length s) room) 0)

-- The lent bytes: the converted plan and what stood behind it, or on a refusal what stood there.
unfoldable pub out_by : (number : ℕ) → (s before : List ℕ) → List ℕ
out_by zero s before = converted_bytes s ++ drop (length s) before
out_by (suc n) s before = before

-- The lent bytes after the converter.
abbrev pub converted_out : (s before : List ℕ) → List ℕ
converted_out s before = out_by (convert_refusal s (length before)).number s before
