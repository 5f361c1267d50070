-- Blocks one after the other: a plan's bytes, its guests' blocks in order, and sheets of blocks in any order. The
-- refusals of reading, in their order.
use Rattle.std.specs.Prelude.{Bool, true, false, not, ◌&&◌, ◌||◌, List, ℕ, ◌*◌, ◌/◌, ◌%◌, length, take, drop, eqb, Option}
use Rattle.lists.specs.Search.{least}
use Rattle.plan.specs.declared.Refusal.{Refusal}
use Rattle.plan.specs.Ranges.{most_guests, within}
use Rattle.plan.specs.First.{refused, first_refused}
use Rattle.plan.specs.Order.{new_id}
use Rattle.block.specs.Layout.{block_size}
use Rattle.block.specs.Reading.{id_in, own_place, block_number}

-- Block k of the bytes, from 0.
abbrev pub block_at : List ℕ → ℕ → List ℕ
block_at s k = take block_size (drop (block_size * k) s)

-- The guest id in block k.
abbrev pub id_at : List ℕ → ℕ → ℕ
id_at s k = id_in (block_at s k)

-- How many blocks there are.
abbrev pub blocks_in : List ℕ → ℕ
blocks_in s = length s / block_size

-- The length of 8 blocks, 4,096.
abbrev pub most_bytes : ℕ
most_bytes = block_size * most_guests

-- Passes 1: a length of 1 to 4,096, a multiple of 512.
abbrev pub size_ok : ℕ → Bool
size_ok n = within 1 most_bytes n && eqb (n % block_size) 0

-- The number that block k is refused by; `placed` says whether its place counts, which is its own then.
unfoldable pub number_at : (placed : Bool) → List ℕ → ℕ → ℕ
number_at placed s k = block_number (block_at s k) (not placed || own_place (block_at s k) k) (new_id (id_at s) k)

-- The refusal, by whether the length is right: 1, or the first refused block's number and place.
unfoldable pub sized_by : Bool → (placed : Bool) → List ℕ → Refusal
sized_by false placed s = refused 1 0
sized_by true placed s = first_refused (number_at placed s) (blocks_in s) 0

-- The refusal of blocks: 1, then block by block 2, 3, 4, 5, 6.
unfoldable pub blocks_refusal : (placed : Bool) → List ℕ → Refusal
blocks_refusal placed s = sized_by (size_ok (length s)) placed s

-- The refusal of reading a plan: places count.
abbrev pub file_refusal : List ℕ → Refusal
file_refusal s = blocks_refusal true s

-- The first block that has the id.
abbrev pub first_with : List ℕ → (id : ℕ) → Option ℕ
first_with s id = least (λ k. eqb (id_at s k) id) (blocks_in s) 0
