-- How the code comes to the refusal of reading, and what bytes that are not refused say. Assumes nothing.
use Rattle.std.specs.Prelude.{Option, Some, None, MatchOption}
use mathlib.Core.Path.{◌≡◌, refl}
use mathlib.Core.Bool.{Bool, true, false}
use mathlib.Core.List.{List}
use Prim.Native.Nat.{ℕ, ◌*◌, ◌-◌, ◌%◌, ◌≤◌, ◌<◌}
use native.Mathlib.Omega.{arith}
use lib.ListN.{length, take, drop, length-drop}
use lib.Seq.{length-take-le, take-take}
use lib.Dec.{eqb}
use borrow.Author.Tests.{eqb-true}
use Rattle.plan.specs.Ranges.{within}
use Rattle.block.specs.Layout.{block_size}
use Rattle.plan.specs.First.{fine, refused, first_refused}
use Rattle.blockfile.specs.File.{block_at, id_at, blocks_in, most_bytes, size_ok, number_at, sized_by, blocks_refusal, file_refusal, first_with}
use Rattle.lists.proofs.All.{and_left, and_right}
use Rattle.lists.proofs.Search.{First, least_says, least_is}
use Rattle.lists.specs.Search.{least}
use Rattle.plan.proofs.RangesLaws.{within_says}
use Rattle.plan.proofs.First.{none_refused, first_fine}

-- A right length.
pub record SizeIn (n : ℕ) : Type 0 where
  pub some : 1 ≤ n
  pub most : n ≤ most_bytes
  pub whole : n % block_size ≡ 0

pub size_says : (n : ℕ) → size_ok n ≡ true → SizeIn n
size_says n e =
    let w = within_says 1 most_bytes n (and_left (within 1 most_bytes n) _ e) in
    record { some = w.0; most = w.1; whole = eqb-true (n % block_size) 0 (and_right (within 1 most_bytes n) _ e) }

-- Where the length is right, the refusal is the first of the blocks'.
pub sized : (placed : Bool) (s : List ℕ) → size_ok (length s) ≡ true
    → first_refused (number_at placed s) (blocks_in s) 0 ≡ blocks_refusal placed s
unfolding blocks_refusal sized_by
sized placed s e = rw e refl

-- Where the length is wrong, the refusal is 1.
pub unsized : (placed : Bool) (s : List ℕ) → size_ok (length s) ≡ false → refused 1 0 ≡ blocks_refusal placed s
unfolding blocks_refusal sized_by
unsized placed s e = rw e refl

-- Where nothing is refused, the length is right and no block is refused.
sized_none : (b placed : Bool) (s : List ℕ) → (sized_by b placed s).number ≡ 0
    → (b ≡ true) × ((first_refused (number_at placed s) (blocks_in s) 0).number ≡ 0)
unfolding sized_by
sized_none true placed s e = (refl, e)
sized_none false placed s e = absurd (omega arith)

-- Where the refusal has number 0 it has place 0.
pub blocks_fine : (placed : Bool) (s : List ℕ) → (blocks_refusal placed s).number ≡ 0 → blocks_refusal placed s ≡ fine
unfolding blocks_refusal sized_by
blocks_fine placed s e = by (size_ok (length s)) e
  where
    by : (b : Bool) → (sized_by b placed s).number ≡ 0 → sized_by b placed s ≡ fine
    by true e =
        first_fine (number_at placed s) (blocks_in s) 0
        (λ z l h. none_refused (number_at placed s) (blocks_in s) 0 e z l h)
    by false e = absurd (omega arith)

-- Bytes that are not refused: a right length, and no block has a number.
pub record BlocksIn (placed : Bool) (s : List ℕ) : Type 0 where
  pub size : SizeIn (length s)
  pub blocks : (k : ℕ) → k < blocks_in s → number_at placed s k ≡ 0

pub blocks_in_lem : (placed : Bool) (s : List ℕ) → (blocks_refusal placed s).number ≡ 0 → BlocksIn placed s
unfolding blocks_refusal
blocks_in_lem placed s e =
    let c = sized_none (size_ok (length s)) placed s e in
    record {
      size = size_says (length s) c.0;
      blocks = λ k h. none_refused (number_at placed s) (blocks_in s) 0 c.1 k (omega arith) (omega arith);
    }

-- A plan's bytes that are not refused.
abbrev pub FileIn : List ℕ → Type 0
FileIn s = BlocksIn true s

pub file_in : (s : List ℕ) → (file_refusal s).number ≡ 0 → FileIn s
file_in = blocks_in_lem true

-- A part that is block k has the size of a block.
pub part_long : (s part : List ℕ) (k : ℕ) → part ≡ block_at s k → k < blocks_in s → length part ≡ block_size
part_long s part k e l =
    rw e (length-take-le block_size (drop (block_size * k) s) (rw (length-drop (block_size * k) s) (omega arith)))

-- The first 512 bytes of those from block k's first on are block k.
pub part_at : (s : List ℕ) (k : ℕ) → k < blocks_in s
    → take block_size (take (length s - block_size * k) (drop (block_size * k) s)) ≡ block_at s k
part_at s k h = take-take block_size (length s - block_size * k) (drop (block_size * k) s) (omega arith)

-- A block that was found is one of the blocks, and has the id.
pub found_at : (s : List ℕ) (id j : ℕ) → first_with s id ≡ Some j → (j < blocks_in s) × (id_at s j ≡ id)
found_at s id j e =
    let w : First (λ k. eqb (id_at s k) id) (blocks_in s) 0 j =
    rw e at (least_says (λ k. eqb (id_at s k) id) (blocks_in s) 0) in
    (omega (arith, w.high), eqb-true _ _ w.holds)

-- The first number that passes, as a search over a range gives it.
pub found_first : (f : ℕ → Bool) (n : ℕ) (r : Option ℕ)
    → MatchOption r ((k : ℕ) → 0 ≤ k → k < n → f k ≡ false)
    (λ i. (0 ≤ i) × (i < n) × (f i ≡ true) × ((k : ℕ) → 0 ≤ k → k < i → f k ≡ false))
    → r ≡ least f n 0
found_first f n None h = least_is f n 0 None record { never = λ z l u. h z l (omega arith) }
found_first f n (Some i) h =
    least_is f n 0 (Some i) record { low = h.0; high = omega (arith, h.1); holds = h.2; first = h.3 }
