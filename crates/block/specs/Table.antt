-- Document 01's table of a block, line by line in bytes: where each number stands that the definitions of reading
-- give, with no word named.
use Rattle.std.specs.Prelude.{◌≡◌, true, List, ℕ, ◌+◌, ◌*◌, ◌%◌, ◌^◌, ◌≤◌, ◌<◌}
use Rattle.lists.specs.Places.{nth}
use Rattle.lists.specs.Sum.{sum_to}
use Rattle.words.specs.Word.{word_wrap, u16_at, u32_at}
use Rattle.plan.specs.Records.{run_of, every_of, deadline_of}
use Rattle.plan.specs.Ranges.{most_tasks}
use Rattle.lists.specs.Exactly.{◌exactly_when◌}
use Rattle.block.specs.Reading.{kind_in, place_in, guest_of, sums_to_zero, zeros_ok}

-- The bytes from one on, and before another, are zero.
abbrev pub ZeroBytes : List ℕ → (from to : ℕ) → Type 0
ZeroBytes b from to = (i : ℕ) → from ≤ i → i < to → nth b i ≡ 0

-- The bytes that must be zero in a block of n tasks are: bytes 20-22 but in kind 2, which has marks there of which none
-- is past the tasks, and a server, 0 or 1; bytes 23-31, the entries past the tasks, and bytes 224-507.
pub record ZerosStand (b : List ℕ) (n : ℕ) : Type 0 where
  pub plain : (u16_at b 0 ≡ 2 → ⊥) → ZeroBytes b 20 23
  pub marked : u16_at b 0 ≡ 2 → u16_at b 20 < 2 ^ n
  pub served : u16_at b 0 ≡ 2 → nth b 22 ≤ 1
  pub spare : ZeroBytes b 23 32
  pub past_tasks : ZeroBytes b (32 + 12 * n) 224
  pub past_entries : ZeroBytes b 224 508

-- The table has a field for each line: bytes 0-1 are the kind, 2-3 the place, 4-7 the id, 8-11 the capacity, 12-15 the
-- period, 16-17 the number of tasks, 18-19 the charge, 20-21 the marks, 22 the server, 32-223 the entries of 12 bytes,
-- and 508-511 the check; the bytes that must be zero are those of the lines between them.
pub record InBytes (b : List ℕ) : Type 0 where
  pub kind : kind_in b ≡ u16_at b 0
  pub place : place_in b ≡ u16_at b 2
  pub id : (guest_of b).id ≡ u32_at b 4
  pub capacity : (guest_of b).capacity ≡ u32_at b 8
  pub period : (guest_of b).period ≡ u32_at b 12
  pub tasks : (guest_of b).tasks ≡ u16_at b 16
  pub charge : (guest_of b).charge ≡ u16_at b 18
  pub marks : (guest_of b).marks ≡ u16_at b 20
  pub server : (guest_of b).deferrable ≡ nth b 22
  pub run : (i : ℕ) → i < most_tasks → run_of (guest_of b) i ≡ u32_at b (32 + 12 * i)
  pub every : (i : ℕ) → i < most_tasks → every_of (guest_of b) i ≡ u32_at b (36 + 12 * i)
  pub deadline : (i : ℕ) → i < most_tasks → deadline_of (guest_of b) i ≡ u32_at b (40 + 12 * i)
  pub zeros : (guest_of b).tasks ≤ most_tasks → (zeros_ok b ≡ true) exactly_when ZerosStand b (guest_of b).tasks
  pub check : (sums_to_zero b ≡ true) exactly_when ((sum_to (λ k. u32_at b (4 * k)) 127 + u32_at b 508) % word_wrap ≡ 0)
