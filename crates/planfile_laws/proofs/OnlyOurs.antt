-- Only ours: bytes that read as a plan are the file of what was read. Assumes nothing.
use mathlib.Core.Path.{◌≡◌, refl, sym, ap, ◌∙◌}
use mathlib.Core.List.{List}
use Prim.Native.Nat.{ℕ, ◌+◌, ◌*◌, ◌<◌}
use native.Mathlib.Decide.{dec_lt}
use native.Mathlib.Omega.{arith}
use lib.ListN.{drop, replicate, length-take, get_or-eq_default}
use lib.Seq.{take_all, get_or-take, get_or-drop}
use Rattle.lists.specs.Table.{table}
use Rattle.plan.specs.Ranges.{most_guests, most_tasks}
use Rattle.block.specs.Layout.{block_size, id_word, capacity_word, period_word, tasks_charge_word, run_word, every_word, deadline_word}
use Rattle.words.specs.Word.{word_wrap, word}
use Rattle.words.specs.Bytes.{Below, Bytes}
use Rattle.block.specs.Reading.{column, guest_of, own_place}
use Rattle.plan.specs.declared.Guest.{Guest}
use Rattle.plan.specs.declared.Plan.{Plan}
use Rattle.plan.specs.Records.{guest_at, absent, blank}
use Rattle.plan.specs.First.{fine}
use Rattle.plan.specs.Order.{new_id, number_of, guest_number, plan_refusal}
use Rattle.blockwriter.specs.Writing.{block_of}
use Rattle.blockfile.specs.File.{block_at, id_at, blocks_in, number_at, file_refusal}
use Rattle.blockfile.specs.Records.{records_of}
use Rattle.planfile.specs.Records.{plan_by, read_of}
use Rattle.planfile_laws.specs.File.{file_of}
use Rattle.planfile_laws.specs.Fits.{GuestInTypes, PlanInTypes}
use Rattle.words.proofs.Word.{word_fits}
use Rattle.plan.proofs.Order.{counted}
use Rattle.lists.proofs.All.{all_ext}
use Rattle.lists.proofs.Refusals.{none_left, go_on}
use Rattle.block.proofs.Reading.{block_in}
use Rattle.plan.proofs.First.{first_fine}
use Rattle.lists.proofs.Table.{table_length, table_before, table_at}
use Rattle.blockfile.proofs.File.{FileIn, file_in, part_long}
use Rattle.blockfile.proofs.Joined.{joined_ext, blocks_joined}
use Rattle.planfile_laws.proofs.BlockOnly.{written_again}

-- The bytes of a block are bytes of the whole.
pub block_bytes : (s : List ℕ) → Bytes s → (k : ℕ) → Bytes (block_at s k)
block_bytes s bytes k i =
    elim (dec_lt i block_size) [
      | yes h ↦ rw (get_or-take block_size (drop (block_size * k) s) i 0 h, get_or-drop (block_size * k) s i 0)
          (bytes (block_size * k + i))
      | no h ↦ rw
          (get_or-eq_default {A = ℕ} (block_at s k) 0 {n = i}
          (rw (length-take block_size (drop (block_size * k) s)) (omega arith)))
          (omega arith)
    ]

-- The numbers that bytes say fit their types.
column_fits : (b : List ℕ) (at : ℕ → ℕ) → Bytes b → Below word_wrap (column b at)
unfolding column
column_fits b at bytes i =
    elim (dec_lt i most_tasks) [
      | yes h ↦ rw (table_at (λ j. word b (at j)) 0 most_tasks i h) (word_fits b (at i) bytes)
      | no h ↦ rw
          (get_or-eq_default {A = ℕ} (table (λ j. word b (at j)) most_tasks) 0 {n = i}
          (rw (table_length (λ j. word b (at j)) most_tasks) (omega arith)))
          (omega arith)
    ]

block_fits : (b : List ℕ) → Bytes b → GuestInTypes (guest_of b)
block_fits b bytes = record {
  id = word_fits b id_word bytes;
  capacity = word_fits b capacity_word bytes;
  period = word_fits b period_word bytes;
  charge = omega (arith, word_fits b tasks_charge_word bytes);
  run = column_fits b run_word bytes;
  every = column_fits b every_word bytes;
  deadline = column_fits b deadline_word bytes;
}

module _ (s : List ℕ) (ok : (file_refusal s).number ≡ 0) where
  inside : FileIn s
  inside = file_in s ok

  pub block_again : Bytes s → (k : ℕ) → k < blocks_in s → block_of (guest_of (block_at s k)) k ≡ block_at s k
  unfolding number_at
  block_again bytes k l =
      written_again (block_at s k) k (new_id (id_at s) k) (part_long s (block_at s k) k refl l) (block_bytes s bytes k)
      (inside.blocks k l)

  guest_at_lem : (k : ℕ) → k < blocks_in s → guest_at (records_of (block_at s) (blocks_in s)) k ≡ guest_of (block_at s k)
  unfolding records_of
  guest_at_lem k l =
      table_before (λ k. guest_of (block_at s k)) absent (blocks_in s)
      (drop (blocks_in s) (replicate most_guests blank)) k l

  pub plan_is : (read_of s).plan ≡ record { count = blocks_in s; guests = records_of (block_at s) (blocks_in s) }
  unfolding read_of plan_by
  plan_is = rw ok refl

  again : Bytes s → file_of (record { count = blocks_in s; guests = records_of (block_at s) (blocks_in s) }) ≡ s
  unfolding file_of
  again bytes =
      let z = inside.size.whole in
      joined_ext _ (block_at s) (blocks_in s)
      (λ k l. ap (λ (g : Guest). block_of g k) (guest_at_lem k l) ∙ block_again bytes k l)
      ∙ blocks_joined s (blocks_in s)
      ∙ take_all (block_size * blocks_in s) s (omega arith)

  -- The records read pass the records' order.
  id_at_lem : (k : ℕ) → k < blocks_in s → (guest_at (records_of (block_at s) (blocks_in s)) k).id ≡ id_at s k
  id_at_lem k l = ap (λ (g : Guest). g.id) (guest_at_lem k l)

  new_at :
      (k : ℕ) → k < blocks_in s → new_id (λ j. (guest_at (records_of (block_at s) (blocks_in s)) j).id) k ≡ new_id (id_at s) k
  unfolding new_id
  new_at k l = all_ext _ _ k (λ j m. rw (id_at_lem j (omega arith), id_at_lem k l) refl)

  guest_passes : (k : ℕ) → k < blocks_in s → guest_number (records_of (block_at s) (blocks_in s)) k ≡ 0
  unfolding guest_number number_of number_at
  guest_passes k l =
      let b = block_in (block_at s k) (own_place (block_at s k) k) (new_id (id_at s) k) (inside.blocks k l) in
      rw (guest_at_lem k l, new_at k l) (go_on 4 _ b.heads ∙ go_on 6 _ b.tasks ∙ none_left)

  passes : plan_refusal (record { count = blocks_in s; guests = records_of (block_at s) (blocks_in s) }) ≡ fine
  passes =
      let z = inside.size in
      sym (counted (record { count = blocks_in s; guests = records_of (block_at s) (blocks_in s) }) (omega arith)
      (omega arith))
      ∙ first_fine (guest_number (records_of (block_at s) (blocks_in s))) (blocks_in s) 0
      (λ k l m. guest_passes k (omega arith))

-- Bytes that are read without a refusal are the file of what was read, block after block: a plan has one form.
pub only_ours : (s : List ℕ) → Bytes s → (read_of s).refusal.number ≡ 0 → file_of (read_of s).plan ≡ s
unfolding read_of
only_ours s bytes ok = ap file_of (plan_is s ok) ∙ again s ok bytes

-- What was read passes the records' order.
pub read_passes : (s : List ℕ) → (read_of s).refusal.number ≡ 0 → plan_refusal (read_of s).plan ≡ fine
unfolding read_of
read_passes s ok = ap plan_refusal (plan_is s ok) ∙ passes s ok

-- It has a guest for each block.
pub read_count : (s : List ℕ) → (file_refusal s).number ≡ 0 → (read_of s).plan.count ≡ blocks_in s
read_count s ok = ap (λ (p : Plan). p.count) (plan_is s ok)

-- The guest at place k is the one that block k says.
pub read_at : (s : List ℕ) → (file_refusal s).number ≡ 0 → (k : ℕ) → k < blocks_in s
    → guest_at (read_of s).plan.guests k ≡ guest_of (block_at s k)
read_at s ok k l = ap (λ (p : Plan). guest_at p.guests k) (plan_is s ok) ∙ guest_at_lem s ok k l

-- Its numbers fit their types.
pub read_fits : (s : List ℕ) → Bytes s → (file_refusal s).number ≡ 0 → PlanInTypes (read_of s).plan
read_fits s bytes ok k l =
    let h : k < blocks_in s = omega (arith, read_count s ok) in
    rw (read_at s ok k h) (block_fits (block_at s k) (block_bytes s bytes k))
