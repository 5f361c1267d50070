-- A plan's bytes converted read as the plan converted, and a plan without a Deferrable guest comes back the same.
-- Assumes nothing.
use mathlib.Core.Path.{◌≡◌, sym, ap, ◌∙◌}
use mathlib.Core.Bool.{true}
use mathlib.Core.List.{List, ◌++◌}
use Prim.Native.Nat.{ℕ, ◌*◌, ◌≤◌, ◌<◌}
use native.Mathlib.Omega.{arith}
use lib.ListN.{length, drop}
use lib.Seq.{take_all}
use Rattle.words.specs.Bytes.{Bytes}
use Rattle.plan.specs.declared.Guest.{Guest}
use Rattle.plan.specs.declared.Plan.{Plan}
use Rattle.plan.specs.declared.Refusal.{Refusal}
use Rattle.plan.specs.Records.{guest_at}
use Rattle.plan.specs.Server.{is_periodic, as_periodic}
use Rattle.plan.specs.First.{fine}
use Rattle.plan.specs.Order.{plan_refusal}
use Rattle.plan.specs.Periodic.{all_periodic, converted}
use Rattle.block.specs.Layout.{block_size}
use Rattle.block.specs.Reading.{guest_of}
use Rattle.blockwriter.specs.Writing.{block_of, write_refusal, written}
use Rattle.blockfile.specs.File.{block_at, blocks_in, file_refusal}
use Rattle.blockfile.specs.Joined.{joined}
use Rattle.planfile.specs.declared.Reading.{Reading}
use Rattle.planfile.specs.Records.{read_of}
use Rattle.planfile_laws.specs.File.{file_of, cleared}
use Rattle.conversion.specs.Converting.{converted_block, converted_bytes}
use Rattle.plan.proofs.PeriodicLaws.{periodic_at}
use Rattle.plan.proofs.Converted.{converted_at, all_converted, same_refusal, as_own}
use Rattle.blockwriter.proofs.Writing.{block_length}
use Rattle.blockfile.proofs.Joined.{joined_ext, joined_length, joined_at, blocks_joined}
use Rattle.planfile_laws.proofs.Joined.{joined_bytes, block_in_bytes}
use Rattle.planfile_laws.proofs.ReadBack.{read_back}
use Rattle.planfile_laws.proofs.OnlyOurs.{block_again, only_ours, read_passes, read_count, read_at, read_fits}
use Rattle.planfile_laws.proofs.Written.{only_written}
use Rattle.conversion.proofs.Outcome.{blocks_all}
use Rattle.conversion_laws.proofs.Converted.{converted_fits, cleared_converted}

-- A converted block has 512 bytes.
pub converted_long : (b : List ℕ) (place : ℕ) → length (converted_block b place) ≡ block_size
unfolding converted_block
converted_long b place = block_length (as_periodic (guest_of b)) place

-- What is written is bytes.
pub converted_bytes_lem : (s : List ℕ) → Bytes (converted_bytes s)
unfolding converted_bytes converted_block
converted_bytes_lem s =
    joined_bytes (λ k. converted_block (block_at s k) k) (blocks_in s)
    (λ k. block_in_bytes (as_periodic (guest_of (block_at s k))) k)

-- Block k of what is written is block k, converted.
pub converted_block_lem : (s : List ℕ) (k : ℕ) → k < blocks_in s
    → block_at (converted_bytes s) k ≡ converted_block (block_at s k) k
unfolding converted_bytes
converted_block_lem s k l =
    joined_at (λ i. converted_block (block_at s i) i) (blocks_in s) (λ i h. converted_long (block_at s i) i) k l

module _ (s : List ℕ) (ok : (file_refusal s).number ≡ 0) where
  -- What is written has the length of the plan.
  pub converted_length : length (converted_bytes s) ≡ length s
  unfolding converted_bytes
  converted_length =
      joined_length (λ k. converted_block (block_at s k) k) (blocks_in s) (λ k l. converted_long (block_at s k) k)
      ∙ blocks_all s ok

  -- It is the file of the plan converted.
  pub converted_file : converted_bytes s ≡ file_of (converted (read_of s).plan)
  unfolding converted_bytes converted_block file_of converted
  converted_file =
      joined_ext _ _ (blocks_in s)
      (λ k l.
      ap (λ (g : Guest). block_of g k)
      (ap (λ (g : Guest). as_periodic g) (sym (read_at s ok k l)) ∙ sym (converted_at (read_of s).plan k)))
      ∙ ap (joined (λ k. block_of (guest_at (converted (read_of s).plan).guests k) k)) (sym (read_count s ok))

  in_order : (plan_refusal (read_of s).plan).number ≡ 0
  unfolding read_of
  in_order = ap (λ (r : Refusal). r.number) (read_passes s ok)

  module _ (bytes : Bytes s) where
    -- What was read has zeros past its guests and tasks already.
    cleared_same : cleared (read_of s).plan ≡ (read_of s).plan
    unfolding read_of
    cleared_same =
        ap (λ (r : Reading). r.plan)
        (sym (read_back (read_of s).plan (read_fits s bytes ok) in_order) ∙ ap read_of (only_ours s bytes ok))

    reads : read_of (converted_bytes s) ≡ record { refusal = fine; plan = converted (read_of s).plan }
    reads =
        let p = (read_of s).plan in
        ap read_of converted_file
        ∙ read_back (converted p) (converted_fits p (read_fits s bytes ok))
        (ap (λ (r : Refusal). r.number) (same_refusal p) ∙ in_order)
        ∙ ap (λ (q : Plan). record { refusal = fine; plan = q }) (cleared_converted p ∙ ap converted cleared_same)

-- Bytes that read as a plan, converted, read without a refusal as the plan with every Deferrable guest made Periodic.
pub converted_reads : (s : List ℕ) → Bytes s → (file_refusal s).number ≡ 0
    → read_of (converted_bytes s) ≡ record { refusal = fine; plan = converted (read_of s).plan }
converted_reads s bytes ok = reads s ok bytes

-- They are not refused.
pub not_refused : (s : List ℕ) → Bytes s → (file_refusal s).number ≡ 0 → file_refusal (converted_bytes s) ≡ fine
unfolding read_of
not_refused s bytes ok = ap (λ (r : Reading). r.refusal) (converted_reads s bytes ok)

module _ (s : List ℕ) (bytes : Bytes s) (ok : (file_refusal s).number ≡ 0) where
  stays : (k : ℕ) → k < blocks_in s → is_periodic (guest_at (read_of s).plan.guests k) ≡ true
      → converted_block (block_at s k) k ≡ block_at s k
  unfolding converted_block
  stays k l e =
      let q = ap (λ (g : Guest). is_periodic g) (read_at s ok k l) in
      ap (λ (g : Guest). block_of g k) (as_own (guest_of (block_at s k)) (sym q ∙ e)) ∙ block_again s ok bytes k l

  -- A Periodic guest's block stays as it is.
  pub periodic_stays : (k : ℕ) → k < blocks_in s → is_periodic (guest_at (read_of s).plan.guests k) ≡ true
      → block_at (converted_bytes s) k ≡ block_at s k
  periodic_stays k l e = converted_block_lem s k l ∙ stays k l e

  -- A plan without a Deferrable guest comes back the same.
  pub none_same : all_periodic (read_of s).plan ≡ true → converted_bytes s ≡ s
  unfolding converted_bytes
  none_same periodic =
      joined_ext _ (block_at s) (blocks_in s)
      (λ k l. stays k l
      (periodic_at (read_of s).plan periodic k (omega (arith, read_count s ok))))
      ∙ blocks_joined s (blocks_in s)
      ∙ take_all (block_size * blocks_in s) s (omega (arith, blocks_all s ok))

-- What is written is the plan of Periodic guests alone.
written_periodic : (s : List ℕ) → Bytes s → (file_refusal s).number ≡ 0
    → all_periodic (read_of (converted_bytes s)).plan ≡ true
written_periodic s bytes ok =
    ap (λ (r : Reading). all_periodic r.plan) (converted_reads s bytes ok) ∙ all_converted (read_of s).plan

-- Converting what was converted changes nothing.
pub converted_again : (s : List ℕ) → Bytes s → (file_refusal s).number ≡ 0
    → converted_bytes (converted_bytes s) ≡ converted_bytes s
converted_again s bytes ok =
    none_same (converted_bytes s) (converted_bytes_lem s) (ap (λ (r : Refusal). r.number) (not_refused s bytes ok))
    (written_periodic s bytes ok)

-- Each block of it is what the writer, which refuses none of them, writes for the guest made Periodic.
pub converted_written : (s : List ℕ) → Bytes s → (file_refusal s).number ≡ 0 → (k : ℕ) → k < blocks_in s
    → (before : List ℕ) → block_size ≤ length before
    → (write_refusal (guest_at (converted (read_of s).plan).guests k) k (length before) ≡ fine)
    × (written (guest_at (converted (read_of s).plan).guests k) k before
    ≡ block_at (converted_bytes s) k ++ drop block_size before)
unfolding read_of
converted_written s bytes ok k l before room =
    let t = converted_bytes s in
    let read = ap (λ (r : Reading). r.plan) (converted_reads s bytes ok) in
    rw read at
    (only_written t (converted_bytes_lem s) (ap (λ (r : Refusal). r.number) (not_refused s bytes ok))
    (written_periodic s bytes ok) k (omega (arith, converted_length s ok)) before room)
