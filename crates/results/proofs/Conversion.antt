-- P13, no more Deferrable guests: a converted plan is the plan with every guest made Periodic, and no response of it is
-- larger.
use mathlib.Core.Path.{◌≡◌}
use mathlib.Core.Bool.{true}
use mathlib.Core.List.{List, ◌++◌}
use Prim.Native.Nat.{ℕ, ◌≤◌, ◌<◌}
use lib.ListN.{length, drop}
use Rattle.lists.specs.Exactly.{◌exactly_when◌}
use Rattle.words.specs.Bytes.{Bytes}
use Rattle.plan.specs.First.{fine, refused}
use Rattle.plan.specs.Order.{plan_refusal}
use Rattle.plan.specs.Periodic.{all_periodic, start_refusal, converted}
use Rattle.plan.specs.Place.{place_of}
use Rattle.plan.specs.Records.{guest_at}
use Rattle.plan.specs.declared.Plan.{Plan}
use Rattle.block.specs.Layout.{block_size}
use Rattle.blockwriter.specs.Writing.{write_refusal, written}
use Rattle.blockfile.specs.File.{block_at, blocks_in, file_refusal}
use Rattle.planfile.specs.Records.{read_of}
use Rattle.conversion.specs.Converting.{converted_bytes}
use Rattle.conversion.specs.Outcome.{convert_refusal, converted_out}
use Rattle.conversion_laws.specs.Changed.{OnlyThese}
use Rattle.dominance.specs.Stays.{FittedStays, MetStays, QuotedStays, AcceptedStays}
use Rattle.dominance.specs.Worked.{WorkedConversions}
use Rattle.plan.proofs.Converted as records
use Rattle.plan.proofs.PeriodicLaws as starting
use Rattle.conversion_laws.proofs.Block as block
use Rattle.conversion_laws.proofs.Bytes as bytes
use Rattle.conversion_laws.proofs.Exact as causes
use Rattle.dominance.proofs.Verdicts as verdicts
use Rattle.dominance.proofs.Worked as worked

module _ (p : Plan) where
  -- Every guest that was fitted stays so, with a response no larger.
  pub fitted_stays : FittedStays p (converted p)
  fitted_stays = verdicts.fitted_stays p

  -- Every task that was met stays so, with a response no larger.
  pub met_stays : MetStays p (converted p)
  met_stays = verdicts.met_stays p

  -- Every task that was quoted a response, met or unmet, is quoted one no larger.
  pub quoted_stays : QuotedStays p (converted p)
  quoted_stays = verdicts.quoted_stays p

  -- A plan that was accepted stays so.
  pub accepted_stays : AcceptedStays p (converted p)
  accepted_stays = verdicts.accepted_stays p

  -- The records are refused as they were, and each id has its place.
  pub same_refusal : plan_refusal (converted p) ≡ plan_refusal p
  same_refusal = records.same_refusal p

  pub same_place : (id : ℕ) → place_of (converted p) id ≡ place_of p id
  same_place = records.same_place p

  -- Records in order can be started once they are converted.
  pub converted_starts : (plan_refusal p).number ≡ 0 → (start_refusal (converted p)).number ≡ 0
  converted_starts e = starting.starts_by (converted p) (rw (same_refusal) e) (records.all_converted p)

  -- In a plan without Deferrable guests each guest is as it was.
  pub periodic_same :
      all_periodic p ≡ true
      → (k : ℕ)
      → k < p.count
      → guest_at (converted p).guests k ≡ guest_at p.guests k
  periodic_same = records.periodic_same p

-- Plan A with both guests Deferrable: converted it is plan A, and each response is 2 ticks smaller.
pub worked_conversions : WorkedConversions
worked_conversions = worked.worked

-- A plan's bytes that are read without a refusal.
module _ (s : List ℕ) (inBytes : Bytes s) (ok : (file_refusal s).number ≡ 0) where
  -- Converted they read as the plan with its Deferrable guests made Periodic.
  pub converted_reads : read_of (converted_bytes s) ≡ record { refusal = fine; plan = converted (read_of s).plan }
  converted_reads = bytes.converted_reads s inBytes ok

  -- Of a plan without any they are the plan's own bytes.
  pub none_same : all_periodic (read_of s).plan ≡ true → converted_bytes s ≡ s
  none_same = bytes.none_same s inBytes ok

  -- Converted again they stay.
  pub converted_again : converted_bytes (converted_bytes s) ≡ converted_bytes s
  converted_again = bytes.converted_again s inBytes ok

  -- They are as many.
  pub converted_length : length (converted_bytes s) ≡ length s
  converted_length = bytes.converted_length s ok

  -- In each block the kind, byte 22 and the check alone change: byte 22 is zero, and the kind is 1 where there is no
  -- mark and else as it was.
  pub only_these_bytes : (k : ℕ) → k < blocks_in s → OnlyThese (block_at s k) (block_at (converted_bytes s) k)
  only_these_bytes = block.only_these_bytes s inBytes ok

  -- Each block is what the writer writes for the guest made Periodic: the one form.
  pub converted_written :
      (k : ℕ) → k < blocks_in s → (before : List ℕ) → block_size ≤ length before
      → (write_refusal (guest_at (converted (read_of s).plan).guests k) k (length before) ≡ fine)
      × (written (guest_at (converted (read_of s).plan).guests k) k before
      ≡ block_at (converted_bytes s) k ++ drop block_size before)
  converted_written = bytes.converted_written s inBytes ok

-- What is written, by the room that the output has.
module _ (s before : List ℕ) where
  -- The plan converted, and past it what stood there.
  pub output_is :
      (convert_refusal s (length before)).number ≡ 0
      → converted_out s before ≡ converted_bytes s ++ drop (length s) before
  output_is = causes.output_is s before

  -- On a refusal every lent byte is as it was.
  pub refused_leaves : 0 < (convert_refusal s (length before)).number → converted_out s before ≡ before
  refused_leaves = causes.refused_leaves s before

-- The reading order comes first.
pub reading_first :
    (s : List ℕ) (room : ℕ) → 0 < (file_refusal s).number → convert_refusal s room ≡ file_refusal s
reading_first = causes.reading_first

-- 12 is given exactly if the bytes read as a plan and the output is shorter than it, and its place is 0.
pub twelve_exactly :
    (s : List ℕ) (room : ℕ)
    → ((convert_refusal s room).number ≡ 12) exactly_when (((file_refusal s).number ≡ 0) × (room < length s))
twelve_exactly = causes.twelve_exactly

pub twelve_place : (s : List ℕ) (room : ℕ) → (convert_refusal s room).number ≡ 12 → convert_refusal s room ≡ refused 12 0
twelve_place = causes.twelve_place
