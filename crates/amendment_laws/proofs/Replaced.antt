-- The plan's bytes with the sheet's blocks at their places read as the amended plan. Assumes nothing.
use Rattle.std.specs.Prelude.{Option, Some, None}
use mathlib.Core.Path.{◌≡◌, refl, sym, ap, ◌∙◌}
use mathlib.Core.Bool.{Bool, true}
use mathlib.Core.List.{List, ◌++◌}
use Prim.Native.Nat.{ℕ, ◌*◌, ◌%◌, ◌<◌}
use native.Mathlib.Omega.{arith}
use lib.ListN.{length, drop, replicate}
use borrow.Author.Tests.{eq-eqb, le-leb}
use Rattle.plan.specs.declared.Guest.{Guest}
use Rattle.plan.specs.Records.{blank}
use Rattle.plan.specs.Ranges.{most_guests, guest_ok}
use Rattle.plan.specs.First.{fine}
use Rattle.plan.specs.Order.{new_id, plan_refusal}
use Rattle.block.specs.Layout.{block_size}
use Rattle.block.specs.Reading.{id_in, place_in, guest_of, kind_ok, own_place, block_number}
use Rattle.blockfile.specs.File.{block_at, id_at, blocks_in, most_bytes, size_ok, number_at, file_refusal, first_with}
use Rattle.blockfile.specs.Records.{records_of}
use Rattle.planfile.specs.declared.Reading.{Reading}
use Rattle.planfile.specs.Records.{read_of}
use Rattle.amendment.specs.Amended.{block_or, amended_block, amended}
use Rattle.amendment_laws.specs.Replaced.{put_at, replaced}
use Rattle.lists.proofs.All.{and_true, and_right, all_ext}
use Rattle.lists.proofs.Table.{table_ext}
use Rattle.plan.proofs.First.{first_fine}
use Rattle.block.proofs.Reading.{BlockIn, block_in, passes_too}
use Rattle.blockfile.proofs.File.{sized, part_long, found_at}
use Rattle.planfile.proofs.Records.{reading, read_fine}
use Rattle.blockfile.proofs.Joined.{joined_length, joined_at}
use Rattle.planfile_laws.proofs.OnlyOurs.{read_passes}
use Rattle.amendment.proofs.Pair.{PairIn}
use Rattle.amendment_laws.proofs.Ids.{one_place, plan_block, same_id, its_place, same_block}

module _ (plan sheet : List ℕ) (ok : (file_refusal plan).number ≡ 0) (i : PairIn plan sheet) where
  -- A block that counts is as long as a block, whichever slice it stands in.
  long_or : (k : ℕ) → k < blocks_in plan → (f : Option ℕ) → first_with sheet (id_at plan k) ≡ f
      → length (block_or f sheet (block_at plan k)) ≡ block_size
  unfolding block_or
  long_or k l (Some j) e = part_long sheet _ j refl (found_at sheet (id_at plan k) j e).0
  long_or k l None e = part_long plan _ k refl l

  long : (k : ℕ) → k < blocks_in plan → length (put_at plan sheet k) ≡ block_size
  long k l =
      ap (λ (b : List ℕ). length b) (same_block plan sheet ok i.known k l)
      ∙ long_or k l (first_with sheet (id_at plan k)) refl

  size : length (replaced plan sheet) ≡ block_size * blocks_in plan
  unfolding replaced
  size = joined_length (put_at plan sheet) (blocks_in plan) long

  pub count : blocks_in (replaced plan sheet) ≡ blocks_in plan
  count = omega (arith, size)

  -- Block k is the one that counts for the guest at place k.
  pub block_at_lem : (k : ℕ) → k < blocks_in plan → block_at (replaced plan sheet) k ≡ amended_block plan sheet k
  unfolding replaced
  block_at_lem k l = joined_at (put_at plan sheet) (blocks_in plan) long k l ∙ same_block plan sheet ok i.known k l

  pub id_at_lem : (k : ℕ) → k < blocks_in plan → id_at (replaced plan sheet) k ≡ id_at plan k
  id_at_lem k l = ap id_in (block_at_lem k l) ∙ same_id plan sheet k

  -- Ids stay the same set, so that none was seen before.
  new_at : (k : ℕ) → k < blocks_in plan → new_id (id_at (replaced plan sheet)) k ≡ new_id (id_at plan) k
  unfolding new_id
  new_at k l = all_ext _ _ k (λ j m. rw (id_at_lem j (omega arith), id_at_lem k l) refl)

  new_there : (k : ℕ) → k < blocks_in plan → new_id (id_at (replaced plan sheet)) k ≡ true
  new_there k l = new_at k l ∙ and_right (guest_ok (guest_of (block_at plan k))) _ (plan_block plan i.plan k l).heads

  sheet_block : (j : ℕ) → j < blocks_in sheet → BlockIn (block_at sheet j) true (new_id (id_at sheet) j)
  unfolding number_at
  sheet_block j l = block_in _ _ _ (i.sheet.blocks j l)

  -- Where the sheet has a block for the guest, that block says the guest's place.
  passes_or : (k : ℕ) → k < blocks_in plan → (f : Option ℕ) → first_with sheet (id_at plan k) ≡ f → (fresh : Bool)
      → fresh ≡ true
      → block_number (block_or f sheet (block_at plan k)) (own_place (block_or f sheet (block_at plan k)) k) fresh ≡ 0
  unfolding block_or
  passes_or k l (Some j) e fresh d =
      let o = found_at sheet (id_at plan k) j e in
      let p = its_place plan sheet ok i.known j o.0 in
      passes_too (block_at sheet j) true _ _ fresh (sheet_block j o.0)
      (eq-eqb _ _ (one_place plan ok (place_in (block_at sheet j)) k p.0 l (p.1 ∙ o.1))) d
  passes_or k l None e fresh d =
      let b = plan_block plan i.plan k l in
      passes_too (block_at plan k) _ _ _ fresh b (and_right (kind_ok (block_at plan k)) _ b.opens) d

  number_zero : (k : ℕ) → k < blocks_in plan → number_at true (replaced plan sheet) k ≡ 0
  unfolding number_at
  number_zero k l =
      rw (block_at_lem k l)
      (passes_or k l (first_with sheet (id_at plan k)) refl (new_id (id_at (replaced plan sheet)) k) (new_there k l))

  size_right : size_ok (length (replaced plan sheet)) ≡ true
  size_right =
      let z = i.plan.size in
      rw size
      (and_true
      (and_true (le-leb 1 (block_size * blocks_in plan) (omega arith))
      (le-leb (block_size * blocks_in plan) most_bytes (omega arith)))
      (eq-eqb (block_size * blocks_in plan % block_size) 0 (omega arith)))

  pub nothing_refused : fine ≡ file_refusal (replaced plan sheet)
  nothing_refused =
      sym
      (first_fine (number_at true (replaced plan sheet)) (blocks_in (replaced plan sheet)) 0
      (λ k l m. number_zero k (omega (arith, count))))
      ∙ sized true (replaced plan sheet) size_right

  records_are :
      records_of (block_at (replaced plan sheet)) (blocks_in plan)
      ≡ records_of (amended_block plan sheet) (blocks_in plan)
  unfolding records_of
  records_are =
      ap (λ (gs : List Guest). gs ++ drop (blocks_in plan) (replicate most_guests blank))
      (table_ext _ _ (blocks_in plan) (λ k l. ap (λ (b : List ℕ). guest_of b) (block_at_lem k l)))

  -- Those bytes read as the amended plan.
  pub reads_as : read_of (replaced plan sheet) ≡ record { refusal = fine; plan = amended plan sheet }
  unfolding amended
  reads_as =
      sym (read_fine (replaced plan sheet) fine nothing_refused (omega arith))
      ∙ ap (λ (n : ℕ). reading fine (record { count = n; guests = records_of (block_at (replaced plan sheet)) n })) count
      ∙ ap (λ (gs : List Guest). reading fine (record { count = blocks_in plan; guests = gs })) records_are

  -- The amended plan's records are in order.
  pub in_order : plan_refusal (amended plan sheet) ≡ fine
  in_order =
      ap (λ (r : Reading). plan_refusal r.plan) (sym reads_as)
      ∙ read_passes (replaced plan sheet) (ap (λ (r : Reading). r.refusal.number) reads_as)
