-- A sheet of the plan's own blocks is not refused, and changes nothing. Assumes nothing.
use Rattle.std.specs.Prelude.{Option, Some, None}
use mathlib.Core.Path.{◌≡◌, refl, sym, ap, ◌∙◌}
use mathlib.Core.Bool.{true, false}
use mathlib.Core.List.{List, ◌++◌}
use Prim.Native.Nat.{ℕ, ◌*◌, ◌<◌}
use native.Mathlib.Omega.{arith}
use lib.ListN.{length, drop, replicate}
use lib.Seq.{take_all}
use borrow.Author.Tests.{eq-eqb, ne_eqb, eqb-true}
use Rattle.plan.specs.declared.Guest.{Guest}
use Rattle.plan.specs.Records.{blank}
use Rattle.plan.specs.Ranges.{most_guests}
use Rattle.plan.specs.First.{fine}
use Rattle.plan.specs.Order.{new_id}
use Rattle.block.specs.Layout.{block_size}
use Rattle.block.specs.Reading.{id_in, place_in, guest_of, kind_ok, own_place}
use Rattle.blockfile.specs.File.{block_at, id_at, blocks_in, size_ok, number_at, blocks_refusal, file_refusal, first_with}
use Rattle.blockfile.specs.Records.{records_of}
use Rattle.planfile.specs.Records.{read_of}
use Rattle.amendment.specs.declared.Located.{Located}
use Rattle.amendment.specs.Pair.{is_found_at, known_at, foreign_number}
use Rattle.amendment.specs.Amended.{block_or, amended_block, amended}
use Rattle.amendment_laws.specs.Replaced.{Fine, put_at, replaced, AnsweredAs, OwnBlocks}
use Rattle.lists.proofs.All.{and_right, all_by}
use Rattle.lists.proofs.Search.{count_at}
use Rattle.lists.proofs.Table.{table_ext}
use Rattle.plan.proofs.First.{first_fine}
use Rattle.block.proofs.Reading.{BlockIn, passes_too}
use Rattle.blockfile.proofs.File.{file_in, found_at, sized}
use Rattle.blockfile.proofs.Joined.{joined_ext, blocks_joined}
use Rattle.planfile_laws.proofs.OnlyOurs.{plan_is}
use Rattle.amendment.proofs.Pair.{known, blocks_passed, pair_fine}
use Rattle.amendment_laws.proofs.Ids.{one_place, plan_block, same_block}
use Rattle.amendment_laws.proofs.Answers.{inside, as_same}

module _ (plan sheet : List ℕ) (ok : (file_refusal plan).number ≡ 0) (own : OwnBlocks plan sheet) where
  -- The block that counts is the plan's own.
  own_or : (k : ℕ) → k < blocks_in plan → (f : Option ℕ) → first_with sheet (id_at plan k) ≡ f
      → block_or f sheet (block_at plan k) ≡ block_at plan k
  unfolding block_or
  own_or k l (Some j) e =
      let o = found_at sheet (id_at plan k) j e in
      let w = own j o.0 in
      w.1.1 ∙ ap (block_at plan) (one_place plan ok w.0 k w.1.0 l (sym (ap id_in w.1.1) ∙ o.1))
  own_or k l None e = refl

  own_block : (k : ℕ) → k < blocks_in plan → amended_block plan sheet k ≡ block_at plan k
  own_block k l = own_or k l (first_with sheet (id_at plan k)) refl

  -- The amended plan is the plan.
  pub own_plan : amended plan sheet ≡ (read_of plan).plan
  unfolding amended records_of
  own_plan =
      ap
      (λ (gs : List Guest).
      record { count = blocks_in plan; guests = gs ++ drop (blocks_in plan) (replicate most_guests blank) })
      (table_ext _ _ (blocks_in plan) (λ k l. ap (λ (b : List ℕ). guest_of b) (own_block k l)))
      ∙ sym (plan_is plan ok)

  -- The replaced bytes are the plan's.
  pub own_bytes : Fine plan sheet → replaced plan sheet ≡ plan
  unfolding replaced
  own_bytes f =
      let z = (file_in plan ok).size.whole in
      joined_ext (put_at plan sheet) (block_at plan) (blocks_in plan)
      (λ k l. same_block plan sheet ok (inside plan sheet f).known k l ∙ own_block k l)
      ∙ blocks_joined plan (blocks_in plan)
      ∙ take_all (block_size * blocks_in plan) plan (omega arith)

  -- No answer changes.
  pub own_answers : Fine plan sheet → AnsweredAs plan sheet (read_of plan).plan
  own_answers f = as_same plan sheet f (read_of plan).plan own_plan

  plan_passes : (k : ℕ) → k < blocks_in plan
      → BlockIn (block_at plan k) (own_place (block_at plan k) k) (new_id (id_at plan) k)
  plan_passes = plan_block plan (file_in plan ok)

  -- A sheet of the plan's own blocks, no two of them of one guest, is not refused.
  module _ (right : size_ok (length sheet) ≡ true)
      (apart : (i j : ℕ) → i < j → j < blocks_in sheet → id_at sheet i ≡ id_at sheet j → ⊥) where
    new_in_sheet : (j : ℕ) → j < blocks_in sheet → new_id (id_at sheet) j ≡ true
    unfolding new_id
    new_in_sheet j l = all_by _ j (λ i m. rw (ne_eqb _ _ (apart i j m l)) refl)

    number_zero : (j : ℕ) → j < blocks_in sheet → number_at false sheet j ≡ 0
    unfolding number_at
    number_zero j l =
        let w = own j l in
        rw w.1.1
        (passes_too (block_at plan w.0) _ _ _ _ (plan_passes w.0 w.1.0) refl (new_in_sheet j l))

    blocks_fine : fine ≡ blocks_refusal false sheet
    blocks_fine =
        sym (first_fine (number_at false sheet) (blocks_in sheet) 0 (λ j l m. number_zero j (omega arith)))
        ∙ sized false sheet right

    known_own : (j : ℕ) → j < blocks_in sheet → known_at plan sheet j ≡ true
    unfolding is_found_at
    known_own j l =
        let w = own j l in
        let k : ℕ = w.0 in
        let d : id_at sheet j ≡ id_at plan k = ap id_in w.1.1 in
        let f : Some k ≡ first_with plan (id_at sheet j) =
        count_at _ (blocks_in plan) k w.1.0
        (λ z m.
        ne_eqb _ _ (λ e. let q = one_place plan ok z k (omega (arith, w.1.0)) w.1.0 (e ∙ d) in omega arith))
        (eq-eqb _ _ (sym d)) in
        let p : place_in (block_at sheet j) ≡ k =
        ap (λ (b : List ℕ). place_in b) w.1.1
        ∙ eqb-true _ _ (and_right (kind_ok (block_at plan k)) _ (plan_passes k w.1.0).opens) in
        rw (← f) (eq-eqb _ _ (sym p))

    pub own_fine : Fine plan sheet
    own_fine =
        let s =
        blocks_passed plan sheet fine fine blocks_fine (omega arith)
        (sym (first_fine (foreign_number plan sheet) (blocks_in sheet) 0
        (λ j l m. sym (known plan sheet j (known_own j (omega arith)))))) in
        ap (λ (r : Located). r.number)
        (sym (pair_fine plan sheet (file_refusal plan) fine refl (omega (arith, ok)) s (omega arith)))
