-- What the pair's finder hands back is the block in the replaced bytes. Assumes nothing.
use Rattle.std.specs.Prelude.{Option, Some, None}
use mathlib.Core.Path.{◌≡◌, refl, sym, ap, ◌∙◌}
use mathlib.Core.Bool.{true, false, false≢true}
use mathlib.Core.List.{List}
use Prim.Native.Nat.{ℕ, ◌≤◌, ◌<◌}
use native.Mathlib.Omega.{arith}
use lib.Dec.{eqb}
use borrow.Author.Tests.{eq-eqb, ne_eqb}
use Rattle.lists.specs.Exactly.{◌exactly_when◌}
use Rattle.lists.specs.Search.{least}
use Rattle.plan.specs.declared.Refusal.{Refusal}
use Rattle.plan.specs.First.{fine}
use Rattle.block.specs.Reading.{place_in}
use Rattle.blockfile.specs.File.{block_at, id_at, blocks_in, blocks_refusal, file_refusal, first_with}
use Rattle.planfile.specs.Finder.{place_or_seven, part_by, found}
use Rattle.amendment.specs.declared.Located.{Located}
use Rattle.amendment.specs.Pair.{in_plan, in_sheet, pair_refusal}
use Rattle.amendment.specs.Amended.{block_or}
use Rattle.amendment.specs.Finder.{standing, pair_place, part_in, pair_found}
use Rattle.amendment_laws.specs.Replaced.{Fine, replaced}
use Rattle.amendment_laws.specs.Causes.{HasId}
use Rattle.lists.proofs.Search.{least_ext, least_says, Nowhere, count_at, count_none}
use Rattle.blockfile.proofs.File.{found_at}
use Rattle.planfile.proofs.Finder.{place_found}
use Rattle.planfile_laws.proofs.Exact.{apart}
use Rattle.amendment.proofs.Pair.{PairIn, blocks_fine}
use Rattle.amendment.proofs.Finder.{place_stands}
use Rattle.amendment_laws.proofs.Ids.{its_place}
use Rattle.amendment_laws.proofs.Answers.{inside, well}
use Rattle.amendment_laws.proofs.Replaced.{count, block_at_lem, id_at_lem, nothing_refused}

module _ (plan sheet : List ℕ) (ok : (file_refusal plan).number ≡ 0) (i : PairIn plan sheet) (id : ℕ) where
  -- The same search, since the ids are the same.
  same_search : first_with (replaced plan sheet) id ≡ first_with plan id
  same_search =
      ap (λ (n : ℕ). least (λ k. eqb (id_at (replaced plan sheet) k) id) n 0) (count plan sheet ok i)
      ∙ least_ext _ _ (blocks_in plan) 0
      (λ k l h. ap (λ (x : ℕ). eqb x id) (id_at_lem plan sheet ok i k (omega arith)))

  -- Where the plan has no such guest, the sheet has no such block.
  neither : first_with plan id ≡ None → (j : ℕ) → first_with sheet id ≡ Some j → ⊥
  neither e j d =
      let o = found_at sheet id j d in
      let p = its_place plan sheet ok i.known j o.0 in
      let w : Nowhere (λ k. eqb (id_at plan k) id) (blocks_in plan) 0 =
      rw e at (least_says (λ k. eqb (id_at plan k) id) (blocks_in plan) 0) in
      false≢true (sym (w.never (place_in (block_at sheet j)) (omega arith) (omega (arith, p.0))) ∙ eq-eqb _ _ (p.1 ∙ o.1))

  -- The part by what the two searches found.
  part_is : (r : Located) → r ≡ pair_refusal plan sheet → r.number ≤ 0 → (f g : Option ℕ) → first_with sheet id ≡ f
      → first_with plan id ≡ g
      → part_in (standing f g).number (standing f g).sheet (standing f g).place plan sheet ≡ pair_found plan sheet id
  unfolding pair_found
  part_is r e h f g a b =
      let s = ap (λ (x : Option ℕ). standing x g) (sym a) ∙ ap (standing (first_with sheet id)) (sym b) in
      let p = place_stands plan sheet id r (standing f g) e h s in
      ap (λ (x : Located). part_in x.number x.sheet x.place plan sheet) p

  -- What the finder hands back of the replaced bytes, by what it found.
  block_is : (q : Option ℕ) → first_with plan id ≡ q
      → part_by (place_or_seven q).number (place_or_seven q).place (replaced plan sheet) ≡ found (replaced plan sheet) id
  unfolding found
  block_is q e =
      let p =
      place_found (replaced plan sheet) id fine (place_or_seven q) (nothing_refused plan sheet ok i) (omega arith)
      (ap place_or_seven (sym e ∙ sym same_search)) in
      ap (λ (x : Refusal). part_by x.number x.place (replaced plan sheet)) p

  -- Both by cases.
  same_by : (f g : Option ℕ) → first_with sheet id ≡ f → first_with plan id ≡ g
      → part_by (place_or_seven g).number (place_or_seven g).place (replaced plan sheet)
      ≡ part_in (standing f g).number (standing f g).sheet (standing f g).place plan sheet
  unfolding part_by part_in standing block_or
  same_by f (Some k) a b =
      let o = found_at plan id k b in
      block_at_lem plan sheet ok i k o.0
      ∙ ap (λ (x : ℕ). block_or (first_with sheet x) sheet (block_at plan k)) o.1
      ∙ ap (λ (x : Option ℕ). block_or x sheet (block_at plan k)) a
      ∙ by f
    where
      by : (f : Option ℕ) → block_or f sheet (block_at plan k)
          ≡ part_in (standing f (Some k)).number (standing f (Some k)).sheet (standing f (Some k)).place plan sheet
      by (Some j) = refl
      by None = refl
  same_by (Some j) None a b = absurd (neither b j a)
  same_by None None a b = refl

  -- Option ℕ is the block in those bytes.
  pub found_same : (r : Located) → r ≡ pair_refusal plan sheet → r.number ≤ 0
      → pair_found plan sheet id ≡ found (replaced plan sheet) id
  found_same r e h =
      sym (part_is r e h (first_with sheet id) (first_with plan id) refl refl)
      ∙ sym (same_by (first_with sheet id) (first_with plan id) refl refl)
      ∙ block_is (first_with plan id) refl

-- Option ℕ is the block in those bytes.
pub found_as : (plan sheet : List ℕ) → Fine plan sheet → (id : ℕ)
    → pair_found plan sheet id ≡ found (replaced plan sheet) id
found_as plan sheet f id =
    found_same plan sheet (well plan sheet f) (inside plan sheet f) id (pair_refusal plan sheet) refl (omega (arith, f))

module _ (plan sheet : List ℕ) (ok : Fine plan sheet) (id : ℕ) where
  stands : pair_place plan sheet id ≡ standing (first_with sheet id) (first_with plan id)
  stands = sym (place_stands plan sheet id (pair_refusal plan sheet) _ refl (omega (arith, ok)) refl)

  read : (blocks_refusal false sheet).number ≡ 0
  read = blocks_fine plan sheet (pair_refusal plan sheet) refl (omega (arith, ok))

  -- A block of the sheet that has the id is the one that is found there.
  only_in_sheet : (j : ℕ) → (j < blocks_in sheet) × (id_at sheet j ≡ id) → first_with sheet id ≡ Some j
  only_in_sheet j h =
      sym
      (count_at _ (blocks_in sheet) j h.0
      (λ z l. ne_eqb _ _ (λ e. apart false sheet read z j l h.0 (e ∙ sym h.1)))
      (eq-eqb _ _ h.1))

  only_in_plan : (k : ℕ) → (k < blocks_in plan) × (id_at plan k ≡ id) → first_with plan id ≡ Some k
  only_in_plan k h =
      sym
      (count_at _ (blocks_in plan) k h.0
      (λ z l. ne_eqb _ _ (λ e. apart true plan (well plan sheet ok) z k l h.0 (e ∙ sym h.1)))
      (eq-eqb _ _ h.1))

  none_in : (s : List ℕ) → (HasId s id → ⊥) → first_with s id ≡ None
  none_in s h = sym (count_none _ (blocks_in s) (blocks_in s) (omega arith) (λ z l. ne_eqb _ _ (λ e. h (z, (l, e)))))

  none_by : (s : List ℕ) → first_with s id ≡ None → HasId s id → ⊥
  none_by s e h =
      let w : Nowhere (λ k. eqb (id_at s k) id) (blocks_in s) 0 =
      rw e at (least_says (λ k. eqb (id_at s k) id) (blocks_in s) 0) in
      false≢true (sym (w.never h.0 (omega arith) (omega (arith, h.1.0))) ∙ eq-eqb _ _ h.1.1)

  -- Where it stands says what was found.
  from_sheet : (f g : Option ℕ) (j : ℕ) → standing f g ≡ in_sheet 0 j → f ≡ Some j
  unfolding standing
  from_sheet (Some i) g j e = ap (λ (r : Located). Some r.place) e
  from_sheet None (Some k) j e = absurd (let d : ◌≡◌ {A = ℕ} 0 1 = ap (λ (r : Located). r.sheet) e in omega arith)
  from_sheet None None j e = absurd (let d : ◌≡◌ {A = ℕ} 0 1 = ap (λ (r : Located). r.sheet) e in omega arith)

  from_plan : (f g : Option ℕ) (k : ℕ) → standing f g ≡ in_plan 0 k → (f ≡ None) × (g ≡ Some k)
  unfolding standing
  from_plan (Some i) g k e = absurd (let d : ◌≡◌ {A = ℕ} 1 0 = ap (λ (r : Located). r.sheet) e in omega arith)
  from_plan None (Some j) k e = (refl, ap (λ (r : Located). Some r.place) e)
  from_plan None None k e = absurd (let d : ◌≡◌ {A = ℕ} 7 0 = ap (λ (r : Located). r.number) e in omega arith)

  from_none : (f g : Option ℕ) → standing f g ≡ in_plan 7 0 → g ≡ None
  unfolding standing
  from_none (Some i) g e = absurd (let d : ◌≡◌ {A = ℕ} 0 7 = ap (λ (r : Located). r.number) e in omega arith)
  from_none None (Some j) e = absurd (let d : ◌≡◌ {A = ℕ} 0 7 = ap (λ (r : Located). r.number) e in omega arith)
  from_none None None e = refl

  -- In the sheet at position j: block j of the sheet has the id.
  pub in_sheet_exactly : (j : ℕ)
      → (pair_place plan sheet id ≡ in_sheet 0 j) exactly_when ((j < blocks_in sheet) × (id_at sheet j ≡ id))
  unfolding standing
  in_sheet_exactly j = (
    λ e. found_at sheet id j (from_sheet _ (first_with plan id) j (sym stands ∙ e)),
    λ h. stands ∙ ap (λ (f : Option ℕ). standing f (first_with plan id)) (only_in_sheet j h),
  )

  -- In the plan at place k: no block of the sheet has the id, and block k of the plan has it.
  pub in_plan_exactly : (k : ℕ)
      → (pair_place plan sheet id ≡ in_plan 0 k)
      exactly_when ((HasId sheet id → ⊥) × ((k < blocks_in plan) × (id_at plan k ≡ id)))
  unfolding standing
  in_plan_exactly k = (
    λ e. let o = from_plan _ _ k (sym stands ∙ e) in (none_by sheet o.0, found_at plan id k o.1),
    λ h.
        stands ∙ ap (λ (f : Option ℕ). standing f (first_with plan id)) (none_in sheet h.0)
        ∙ ap (standing None) (only_in_plan k h.1),
  )

  -- 7: the plan has no guest of that id.
  pub seven_exactly : (pair_place plan sheet id ≡ in_plan 7 0) exactly_when (HasId plan id → ⊥)
  unfolding standing
  seven_exactly = (
    λ e. none_by plan (from_none (first_with sheet id) _ (sym stands ∙ e)),
    λ h.
        stands ∙ ap (λ (f : Option ℕ). standing f (first_with plan id)) (none_in sheet (not_there h))
        ∙ ap (standing None) (none_in plan h),
  )
    where
      not_there : (HasId plan id → ⊥) → HasId sheet id → ⊥
      not_there h w =
          let p = its_place plan sheet (well plan sheet ok) (inside plan sheet ok).known w.0 w.1.0 in
          h (_, (p.0, p.1 ∙ w.1.1))
