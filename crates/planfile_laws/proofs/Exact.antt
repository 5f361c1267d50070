-- When each refusal of bytes is given: 1 to 6 of reading blocks, places counting or not, and 7 of the finder. Assumes
-- nothing.
use Rattle.std.specs.Prelude.{Option, Some, None}
use mathlib.Core.Path.{◌≡◌, refl, sym, ap, ◌∙◌}
use mathlib.Core.Logic.{◌⊎◌, inl, inr, ⊎_elim}
use mathlib.Core.Bool.{Bool, true, false, false≢true, not, ◌&&◌, ◌||◌}
use mathlib.Core.List.{List, [], ◌∷◌}
use Prim.Native.Nat.{ℕ, zero, suc, ◌≤◌, ◌<◌}
use native.Mathlib.Omega.{arith}
use lib.ListN.{length}
use lib.Dec.{eqb}
use borrow.Author.Tests.{eq-eqb, ne_eqb, eqb-true}
use Rattle.lists.specs.Refusals.{refusal, unless, ◌or_refuse◌}
use Rattle.plan.specs.declared.Refusal.{Refusal}
use Rattle.plan.specs.First.{refused, or_else}
use Rattle.plan.specs.Order.{new_id}
use Rattle.plan.specs.Ranges.{guest_ok}
use Rattle.lists.specs.Exactly.{◌exactly_when◌, ◌not_but◌}
use Rattle.block.specs.Reading.{guest_of, kind_ok, own_place, block_number}
use Rattle.planfile.specs.Finder.{place_or_seven, found_place, found}
use Rattle.blockfile.specs.File.{block_at, id_at, blocks_in, size_ok, number_at, sized_by, blocks_refusal, file_refusal, first_with}
use Rattle.planfile_laws.specs.Exact.{FirstAt}
use Rattle.planfile_laws.specs.Causes.{WrongLength, WrongSum, WrongOpening, WrongGuest, WrongZero, WrongTask}
use Rattle.lists.proofs.All.{and_right, all_at}
use Rattle.lists.proofs.Search.{Says, least_says, count_at, count_none}
use Rattle.plan.proofs.First.{or_after}
use Rattle.block.proofs.Reading.{block_in}
use Rattle.blockfile.proofs.File.{sized, unsized, blocks_in_lem}
use Rattle.planfile.proofs.Finder.{found_none, found_there}
use Rattle.planfile_laws.proofs.Causes.{length_fails, opening_fails, guest_fails}
use Rattle.lists.proofs.Exactly.{among, not_given}
use Rattle.planfile_laws.proofs.Order.{first_most, one_first, place_first}
use Rattle.planfile_laws.proofs.BlockExact.{block_two, block_three, block_four, block_five, block_six}

-- A block is refused by no number above 6.
most_six : (t2 t3 t4 t5 t6 : Bool)
    → refusal (t2 or_refuse 2 ∷ t3 or_refuse 3 ∷ t4 or_refuse 4 ∷ t5 or_refuse 5 ∷ t6 or_refuse 6 ∷ []) ≤ 6
unfolding refusal unless
most_six false t3 t4 t5 t6 = omega arith
most_six true false t4 t5 t6 = omega arith
most_six true true false t5 t6 = omega arith
most_six true true true false t6 = omega arith
most_six true true true true false = omega arith
most_six true true true true true = omega arith

-- The numbers of block k: each is given exactly when its cause holds and none of those before it does.
module _ (placed : Bool) (s : List ℕ) (k : ℕ) where
  opening : ((kind_ok (block_at s k) && (not placed || own_place (block_at s k) k)) ≡ false)
      exactly_when WrongOpening placed (block_at s k) k
  opening = opening_fails placed (block_at s k) k

  guest : ((guest_ok (guest_of (block_at s k)) && new_id (id_at s) k) ≡ false)
      exactly_when WrongGuest (guest_of (block_at s k)) (id_at s) k
  guest = guest_fails (guest_of (block_at s k)) (id_at s) k

  -- 2: the block's words do not sum to zero.
  pub two_exactly : (number_at placed s k ≡ 2) exactly_when WrongSum (block_at s k)
  unfolding number_at
  two_exactly = block_two (block_at s k) _ _ opening guest

  -- 3: the kind is neither 1 nor 2, or 2 without marks and without a Deferrable Server, or, where places count, the
  -- place is not the block's own.
  pub three_exactly :
      (number_at placed s k ≡ 3) exactly_when (WrongSum (block_at s k) not_but WrongOpening placed (block_at s k) k)
  unfolding number_at
  three_exactly = block_three (block_at s k) _ _ opening guest

  -- 4: the id is 0 or already seen in an earlier block, or capacity, period or number of tasks is outside its range.
  pub four_exactly :
      (number_at placed s k ≡ 4)
      exactly_when
      (WrongSum (block_at s k) not_but WrongOpening placed (block_at s k) k
      not_but WrongGuest (guest_of (block_at s k)) (id_at s) k)
  unfolding number_at
  four_exactly = block_four (block_at s k) _ _ opening guest

  -- 5: a byte that must be zero is not, a mark is past the tasks, or the server is neither Periodic nor Deferrable.
  pub five_exactly :
      (number_at placed s k ≡ 5)
      exactly_when
      (WrongSum (block_at s k)
      not_but WrongOpening placed (block_at s k) k
      not_but WrongGuest (guest_of (block_at s k)) (id_at s) k
      not_but WrongZero (block_at s k))
  unfolding number_at
  five_exactly = block_five (block_at s k) _ _ opening guest

  -- 6: a task's run, period or deadline is outside its range, or a bound task's period is no multiple of its guest's.
  pub six_exactly :
      (number_at placed s k ≡ 6)
      exactly_when (
      WrongSum (block_at s k)
      not_but WrongOpening placed (block_at s k) k
      not_but WrongGuest (guest_of (block_at s k)) (id_at s) k
      not_but WrongZero (block_at s k)
      not_but WrongTask (guest_of (block_at s k)))
  unfolding number_at
  six_exactly = block_six (block_at s k) _ _ opening guest

  never_one : number_at placed s k ≡ 1 → ⊥
  unfolding number_at block_number among
  never_one = not_given _ 1 (omega arith) refl

module _ (placed : Bool) (s : List ℕ) where
  -- 1: the length is 0, not a multiple of 512, or above 4,096.
  pub one_exactly : ((blocks_refusal placed s).number ≡ 1) exactly_when WrongLength (length s)
  one_exactly =
      one_first (number_at placed s) (blocks_in s) (blocks_refusal placed s) (never_one placed s) (size_ok (length s))
      (λ e. sym (unsized placed s e)) (λ e. sym (sized placed s e)) (length_fails (length s))

  -- 1 comes with place 0.
  pub one_place : (blocks_refusal placed s).number ≡ 1 → blocks_refusal placed s ≡ refused 1 0
  one_place e = sym (unsized placed s ((length_fails (length s)).1 (one_exactly.0 e)))

  -- A number from 2 on at place k: the length is right, block k has that number, and every block before it has none.
  pub block_exactly : (n k : ℕ)
      → (blocks_refusal placed s ≡ refused (suc (suc n)) k)
      exactly_when (WrongLength (length s) not_but FirstAt (number_at placed s) (blocks_in s) 0 (suc (suc n)) k)
  block_exactly n k =
      place_first (number_at placed s) (blocks_in s) (blocks_refusal placed s) (never_one placed s) (size_ok (length s)) n k
      (λ e. sym (unsized placed s e)) (λ e. sym (sized placed s e)) (length_fails (length s))

  number_most : (k : ℕ) → number_at placed s k ≤ 6
  unfolding number_at block_number
  number_most k = most_six _ _ _ _ _

  -- No number of reading is above 6.
  most_by : (b : Bool) → (sized_by b placed s).number ≤ 6
  unfolding sized_by
  most_by false = omega arith
  most_by true = first_most (number_at placed s) 6 number_most (blocks_in s) 0

  pub most : (blocks_refusal placed s).number ≤ 6
  unfolding blocks_refusal
  most = most_by (size_ok (length s))

  -- No two blocks that are read have one id.
  pub apart : (blocks_refusal placed s).number ≡ 0 → (j k : ℕ) → j < k → k < blocks_in s → id_at s j ≡ id_at s k → ⊥
  unfolding number_at new_id
  apart e j k l h q =
      let o =
      block_in (block_at s k) (not placed || own_place (block_at s k) k) (new_id (id_at s) k)
      ((blocks_in_lem placed s e).blocks k h) in
      let n = and_right (guest_ok (guest_of (block_at s k))) (new_id (id_at s) k) o.heads in
      false≢true (sym (ap not (eq-eqb _ _ q)) ∙ all_at _ k j l n)

-- Where the search gave the number, reading gave none.
pub past_file : (x q n k : ℕ) (r : Refusal) → x ≤ 6 → or_else x q r ≡ refused n k → (6 < n) ⊎ (n ≡ 0)
    → (x ≡ 0) × (r ≡ refused n k)
unfolding or_else
past_file zero q n k r l e h = (refl, e)
past_file (suc x) q n k r l e h =
    absurd (let a : suc x ≡ n = ap (λ (r : Refusal). r.number) e in ⊎_elim (λ b. omega arith) (λ b. omega arith) h)

module _ (s : List ℕ) (id : ℕ) where
  searched : (n k : ℕ) → found_place s id ≡ refused n k → (6 < n) ⊎ (n ≡ 0)
      → ((file_refusal s).number ≡ 0) × (place_or_seven (first_with s id) ≡ refused n k)
  unfolding found_place
  searched n k e h =
      past_file (file_refusal s).number (file_refusal s).place n k (place_or_seven (first_with s id)) (most true s) e h

  -- What 7 says, by what the search found.
  seven_by : (f : Option ℕ) → Says (λ k. eqb (id_at s k) id) (blocks_in s) 0 f → place_or_seven f ≡ refused 7 0 → (k : ℕ)
      → k < blocks_in s → id_at s k ≡ id → ⊥
  seven_by None w e k l q = false≢true (sym (w.never k (omega arith) (omega arith)) ∙ eq-eqb _ _ q)
  seven_by (Some y) w e k l q = let z : ◌≡◌ {A = ℕ} 0 7 = ap (λ (r : Refusal). r.number) e in omega arith

  there_by : (f : Option ℕ) (k : ℕ) → Says (λ k. eqb (id_at s k) id) (blocks_in s) 0 f → place_or_seven f ≡ refused 0 k
      → (k < blocks_in s) × (id_at s k ≡ id)
  there_by None k w e = absurd (let z : ◌≡◌ {A = ℕ} 7 0 = ap (λ (r : Refusal). r.number) e in omega arith)
  there_by (Some y) k w e =
      let q : y ≡ k = ap (λ (r : Refusal). r.place) e in
      (omega (arith, w.high), ap (id_at s) (sym q) ∙ eqb-true _ _ w.holds)

  -- 7: the plan is well formed, and no block has the id.
  pub seven_exactly : (found_place s id ≡ refused 7 0)
      exactly_when (((file_refusal s).number ≡ 0) × ((k : ℕ) → k < blocks_in s → id_at s k ≡ id → ⊥))
  unfolding found_place
  seven_exactly = (
    λ e.
        let o = searched 7 0 e (inl (omega arith)) in
        (o.0, seven_by (first_with s id) (least_says _ (blocks_in s) 0) o.1),
    λ h.
        sym (or_after (file_refusal s).number (file_refusal s).place (place_or_seven (first_with s id))
        (omega (arith, h.0)))
        ∙ ap place_or_seven
        (sym (count_none (λ k. eqb (id_at s k) id) (blocks_in s) (blocks_in s) (omega arith)
        (λ z l. ne_eqb _ _ (h.1 z l)))),
  )

  -- A block is found at place k: the plan is well formed, and block k has the id.
  pub found_exactly : (k : ℕ)
      → (found_place s id ≡ refused 0 k) exactly_when (((file_refusal s).number ≡ 0) × ((k < blocks_in s) × (id_at s k ≡ id)))
  unfolding found_place
  found_exactly k = (
    λ e.
        let o = searched 0 k e (inr refl) in
        (o.0, there_by (first_with s id) k (least_says _ (blocks_in s) 0) o.1),
    λ h.
        sym (or_after (file_refusal s).number (file_refusal s).place (place_or_seven (first_with s id))
        (omega (arith, h.0)))
        ∙ ap place_or_seven
        (sym (count_at (λ k. eqb (id_at s k) id) (blocks_in s) k h.1.0
        (λ z l. ne_eqb _ _ (λ q. apart true s h.0 z k l h.1.0 (q ∙ sym h.1.1))) (eq-eqb _ _ h.1.1))),
  )

  -- Where block k was found, the finder hands it back.
  pub found_block : (k : ℕ) → found_place s id ≡ refused 0 k → found s id ≡ block_at s k
  found_block k e = sym (found_there s id (refused 0 k) (sym e) (omega arith))

  -- On a refusal the finder hands back nothing.
  pub found_nothing : (n k : ℕ) → found_place s id ≡ refused (suc n) k → found s id ≡ []
  found_nothing n k e = sym (found_none s id (refused (suc n) k) (sym e) (omega arith))
