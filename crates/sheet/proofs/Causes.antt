-- When a sheet is refused whole: the exact causes of 15 and 12. Assumes nothing.
use mathlib.Core.Path.{◌≡◌, refl, sym, ◌∙◌}
use mathlib.Core.Bool.{Bool, true, false, false≢true}
use mathlib.Core.List.{List, []}
use Prim.Native.Nat.{ℕ, ◌≤◌, ◌<◌}
use native.Mathlib.Omega.{arith}
use lib.Dec.{leb}
use lib.ListN.{length}
use borrow.Author.Tests.{leb-false, lt-leb}
use Rattle.lists.specs.Exactly.{◌exactly_when◌, ◌not_but◌}
use Rattle.dispatcher.specs.declared.Dispatcher.{Dispatcher}
use Rattle.dispatcher.specs.Valid.{state_ok}
use Rattle.sheet.specs.Sheet.{most_pairs, sheet_number, sheet}
use Rattle.lists.proofs.Exactly.{among, given_first, given_later}
use Rattle.sheet.proofs.Entry.{sheet_number_lem}

-- A test that fails, as numbers say it.
le_fails : (a b : ℕ) → (leb a b ≡ false) exactly_when (b < a)
le_fails a b = (leb-false a b, lt-leb a b)

-- A state is in its ranges exactly if it is not outside them.
ok_or_not : (b : Bool) → ((b ≡ false) → ⊥) → b ≡ true
ok_or_not true h = refl
ok_or_not false h = absurd (h refl)

module _ (d : Dispatcher) (pairs : List ℕ) (room : ℕ) where
  fifteen : (sheet_number d pairs room ≡ 15) exactly_when ((state_ok d ≡ false) not_but (most_pairs < length pairs))
  unfolding sheet_number among
  fifteen =
      given_later (state_ok d) 14 15 _ (λ e. omega arith) (λ e. e, λ e. e)
      (given_first (leb (length pairs) most_pairs) 15 _ (omega arith) refl (le_fails (length pairs) most_pairs))

  twelve :
      (sheet_number d pairs room ≡ 12)
      exactly_when ((state_ok d ≡ false) not_but ((most_pairs < length pairs) not_but (room < length pairs)))
  unfolding sheet_number among
  twelve =
      given_later (state_ok d) 14 12 _ (λ e. omega arith) (λ e. e, λ e. e)
      (given_later (leb (length pairs) most_pairs) 15 12 _ (λ e. omega arith) (le_fails (length pairs) most_pairs)
      (given_first (leb (length pairs) room) 12 [] (omega arith) refl (le_fails (length pairs) room)))

  -- 15 is given exactly for a state in its ranges and more than 256 pairs.
  pub fifteen_exactly :
      ((sheet d pairs room).refusal.number ≡ 15) exactly_when ((state_ok d ≡ true) × (most_pairs < length pairs))
  fifteen_exactly = (
    λ e. (let h = fifteen.0 (sym (sheet_number_lem d pairs room) ∙ e) in (ok_or_not (state_ok d) h.0, h.1)),
    λ h. sheet_number_lem d pairs room ∙ fifteen.1 (λ e. false≢true (sym e ∙ h.0), h.1),
  )

  -- 12 is given exactly for a state in its ranges, at most 256 pairs, and fewer answer places than pairs.
  pub twelve_exactly :
      ((sheet d pairs room).refusal.number ≡ 12)
      exactly_when ((state_ok d ≡ true) × ((length pairs ≤ most_pairs) × (room < length pairs)))
  twelve_exactly = (
    λ e.
        (let h = twelve.0 (sym (sheet_number_lem d pairs room) ∙ e) in
        (ok_or_not (state_ok d) h.0, (omega (arith, h.1.0), h.1.1))),
    λ h. sheet_number_lem d pairs room ∙ twelve.1 (λ e. false≢true (sym e ∙ h.0), (λ l. omega (arith, h.1.0), h.1.1)),
  )
