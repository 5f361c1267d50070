-- What a sheet comes to: refused whole, and nothing changes, or its releases one by one. Assumes nothing.
use mathlib.Core.Path.{◌≡◌, refl, sym, ap, ◌∙◌}
use mathlib.Core.Bool.{true, false}
use mathlib.Core.List.{List}
use Prim.Native.Nat.{ℕ, zero, suc, ◌<◌}
use native.Mathlib.Omega.{arith}
use lib.ListN.{length}
use Rattle.lists.specs.Places.{nth}
use Rattle.dispatcher.specs.declared.Dispatcher.{Dispatcher}
use Rattle.dispatcher.specs.declared.Released.{Released}
use Rattle.dispatcher.specs.Valid.{state_ok}
use Rattle.sheet.specs.Sheet.{pair_guest, pair_task, state_after, answer_to, sheet_number, sheet_by, sheet}
use Rattle.dispatcher_laws.specs.Usage.{SameButUsage}
use Rattle.lists.proofs.Refusals.{go_on, stop}
use Rattle.lists.proofs.Exactly.{among, not_given}
use Rattle.dispatcher_laws.proofs.Usage.{release_one, ok_one}
use Rattle.sheet.proofs.Sheet.{ok_after}

-- The number that it goes by is the outcome's.
sheet_number_by : (n : ℕ) (d : Dispatcher) (pairs : List ℕ) → (sheet_by n d pairs).refusal.number ≡ n
unfolding sheet_by
sheet_number_by zero d pairs = refl
sheet_number_by (suc n) d pairs = refl

-- A sheet's number is that of its first whole refusal.
pub sheet_number_lem :
    (d : Dispatcher) (pairs : List ℕ) (room : ℕ)
    → (sheet d pairs room).refusal.number ≡ sheet_number d pairs room
unfolding sheet
sheet_number_lem d pairs room = sheet_number_by (sheet_number d pairs room) d pairs

-- From the state d to the outcome r: the sheet is refused whole, or all its pairs are released.
pub data Sheeted (d : Dispatcher) (pairs : List ℕ) (r : Released) : Type 0 where
  whole : (r.refusal.number ≡ 0 → ⊥) → r.state ≡ d → Sheeted d pairs r
  each : r.refusal.number ≡ 0 → r.state ≡ state_after d pairs (length pairs) → Sheeted d pairs r

sheeted_by : (n : ℕ) (d : Dispatcher) (pairs : List ℕ) → Sheeted d pairs (sheet_by n d pairs)
unfolding sheet_by
sheeted_by zero d pairs = each refl refl
sheeted_by (suc n) d pairs = whole (λ z. omega arith) refl

-- Every sheet is one or the other.
pub sheet_sheeted : (d : Dispatcher) (pairs : List ℕ) (room : ℕ) → Sheeted d pairs (sheet d pairs room)
unfolding sheet
sheet_sheeted d pairs room = sheeted_by (sheet_number d pairs room) d pairs

-- A sheet that is refused whole hands the state back as it was.
pub sheet_same :
    (d : Dispatcher) (pairs : List ℕ) (room : ℕ)
    → 0 < (sheet d pairs room).refusal.number
    → (sheet d pairs room).state ≡ d
sheet_same d pairs room h = by (sheet_sheeted d pairs room)
  where
    by : Sheeted d pairs (sheet d pairs room) → (sheet d pairs room).state ≡ d
    by (whole n e) = e
    by (each n e) = absurd (omega arith)

-- A sheet of a state outside its ranges has 14.
pub sheet_14 :
    (d : Dispatcher) (pairs : List ℕ) (room : ℕ)
    → state_ok d ≡ false
    → (sheet d pairs room).refusal.number ≡ 14
unfolding sheet_number
sheet_14 d pairs room e = sheet_number_lem d pairs room ∙ stop 14 _ e

-- A sheet of a state in its ranges has another number.
pub sheet_not_14 :
    (d : Dispatcher) (pairs : List ℕ) (room : ℕ)
    → state_ok d ≡ true
    → (sheet d pairs room).refusal.number ≡ 14
    → ⊥
unfolding sheet_number among
sheet_not_14 d pairs room ok e =
    not_given _ 14 (omega arith) refl (sym (go_on 14 _ ok) ∙ sym (sheet_number_lem d pairs room) ∙ e)

-- A state in its ranges stays there over a sheet.
pub sheet_ok :
    (d : Dispatcher) (pairs : List ℕ) (room : ℕ)
    → state_ok d ≡ true
    → state_ok (sheet d pairs room).state ≡ true
sheet_ok d pairs room ok = by (sheet_sheeted d pairs room)
  where
    by : Sheeted d pairs (sheet d pairs room) → state_ok (sheet d pairs room).state ≡ true
    by (whole n e) = rw e ok
    by (each n e) = rw e (ok_after d pairs (length pairs) ok)

-- The numbers beside the state are not looked at.
module _ (d e : Dispatcher) (S : SameButUsage d e) (pairs : List ℕ) where
  after_one : (n : ℕ) → SameButUsage (state_after d pairs n) (state_after e pairs n)
  unfolding state_after
  after_one zero = S
  after_one (suc n) = (release_one _ _ (after_one n) (pair_guest (nth pairs n)) (pair_task (nth pairs n))).state_same

  by_same : (n : ℕ) → SameButUsage (sheet_by n d pairs).state (sheet_by n e pairs).state
  unfolding sheet_by
  by_same zero = after_one (length pairs)
  by_same (suc n) = S

  number_same : (room : ℕ) → sheet_number d pairs room ≡ sheet_number e pairs room
  unfolding sheet_number
  number_same room = rw (ok_one d e S) refl

  -- A sheet's number does not depend on them.
  pub sheet_number_same : (room : ℕ) → (sheet d pairs room).refusal.number ≡ (sheet e pairs room).refusal.number
  sheet_number_same room = sheet_number_lem d pairs room ∙ number_same room ∙ sym (sheet_number_lem e pairs room)

  -- Nothing else of the state after a sheet depends on them.
  pub sheet_one : (room : ℕ) → SameButUsage (sheet d pairs room).state (sheet e pairs room).state
  unfolding sheet
  sheet_one room = rw (number_same room) (by_same (sheet_number e pairs room))

  -- The answers do not depend on them either.
  pub answers_one : (n : ℕ) → answer_to d pairs n ≡ answer_to e pairs n
  unfolding answer_to
  answers_one n =
      ap (λ r. r.number)
      (release_one _ _ (after_one n) (pair_guest (nth pairs n)) (pair_task (nth pairs n))).refusal_same
