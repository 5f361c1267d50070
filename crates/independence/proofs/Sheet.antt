-- A sheet in a state in its ranges: whether it is refused whole is decided by the call alone, and with it what a guest
-- can tell of the sheet. Assumes nothing.
use mathlib.Core.Path.{◌≡◌, refl, sym, ◌∙◌}
use mathlib.Core.Bool.{Bool, true, false, false≢true, ◌&&◌}
use mathlib.Core.List.{List, [], ◌∷◌}
use Prim.Native.Nat.{ℕ, zero, suc, ◌<◌}
use native.Mathlib.Omega.{arith}
use lib.Dec.{leb}
use lib.ListN.{length}
use Rattle.lists.specs.Refusals.{unless, refusal, ◌or_refuse◌}
use Rattle.dispatcher.specs.declared.Dispatcher.{Dispatcher}
use Rattle.dispatcher.specs.Valid.{state_ok}
use Rattle.sheet.specs.Sheet.{most_pairs, sheet_number, sheet}
use Rattle.independence.specs.View.{sees_pairs, sees_sheet}
use Rattle.independence.specs.Own.{sheet_fits}
use Rattle.lists.proofs.Refusals.{go_on}
use Rattle.sheet.proofs.Entry.{sheet_number_lem}

-- The whole refusals that are left once the state is in its ranges.
abbrev whole_number : (few room : Bool) → ℕ
whole_number few room = refusal (few or_refuse 15 ∷ room or_refuse 12 ∷ [])

-- Where both tests pass, none is given.
both_pass : (few room : Bool) → (few && room) ≡ true → whole_number few room ≡ 0
unfolding refusal unless
both_pass true true x = refl
both_pass true false x = absurd (false≢true x)
both_pass false room x = absurd (false≢true x)

-- Where one of them fails, one is given.
one_fails : (few room : Bool) → (few && room) ≡ false → 0 < whole_number few room
unfolding refusal unless
one_fails true true x = absurd (false≢true (sym x))
one_fails true false x = omega arith
one_fails false room x = omega arith

module _ (d : Dispatcher) (pairs : List ℕ) (room : ℕ) (ok : state_ok d ≡ true) where
  -- In a state in its ranges 14 is not given.
  number_left :
      (sheet d pairs room).refusal.number
      ≡ whole_number (leb (length pairs) most_pairs) (leb (length pairs) room)
  unfolding sheet_number
  number_left = sheet_number_lem d pairs room ∙ go_on 14 _ ok

  -- A sheet that fits is not refused whole.
  pub sheet_goes : sheet_fits pairs room ≡ true → (sheet d pairs room).refusal.number ≡ 0
  sheet_goes x = number_left ∙ both_pass (leb (length pairs) most_pairs) (leb (length pairs) room) x

  -- A sheet that does not fit is refused whole.
  pub sheet_stops : sheet_fits pairs room ≡ false → 0 < (sheet d pairs room).refusal.number
  sheet_stops x = rw number_left (one_fails (leb (length pairs) most_pairs) (leb (length pairs) room) x)

-- Of a sheet that is not refused whole a guest can tell its own pairs.
pub sees_each :
    {n : ℕ} (id : ℕ) (pairs : List ℕ) (d : Dispatcher)
    → n ≡ 0
    → sees_sheet n id pairs d ≡ sees_pairs id pairs d
unfolding sees_sheet
sees_each id pairs d z = rw z refl

-- Of a sheet that is refused whole it can tell nothing.
pub sees_whole : {n : ℕ} (id : ℕ) (pairs : List ℕ) (d : Dispatcher) → 0 < n → sees_sheet n id pairs d ≡ []
unfolding sees_sheet
sees_whole {n = zero} id pairs d l = absurd (omega arith)
sees_whole {n = suc m} id pairs d l = refl
