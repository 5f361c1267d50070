-- The places of the lent answers after a sheet. Assumes nothing.
use mathlib.Core.Path.{◌≡◌, refl, sym, ◌∙◌}
use mathlib.Core.List.{List, ◌++◌}
use Prim.Native.Nat.{ℕ, zero, suc, ◌+◌, ◌-◌, ◌≤◌, ◌<◌}
use native.Mathlib.Omega.{arith}
use lib.ListN.{length, drop}
use lib.Seq.{get_or-append-add, get_or-drop}
use Rattle.lists.specs.Places.{nth}
use Rattle.lists.specs.Table.{table}
use Rattle.dispatcher.specs.declared.Dispatcher.{Dispatcher}
use Rattle.sheet.specs.Sheet.{answer_to, sheet_number, sheet, answered_by, answered}
use Rattle.lists.proofs.Table.{table_length, table_before}
use Rattle.sheet.proofs.Entry.{sheet_number_lem}

module _ (d : Dispatcher) (pairs before : List ℕ) where
  each_by : (n i : ℕ) → n ≡ 0 → i < length pairs → nth (answered_by n d pairs before) i ≡ answer_to d pairs i
  unfolding answered_by
  each_by zero i e h = table_before (answer_to d pairs) 0 (length pairs) (drop (length pairs) before) i h
  each_by (suc n) i e h = absurd (omega arith)

  -- Each pair of a sheet that is not refused whole is answered in its place.
  pub answered_each :
      (sheet d pairs (length before)).refusal.number ≡ 0
      → (i : ℕ)
      → i < length pairs
      → nth (answered d pairs before) i ≡ answer_to d pairs i
  unfolding answered
  answered_each z i h =
      each_by (sheet_number d pairs (length before)) i (sym (sheet_number_lem d pairs (length before)) ∙ z) h

  -- A place past a list is one of what stands behind it.
  behind : (l : List ℕ) (i : ℕ) → length l ≤ i → nth (l ++ drop (length l) before) i ≡ nth before i
  behind l i h =
      let e : i ≡ length l + (i - length l) = omega arith in
      rw e (get_or-append-add l (drop (length l) before) (i - length l) 0
      ∙ get_or-drop (length l) before (i - length l) 0)

  past_by : (n i : ℕ) → length pairs ≤ i → nth (answered_by n d pairs before) i ≡ nth before i
  unfolding answered_by
  past_by zero i h =
      let e = table_length (answer_to d pairs) (length pairs) in
      rw e at (behind (table (answer_to d pairs) (length pairs)) i (omega arith))
  past_by (suc n) i h = refl

  -- Places past the pairs stay as they were.
  pub answered_past : (i : ℕ) → length pairs ≤ i → nth (answered d pairs before) i ≡ nth before i
  unfolding answered
  answered_past i h = past_by (sheet_number d pairs (length before)) i h

  same_by : (n : ℕ) → 0 < n → answered_by n d pairs before ≡ before
  unfolding answered_by
  same_by zero h = absurd (omega arith)
  same_by (suc n) h = refl

  -- A sheet that is refused whole changes no answer place.
  pub unanswered : 0 < (sheet d pairs (length before)).refusal.number → answered d pairs before ≡ before
  unfolding answered
  unanswered h =
      same_by (sheet_number d pairs (length before)) (omega (arith, sheet_number_lem d pairs (length before)))
