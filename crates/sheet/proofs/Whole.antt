-- A sheet as a whole: by the number that it is refused by. Assumes nothing.
use mathlib.Core.Path.{◌≡◌, refl, sym, ◌∙◌}
use mathlib.Core.Bool.{Bool, false}
use mathlib.Core.List.{List, [], ◌∷◌}
use Prim.Native.Nat.{ℕ, zero, suc, ◌≤◌, ◌<◌}
use native.Mathlib.Omega.{arith}
use lib.Dec.{leb}
use lib.ListN.{length}
use borrow.Author.Tests.{leb-true}
use Rattle.lists.specs.Refusals.{refusal, unless_number, ◌or_refuse◌}
use Rattle.plan.specs.declared.Columns.{Columns}
use Rattle.std.specs.Prelude.{Result, Ok, Err}
use Rattle.plan.specs.First.{refused}
use Rattle.plan.specs.Order.{plan_refusal}
use Rattle.arrays.specs.Place.{Small}
use Rattle.jobs.specs.Rows.{JobsOf}
use Rattle.jobs.specs.Barred.{BarredTo}
use Rattle.dispatcher.specs.declared.Dispatcher.{Dispatcher}
use Rattle.dispatcher.specs.declared.Released.{Released}
use Rattle.dispatcher.specs.Valid.{state_ok}
use Rattle.dispatcher.specs.LentCheck.{InRange}
use Rattle.dispatcher.specs.InPlace.{released_in}
use Rattle.sheet.specs.Sheet.{most_pairs, sheet_number, sheet_by, sheet, answered_by, answered}
use Rattle.sheet.specs.Lent.{SheetColumns, AllTaken}
use Rattle.sheet.specs.Promises.{Sheets}
use Rattle.lists.proofs.Refusals.{go_on, stop, passed}
use Rattle.plan.proofs.Order.{plan_in}
use Rattle.dispatcher.proofs.Valid.{ok_plan}

-- By the number.
by_some :
    (x : ℕ) (d : Dispatcher) (pairs : List ℕ)
    → 0 < x
    → ◌≡◌ {A = Released} (record { refusal = refused x 0; state = d }) (sheet_by x d pairs)
unfolding sheet_by
by_some zero d pairs h = absurd (omega arith)
by_some (suc n) d pairs h = refl

some_answered : (x : ℕ) (d : Dispatcher) (pairs before : List ℕ) → 0 < x → before ≡ answered_by x d pairs before
unfolding answered_by
some_answered zero d pairs before h = absurd (omega arith)
some_answered (suc n) d pairs before h = refl

by_zero :
    (x : ℕ) (d after : Dispatcher) (pairs before answers : List ℕ)
    → x ≡ 0
    → AllTaken d after pairs before answers
    → (released_in (Ok tt) after ≡ sheet_by x d pairs) × (answers ≡ answered_by x d pairs before)
unfolding sheet_by answered_by
by_zero x d after pairs before answers z A = rw z (rw A.state refl, A.answer)

-- The order of whole refusals after the state's.
abbrev room_number : (pairs before : List ℕ) → ℕ
room_number pairs before =
    refusal (leb (length pairs) most_pairs or_refuse 15 ∷ leb (length pairs) (length before) or_refuse 12 ∷ [])

module _ (d : Dispatcher) (pairs before : List ℕ) where
  -- A sheet that a number refuses whole changes nothing.
  whole_refused : (n : ℕ) → 0 < n → n ≡ sheet_number d pairs (length before)
      → Sheets d pairs before (released_in (Err n) d) before
  unfolding sheet answered
  whole_refused n h e = rw (← e) (by_some n d pairs h, some_answered n d pairs before h)

  -- A state outside its ranges refuses the sheet.
  pub state_refuses : state_ok d ≡ false → Sheets d pairs before (released_in (Err 14) d) before
  unfolding sheet_number
  state_refuses e = whole_refused 14 (omega arith) (sym (stop 14 _ e))

  module _ {c : Columns} (E : InRange d c) where
    number_is : room_number pairs before ≡ sheet_number d pairs (length before)
    unfolding sheet_number
    number_is = sym (go_on 14 _ E.okay)

    -- Too many pairs or too little room refuse it.
    pub room_refuses : {n : ℕ} → ◌≡◌ {A = Result Unit ℕ} (Err n) (unless_number (room_number pairs before) tt)
        → Sheets d pairs before (released_in (Err n) d) before
    room_refuses {n} e = by (room_number pairs before) refl e
      where
        by : (x : ℕ) → room_number pairs before ≡ x → ◌≡◌ {A = Result Unit ℕ} (Err n) (unless_number x tt)
            → Sheets d pairs before (released_in (Err n) d) before
        by zero q e = absurd (cc)
        by (suc x) q e = (let f : n ≡ suc x = cc in whole_refused n (omega arith) (f ∙ sym q ∙ number_is))

    -- A sheet that has room is not refused.
    pub room_none : {u : Unit {0}} → ◌≡◌ {A = Result Unit ℕ} (Ok u) (unless_number (room_number pairs before) tt)
        → room_number pairs before ≡ 0
    room_none e = by (room_number pairs before) e
      where
        by : (x : ℕ) {u : Unit {0}} → ◌≡◌ {A = Result Unit ℕ} (Ok u) (unless_number x tt) → x ≡ 0
        by zero q = refl
        by (suc x) q = absurd (cc)

    module _ (z : room_number pairs before ≡ 0) where
      -- A sheet that nothing refuses is its pairs.
      pub whole_taken : {after : Dispatcher} {answers : List ℕ} → AllTaken d after pairs before answers
          → Sheets d pairs before (released_in (Ok tt) after) answers
      unfolding sheet answered
      whole_taken {after} {answers} A =
          rw (← number_is) (by_zero (room_number pairs before) d after pairs before answers z A)

      -- There is a place for each answer.
      pub room_enough : length pairs ≤ length before
      room_enough =
          let a = passed (leb (length pairs) most_pairs) 15 _ (omega arith) z in
          leb-true (length pairs) (length before)
          (passed (leb (length pairs) (length before)) 12 [] (omega arith) a.1).0

    -- Its plan is in order.
    pub plan_fine : (plan_refusal d.plan).number ≡ 0
    plan_fine = ok_plan d E.okay

    -- Its guests and their tasks are few.
    pub small : Small d.plan.count c.tasks
    small =
        let P = plan_in d.plan plan_fine in
        record { guests = P.few; each = λ k l. omega (arith, E.columns.tasks.holds k l, (P.guests k l).head.few) }

    -- The columns that were read are the plan's.
    pub sheet_columns :
        {barred runs periods : List ℕ} {isClear : Bool}
        → JobsOf d.plan runs periods × BarredTo d.plan d.position d.plan.count barred isClear
        → SheetColumns d.plan d.plan.count d.position c.ids c.tasks barred runs periods
    sheet_columns (J, B) =
        record {
          count = refl;
          id = E.columns.ids.holds;
          many = E.columns.tasks.holds;
          bars = B.column.holds;
          jobs = J;
        }
