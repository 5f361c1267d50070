-- How a start comes to its refusal, and what plans without a Deferrable guest say. Assumes nothing.
use mathlib.Core.Path.{◌≡◌, refl, sym, ap, ◌∙◌}
use mathlib.Core.Bool.{true, false, not}
use mathlib.Core.List.{[], ◌∷◌}
use Prim.Native.Nat.{ℕ, ◌<◌, ◌≤◌}
use native.Mathlib.Omega.{arith}
use lib.Dec.{eqb}
use Rattle.std.specs.Prelude.{Err}
use Rattle.lists.specs.All.{all_to}
use Rattle.lists.specs.Places.{nth}
use Rattle.plan.specs.declared.Columns.{Columns}
use Rattle.plan.specs.Filled.{ColumnsOf}
use Rattle.plan.specs.Promises.{Checks}
use Rattle.plan.specs.Ranges.{most_guests}
use Rattle.lists.specs.Refusals.{refusal, ◌or_refuse◌}
use Rattle.plan.specs.declared.Plan.{Plan}
use Rattle.plan.specs.declared.Refusal.{Refusal}
use Rattle.plan.specs.Records.{guest_at}
use Rattle.plan.specs.Server.{is_deferrable, is_periodic}
use Rattle.plan.specs.First.{refused, fine, unless_refused}
use Rattle.plan.specs.Order.{plan_refusal, records_then}
use Rattle.plan.specs.Periodic.{all_periodic, start_refusal}
use Rattle.lists.proofs.All.{all_by, all_at, all_ext}
use Rattle.lists.proofs.Refusals.{none_left, go_on, stop, passed}
use Rattle.plan.proofs.First.{refused_here, or_after, err_says, err_unless}
use Rattle.plan.proofs.Order.{plan_in, numbers_none, numbers_fine, records_none}

module _ (p : Plan) where
  -- Records that are refused are refused as they are.
  pub records_refused : 0 < (plan_refusal p).number → plan_refusal p ≡ start_refusal p
  unfolding start_refusal records_then
  records_refused h =
      refused_here (plan_refusal p).number (plan_refusal p).place (refused (refusal (all_periodic p or_refuse 23 ∷ [])) 0) h

  -- Records in order are refused by the test after them.
  then_by : {n : ℕ} → (plan_refusal p).number ≡ 0 → n ≡ refusal (all_periodic p or_refuse 23 ∷ [])
      → refused n 0 ≡ start_refusal p
  unfolding start_refusal records_then
  then_by e q =
      ap (λ (n : ℕ). refused n 0) q ∙ or_after (plan_refusal p).number (plan_refusal p).place _ (omega arith)

  -- Records in order with a Deferrable guest are refused by 23.
  pub deferrable_refused : (plan_refusal p).number ≡ 0 → all_periodic p ≡ false → refused 23 0 ≡ start_refusal p
  deferrable_refused e b = then_by e (sym (stop 23 [] b))

  -- Records in order are not refused.
  pub records_fine : (plan_refusal p).number ≡ 0 → plan_refusal p ≡ fine
  records_fine e = let P = plan_in p e in numbers_fine p P.some P.few (numbers_none p e)

  -- Records in order of Periodic guests are not refused.
  pub start_fine : (plan_refusal p).number ≡ 0 → all_periodic p ≡ true → plan_refusal p ≡ start_refusal p
  start_fine e b = records_fine e ∙ then_by e (sym (go_on 23 [] b ∙ none_left))

  -- Records in order of Periodic guests start.
  pub starts_by : (plan_refusal p).number ≡ 0 → all_periodic p ≡ true → (start_refusal p).number ≡ 0
  starts_by e b = ap (λ (r : Refusal). r.number) (sym (start_fine e b)) ∙ e

  module _ (e : (start_refusal p).number ≡ 0) where
    -- A start that is not refused has its records in order.
    pub starts_in_order : (plan_refusal p).number ≡ 0
    unfolding start_refusal
    starts_in_order = (records_none p (all_periodic p or_refuse 23 ∷ []) e).0

    -- A start that is not refused has Periodic guests alone.
    pub starts_periodic : all_periodic p ≡ true
    unfolding start_refusal
    starts_periodic =
        (passed (all_periodic p) 23 [] (omega arith) (records_none p (all_periodic p or_refuse 23 ∷ []) e).1).0

  -- The check's refusal is the start's.
  pub start_refused : {r : Refusal} → Checks p (Err r) → Err r ≡ unless_refused (start_refusal p) (tt {0})
  start_refused e =
      let s = err_says (plan_refusal p) tt e in
      err_unless (start_refusal p) tt (s.0 ∙ records_refused s.1) (rw s.0 s.1)

  -- The test off the column is the plan's.
  pub periodic_tested :
      {c : Columns} → p.count ≤ most_guests → ColumnsOf p.guests most_guests c
      → all_to (λ k. eqb (nth c.deferrable k) 0) p.count ≡ all_periodic p
  unfolding all_periodic
  periodic_tested m f = all_ext _ _ p.count (λ k h. rw (f.deferrable.holds k (omega arith)) refl)

  -- In a plan of Periodic guests each is Periodic.
  pub periodic_at : all_periodic p ≡ true → (k : ℕ) → k < p.count → is_periodic (guest_at p.guests k) ≡ true
  unfolding all_periodic
  periodic_at b k h = all_at (λ j. is_periodic (guest_at p.guests j)) p.count k h b

  -- A plan each of whose guests is Periodic is one of Periodic guests.
  pub periodic_by : ((k : ℕ) → k < p.count → is_periodic (guest_at p.guests k) ≡ true) → all_periodic p ≡ true
  unfolding all_periodic
  periodic_by h = all_by (λ j. is_periodic (guest_at p.guests j)) p.count h

  -- In a plan of Periodic guests none is Deferrable.
  pub none_deferrable : all_periodic p ≡ true → (k : ℕ) → k < p.count → is_deferrable (guest_at p.guests k) ≡ false
  none_deferrable b k h = ap not (periodic_at b k h)
