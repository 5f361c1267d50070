-- Answers about a pair are those about the plan with the blocks replaced. Assumes nothing.
use mathlib.Core.Path.{◌≡◌, refl, sym, ap}
use mathlib.Core.List.{List}
use Prim.Native.Nat.{ℕ, ◌≤◌}
use native.Mathlib.Omega.{arith}
use Rattle.plan.specs.declared.Plan.{Plan}
use Rattle.plan.specs.First.{fine}
use Rattle.plan.specs.Order.{plan_refusal}
use Rattle.blockfile.specs.File.{file_refusal}
use Rattle.planfile.specs.declared.Reading.{Reading}
use Rattle.planfile.specs.Records.{read_of}
use Rattle.verdict.specs.Verdict.{guest_verdict, task_verdict, acceptance}
use Rattle.capacity.specs.Answer.{smallest_capacity}
use Rattle.amendment.specs.Pair.{pair_refusal}
use Rattle.amendment.specs.Amended.{amended}
use Rattle.amendment.specs.Verdict.{refusing_answer}
use Rattle.amendment_laws.specs.Replaced.{Fine, replaced, AnsweredAs}
use Rattle.amendment.proofs.Pair.{PairIn, pair_in, plan_fine}
use Rattle.amendment.proofs.Verdict.{pair_answers}
use Rattle.amendment_laws.proofs.Replaced as bytes

module _ (plan sheet : List ℕ) (ok : Fine plan sheet) where
  none : (pair_refusal plan sheet).number ≤ 0
  none = omega (arith, ok)

  pub inside : PairIn plan sheet
  inside = pair_in plan sheet (pair_refusal plan sheet) refl none

  pub well : (file_refusal plan).number ≡ 0
  well = plan_fine plan sheet (pair_refusal plan sheet) refl none

  -- The replaced bytes read as the amended plan.
  pub reads_as : read_of (replaced plan sheet) ≡ record { refusal = fine; plan = amended plan sheet }
  reads_as = bytes.reads_as plan sheet well inside

  -- The amended plan's records are in order.
  pub in_order : plan_refusal (amended plan sheet) ≡ fine
  in_order = bytes.in_order plan sheet well inside

  -- Each answer is the one about the amended plan.
  pub as_amended : AnsweredAs plan sheet (amended plan sheet)
  as_amended = record {
    guest = λ id. sym (pair_answers refusing_answer plan sheet (λ p. guest_verdict p id) _ refl none);
    task = λ id number. sym (pair_answers refusing_answer plan sheet (λ p. task_verdict p id number) _ refl none);
    accepted = sym (pair_answers refusing_answer plan sheet acceptance _ refl none);
    capacity = λ id. sym (pair_answers refusing_answer plan sheet (λ p. smallest_capacity p id) _ refl none);
  }

  -- The plan by another name.
  pub as_same : (q : Plan) → amended plan sheet ≡ q → AnsweredAs plan sheet q
  as_same q e = rw (← e) as_amended

  -- Each answer is the one about the plan that the replaced bytes say.
  pub as_replaced : AnsweredAs plan sheet (read_of (replaced plan sheet)).plan
  as_replaced = as_same _ (sym (ap (λ (r : Reading). r.plan) reads_as))
