-- How the code comes to the outcome of a call. Assumes nothing.
use Rattle.std.proofs.Common.{Ok, Err}
use mathlib.Core.Path.{◌≡◌, refl, ap, ◌∙◌}
use mathlib.Core.Bool.{true, false}
use mathlib.Core.List.{List, [], ◌∷◌}
use Prim.Native.Nat.{ℕ, zero, suc, ◌%◌, ◌<◌}
use native.Mathlib.Omega.{arith}
use lib.Dec.{eqb}
use lib.ListN.{length}
use borrow.Author.Tests.{eq-eqb, ne_eqb}
use Rattle.lists.specs.Refusals.{Test, refusal, ◌or_refuse◌}
use Rattle.plan.specs.declared.Refusal.{Refusal}
use Rattle.plan.specs.First.{refused, unless_refused}
use Rattle.plan.specs.Order.{plan_refusal}
use Rattle.block.specs.Layout.{block_size}
use Rattle.blockfile.specs.File.{blocks_in, file_refusal}
use Rattle.planfile.specs.Records.{read_of}
use Rattle.statement.specs.declared.Statement.{Statement}
use Rattle.statement.specs.Lines.{statement_ok}
use Rattle.statement.specs.Call.{call_refusal, stated_over, unstated, stated_by, stated}
use Rattle.lists.proofs.Refusals.{none_left, go_on, stop, passed}
use Rattle.plan.proofs.First.{refused_here, or_after, after_zero, ok_says, err_says, ok_unless, err_unless}
use Rattle.planfile_laws.proofs.OnlyOurs.{read_passes}

module _ (s : Statement) (plan log : List ℕ) where
  -- The tests after the plan's.
  abbrev tests : List Test
  tests = statement_ok s or_refuse 14 ∷ eqb (length log % block_size) 0 or_refuse 1 ∷ []

  -- The plan is refused.
  pub plan_refused : {r : Refusal} → Err r ≡ unless_refused (file_refusal plan) (tt {0})
      → Err r ≡ unless_refused (call_refusal s plan log) (tt {0})
  unfolding call_refusal
  plan_refused {r} q =
      let e = err_says (file_refusal plan) _ q in
      let h = ap (λ (x : Refusal). x.number) e.0 in
      err_unless (call_refusal s plan log) _
      (refused_here r.number r.place (refused (refusal tests) 0) (omega (arith, e.1)) ∙ rw e.0 refl)
      (omega (arith, e.1))

  module _ (q : Ok (tt {0}) ≡ unless_refused (file_refusal plan) (tt {0})) where
    well : (file_refusal plan).number ≡ 0
    well = (ok_says (file_refusal plan) q).0

    -- The plan is not: the tests after it decide.
    then_tests : {x : ℕ} → refusal tests ≡ x → refused x 0 ≡ call_refusal s plan log
    unfolding call_refusal
    then_tests e =
        rw (← e)
        (or_after (file_refusal plan).number (file_refusal plan).place (refused (refusal tests) 0)
        (omega (arith, well)))

    -- The running statement is not in its ranges.
    pub state_refused : statement_ok s ≡ false
        → Err (refused 14 0) ≡ unless_refused (call_refusal s plan log) (tt {0})
    state_refused ok = err_unless (call_refusal s plan log) _ (then_tests (stop 14 _ ok)) (omega arith)

    module _ (ok : statement_ok s ≡ true) where
      -- The log's length is no multiple of 512.
      pub length_refused : (length log % block_size ≡ 0 → ⊥)
          → Err (refused 1 0) ≡ unless_refused (call_refusal s plan log) (tt {0})
      length_refused n =
          err_unless (call_refusal s plan log) _
          (then_tests (go_on 14 _ ok ∙ stop 1 [] (ne_eqb (length log % block_size) 0 n)))
          (omega arith)

      -- Nothing is refused.
      pub none_refused : length log % block_size ≡ 0
          → Ok (tt {0}) ≡ unless_refused (call_refusal s plan log) (tt {0})
      none_refused z =
          let none = then_tests (go_on 14 _ ok ∙ go_on 1 [] (eq-eqb (length log % block_size) 0 z) ∙ none_left) in
          let h = ap (λ (x : Refusal). x.number) none in
          ok_unless (call_refusal s plan log) _ (omega arith)

  -- A call that is refused hands the statement back.
  pub refused_so : {r : Refusal} → Err r ≡ unless_refused (call_refusal s plan log) (tt {0})
      → unstated r s ≡ stated s plan log
  unfolding stated stated_by
  refused_so q =
      let e = err_says (call_refusal s plan log) _ q in
      rw e.0 (by_some (call_refusal s plan log).number e.1)
    where
      by_some : (x : ℕ) → 0 < x → unstated (call_refusal s plan log) s ≡ stated_by x s plan log
      by_some zero h = absurd (omega arith)
      by_some (suc x) h = refl

  module _ (q : Ok (tt {0}) ≡ unless_refused (call_refusal s plan log) (tt {0})) where
    fine_call : (call_refusal s plan log).number ≡ 0
    fine_call = (ok_says (call_refusal s plan log) q).0

    passes : ((file_refusal plan).number ≡ 0) × (refusal tests ≡ 0)
    unfolding call_refusal
    passes = after_zero (file_refusal plan).number (file_refusal plan).place (refused (refusal tests) 0) fine_call

    -- A call that is not refused: the plan's bytes are read, the plan is in order, and the running statement in its ranges.
    pub file_passes : (file_refusal plan).number ≡ 0
    file_passes = passes.0

    pub plan_passes : (plan_refusal (read_of plan).plan).number ≡ 0
    unfolding read_of
    plan_passes = ap (λ (x : Refusal). x.number) (read_passes plan passes.0)

    pub state_passes : statement_ok s ≡ true
    state_passes = (passed (statement_ok s) 14 _ (omega arith) passes.1).0

    -- The log is taken.
    pub log_stated : stated_over (read_of plan).plan log (blocks_in log) s ≡ stated s plan log
    unfolding stated stated_by
    log_stated = rw fine_call refl
