-- How a start comes to its whole outcome. Assumes nothing.
use Rattle.std.specs.Prelude.{Result, Ok, Err}
use Rattle.std.proofs.Common.{◌≡◌, refl, sym, ◌∙◌, ℕ, zero, suc, ◌<◌, arith}
use Rattle.plan.specs.declared.Plan.{Plan}
use Rattle.plan.specs.declared.Refusal.{Refusal}
use Rattle.plan.specs.First.{fine, unless_refused}
use Rattle.plan.specs.Records.{blank_plan}
use Rattle.plan.specs.Periodic.{start_refusal}
use Rattle.dispatcher.specs.declared.Dispatcher.{Dispatcher}
use Rattle.dispatcher.specs.declared.Started.{Started}
use Rattle.dispatcher.specs.Fresh.{idle, started_by, started_in, fresh}
use Rattle.dispatcher.specs.Promises.{StartsIn}
use Rattle.plan.proofs.First.{ok_says, err_says}
use Rattle.plan.proofs.PeriodicLaws.{records_fine, start_fine, starts_in_order, starts_periodic}

-- what the check of a start gives
abbrev pub Asks : Plan → Result Unit Refusal → Type 0
Asks p r = r ≡ unless_refused (start_refusal p) tt

-- A start that has a number is zero throughout.
blank_by : (x : ℕ) (p : Plan) → 0 < x → idle blank_plan ≡ started_by x p
unfolding started_by
blank_by zero p h = absurd (omega arith)
blank_by (suc n) p h = refl

-- One in place leaves the state as it was.
kept_by : (x : ℕ) (d : Dispatcher) → 0 < x → d ≡ started_in x d
unfolding started_in
kept_by zero d h = absurd (omega arith)
kept_by (suc n) d h = refl

-- A start that passes has no refusal.
passes_fine : (p : Plan) → Asks p (Ok tt) → start_refusal p ≡ fine
passes_fine p e =
    let n = (ok_says (start_refusal p) e).0 in
    sym (start_fine p (starts_in_order p n) (starts_periodic p n)) ∙ records_fine p (starts_in_order p n)

-- A start that passes has its whole outcome.
pub start_fresh : (p : Plan) → Asks p (Ok tt) → ◌≡◌ {A = Started} (record { refusal = fine; state = idle p }) (fresh p)
unfolding fresh started_by
start_fresh p e = rw (passes_fine p e) refl

-- A refused start has its whole outcome.
pub start_refused : (p : Plan) {r : Refusal} → Asks p (Err r)
    → ◌≡◌ {A = Started} (record { refusal = r; state = idle blank_plan }) (fresh p)
unfolding fresh
start_refused p e = let q = err_says (start_refusal p) tt e in rw (q.0, ← blank_by (start_refusal p).number p q.1) refl

-- A start in place that passes leaves the fresh state.
pub start_in_fresh : (d : Dispatcher) → Asks d.plan (Ok tt) → StartsIn d fine (idle d.plan)
unfolding started_in
start_in_fresh d e = (sym (passes_fine d.plan e), rw (passes_fine d.plan e) refl)

-- A refused one leaves the state as it was.
pub start_in_refused : (d : Dispatcher) {r : Refusal} → Asks d.plan (Err r) → StartsIn d r d
start_in_refused d e = let q = err_says (start_refusal d.plan) tt e in (q.0, kept_by (start_refusal d.plan).number d q.1)
