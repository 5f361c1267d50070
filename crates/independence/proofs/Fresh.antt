-- The fresh starts of two plans that are the same for a guest are alike for it: nothing is left, nothing waits, and
-- every position is 0. Assumes nothing.
use mathlib.Core.Path.{sym, ◌∙◌}
use Prim.Native.Nat.{ℕ, ◌≤◌, ◌<◌}
use native.Mathlib.Omega.{arith}
use Rattle.plan.specs.declared.Plan.{Plan}
use Rattle.dispatcher.specs.Fresh.{idle}
use Rattle.history.specs.Calls.{start}
use Rattle.independence.specs.SameFor.{SameFor}
use Rattle.plan.proofs.Order.{plan_in}
use Rattle.dispatcher_laws.proofs.Fresh.{fresh_idle, idle_left, idle_position, idle_rest, idle_wait, idle_age, sound_idle}
use Rattle.independence.proofs.Alike.{Alike, tasks_of}

-- The idle states are alike.
alike_idle : {id k : ℕ} {p q : Plan} → SameFor id k p q → Alike k (tasks_of p k) p q (idle p) (idle q)
alike_idle {id} {k} {p} {q} S =
    let P = plan_in p S.here.order in
    let few : k < 8 = omega (arith, S.here.place, P.few) in
    let sixteen : tasks_of p k ≤ 16 = (P.guests k S.here.place).head.few in
    record {
      one = sound_idle p S.starts;
      other = sound_idle q S.other_starts;
      left = λ j l. idle_left p j (omega arith) ∙ sym (idle_left q j (omega arith));
      position = λ j l. idle_position p j (omega arith) ∙ sym (idle_position q j (omega arith));
      rest = λ t l. idle_rest p k t few (omega arith) ∙ sym (idle_rest q k t few (omega arith));
      wait = λ t l. idle_wait p k t few (omega arith) ∙ sym (idle_wait q k t few (omega arith));
      age = λ t l. idle_age p k t few (omega arith) ∙ sym (idle_age q k t few (omega arith));
    }

-- The fresh starts are alike, neither being refused.
pub alike_start : {id k : ℕ} {p q : Plan} → SameFor id k p q → Alike k (tasks_of p k) p q (start p) (start q)
alike_start {p = p} {q = q} S = rw (fresh_idle p S.starts, fresh_idle q S.other_starts) (alike_idle S)
