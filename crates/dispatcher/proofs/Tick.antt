-- How what a step noted comes to the count of its tick. Assumes nothing.
use mathlib.Core.Path.{◌≡◌, refl}
use mathlib.Core.Bool.{Bool, true, false}
use Prim.Native.Nat.{ℕ}
use lib.Dec.{ltb}
use borrow.Author.Tests.{lt-ltb}
use Rattle.arrays.specs.Usage.{tallied}
use Rattle.dispatcher.specs.declared.Dispatcher.{Dispatcher}
use Rattle.steps.specs.declared.Turn.{Turn}
use Rattle.dispatcher.specs.State.{rest_at}
use Rattle.dispatcher.specs.Tick.{holder, is_held, worker, is_worked, usage_after}
use Rattle.dispatcher.specs.Lent.{turn_by, turn}
use Rattle.dispatcher.proofs.Answers.{worker_runs}

-- What was noted counts as the rule does, by whether a guest has the tick and a task of it works.
counted_by_lem : (held worked : Bool) (d : Dispatcher) → is_held d ≡ held → is_worked d ≡ worked
    → tallied (ltb (turn d).guest d.plan.count) (ltb 0 (turn d).had) (turn d).guest d.usage ≡ tallied (is_held d) (is_worked d) (holder d) d.usage
unfolding is_held turn turn_by tallied
counted_by_lem false worked d h w = rw (h, h) refl
counted_by_lem true true d h w = rw (h, h, w, lt-ltb 0 (rest_at d (holder d) (worker d)) (worker_runs d w)) refl
counted_by_lem true false d h w = rw (h, h, w) refl

-- The tick is counted as the rule says.
pub tick_counted : (d : Dispatcher) {n : ℕ} {t : Turn} → t ≡ turn d → d.plan.count ≡ n
    → tallied (ltb t.guest n) (ltb 0 t.had) t.guest d.usage ≡ usage_after d
unfolding usage_after
tick_counted d e c = rw (e, ← c) (counted_by_lem (is_held d) (is_worked d) d refl refl)
