-- What each promise permits is one outcome. Assumes nothing.
use mathlib.Core.Path.{◌≡◌, ap}
use Prim.Native.Nat.{ℕ}
use Rattle.plan.specs.First.{refused}
use Rattle.plan.specs.declared.Plan.{Plan}
use Rattle.plan.specs.declared.Refusal.{Refusal}
use Rattle.dispatcher.specs.declared.Dispatcher.{Dispatcher}
use Rattle.dispatcher.specs.declared.Started.{Started}
use Rattle.dispatcher.specs.declared.Released.{Released}
use Rattle.dispatcher.specs.declared.Ticked.{Ticked}
use Rattle.dispatcher.specs.declared.Ran.{Ran}
use Rattle.dispatcher.specs.Promises.{Starts, StartsIn, Releases, Ticks, Runs}
use Rattle.plan.proofs.Promises.{one_outcome}

-- Two outcomes that a start's promise permits are one.
pub starts_once : (p : Plan) (r s : Started) → Starts p r → Starts p s → r ≡ s
starts_once p r s = one_outcome

-- Two outcomes that a release's promise permits are one.
pub releases_once : (d : Dispatcher) (id task : ℕ) (r s : Released) → Releases d id task r → Releases d id task s → r ≡ s
releases_once d id task r s = one_outcome

-- Two outcomes that a tick's promise permits are one.
pub ticks_once : (d : Dispatcher) (r s : Ticked) → Ticks d r → Ticks d s → r ≡ s
ticks_once d r s = one_outcome

-- Two outcomes that a run's promise permits are one.
pub runs_once : (d : Dispatcher) (n : ℕ) (r s : Ran) → Runs d n r → Runs d n s → r ≡ s
runs_once d n r s = one_outcome

-- Two outcomes that the promise of a start in place permits are one.
pub starts_in_once : (d : Dispatcher) (r s : Refusal) (a b : Dispatcher) → StartsIn d r a → StartsIn d s b → (r ≡ s) × (a ≡ b)
starts_in_once d r s a b p q = (one_outcome p.0 q.0, one_outcome p.1 q.1)

-- Two outcomes that the promise of a release in place permits are one.
pub releases_in_once : (d : Dispatcher) (id task n m : ℕ) (a b : Dispatcher)
    → Releases d id task (record { refusal = refused n 0; state = a })
    → Releases d id task (record { refusal = refused m 0; state = b }) → (n ≡ m) × (a ≡ b)
releases_in_once d id task n m a b p q =
    let e = one_outcome p q in
    (ap (λ (r : Released). r.refusal.number) e, ap (λ (r : Released). r.state) e)
