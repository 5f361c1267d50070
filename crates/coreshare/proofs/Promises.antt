-- Each promise permits one outcome, since it is an equality with a definition. Assumes nothing.
use mathlib.Core.Path.{◌≡◌, ap}
use mathlib.Core.List.{List}
use Prim.Native.Nat.{ℕ}
use Rattle.plan.specs.First.{refused}
use Rattle.plan.specs.declared.Guest.{Guest}
use Rattle.logblock.specs.declared.Entries.{Entries}
use Rattle.plan.specs.declared.Plan.{Plan}
use Rattle.plan.specs.declared.Refusal.{Refusal}
use Rattle.planfile.specs.declared.Reading.{Reading}
use Rattle.dispatcher.specs.declared.Dispatcher.{Dispatcher}
use Rattle.coreshare.specs.declared.Verdict.{Verdict}
use Rattle.coreshare.specs.declared.Told.{Told}
use Rattle.coreshare.specs.declared.Tick.{Tick}
use Rattle.coreshare.specs.declared.Run.{Run}
use Rattle.coreshare.specs.Promises.{TellsGuest, TellsTask, TellsPlan, TellsCapacity, TellsGuestIn, TellsTaskIn, TellsPair, TellsCapacityIn, TellsTick, TellsRun, TellsReading, TellsCheck, TellsWrite, TellsPlace, TellsConverted, TellsLog}
use Rattle.plan.proofs.Promises.{one_outcome}

-- Two outcomes that the promise of `cs_guest_verdict` permits coincide.
pub tells_guest_once : (p : Plan) (id : ℕ) (r s : Verdict) → TellsGuest p id r → TellsGuest p id s → r ≡ s
tells_guest_once p id r s = one_outcome

-- Two outcomes that the promise of `cs_task_verdict` permits coincide.
pub tells_task_once : (p : Plan) (id number : ℕ) (r s : Verdict) → TellsTask p id number r → TellsTask p id number s → r ≡ s
tells_task_once p id number r s = one_outcome

-- Two outcomes that the promise of `cs_accept` permits coincide.
pub tells_plan_once : (p : Plan) (r s : Verdict) → TellsPlan p r → TellsPlan p s → r ≡ s
tells_plan_once p r s = one_outcome

-- Two outcomes that the promise of `cs_smallest_capacity` permits coincide.
pub tells_capacity_once : (p : Plan) (id : ℕ) (r s : Verdict) → TellsCapacity p id r → TellsCapacity p id s → r ≡ s
tells_capacity_once p id r s = one_outcome

-- Two outcomes that the promise of `cs_amended_guest_verdict` permits coincide.
pub tells_guest_in_once : (p s : List ℕ) (id : ℕ) (r q : Verdict) → TellsGuestIn p s id r → TellsGuestIn p s id q → r ≡ q
tells_guest_in_once p s id r q = one_outcome

-- Two outcomes that the promise of `cs_amended_task_verdict` permits coincide.
pub tells_task_in_once : (p s : List ℕ) (id number : ℕ) (r q : Verdict) → TellsTaskIn p s id number r
    → TellsTaskIn p s id number q
    → r ≡ q
tells_task_in_once p s id number r q = one_outcome

-- Two outcomes that the promise of `cs_amended_accept` permits coincide.
pub tells_pair_once : (p s : List ℕ) (r q : Verdict) → TellsPair p s r → TellsPair p s q → r ≡ q
tells_pair_once p s r q = one_outcome

-- Two outcomes that the promise of `cs_amended_smallest_capacity` permits coincide.
pub tells_capacity_in_once : (p s : List ℕ) (id : ℕ) (r q : Verdict) → TellsCapacityIn p s id r
    → TellsCapacityIn p s id q
    → r ≡ q
tells_capacity_in_once p s id r q = one_outcome

-- Two outcomes that the promise of `cs_tick` permits coincide.
pub tells_tick_once : (d : Dispatcher) (r s : Tick) → TellsTick d r → TellsTick d s → r ≡ s
tells_tick_once d r s = one_outcome

-- Two outcomes that the promise of `cs_run` permits coincide.
pub tells_run_once : (d : Dispatcher) (n : ℕ) (r s : Run) → TellsRun d n r → TellsRun d n s → r ≡ s
tells_run_once d n r s = one_outcome

-- Two outcomes that the promise of `cs_tick_in` permits coincide.
pub tells_tick_in_place_once : (d : Dispatcher) (n m : ℕ) (a b : Told) (s t : Dispatcher)
    → TellsTick d (record { refusal = refused n 0; answer = a; state = s })
    → TellsTick d (record { refusal = refused m 0; answer = b; state = t })
    → (n ≡ m) × ((a ≡ b) × (s ≡ t))
tells_tick_in_place_once d n m a b s t p q =
    let e = one_outcome p q in
    (ap (λ (r : Tick). r.refusal.number) e, (ap (λ (r : Tick). r.answer) e, ap (λ (r : Tick). r.state) e))

-- Two outcomes that the promise of `cs_run_in` permits coincide.
pub tells_run_in_place_once : (d : Dispatcher) (ticks n m done did : ℕ) (a b : Told) (s t : Dispatcher)
    → TellsRun d ticks (record { refusal = refused n 0; done = done; answer = a; state = s })
    → TellsRun d ticks (record { refusal = refused m 0; done = did; answer = b; state = t })
    → ((n ≡ m) × (done ≡ did)) × ((a ≡ b) × (s ≡ t))
tells_run_in_place_once d ticks n m done did a b s t p q =
    let e = one_outcome p q in (
      (ap (λ (r : Run). r.refusal.number) e, ap (λ (r : Run). r.done) e),
      (ap (λ (r : Run). r.answer) e, ap (λ (r : Run). r.state) e),
    )

-- Two outcomes that the promise of `cs_read` permits coincide.
pub tells_reading_once : (s : List ℕ) (r q : Reading) → TellsReading s r → TellsReading s q → r ≡ q
tells_reading_once s r q = one_outcome

-- Two outcomes that the promise of `cs_check` permits coincide.
pub tells_check_once : (p : Plan) (r s : Refusal) → TellsCheck p r → TellsCheck p s → r ≡ s
tells_check_once p r s = one_outcome

-- Two outcomes that the promise of `cs_write` permits coincide, and so do the bytes that they leave.
pub tells_write_once : (g : Guest) (p : ℕ) (before : List ℕ) (r s : Refusal) (x y : List ℕ) → TellsWrite g p before r x
    → TellsWrite g p before s y
    → (r ≡ s) × (x ≡ y)
tells_write_once g p before r s x y a b = (one_outcome a.0 b.0, one_outcome a.1 b.1)

-- Two outcomes that the promise of `cs_find` permits coincide.
pub tells_place_once : (s : List ℕ) (id : ℕ) (r q : Refusal) → TellsPlace s id r → TellsPlace s id q → r ≡ q
tells_place_once s id r q = one_outcome

-- Two outcomes that the promise of `cs_convert` permits coincide, and so do the bytes that they leave.
pub tells_converted_once : (s before : List ℕ) (r q : Refusal) (x y : List ℕ) → TellsConverted s before r x
    → TellsConverted s before q y
    → (r ≡ q) × (x ≡ y)
tells_converted_once s before r q x y a b = (one_outcome a.0 b.0, one_outcome a.1 b.1)

-- Two outcomes that the promise of `cs_write_log` permits coincide, and so do the bytes that they leave.
pub tells_log_once : (es : Entries) (before : List ℕ) (r s : Refusal) (x y : List ℕ) → TellsLog es before r x
    → TellsLog es before s y
    → (r ≡ s) × (x ≡ y)
tells_log_once es before r s x y a b = (one_outcome a.0 b.0, one_outcome a.1 b.1)
