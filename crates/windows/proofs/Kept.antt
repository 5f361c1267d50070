-- Ticks and releases keep the invariant, a fresh state has it, and a quoted response follows from it. Assumes nothing.
use mathlib.Core.Path.{◌≡◌}
use mathlib.Core.Bool.{Bool, true}
use Prim.Native.Nat.{ℕ, suc, ◌+◌, ◌-◌, ◌≤◌, ◌<◌}
use native.Mathlib.Decide.{ℕ_discrete}
use native.Mathlib.Omega.{arith}
use Rattle.equation.specs.System.{gap_for, response_of}
use Rattle.windows.specs.GuestTick.{Moved, GuestTick}
use Rattle.windows.specs.Supply.{Supply}
use Rattle.windows.specs.Equation.{system_at}
use Rattle.windows.specs.TaskTick.{Tasks, TaskTick, Taken, Same}
use Rattle.windows.specs.Kept.{Bounded, Kept}
use Rattle.lists.proofs.Sum.{sum_zero}
use Rattle.equation.proofs.System.{gap_for_grows}
use Rattle.windows.proofs.GuestTick.{moved_inside}
use Rattle.windows.proofs.Supply.{fits_sum, supply_tick, used_up, supply_fresh, supplied}
use Rattle.windows.proofs.Equation.{Lies, lies}
use Rattle.windows.proofs.Clock.{clock_tick, clock_taken, clock_same}
use Rattle.windows.proofs.Window.{Given, restart, window_tick}
use Rattle.windows.proofs.Release.{window_same, window_taken}

module _ {cap per : ℕ → ℕ} {g x : ℕ} {run every : ℕ → ℕ} {is_bound : ℕ → Bool} {i w : ℕ}
    (Q : Bounded cap per g x run every is_bound i w) where
  -- how the solution lies in periods of the guest
  lies_of : Lies (system_at cap per g run every is_bound) i w
  lies_of =
      lies (system_at cap per g run every is_bound) i w Q.fitted.some Q.cap_per Q.solves.works Q.solves.equal

  -- what the guest part gives the task part
  given : (held pos : ℕ → ℕ) → Supply cap per g x held pos → pos g < per g
      → Given (system_at cap per g run every is_bound) i w x (pos g) (held g)
  given held pos S p = record {
    lies = lies_of;
    some = Q.solves.some;
    cap = Q.cap_per;
    resp = Q.fitted.inside;
    pos = p;
    most = S.most;
    pace = S.pace;
    full = omega (arith, supplied cap per g x held pos Q.fitted S (cap g) x (omega arith) (fits_sum Q.fitted));
    last = supplied cap per g x held pos Q.fitted S lies_of.l lies_of.v lies_of.fits lies_of.solves;
  }

  -- A tick keeps the invariant: guest k has the tick.
  pub kept_tick :
      {k : ℕ} {held pos left held' pos' : ℕ → ℕ} {v v' : Tasks}
      → GuestTick cap per g k held pos left held' pos'
      → (k ≡ g → TaskTick i 1 v v')
      → ((k ≡ g → ⊥) → TaskTick i 0 v v')
      → Kept cap per g x run every is_bound i w held pos v
      → Kept cap per g x run every is_bound i w held' pos' v'
  kept_tick {k} {held} {pos} {left} {held'} {pos'} {v} {v'} t mine else K =
      elim (ℕ_discrete k g) [
        | yes e ↦ by 1 (rw e at (t.served.took (omega arith))) (mine e)
        | no n ↦ by 0 (omega (arith, t.served.same g (omega arith) (λ z. omega arith))) (else n)
      ]
    where
      supply : Supply cap per g x held' pos'
      supply = supply_tick cap per g x k held pos left held' pos' Q.fitted K.supply t

      drained : pos g + 1 ≡ per g → left g ≡ 0
      drained = used_up cap per g x k held pos left held' pos' Q.fitted K.supply t

      move : Moved (cap g) (per g) (pos g) (left g) (pos' g) (held' g)
      move = t.moved g (omega arith)

      place : pos' g < per g
      place = moved_inside move

      by : (a : ℕ) → left g + a ≡ held g → TaskTick i a v v' → Kept cap per g x run every is_bound i w held' pos' v'
      by a la u = record {
        supply = supply;
        place = place;
        window =
            window_tick is_bound (held g) a i v v' move la drained (given held' pos' supply place)
            (λ j l. omega arith) Q.solves.periods K.clock u K.window;
        clock = clock_tick Q.solves.short u K.clock;
      }

  -- A taken release of task j of this guest keeps the invariant, if it is at a period's start where j is bound.
  pub kept_taken :
      {j : ℕ} {held pos : ℕ → ℕ} {v v' : Tasks}
      → (is_bound j ≡ true → pos g ≡ 0)
      → Taken run every j v v'
      → ((m : ℕ) → m ≤ i → (m ≡ j → ⊥) → Same m v v')
      → Kept cap per g x run every is_bound i w held pos v
      → Kept cap per g x run every is_bound i w held pos v'
  kept_taken {j} at R S K = record {
    supply = K.supply;
    place = K.place;
    window = window_taken j Q.solves.works at R S K.window;
    clock = clock_taken R S K.clock;
  }

  -- Where no task up to i changed, the invariant stands.
  pub kept_same :
      {held pos : ℕ → ℕ} {v v' : Tasks}
      → ((m : ℕ) → m ≤ i → Same m v v')
      → Kept cap per g x run every is_bound i w held pos v
      → Kept cap per g x run every is_bound i w held pos v'
  kept_same S K = record {
    supply = K.supply;
    place = K.place;
    window = window_same S K.window;
    clock = clock_same S K.clock;
  }

  -- The invariant holds where every position is 0, every guest is about to be filled, and no task has a job or a wait.
  pub kept_fresh :
      (held pos : ℕ → ℕ) (v : Tasks)
      → ((k : ℕ) → k ≤ g → held k ≡ cap k)
      → ((k : ℕ) → k ≤ g → pos k ≡ 0)
      → ((j : ℕ) → j ≤ i → v.rest j ≡ 0)
      → ((j : ℕ) → j ≤ i → v.wait j ≡ 0)
      → Kept cap per g x run every is_bound i w held pos v
  kept_fresh held pos v full start free due = record {
    supply = supply;
    place = place;
    window = restart v (given held pos supply place) (sum_zero v.rest (suc i) (λ j l. free j (omega arith)));
    clock = record { waits = λ j l. omega (arith, due j l); since = λ r. absurd (omega (arith, free i (omega arith))) };
  }
    where
      supply : Supply cap per g x held pos
      supply = supply_fresh cap per g x held pos Q.fitted full start

      place : pos g < per g
      place = omega (arith, start g (omega arith), Q.fitted.some, Q.cap_per)

  -- An unfinished job is younger than the response.
  pub age_below :
      {held pos : ℕ → ℕ} {v : Tasks}
      → Kept cap per g x run every is_bound i w held pos v
      → 0 < v.rest i
      → v.age i < response_of (gap_for (is_bound i) (per g - cap g)) w
  unfolding response_of
  age_below K r =
      let W = K.window in
      omega (arith, W.aged r, W.inside, gap_for_grows (is_bound i) (per g - cap g) W.d W.e W.gap)

  -- The response being within the period, the task has nothing left when its wait is over.
  pub free_when_due :
      {held pos : ℕ → ℕ} {v : Tasks}
      → Kept cap per g x run every is_bound i w held pos v
      → v.wait i ≡ 0
      → v.rest i ≡ 0
  free_when_due {v = v} K due =
      elim (ℕ_discrete (v.rest i) 0) [
        | yes e ↦ e
        | no n ↦
            (let r : 0 < v.rest i = omega arith in
            absurd (omega (arith, age_below K r, Q.solves.in_period, K.clock.since r)))
      ]
