-- Demand 3 for releases: one of a quoted task is taken whenever its period has passed since the last one taken, of a
-- bound task while its guest's position is 0, and 10 is never given for it. Assumes nothing.
use mathlib.Core.Path.{◌≡◌}
use mathlib.Core.Bool.{true}
use mathlib.Core.List.{List}
use mathlib.Core.Logic.{◌⊎◌, inl, inr}
use Prim.Native.Nat.{ℕ, ◌-◌, ◌≤◌, ◌<◌}
use native.Mathlib.Decide.{ℕ_discrete}
use native.Mathlib.Omega.{arith}
use Rattle.plan.specs.declared.Plan.{Plan}
use Rattle.plan.specs.Place.{place_of}
use Rattle.dispatcher.specs.declared.Dispatcher.{Dispatcher}
use Rattle.dispatcher.specs.Release.{release}
use Rattle.verdict.specs.Quoted.{Quoted}
use Rattle.history.specs.Calls.{Call, releasing, start, released, play, ticks_in, NoneTaken, CanStart}
use Rattle.history.specs.Named.{bound_by, position_by, every_by, wait_by, StartsHere}
use Rattle.plan.proofs.Order.{PlanIn}
use Rattle.windows.proofs.Kept.{free_when_due}
use Rattle.history.proofs.Play.{sound_after, sound_play}
use Rattle.verdict_laws.proofs.Kept.{KeptIn, bounded_of}
use Rattle.history.proofs.Clocks.{sound_reached, since_then, before_any}
use Rattle.verdict_laws.proofs.Quoted.{Judged, quoted_judged}
use Rattle.history.proofs.FinishedBy.{kept_reached, kept_released}
use Rattle.history.proofs.ByState.{away, waiting, accepted, here_or_away}
use Rattle.dispatcher_laws.proofs.Sound.{Sound}

module _ (p : Plan) (id number R : ℕ) (quoted : Quoted p id number R) (can : CanStart p) where
  -- what the verdict says of the task
  abbrev J : Judged p id number R
  J = quoted_judged p id number R quoted can

  -- the records are in order
  abbrev P : PlanIn p
  P = J.order

  module _ (d : Dispatcher) (D : Sound p d) (K : KeptIn p (place_of p id) J.x (number - 1) J.w d) where
    -- A release of the task, once its wait has passed, is taken where it may start.
    due_taken :
        StartsHere p id number d → wait_by p id number d ≡ 0 → (release d id number).refusal.number ≡ 0
    due_taken here due =
        accepted p id number J.task d D here due (free_when_due (bounded_of p P J.fits) K due)

    -- A release of the task is never refused as 10.
    not_10 : (release d id number).refusal.number ≡ 10 → ⊥
    not_10 e = by (here_or_away p id number d)
      where
        by : StartsHere p id number d ⊎ ((bound_by p id number ≡ true) × (0 < position_by p id d)) → ⊥
        by (inr a) = omega (arith, away p id number J.task d D a.0 a.1)
        by (inl h) =
            elim (ℕ_discrete (wait_by p id number d) 0) [
              | yes q ↦ omega (arith, due_taken h q)
              | no q ↦ omega (arith, waiting p id number J.task d D h (omega arith))
            ]

  -- Refusal 10 is never given for a quoted task.
  pub never_10 : (cs : List Call) → (release (play cs (start p)) id number).refusal.number ≡ 10 → ⊥
  never_10 cs =
      not_10 (play cs (start p)) (sound_reached p can cs) (kept_reached p id number R quoted can cs)

  -- A release of the task is taken if none was taken before, where it may start.
  pub first_taken :
      (cs : List Call)
      → NoneTaken id number cs (start p)
      → StartsHere p id number (play cs (start p))
      → (release (play cs (start p)) id number).refusal.number ≡ 0
  first_taken cs none here =
      due_taken (play cs (start p)) (sound_reached p can cs) (kept_reached p id number R quoted can cs)
      here
      (before_any p can id number J.fits.in_plan J.fits.in_guest
      J.task.from_1 cs none).due

  -- A release of the task is taken if at least its period of ticks was done since the last one taken, where it may
  -- start.
  pub next_taken :
      (cs : List Call)
      → (release (play cs (start p)) id number).refusal.number ≡ 0
      → (ds : List Call)
      → NoneTaken id number ds (released p id number cs)
      → every_by p id number ≤ ticks_in ds (released p id number cs)
      → StartsHere p id number (play ds (released p id number cs))
      → (release (play ds (released p id number cs)) id number).refusal.number ≡ 0
  next_taken cs t ds none long here =
      let D = sound_reached p can cs in
      let I = since_then p (play cs (start p)) D id number t ds none in
      due_taken (play ds (released p id number cs))
      (sound_play ds (released p id number cs) (sound_after (releasing id number) (play cs (start p)) D))
      (kept_released p id number R quoted can cs t ds) here (omega (arith, I.waits))
