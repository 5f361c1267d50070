-- Waits and ages over histories from a fresh start, of any task of any plan whose records are in order. Assumes
-- nothing.
use mathlib.Core.Path.{◌≡◌, refl, sym, ap, subst, ◌∙◌}
use mathlib.Core.List.{List}
use Prim.Native.Nat.{ℕ, suc, ◌-◌, ◌<◌, min}
use native.Mathlib.Nat.{zero-add}
use native.Mathlib.Omega.{arith}
use Rattle.plan.specs.Ranges.{longest}
use Rattle.plan.specs.declared.Plan.{Plan}
use Rattle.plan.specs.Records.{guest_at, every_of}
use Rattle.plan.specs.Place.{place_of}
use Rattle.dispatcher.specs.declared.Dispatcher.{Dispatcher}
use Rattle.dispatcher.specs.State.{rest_at, wait_at, age_at}
use Rattle.dispatcher.specs.Release.{taken, release}
use Rattle.history.specs.Calls.{Call, releasing, start, after, play, released, ticks_in, NoneTaken, CanStart}
use Rattle.plan.proofs.Order.{plan_in}
use Rattle.history.proofs.Play.{sound_play, sound_after}
use Rattle.verdict_laws.proofs.Ids.{id_of, found_id}
use Rattle.history.proofs.Since.{Since, Never, since_taken, since_play, never_play}
use Rattle.dispatcher_laws.proofs.Fresh.{fresh_idle, idle_rest, idle_wait, sound_idle}
use Rattle.dispatcher_laws.proofs.Release.{Free, release_free}
use Rattle.dispatcher_laws.proofs.Sound.{Sound, free_task, guest_in_lem, task_in}
use Rattle.plan.proofs.PeriodicLaws.{starts_in_order}

-- The fresh start is a state of the plan.
pub sound_start : (p : Plan) → CanStart p → Sound p (start p)
sound_start p e = rw (fresh_idle p e) (sound_idle p e)

-- Every state that a history reaches is a state of the plan.
pub sound_reached : (p : Plan) → CanStart p → (cs : List Call) → Sound p (play cs (start p))
sound_reached p e cs = sound_play cs (start p) (sound_start p e)

-- A release that is taken in a state of the plan.
module _ (p : Plan) (d : Dispatcher) (D : Sound p d) (id number : ℕ)
    (taken-it : (release d id number).refusal.number ≡ 0) where
  -- The guest of a taken release has the id.
  pub id_is : id_of p (place_of p id) ≡ id
  id_is = found_id p id (place_of p id) refl (guest_in_lem p d D id number taken-it)

  -- The state after a taken release has the new job.
  pub new_job : after (releasing id number) d ≡ taken d (place_of p id) (number - 1)
  unfolding after
  new_job =
      let F = free_task p d D id number taken-it in
      ap (λ (n : ℕ). (release d id n).state) F.number
      ∙ release_free d id (place_of p id) (number - 1)
      (subst (λ (z : ℕ). Free d id z (place_of p id) (number - 1)) F.number F)

  -- No tick is done since a taken release at the moment that it is taken.
  pub since_new : Since p (place_of p id) (number - 1) 0 (after (releasing id number) d)
  since_new =
      let F = free_task p d D id number taken-it in
      rw new_job
      (since_taken p (place_of p id) (number - 1) (guest_in_lem p d D id number taken-it)
      (task_in p d D id number taken-it) d D
      F.due F.free)

  -- After a history without another one taken, the ticks since are the history's.
  pub since_then :
      (ds : List Call)
      → NoneTaken id number ds (after (releasing id number) d)
      → Since p (place_of p id) (number - 1) (ticks_in ds (after (releasing id number) d))
      (play ds (after (releasing id number) d))
  since_then ds none =
      rw zero-add at
      (since_play p (place_of p id) (number - 1) (guest_in_lem p d D id number taken-it)
      (task_in p d D id number taken-it) ds 0
      (after (releasing id number) d) (sound_after (releasing id number) d D)
      (subst (λ (z : ℕ). NoneTaken z (suc (number - 1)) ds (after (releasing id number) d)) (sym id_is)
      (subst (λ (z : ℕ). NoneTaken id z ds (after (releasing id number) d))
      (free_task p d D id number taken-it).number none))
      since_new)

module _ (p : Plan) (can : CanStart p) (id number : ℕ) where
  module _ (cs : List Call) (taken-it : (release (play cs (start p)) id number).refusal.number ≡ 0) (ds : List Call)
      (none : NoneTaken id number ds (released p id number cs)) where
    -- The wait is what is left of the period since the last taken release.
    pub wait_since :
        wait_at (play ds (released p id number cs)) (place_of p id) (number - 1)
        ≡ every_of (guest_at p.guests (place_of p id)) (number - 1) - ticks_in ds (released p id number cs)
    wait_since = (since_then p (play cs (start p)) (sound_reached p can cs) id number taken-it ds none).waits

    -- The age of an unfinished job is the number of ticks since, capped.
    pub age_since :
        0 < rest_at (play ds (released p id number cs)) (place_of p id) (number - 1)
        → age_at (play ds (released p id number cs)) (place_of p id) (number - 1)
        ≡ min (ticks_in ds (released p id number cs)) longest
    age_since = (since_then p (play cs (start p)) (sound_reached p can cs) id number taken-it ds none).age

  -- Before any is taken, a task has no job and no wait.
  pub before_any :
      place_of p id < p.count
      → number - 1 < (guest_at p.guests (place_of p id)).tasks
      → number ≡ suc (number - 1)
      → (cs : List Call)
      → NoneTaken id number cs (start p)
      → Never (place_of p id) (number - 1) (play cs (start p))
  before_any h l q cs none =
      let P = plan_in p (starts_in_order p can) in
      let g8 : place_of p id < 8 = omega (arith, P.few) in
      let t16 : number - 1 < 16 = omega (arith, (P.guests (place_of p id) h).head.few) in
      never_play p (place_of p id) (number - 1) h l cs (start p) (sound_start p can)
      (subst (λ (z : ℕ). NoneTaken z (suc (number - 1)) cs (start p)) (sym (found_id p id (place_of p id) refl h))
      (subst (λ (z : ℕ). NoneTaken id z cs (start p)) q none))
      (rw (fresh_idle p can)
      (record {
        free = idle_rest p (place_of p id) (number - 1) g8 t16;
        due = idle_wait p (place_of p id) (number - 1) g8 t16;
      }))
