-- A state of a plan that is in its ranges and has its shape stays so over a tick and a taken release. Assumes nothing.
use mathlib.Core.Path.{◌≡◌, sym, ◌∙◌, subst}
use mathlib.Core.Bool.{true}
use Prim.Native.Nat.{ℕ, ◌-◌, ◌<◌}
use Rattle.plan.specs.declared.Plan.{Plan}
use Rattle.dispatcher.specs.declared.Dispatcher.{Dispatcher}
use Rattle.dispatcher.specs.Valid.{state_ok}
use Rattle.dispatcher.specs.Tick.{next}
use Rattle.dispatcher.specs.Release.{taken, release}
use Rattle.plan.specs.Place.{place_of}
use Rattle.plan.specs.Records.{guest_at}
use Rattle.plan.specs.Marks.{is_bound}
use Rattle.dispatcher.specs.State.{guest_in}
use Rattle.plan.proofs.MarksLaws.{bound_starts}
use Rattle.dispatcher_laws.proofs.Release.{Free, release_number_lem, release_none}
use Rattle.dispatcher_laws.proofs.Seen.{pos_at, Shaped}
use Rattle.dispatcher_laws.proofs.Shape.{shaped_next, shaped_taken}
use Rattle.dispatcher_laws.proofs.Tick.{next_plan}
use Rattle.dispatcher_laws.proofs.Valid.{ok_next, taken_plan, ok_taken}

-- A state of the plan, in its ranges and with its shape.
pub record Sound (p : Plan) (d : Dispatcher) : Type 0 where
  pub plan : d.plan ≡ p
  pub ok : state_ok d ≡ true
  pub shaped : Shaped d

-- Such a state stays so over a tick.
pub sound_next : {p : Plan} (d : Dispatcher) → Sound p d → Sound p (next d)
sound_next d S = record { plan = next_plan d ∙ S.plan; ok = ok_next d S.ok; shaped = shaped_next d S.shaped }

-- Such a state stays so over a taken release.
pub sound_taken : {p : Plan} (d : Dispatcher) (id task k t : ℕ) → Sound p d → Free d id task k t → Sound p (taken d k t)
sound_taken d id task k t S F = record {
  plan = taken_plan d k t ∙ S.plan;
  ok = ok_taken d k t F.in_plan F.in_guest (S.shaped.tasks k F.in_plan) S.ok;
  shaped = shaped_taken d S.shaped k t;
}

-- A release that is taken in such a state.
module _ (p : Plan) (d : Dispatcher) (D : Sound p d) (id number : ℕ) (taken-it : (release d id number).refusal.number ≡ 0) where
  -- The released task was free.
  pub free_task : Free d id number (place_of p id) (number - 1)
  free_task =
      subst (λ (z : Plan). Free d id number (place_of z id) (number - 1)) D.plan
      (release_none d id number (sym (release_number_lem d id number) ∙ taken-it))

  -- The guest of a taken release is in the plan.
  pub guest_in_lem : place_of p id < p.count
  guest_in_lem = rw D.plan at free_task.in_plan

  -- The task of a taken release is in the guest.
  pub task_in : number - 1 < (guest_at p.guests (place_of p id)).tasks
  task_in = rw D.plan at free_task.in_guest

  -- Where the task of a taken release is bound, its guest is at position 0.
  pub at_0 : is_bound (guest_at p.guests (place_of p id)) (number - 1) ≡ true → pos_at d (place_of p id) ≡ 0
  at_0 b =
      bound_starts (guest_in d (place_of p id)) (pos_at d (place_of p id)) (number - 1) free_task.may_start
      (rw D.plan b)
