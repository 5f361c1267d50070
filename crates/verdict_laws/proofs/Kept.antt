-- A quoted task: the invariant of the windows stands at the fresh start, and over a tick and a taken release. Assumes
-- nothing.
use mathlib.Core.Path.{◌≡◌, refl, sym, subst, fun_ext}
use mathlib.Core.Bool.{Bool, true}
use Prim.Native.Nat.{ℕ, ◌≤◌, ◌<◌}
use native.Mathlib.Decide.{ℕ_discrete}
use native.Mathlib.Omega.{arith}
use Rattle.plan.specs.declared.Plan.{Plan}
use Rattle.plan.specs.Marks.{is_bound}
use Rattle.plan.specs.Records.{guest_at, run_of}
use Rattle.plan.specs.Periodic.{all_periodic}
use Rattle.response.specs.Interference.{jitter, interference}
use Rattle.response.specs.Guest.{guest_right}
use Rattle.response.specs.Task.{gap, system_of, task_right}
use Rattle.equation.specs.Guest.{guest_side}
use Rattle.equation.specs.System.{response_of, right}
use Rattle.verdict_laws.specs.Guests.{GuestSolves}
use Rattle.verdict_laws.specs.Tasks.{TaskSolves}
use Rattle.dispatcher.specs.declared.Dispatcher.{Dispatcher}
use Rattle.dispatcher.specs.State.{guest_in, rest_at, age_at}
use Rattle.dispatcher.specs.Tick.{holder, next}
use Rattle.dispatcher.specs.Release.{taken}
use Rattle.dispatcher.specs.Fresh.{idle}
use Rattle.windows.specs.Equation.{above}
use Rattle.windows.specs.GuestTick.{GuestTick, GuestFits}
use Rattle.windows.specs.TaskTick.{Taken}
use Rattle.windows.specs.Kept.{Bounded, Kept}
use Rattle.plan.proofs.Charge.{charged_least}
use Rattle.plan.proofs.MarksLaws.{bound_starts}
use Rattle.plan.proofs.Order.{PlanIn}
use Rattle.plan.proofs.PeriodicLaws.{none_deferrable}
use Rattle.rounding.proofs.Asked.{asked_same}
use Rattle.windows.proofs.Kept.{kept_tick, kept_taken, kept_same, kept_fresh, age_below}
use Rattle.dispatcher_laws.proofs.Fresh.{idle_position, idle_held, idle_rest, idle_wait}
use Rattle.dispatcher_laws.proofs.GuestTick.{guest_tick}
use Rattle.dispatcher_laws.proofs.Release.{Free, taken_here, taken_else}
use Rattle.dispatcher_laws.proofs.Seen.{cap_of, per_of, run_in, every_in, pos_at, left_at, held_at, tasks_at}
use Rattle.dispatcher_laws.proofs.Sound.{Sound}
use Rattle.dispatcher_laws.proofs.TaskTick.{task_else, task_mine}

-- J of task j of guest g.
abbrev pub gap_in : Plan → ℕ → ℕ → ℕ
gap_in p g j = gap (guest_at p.guests g) j

-- Periodic guests have no jitter: those above take what the windows have them take.
takes_of : (p : Plan) → all_periodic p ≡ true → {g : ℕ} → g ≤ p.count → interference p g ≡ above (cap_of p) (per_of p) g
unfolding interference jitter
takes_of p A {g} h =
    fun_ext (λ v.
    asked_same _ _ _ _ _ _ g v (λ k l. refl) (λ k l. refl) (λ k l. rw (none_deferrable p A k (omega arith)) refl))

-- A guest of records in order, all Periodic, that is fitted with x is fitted with x as the windows have it.
pub fitted_of :
    (p : Plan) → PlanIn p → all_periodic p ≡ true → {g x : ℕ} → g < p.count → GuestSolves p g x
    → GuestFits (cap_of p) (per_of p) g x
unfolding guest_right
fitted_of p P A {g} {x} in_plan G = record {
  some = (P.guests g in_plan).head.some;
  solves = subst (λ (a : ℕ → ℕ). x ≡ guest_side a (cap_of p g) x) (takes_of p A (omega arith)) G.solves;
  inside = G.high;
  periods = λ k h. (let H = (P.guests k (omega (arith, in_plan))).head in omega (arith, H.some, H.fits));
}

-- All guests are Periodic, guest g of the plan is fitted with x, and w solves the equation of its task i, from 0, with a response at most the
-- task's period.
pub record TaskFits (p : Plan) (g x i w : ℕ) : Type 0 where
  pub periodic : all_periodic p ≡ true
  pub in_plan : g < p.count
  pub in_guest : i < (guest_at p.guests g).tasks
  pub fits : GuestSolves p g x
  pub solves : TaskSolves p g i w
  pub in_period : response_of (gap_in p g i) w ≤ every_in p g i

-- whether task j of guest g is bound
abbrev pub bound_in : Plan → ℕ → ℕ → Bool
bound_in p g j = is_bound (guest_at p.guests g) j

-- what is kept of a state, seen from task i of guest g
abbrev pub KeptIn : Plan → (g x i w : ℕ) → Dispatcher → Type 0
KeptIn p g x i w d =
    Kept (cap_of p) (per_of p) g x (run_in p g) (every_in p g) (bound_in p g) i w (held_at d) (pos_at d) (tasks_at d g)

module _ (p : Plan) (P : PlanIn p) {g x i w : ℕ} (T : TaskFits p g x i w) where
  -- The ranges of the records bound the task as the windows want it.
  pub bounded_of : Bounded (cap_of p) (per_of p) g x (run_in p g) (every_in p g) (bound_in p g) i w
  unfolding task_right gap
  bounded_of =
      let G = P.guests g T.in_plan in
      let guest = guest_at p.guests g in
      record {
        fitted = fitted_of p P T.periodic T.in_plan T.fits;
        cap_per = G.head.fits;
        solves = record {
          some = T.solves.low;
          works = omega (arith, charged_least (run_of guest i) guest.charge, (G.tasks i T.in_guest).runs);
          equal =
              subst (λ (a : ℕ → ℕ). w ≡ right (system_of a guest) i w)
              (takes_of p T.periodic (omega (arith, T.in_plan))) T.solves.solves;
          periods = λ j h. (G.tasks j (omega (arith, T.in_guest))).some;
          short = (G.tasks i T.in_guest).short;
          in_period = T.in_period;
        };
      }

  -- An unfinished job is younger than the response.
  pub young_kept :
      (d : Dispatcher) → KeptIn p g x i w d → 0 < rest_at d g i → age_at d g i < response_of (gap_in p g i) w
  unfolding gap
  young_kept d K r = age_below bounded_of K r

  -- The invariant stands at the fresh start.
  pub kept_idle : KeptIn p g x i w (idle p)
  kept_idle =
      let few = (P.guests g T.in_plan).head.few in
      kept_fresh bounded_of (held_at (idle p)) (pos_at (idle p)) (tasks_at (idle p) g)
      (λ k h. idle_held p k (omega (arith, P.few, T.in_plan)))
      (λ k h. idle_position p k (omega (arith, P.few, T.in_plan)))
      (λ j h. idle_rest p g j (omega (arith, P.few, T.in_plan)) (omega (arith, T.in_guest, few)))
      (λ j h. idle_wait p g j (omega (arith, P.few, T.in_plan)) (omega (arith, T.in_guest, few)))

  module _ (d : Dispatcher) (D : Sound p d) where
    -- The guest is in the state's plan.
    pub in_plan : g < d.plan.count
    in_plan = rw D.plan T.in_plan

    -- The task is in the guest of the state's plan.
    pub in_guest : i < (guest_in d g).tasks
    in_guest = rw D.plan T.in_guest

    -- The invariant stands over a tick.
    pub kept_next : KeptIn p g x i w d → KeptIn p g x i w (next d)
    kept_next =
        kept_tick bounded_of
        (subst
        (λ (z : Plan).
        GuestTick (cap_of z) (per_of z) g (holder d) (held_at d) (pos_at d)
        (left_at (next d)) (held_at (next d)) (pos_at (next d)))
        D.plan (guest_tick d D.shaped g in_plan))
        (task_mine d D.shaped g i in_plan in_guest) (task_else d D.shaped g i in_plan in_guest)

    -- Where the task of a taken release of this guest is bound, the guest is at position 0.
    at_start : {id task k t : ℕ} → k ≡ g → Free d id task k t → bound_in p g t ≡ true → pos_at d g ≡ 0
    at_start {k = k} {t = t} e F b =
        subst (λ (z : ℕ). pos_at d z ≡ 0) e
        (bound_starts (guest_in d k) (pos_at d k) t F.may_start
        (rw D.plan (subst (λ (z : ℕ). bound_in p z t ≡ true) (sym e) b)))

    -- The invariant stands over a taken release, of this guest or another.
    pub kept_release :
        (id task k t : ℕ) → Free d id task k t → KeptIn p g x i w d → KeptIn p g x i w (taken d k t)
    unfolding taken
    kept_release id task k t F K =
        elim (ℕ_discrete k g) [
          | yes e ↦
              kept_taken bounded_of (λ b. at_start e F b)
              (subst (λ (z : Plan). Taken (run_in z g) (every_in z g) t (tasks_at d g) (tasks_at (taken d k t) g)) D.plan
              (subst
              (λ (z : ℕ). Taken (run_in d.plan z) (every_in d.plan z) t (tasks_at d z) (tasks_at (taken d k t) z))
              e
              (taken_here d D.shaped k t F.in_plan F.in_guest F.due F.free)))
              (λ m l o. taken_else d D.shaped k t F.in_plan F.in_guest g m (λ q. o (omega arith))) K
          | no o ↦
              kept_same bounded_of
              (λ m l.
              taken_else d D.shaped k t F.in_plan F.in_guest g m
              (λ q.
              o (omega (arith, F.in_guest, D.shaped.tasks k F.in_plan, D.shaped.tasks g in_plan, in_guest))))
              K
        ]
