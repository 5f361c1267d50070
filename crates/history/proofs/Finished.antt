-- A job of a quoted task: until it is finished its age is the number of ticks since its release, and the tick that
-- finishes it says so. Assumes nothing.
use mathlib.Core.Path.{◌≡◌, refl, sym, ap, ◌∙◌}
use mathlib.Core.List.{List, [], ◌∷◌, ◌++◌}
use Prim.Native.Nat.{ℕ, suc, ◌≤◌, ◌<◌}
use native.Mathlib.Decide.{dec_lt, ℕ_discrete}
use native.Mathlib.Omega.{arith}
use native.Mathlib.Numerals.{add-one}
use lib.ListN.{length, length-append}
use Rattle.plan.specs.declared.Plan.{Plan}
use Rattle.plan.specs.Records.{guest_at, deadline_of}
use Rattle.margins.specs.Margin.{margin_of}
use Rattle.dispatcher.specs.declared.Dispatcher.{Dispatcher}
use Rattle.dispatcher.specs.declared.Answer.{Answer}
use Rattle.dispatcher.specs.declared.Answer.TheVariants.{Finished}
use Rattle.dispatcher.specs.State.{guest_in, rest_at, age_at}
use Rattle.dispatcher.specs.Tick.{holder, worker, next}
use Rattle.dispatcher.specs.Answer.{answer}
use Rattle.dispatcher.specs.Release.{taken}
use Rattle.windows.specs.TaskTick.{TaskTick}
use Rattle.equation.specs.System.{response_of}
use Rattle.history.specs.Share.{answer_at}
use Rattle.plan.proofs.Order.{PlanIn}
use Rattle.verdict_laws.proofs.Ids.{id_of}
use Rattle.history.proofs.Share.{answer_old, answer_new}
use Rattle.verdict_laws.proofs.Kept.{gap_in, TaskFits, KeptIn, bounded_of, young_kept, kept_next, kept_release, in_plan, in_guest}
use Rattle.dispatcher_laws.proofs.Answer.{finished_by, answer_finished}
use Rattle.dispatcher_laws.proofs.Release.{Free, taken_else}
use Rattle.dispatcher_laws.proofs.Seen.{tasks_at, Shaped}
use Rattle.dispatcher_laws.proofs.Sound.{Sound}
use Rattle.dispatcher_laws.proofs.TaskTick.{rest_else, task_served, task_tick}

-- the answer of the tick that finishes task i of guest g at an age
abbrev pub finished_at : Plan → (g i age : ℕ) → Answer
finished_at p g i age = Finished (id_of p g) (suc i) age (margin_of (deadline_of (guest_at p.guests g) i) age)

-- The tick that takes a task's last run left answers that it is finished.
module _ (d : Dispatcher) (H : Shaped d) (g i : ℕ) (inside : g < d.plan.count) (its : i < (guest_in d g).tasks)
    (some : 0 < rest_at d g i)
    (none : rest_at (next d) g i ≡ 0) where
  -- The guest has the tick.
  the_guest : holder d ≡ g
  the_guest =
      elim (ℕ_discrete (holder d) g) [
        | yes e ↦ e
        | no n ↦ absurd (omega (arith, rest_else d H g i inside its n i (omega arith)))
      ]

  -- The task has the guest's tick.
  the_task : worker d ≡ i
  the_task =
      elim (ℕ_discrete i (worker d)) [
        | yes e ↦ sym e
        | no n ↦ absurd (omega (arith, (task_served d H g i inside its the_guest).same i (omega arith) n))
      ]

  -- The tick is the last of the task's run.
  the_last : rest_at d g i ≤ 1
  the_last = omega (arith, rw the_task at ((task_served d H g i inside its the_guest).took (rw the_task (omega arith))))

  -- The answer of that tick says that the task is finished.
  pub answer_done : answer d ≡ finished_at d.plan g i (age_at (next d) g i)
  answer_done =
      answer_finished d (rw the_guest inside) (rw (the_guest, the_task) its) (rw (the_guest, the_task) the_last)
      ∙ said (holder d) (worker d) the_guest the_task
    where
      said : (h t : ℕ) → h ≡ g → t ≡ i → finished_by d h t ≡ finished_at d.plan g i (age_at (next d) g i)
      said h t a b = rw (a, b, add-one i) refl

-- After the answers L since its release a job of task i of guest g is unfinished, and its age is their number; or one
-- of them says it is finished.
pub data Job (p : Plan) (g i R : ℕ) (L : List Answer) (d : Dispatcher) : Type 0 where
  pending : 0 < rest_at d g i → age_at d g i ≡ length L → Job p g i R L d
  ended : (m : ℕ) → m < length L → m < R → answer_at L m ≡ finished_at p g i (suc m) → Job p g i R L d

module _ (p : Plan) (P : PlanIn p) {g x i w : ℕ} (T : TaskFits p g x i w) where
  -- What stands in a state: the invariant, and the job.
  pub record JobIn (L : List Answer) (d : Dispatcher) : Type 0 where
    pub kept : KeptIn p g x i w d
    pub job : Job p g i (response_of (gap_in p g i) w) L d

  -- Over a tick the job stays unfinished, or the answer says that it is finished.
  pending_next :
      (L : List Answer) (d : Dispatcher)
      → Sound p d
      → KeptIn p g x i w d
      → 0 < rest_at d g i
      → age_at d g i ≡ length L
      → Job p g i (response_of (gap_in p g i) w) (L ++ (answer d ∷ [])) (next d)
  pending_next L d D K some old =
      by (task_tick d D.shaped g i (in_plan p P T d D) (in_guest p P T d D))
    where
      young : age_at d g i < response_of (gap_in p g i) w
      young = young_kept p P T d K some

      by :
          (a : ℕ) × TaskTick i a (tasks_at d g) (tasks_at (next d) g)
          → Job p g i (response_of (gap_in p g i) w) (L ++ (answer d ∷ [])) (next d)
      by (a, t) =
          let one : age_at (next d) g i ≡ suc (length L) =
          omega (arith, young, t.older some, T.in_period, (bounded_of p P T).solves.short) in
          let long : length (L ++ (answer d ∷ [])) ≡ suc (length L) = simp length-append (omega arith) in
          elim (dec_lt 0 (rest_at (next d) g i)) [
            | yes h ↦ pending h (omega arith)
            | no h ↦
                ended (length L) (omega arith) (omega (arith, young))
                (answer_new L (answer d) (length L) refl
                ∙ answer_done d D.shaped g i (in_plan p P T d D) (in_guest p P T d D) some (omega arith)
                ∙ ap (λ (z : Plan). finished_at z g i (age_at (next d) g i)) D.plan
                ∙ ap (finished_at p g i) one)
          ]

  -- The job stands over a tick.
  pub job_next : (L : List Answer) (d : Dispatcher) → Sound p d → JobIn L d → JobIn (L ++ (answer d ∷ [])) (next d)
  job_next L d D J = record { kept = kept_next p P T d D J.kept; job = by J.job }
    where
      by :
          Job p g i (response_of (gap_in p g i) w) L d
          → Job p g i (response_of (gap_in p g i) w) (L ++ (answer d ∷ [])) (next d)
      by (pending r a) = pending_next L d D J.kept r a
      by (ended m h l e) = ended m (simp length-append (omega arith)) l (answer_old L (answer d ∷ []) m h ∙ e)

  -- The job stands over a taken release, which is none of this task's while its job is unfinished.
  pub job_release :
      (L : List Answer) (d : Dispatcher) (id task k t : ℕ) → Sound p d → Free d id task k t → JobIn L d
      → JobIn L (taken d k t)
  job_release L d id task k t D F J =
      record { kept = kept_release p P T d D id task k t F J.kept; job = by J.job }
    where
      by : Job p g i (response_of (gap_in p g i) w) L d → Job p g i (response_of (gap_in p g i) w) L (taken d k t)
      by (pending r a) =
          let E =
          taken_else d D.shaped k t F.in_plan F.in_guest g i
          (λ q. (let z : rest_at d g i ≡ 0 = rw q F.free in omega arith)) in
          pending (omega (arith, E.left)) (omega (arith, E.old))
      by (ended m h l e) = ended m h l e
