-- Demand 3 for tasks: a quoted task's jobs are finished by R, and its due releases are taken, whatever is called.
-- Assumes nothing.
use mathlib.Core.Path.{◌≡◌, refl, ap, subst, ◌∙◌}
use mathlib.Core.List.{List, []}
use Prim.Native.Nat.{ℕ, suc, ◌-◌, ◌≤◌, ◌<◌}
use native.Mathlib.Omega.{arith}
use lib.ListN.{length}
use Rattle.plan.specs.declared.Plan.{Plan}
use Rattle.plan.specs.Place.{place_of}
use Rattle.margins.specs.Margin.{margin_of}
use Rattle.dispatcher.specs.declared.Dispatcher.{Dispatcher}
use Rattle.dispatcher.specs.declared.Answer.TheVariants.{Finished}
use Rattle.dispatcher.specs.Answer.{finishes}
use Rattle.dispatcher.specs.Release.{release}
use Rattle.verdict.specs.Quoted.{Quoted}
use Rattle.equation.specs.System.{response_of}
use Rattle.history.specs.Calls.{Call, releasing, start, released, play, ticks_in, answers, CanStart}
use Rattle.history.specs.Named.{deadline_by, rest_by, age_by}
use Rattle.history.specs.Share.{answer_at}
use Rattle.history.specs.Finished.{HandedBack, FinishedBy}
use Rattle.plan.proofs.Order.{PlanIn}
use Rattle.history.proofs.Play.{Any, any, play_keeps, sound_after, answers_length}
use Rattle.verdict_laws.proofs.Kept.{gap_in, KeptIn, bounded_of, young_kept, kept_idle, kept_next, kept_release}
use Rattle.history.proofs.Finished.{finished_at, Job, JobIn, job_next, job_release}
use Rattle.history.proofs.Finished.Job.{pending, ended}
use Rattle.history.proofs.Told.{finish_told}
use Rattle.verdict_laws.proofs.Quoted.{Judged, quoted_judged}
use Rattle.history.proofs.Clocks.{sound_start, sound_reached, new_job}
use Rattle.margins.proofs.Margin.{margin_falls}
use Rattle.dispatcher_laws.proofs.Fresh.{fresh_idle}
use Rattle.dispatcher_laws.proofs.Release.{taken_here}
use Rattle.dispatcher_laws.proofs.Sound.{Sound, free_task}

module _ (p : Plan) (id number R : ℕ) (quoted : Quoted p id number R) (can : CanStart p) where
  -- what the verdict says of the task
  abbrev pub J : Judged p id number R
  J = quoted_judged p id number R quoted can

  -- the records are in order
  abbrev pub P : PlanIn p
  P = J.order

  -- The invariant stands in every state that is reached.
  pub kept_reached : (cs : List Call) → KeptIn p (place_of p id) J.x (number - 1) J.w (play cs (start p))
  kept_reached cs =
      (play_keeps p (λ L d. KeptIn p (place_of p id) J.x (number - 1) J.w d) Any
      (λ L d D K. kept_next p P J.fits d D K)
      (λ L d id task k t D a F K. kept_release p P J.fits d D id task k t F K) cs [] (start p) (any cs (start p))
      record {
        sound = sound_start p can;
        holds = rw (fresh_idle p can) (kept_idle p P J.fits);
      }
      ).holds

  -- In every state an unfinished job of the task is younger than R.
  pub younger :
      (cs : List Call) → 0 < rest_by p id number (play cs (start p)) → age_by p id number (play cs (start p)) < R
  younger cs h = rw J.quotes (young_kept p P J.fits (play cs (start p)) (kept_reached cs) h)

  -- At a taken release the job is new.
  job_new :
      (cs : List Call)
      → (release (play cs (start p)) id number).refusal.number ≡ 0
      → JobIn p P J.fits [] (released p id number cs)
  job_new cs t =
      let d = play cs (start p) in
      let D = sound_reached p can cs in
      let F = free_task p d D id number t in
      let N = taken_here d D.shaped (place_of p id) (number - 1) F.in_plan F.in_guest F.due F.free in
      let w = (bounded_of p P J.fits).solves.works in
      rw (new_job p d D id number t)
      (record {
        kept = kept_release p P J.fits d D id number (place_of p id) (number - 1) F (kept_reached cs);
        job = pending (rw (N.filled, D.plan) w) N.young;
      })

  -- After a history the job is finished, or still pending.
  job_then :
      (cs : List Call)
      → (release (play cs (start p)) id number).refusal.number ≡ 0
      → (ds : List Call)
      → JobIn p P J.fits (answers ds (released p id number cs)) (play ds (released p id number cs))
  job_then cs t ds =
      let D = sound_reached p can cs in
      (play_keeps p (JobIn p P J.fits) Any (job_next p P J.fits)
      (λ L d id task k t D a F I. job_release p P J.fits L d id task k t D F I) ds [] (released p id number cs)
      (any ds (released p id number cs))
      record { sound = sound_after (releasing id number) (play cs (start p)) D; holds = job_new cs t }
      ).holds

  -- The invariant stands after a taken release and any history.
  pub kept_released :
      (cs : List Call)
      → (release (play cs (start p)) id number).refusal.number ≡ 0
      → (ds : List Call)
      → KeptIn p (place_of p id) J.x (number - 1) J.w (play ds (released p id number cs))
  kept_released cs t ds = (job_then cs t ds).kept

  -- A finish by R is told.
  finish_by :
      (ds : List Call) (d : Dispatcher) (m : ℕ)
      → Sound p d
      → m < length (answers ds d)
      → m < response_of (gap_in p (place_of p id) (number - 1)) J.w
      → answer_at (answers ds d) m ≡ finished_at p (place_of p id) (number - 1) (suc m)
      → FinishedBy R (deadline_by p id number) id number ds d
  unfolding finishes
  finish_by ds d m D h l e = record {
    age = suc m;
    margin = margin_of (deadline_by p id number) (suc m);
    by_R = omega (arith, J.quotes);
    spare = refl;
    least = margin_falls (deadline_by p id number) (suc m) R (omega (arith, J.quotes));
    told =
        subst (HandedBack ds d (suc m)) (e ∙ said)
        (finish_told ds d m D (omega (arith, answers_length ds d D)) (ap finishes e));
  }
    where
      said :
          finished_at p (place_of p id) (number - 1) (suc m)
          ≡ Finished id number (suc m) (margin_of (deadline_by p id number) (suc m))
      said = rw (J.task.there.named, ← J.task.from_1) refl

  -- Finished by R: after a taken release and calls that do at least R ticks, one of them hands back that the task is
  -- finished, at an age of at most R; the age counts the ticks since the release, and the margin is the deadline less
  -- it.
  pub finished_by_R :
      (cs : List Call)
      → (release (play cs (start p)) id number).refusal.number ≡ 0
      → (ds : List Call)
      → R ≤ ticks_in ds (released p id number cs)
      → FinishedBy R (deadline_by p id number) id number ds (released p id number cs)
  finished_by_R cs t ds h = by (job_then cs t ds).job
    where
      D : Sound p (released p id number cs)
      D = sound_after (releasing id number) (play cs (start p)) (sound_reached p can cs)

      by :
          Job p (place_of p id) (number - 1) (response_of (gap_in p (place_of p id) (number - 1)) J.w)
          (answers ds (released p id number cs))
          (play ds (released p id number cs))
          → FinishedBy R (deadline_by p id number) id number ds (released p id number cs)
      by (pending r a) =
          absurd (omega (
            arith,
            young_kept p P J.fits (play ds (released p id number cs)) (job_then cs t ds).kept r,
            answers_length ds (released p id number cs) D,
            J.quotes,
          ))
      by (ended m b l e) = finish_by ds (released p id number cs) m D b l e
