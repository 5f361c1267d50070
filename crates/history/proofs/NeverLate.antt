-- Demand 3 for answers: no call ever hands back that a quoted task is finished at an age past R. Assumes nothing.
use mathlib.Core.Path.{◌≡◌, refl, ap, ◌∙◌}
use mathlib.Core.List.{List, []}
use Prim.Native.Nat.{ℕ, suc, ◌-◌, ◌≤◌}
use native.Mathlib.Omega.{arith}
use lib.IntN.{ℤ, pos}
use Rattle.std.specs.Prelude.{Ok}
use Rattle.plan.specs.declared.Plan.{Plan}
use Rattle.plan.specs.Place.{place_of}
use Rattle.margins.specs.Margin.{margin_of}
use Rattle.dispatcher.specs.declared.Answer.TheVariants.{Silent, Finished}
use Rattle.dispatcher.specs.Answer.{finishes}
use Rattle.equation.specs.System.{response_of}
use Rattle.verdict.specs.declared.TaskVerdict.TheVariants.{Met}
use Rattle.verdict.specs.Verdict.{task_verdict}
use Rattle.verdict.specs.Quoted.{Quoted}
use Rattle.history.specs.Calls.{Call, start, after, play, singles, ticks_of, answer_of, CanStart}
use Rattle.history.specs.Named.{deadline_by}
use Rattle.plan.proofs.Order.{PlanIn}
use Rattle.verdict_laws.proofs.Kept.{gap_in}
use Rattle.history.proofs.Play.{Any, any_call, after_keeps}
use Rattle.verdict_laws.proofs.Ids.{id_of}
use Rattle.history.proofs.InTime.{TimelyIn, timely_next, timely_release}
use Rattle.history.proofs.Told.{told_last}
use Rattle.history.proofs.Clocks.{sound_reached}
use Rattle.verdict_laws.proofs.Quoted.{Judged, quoted_judged}
use Rattle.verdict.proofs.Quoted.{met_quoted}
use Rattle.verdict_laws.proofs.Tasks.{judged_means}
use Rattle.history.proofs.FinishedBy.{kept_reached}
use Rattle.margins.proofs.Margin.{margin_left}

module _ (p : Plan) (id number R : ℕ) (quoted : Quoted p id number R) (can : CanStart p) (cs : List Call) (c : Call) where
  -- what the verdict says of the task
  abbrev J : Judged p id number R
  J = quoted_judged p id number R quoted can

  -- the records are in order
  abbrev P : PlanIn p
  P = J.order

  -- Every answer of the call's ticks is timely.
  timely :
      TimelyIn p P J.fits (singles (ticks_of c (play cs (start p))) (play cs (start p)))
      (after c (play cs (start p)))
  timely =
      (after_keeps p (TimelyIn p P J.fits) Any (timely_next p P J.fits)
      (λ L e id' task k t D a F I. timely_release p P J.fits L e id' task k t D F I) c [] (play cs (start p))
      (any_call c (play cs (start p)))
      record {
        sound = sound_reached p can cs;
        holds = record { kept = kept_reached p id number R quoted can cs; timely = λ m age margin q. none age margin q };
      }
      ).holds
    where
      none : (age : ℕ) (margin : ℤ) → Silent ≡ Finished (id_of p (place_of p id)) (suc (number - 1)) age margin
          → (age ≤ response_of (gap_in p (place_of p id) (number - 1)) J.w)
          × (margin ≡ margin_of (deadline_by p id number) age)
      none age margin q = (let z : ◌≡◌ {A = ℕ} 0 1 = cc in absurd (omega arith))

  -- Where an answer handed back says finished, the age is at most R, and the margin the deadline less the age.
  pub never_late :
      (age : ℕ) (margin : ℤ)
      → answer_of c (play cs (start p)) ≡ Finished id number age margin
      → (age ≤ R) × (margin ≡ margin_of (deadline_by p id number) age)
  unfolding finishes
  never_late age margin e =
      let (m, h, q) =
      told_last c (play cs (start p)) (sound_reached p can cs).ok (ap finishes e) in
      let r = timely.timely m age margin (q ∙ e ∙ named) in (
        omega (arith, r.0, J.quotes),
        r.1,
      )
    where
      named : Finished id number age margin ≡ Finished (id_of p (place_of p id)) (suc (number - 1)) age margin
      named = rw (J.task.there.named, ← J.task.from_1) refl

-- A met task is never late: every answer that says it is finished has an age within the deadline, and what is left of
-- it as the margin.
pub met_not_late :
    (p : Plan) (id number R : ℕ)
    → task_verdict p id number ≡ Ok (Met R)
    → CanStart p
    → (cs : List Call) (c : Call) (age : ℕ) (margin : ℤ)
    → answer_of c (play cs (start p)) ≡ Finished id number age margin
    → (age ≤ deadline_by p id number) × (margin ≡ pos (deadline_by p id number - age))
met_not_late p id number R met can cs c age margin e =
    let (t, m) = judged_means p id number met in
    let r = never_late p id number R (met_quoted p id number R met) can cs c age margin e in
    let in_time : age ≤ deadline_by p id number = omega (arith, r.0, m.in_time) in
    (in_time, r.1 ∙ margin_left (deadline_by p id number) age in_time)
