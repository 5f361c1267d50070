-- No answer that names a quoted task finished has an age past its response. Assumes nothing.
use mathlib.Core.Path.{◌≡◌, refl, sym, ap, ◌∙◌}
use mathlib.Core.List.{List, [], ◌∷◌, ◌++◌}
use Prim.Native.Nat.{ℕ, suc, ◌+◌, ◌≤◌, ◌<◌}
use native.Mathlib.Decide.{dec_lt, ℕ_discrete}
use native.Mathlib.Omega.{arith}
use lib.IntN.{ℤ}
use lib.ListN.{length, length-append, get_or-eq_default}
use Rattle.plan.specs.declared.Plan.{Plan}
use Rattle.plan.specs.Records.{guest_at, deadline_of}
use Rattle.margins.specs.Margin.{margin_of}
use Rattle.dispatcher.specs.declared.Dispatcher.{Dispatcher}
use Rattle.dispatcher.specs.declared.Answer.{Answer}
use Rattle.dispatcher.specs.declared.Answer.TheVariants.{Silent, Nobody, Idled, Worked, Finished}
use Rattle.dispatcher.specs.State.{guest_in, rest_at, age_at}
use Rattle.dispatcher.specs.Tick.{holder, worker, next}
use Rattle.dispatcher.specs.Answer.{holder_id, answer}
use Rattle.dispatcher.specs.Release.{taken}
use Rattle.equation.specs.System.{response_of}
use Rattle.history.specs.Share.{answer_at}
use Rattle.plan.proofs.Order.{PlanIn}
use Rattle.verdict_laws.proofs.Ids.{id_of, id_one}
use Rattle.history.proofs.Share.{answer_old, answer_new}
use Rattle.verdict_laws.proofs.Kept.{gap_in, TaskFits, KeptIn, young_kept, kept_next, kept_release, in_plan, in_guest}
use Rattle.dispatcher_laws.proofs.Answer.{finished_by, answer_nobody, answer_idled, answer_worked, answer_finished}
use Rattle.dispatcher_laws.proofs.Release.{Free}
use Rattle.dispatcher_laws.proofs.Sound.{Sound}
use Rattle.dispatcher_laws.proofs.TaskTick.{task_served, task_tick}

-- An answer that names task i of guest g finished says of its age and margin: the age is at most R, the margin the
-- deadline less the age.
abbrev pub Timely : Plan → (g i R : ℕ) → Answer → Type 0
Timely p g i R a =
    (age : ℕ) (margin : ℤ) → a ≡ Finished (id_of p g) (suc i) age margin
    → (age ≤ R) × (margin ≡ margin_of (deadline_of (guest_at p.guests g) i) age)

-- The tick's answer that names a task finished is of the guest and task that have the tick.
record Ends (d : Dispatcher) (id task age : ℕ) (margin : ℤ) : Type 0 where
  held : holder d < d.plan.count
  worked : worker d < (guest_in d (holder d)).tasks
  guest : holder_id d ≡ id
  number : worker d + 1 ≡ task
  old : age_at (next d) (holder d) (worker d) ≡ age
  spare : margin_of (deadline_of (guest_in d (holder d)) (worker d)) (age_at (next d) (holder d) (worker d)) ≡ margin

-- An answer that says finished ends a job.
ends :
    (d : Dispatcher) (id task age : ℕ) (margin : ℤ) → answer d ≡ Finished id task age margin → Ends d id task age margin
ends d id task age margin e =
    elim (dec_lt (holder d) d.plan.count) [
      | no h ↦ no_way (answer_nobody d (omega arith))
      | yes h ↦
          elim (dec_lt (worker d) (guest_in d (holder d)).tasks) [
            | no l ↦ no_idle (answer_idled d h (omega arith))
            | yes l ↦
                elim (dec_lt 1 (rest_at d (holder d) (worker d))) [
                  | yes m ↦ no_work (answer_worked d h l m)
                  | no m ↦ done h l (answer_finished d h l (omega arith))
                ]
          ]
    ]
  where
    no_way : answer d ≡ Nobody → Ends d id task age margin
    no_way q = (let z : ◌≡◌ {A = ℕ} 0 1 = cc in absurd (omega arith))

    no_idle : answer d ≡ Idled (holder_id d) → Ends d id task age margin
    no_idle q = (let z : ◌≡◌ {A = ℕ} 0 1 = cc in absurd (omega arith))

    no_work : answer d ≡ Worked (holder_id d) (worker d + 1) → Ends d id task age margin
    no_work q = (let z : ◌≡◌ {A = ℕ} 0 1 = cc in absurd (omega arith))

    done :
        holder d < d.plan.count
        → worker d < (guest_in d (holder d)).tasks
        → answer d ≡ finished_by d (holder d) (worker d)
        → Ends d id task age margin
    done h l q = record { held = h; worked = l; guest = cc; number = cc; old = cc; spare = cc }

module _ (p : Plan) (P : PlanIn p) {g x i w : ℕ} (T : TaskFits p g x i w) where
  -- What stands in a state: the invariant, and every answer so far is timely.
  pub record TimelyIn (L : List Answer) (d : Dispatcher) : Type 0 where
    pub kept : KeptIn p g x i w d
    pub timely : (m : ℕ) → Timely p g i (response_of (gap_in p g i) w) (answer_at L m)

  -- The answer of a tick is timely.
  tick_timely : (d : Dispatcher) → Sound p d → KeptIn p g x i w d → Timely p g i (response_of (gap_in p g i) w) (answer d)
  tick_timely d D K age margin e = by (ends d (id_of p g) (suc i) age margin e)
    where
      by :
          Ends d (id_of p g) (suc i) age margin
          → (age ≤ response_of (gap_in p g i) w) × (margin ≡ margin_of (deadline_of (guest_at p.guests g) i) age)
      by E = (
        omega (arith, old, E.old, aged),
        sym E.spare ∙ said (holder d) (worker d) (age_at (next d) (holder d) (worker d)) mine its E.old,
      )
        where
          mine : holder d ≡ g
          mine =
              id_one d.plan (rw D.plan P) (holder d) g E.held (in_plan p P T d D)
              (E.guest ∙ ap (λ (z : Plan). id_of z g) (sym D.plan))

          its : worker d ≡ i
          its = omega (arith, E.number)

          some : 0 < rest_at d g i
          some =
              omega (
                arith,
                rw its at ((task_served d D.shaped g i (in_plan p P T d D) (in_guest p P T d D) mine).took
                    (rw its (omega arith))),
              )

          aged : age_at (next d) g i ≤ response_of (gap_in p g i) w
          aged =
              let (a, t) = task_tick d D.shaped g i (in_plan p P T d D) (in_guest p P T d D) in
              omega (arith, t.older some, young_kept p P T d K some)

          old : age_at (next d) (holder d) (worker d) ≡ age_at (next d) g i
          old = rw (mine, its) refl

          said :
              (h t a : ℕ)
              → h ≡ g
              → t ≡ i
              → a ≡ age
              → margin_of (deadline_of (guest_in d h) t) a ≡ margin_of (deadline_of (guest_at p.guests g) i) age
          said h t a q r s =
              rw (q, r, s) (ap (λ (z : Plan). margin_of (deadline_of (guest_at z.guests g) i) age) D.plan)

  -- What stands, stands over a tick.
  pub timely_next :
      (L : List Answer) (d : Dispatcher) → Sound p d → TimelyIn L d → TimelyIn (L ++ (answer d ∷ [])) (next d)
  timely_next L d D I = record { kept = kept_next p P T d D I.kept; timely = each }
    where
      each : (m : ℕ) → Timely p g i (response_of (gap_in p g i) w) (answer_at (L ++ (answer d ∷ [])) m)
      each m age margin e =
          elim (dec_lt m (length L)) [
            | yes h ↦ I.timely m age margin (sym (answer_old L (answer d ∷ []) m h) ∙ e)
            | no h ↦
                elim (ℕ_discrete (length L) m) [
                  | yes q ↦ tick_timely d D I.kept age margin (sym (answer_new L (answer d) m q) ∙ e)
                  | no q ↦
                      never age margin
                      (sym (get_or-eq_default (L ++ (answer d ∷ [])) Silent {n = m}
                      (simp length-append (omega arith))) ∙ e)
                ]
          ]
        where
          never : (age : ℕ) (margin : ℤ) → Silent ≡ Finished (id_of p g) (suc i) age margin
              → (age ≤ response_of (gap_in p g i) w) × (margin ≡ margin_of (deadline_of (guest_at p.guests g) i) age)
          never age margin q = (let z : ◌≡◌ {A = ℕ} 0 1 = cc in absurd (omega arith))

  -- What stands, stands over a taken release.
  pub timely_release :
      (L : List Answer) (d : Dispatcher) (id task k t : ℕ) → Sound p d → Free d id task k t → TimelyIn L d
      → TimelyIn L (taken d k t)
  timely_release L d id task k t D F I =
      record { kept = kept_release p P T d D id task k t F I.kept; timely = I.timely }
