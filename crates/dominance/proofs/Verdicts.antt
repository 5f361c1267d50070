-- What stays of the verdicts where every guest is made Periodic: each equation has a solution no larger than before,
-- and a verdict names the least. Assumes nothing.
use Rattle.std.specs.Prelude.{Result, Ok, Err}
use mathlib.Core.Path.{◌≡◌, refl, sym, ◌∙◌, ap, subst}
use Prim.Native.Nat.{ℕ, suc, ◌+◌, ◌-◌, ◌≤◌, ◌<◌}
use native.Mathlib.Omega.{arith}
use Rattle.plan.specs.Order.{plan_refusal}
use Rattle.plan.specs.Periodic.{converted}
use Rattle.plan.specs.Place.{place_of}
use Rattle.plan.specs.Records.{guest_at, deadline_of}
use Rattle.plan.specs.declared.Plan.{Plan}
use Rattle.plan.specs.declared.Refusal.{Refusal}
use Rattle.response.specs.Task.{gap}
use Rattle.verdict.specs.Quoted.{Quotes, Quoted}
use Rattle.verdict.specs.Verdict.{guest_verdict, task_verdict}
use Rattle.verdict.specs.declared.GuestVerdict.{GuestVerdict}
use Rattle.verdict.specs.declared.GuestVerdict.TheVariants.{Fitted, Unfit}
use Rattle.verdict.specs.declared.TaskVerdict.{TaskVerdict}
use Rattle.verdict.specs.declared.TaskVerdict.TheVariants.{Met, UnmetAt, Unmet, Unjudged}
use Rattle.verdict_laws.specs.Guests.{There, GuestSolves, AllFit, GuestMeans}
use Rattle.verdict_laws.specs.Tasks.{TaskSolves, InPeriod, TaskQuoted, TaskMet, TaskMeans}
use Rattle.dominance.specs.Stays.{NoLarger, FittedStays, MetStays, QuotedStays, AcceptedStays}
use Rattle.plan.proofs.Converted.{converted_at, same_id, same_refusal}
use Rattle.verdict_laws.proofs.Acceptances.{accepted_order, accepted_said, said_accepted}
use Rattle.verdict_laws.proofs.Guests.{guest_verdict_means, fitted_means}
use Rattle.verdict_laws.proofs.Tasks.{task_verdict_means, judged_means, quotes_mean, quoted_means, quoted_where}
use Rattle.dominance.proofs.Interference.{guest_sooner, task_sooner}
use Rattle.dominance.proofs.Records.{there_stays}

-- ---- from solutions to verdicts, in any plan
module _ (q : Plan) (id k : ℕ) (t : There q id k) where
  -- A guest with a solution is fitted with a response at or before it.
  fitted_by : (y : ℕ) → GuestSolves q k y → NoLarger (λ z. guest_verdict q id ≡ Ok (Fitted z)) y
  fitted_by y s = go (guest_verdict q id) refl (guest_verdict_means q id k t)
    where
      go : (v : Result GuestVerdict Refusal) → guest_verdict q id ≡ v → GuestMeans q k v
          → NoLarger (λ z. guest_verdict q id ≡ Ok (Fitted z)) y
      go (Err r) e m = absurd m
      go (Ok (Fitted z)) e m = let first : ¬ (y < z) = λ l. m.least y l s in (z, (e, omega arith))
      go (Ok Unfit) e m = absurd (m y s)

  module _ (i : ℕ) (h : i < (guest_at q.guests k).tasks) where
    -- A task with a solution up to its period, under fitted guests, is quoted a response at or before it.
    quoted_by_lem : AllFit q k → (u : ℕ) → TaskSolves q k i u → InPeriod q k i u
        → NoLarger (Quoted q id (suc i)) (u + gap (guest_at q.guests k) i)
    quoted_by_lem all u s l =
        let (R, c) = quoted_where q id k i t h all u s l in
        let m = quotes_mean q k i R (task_verdict q id (suc i)) c (task_verdict_means q id k i t h) in
        let first : ¬ (u < m.w) = λ b. m.least u b s in
        (R, (c, omega (arith, m.response)))

    -- A task that is quoted a response up to its deadline is met with it.
    met_by : (R : ℕ) → Quoted q id (suc i) R → R ≤ deadline_of (guest_at q.guests k) i
        → task_verdict q id (suc i) ≡ Ok (Met R)
    met_by R c l = go (task_verdict q id (suc i)) c (task_verdict_means q id k i t h)
      where
        go : (v : Result TaskVerdict Refusal) → Quotes v R → TaskMeans q k i v → v ≡ Ok (Met R)
        go (Err r) c m = absurd c
        go (Ok (Met r)) c m = ap (λ (r : ℕ). Ok (Met r)) c
        go (Ok (UnmetAt r)) c m = absurd (omega (arith, m.late))
        go (Ok Unmet) c m = absurd c
        go (Ok Unjudged) c m = absurd c

-- ---- the plan before, and the plan with every guest made Periodic
module _ (p : Plan) where
  -- Guests that were fitted down to a place are so after.
  all_fit : (plan_refusal p).number ≡ 0 → (k : ℕ) → k < p.count → AllFit p k → AllFit (converted p) k
  all_fit ok k h all j l =
      let (x, s) = all j l in
      let (y, (t, b)) = guest_sooner p ok j (omega arith) x s in
      (y, t)

  -- A guest that was fitted stays so, with a response no larger.
  pub fitted_stays : FittedStays p (converted p)
  fitted_stays id x e =
      let (t, r) = fitted_means p id x e in
      let k = place_of p id in
      let (y, (s, l)) = guest_sooner p t.order k t.place x r.fits in
      let (z, (v, m)) = fitted_by (converted p) id k (there_stays p id k t) y s in
      (z, (v, omega arith))

  -- A task of a guest that is there.
  module _ (id k i : ℕ) (t : There p id k) (h : i < (guest_at p.guests k).tasks) where
    -- The task is in its guest after.
    in_guest : i < (guest_at (converted p).guests k).tasks
    in_guest = rw (converted_at p k) h

    -- Its first gap is as it was.
    same_gap : gap (guest_at (converted p).guests k) i ≡ gap (guest_at p.guests k) i
    unfolding gap
    same_gap = rw (converted_at p k) refl

    -- Where it was quoted a response it is quoted one no larger.
    quoted_after : (R : ℕ) → TaskQuoted p k i R → NoLarger (Quoted (converted p) id (suc i)) R
    quoted_after R m =
        let (x, fits) = m.fitted k (omega arith) in
        let (u, (s, l)) = task_sooner p t.order k t.place x i m.w h fits m.solves in
        let in_period : InPeriod (converted p) k i u =
        rw (same_gap, converted_at p k) (omega (arith, m.response, m.in_period)) in
        let (S, (c, b)) = quoted_by_lem (converted p) id k (there_stays p id k t) i in_guest
        (all_fit t.order k t.place m.fitted) u s in_period in
        (S, (c, omega (arith, m.response, same_gap)))

    -- Where it was met it is met with a response no larger: the deadline is as it was.
    met_after : (R : ℕ) → TaskMet p k i R → NoLarger (λ S. task_verdict (converted p) id (suc i) ≡ Ok (Met S)) R
    met_after R m =
        let (S, (c, l)) = quoted_after R m.quoted in
        let in_time : S ≤ deadline_of (guest_at (converted p).guests k) i =
        rw (converted_at p k) (omega (arith, m.in_time)) in
        (S, (met_by (converted p) id k (there_stays p id k t) i in_guest S c in_time, l))

  -- A task that was quoted a response is quoted one no larger.
  pub quoted_stays : QuotedStays p (converted p)
  quoted_stays id number R c =
      let (t, m) = quoted_means p id number R c in
      subst (λ (n : ℕ). NoLarger (Quoted (converted p) id n) R) (sym t.from_1)
      (quoted_after id (place_of p id) (number - 1) t.there t.in_guest R m)

  -- A task that was met stays so, with a response no larger.
  pub met_stays : MetStays p (converted p)
  met_stays id number R e =
      let (t, m) = judged_means p id number e in
      subst (λ (n : ℕ). NoLarger (λ S. task_verdict (converted p) id n ≡ Ok (Met S)) R) (sym t.from_1)
      (met_after id (place_of p id) (number - 1) t.there t.in_guest R m)

  -- A plan that was accepted stays so, since each of its tasks stays met.
  pub accepted_stays : AcceptedStays p (converted p)
  unfolding converted
  accepted_stays e =
      let ok = accepted_order p e in
      said_accepted (converted p) (ap (λ (r : Refusal). r.number) (same_refusal p) ∙ ok) (λ k h i l. (
      let (r, v) = accepted_said p ok e k h i (rw (converted_at p k) at l) in
      let (s, (u, b)) = met_stays (guest_at p.guests k).id (suc i) r v in
      (s, rw (same_id p k) u)))
