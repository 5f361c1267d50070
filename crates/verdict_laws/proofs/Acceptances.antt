-- The acceptance of a plan has its meaning and is the only one that has it. A plan is accepted exactly if the verdict
-- of every task is met. Assumes nothing.
use Rattle.std.specs.Prelude.{Result, Ok, Err}
use mathlib.Core.Path.{◌≡◌, refl, sym, ◌∙◌}
use mathlib.Core.Bool.{Bool, true, false, false≢true}
use Prim.Native.Nat.{ℕ, suc, ◌≤◌, ◌<◌}
use native.Mathlib.Omega.{arith}
use Rattle.lists.specs.All.{all_to}
use Rattle.plan.specs.Order.{plan_refusal}
use Rattle.plan.specs.Records.{guest_at, every_of, deadline_of}
use Rattle.plan.specs.declared.Plan.{Plan}
use Rattle.plan.specs.declared.Refusal.{Refusal}
use Rattle.response.specs.Guest.{fitted, fitted_to}
use Rattle.response.specs.Met.{all_met, accepted}
use Rattle.verdict.specs.Verdict.{task_verdict, accept_says, acceptance}
use Rattle.verdict.specs.declared.Acceptance.{Acceptance}
use Rattle.verdict.specs.declared.Acceptance.TheVariants.{Accepted, NotAccepted}
use Rattle.verdict.specs.declared.TaskVerdict.{TaskVerdict}
use Rattle.verdict.specs.declared.TaskVerdict.TheVariants.{Met, UnmetAt, Unmet, Unjudged}
use Rattle.verdict_laws.specs.Guests.{There, AllFit}
use Rattle.verdict_laws.specs.Tasks.{TaskMet, TaskMeans, AllInTime}
use Rattle.verdict_laws.specs.Acceptances.{AllGood, AcceptMeans, AllSaidMet}
use Rattle.lists.proofs.All.{all_at, all_by, and_left, and_right, and_true}
use Rattle.verdict_laws.proofs.Guests.{fits_fitted, fitted_all}
use Rattle.verdict_laws.proofs.Tasks.{met_in_time, in_time_met, task_verdict_means, judged_unjudged}
use Rattle.plan.proofs.First.{ok_says}
use Rattle.plan.proofs.Order.{plan_in}

-- a plan that passes the test has all guests fitted and all tasks met
pub accepted_good : (p : Plan) → accepted p ≡ true → AllGood p
unfolding accepted fitted_to
accepted_good p e =
    let fits = and_left (all_to (fitted p) p.count) _ e in
    let met = and_right (all_to (fitted p) p.count) _ e in
    record {
      fitted = λ k h. fitted_all p k
          (all_by (fitted p) (suc k) (λ j l. all_at (fitted p) p.count j (omega arith) fits));
      met = λ k h. met_in_time p k (all_at (all_met p) p.count k h met);
    }

-- a plan with all guests fitted and all tasks met passes the test
pub good_accepted : (p : Plan) → AllGood p → accepted p ≡ true
unfolding accepted
good_accepted p g =
    and_true
    (all_by (fitted p) p.count (λ k h. (let x = g.fitted k h k (omega arith) in fits_fitted p k x.0 x.1)))
    (all_by (all_met p) p.count (λ k h. in_time_met p k (g.met k h)))

-- the acceptance has its meaning
pub acceptance_means : (p : Plan) → (plan_refusal p).number ≡ 0 → AcceptMeans p (acceptance p)
unfolding acceptance
acceptance_means p ok = rw ok (go (accepted p) refl)
  where
    go : (b : Bool) → accepted p ≡ b → AcceptMeans p (Ok (accept_says b))
    go true e = unfold accept_says in accepted_good p e
    go false e = unfold accept_says in λ g. false≢true (sym e ∙ good_accepted p g)

-- no other acceptance has that meaning
pub acceptance_only : (p : Plan) → (plan_refusal p).number ≡ 0 → (v : Result Acceptance Refusal) → AcceptMeans p v
    → v ≡ acceptance p
acceptance_only p ok v a = go v (acceptance p) a (acceptance_means p ok)
  where
    go : (v u : Result Acceptance Refusal) → AcceptMeans p v → AcceptMeans p u → v ≡ u
    go (Err r) u a b = absurd a
    go (Ok Accepted) (Err r) a b = absurd b
    go (Ok Accepted) (Ok Accepted) a b = refl
    go (Ok Accepted) (Ok NotAccepted) a b = absurd (b a)
    go (Ok NotAccepted) (Err r) a b = absurd b
    go (Ok NotAccepted) (Ok Accepted) a b = absurd (a b)
    go (Ok NotAccepted) (Ok NotAccepted) a b = refl

-- the records of a plan that is accepted are in order
pub accepted_order : (q : Plan) → acceptance q ≡ Ok Accepted → (plan_refusal q).number ≡ 0
unfolding acceptance
accepted_order q e = (ok_says (plan_refusal q) (sym e)).0

-- records in order, and their guest at place k
there_at : (p : Plan) → (plan_refusal p).number ≡ 0 → (k : ℕ) → k < p.count → There p (guest_at p.guests k).id k
there_at p ok k h = record { order = ok; place = h; named = refl }

-- a task that is in time is said to be met: a response at most the deadline is at most the period
pub said_met : (p : Plan) → (plan_refusal p).number ≡ 0 → (k : ℕ) → k < p.count → AllFit p k → AllInTime p k → (i : ℕ)
    → i < (guest_at p.guests k).tasks
    → (r : ℕ) × (task_verdict p (guest_at p.guests k).id (suc i) ≡ Ok (Met r))
said_met p ok k h all a i l =
    go (task_verdict p (guest_at p.guests k).id (suc i)) refl
    (task_verdict_means p (guest_at p.guests k).id k i (there_at p ok k h) l)
  where
    held : deadline_of (guest_at p.guests k) i ≤ every_of (guest_at p.guests k) i
    held = (((plan_in p ok).guests k h).tasks i l).in_time

    go : (v : Result TaskVerdict Refusal) → task_verdict p (guest_at p.guests k).id (suc i) ≡ v → TaskMeans p k i v
        → (r : ℕ) × (task_verdict p (guest_at p.guests k).id (suc i) ≡ Ok (Met r))
    go (Err r) e b = absurd b
    go (Ok (Met r)) e b = (r, e)
    go (Ok (UnmetAt r)) e b =
        let (w, s, t) = a i l in
        let g : ¬ (w < b.quoted.w) = λ z. b.quoted.least w z s in
        absurd (omega (arith, b.late, b.quoted.response))
    go (Ok Unmet) e b = let (w, s, t) = a i l in absurd (b.none w s (omega (arith, held)))
    go (Ok Unjudged) e b = absurd (judged_unjudged p k all b)

-- in a plan that is accepted the verdict of every task is met
pub accepted_said : (p : Plan) → (plan_refusal p).number ≡ 0 → acceptance p ≡ Ok Accepted → AllSaidMet p
accepted_said p ok e k h =
    let g : AllGood p = rw e at (acceptance_means p ok) in
    said_met p ok k h (g.fitted k h) (g.met k h)

-- a plan is accepted where the verdict of every task is met, since each guest has a task
pub said_accepted : (p : Plan) → (plan_refusal p).number ≡ 0 → AllSaidMet p → acceptance p ≡ Ok Accepted
said_accepted p ok a =
    sym (acceptance_only p ok (Ok Accepted) record {
      fitted = λ k h. (means k h 0 (omega (arith, ((plan_in p ok).guests k h).head.many))).quoted.fitted;
      met = λ k h i l. (let m = means k h i l in
          (m.quoted.w, m.quoted.solves, omega (arith, m.in_time, m.quoted.response)));
    })
  where
    means : (k : ℕ) (h : k < p.count) (i : ℕ) (l : i < (guest_at p.guests k).tasks) → TaskMet p k i (a k h i l).0
    means k h i l = rw (a k h i l).1 at (task_verdict_means p (guest_at p.guests k).id k i (there_at p ok k h) l)
