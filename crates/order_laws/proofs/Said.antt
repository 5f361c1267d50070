-- A guest and all above are fitted with all its tasks met exactly where the verdict of each of its tasks says so.
-- Assumes nothing.
use Rattle.std.specs.Prelude.{Result, Ok, Err}
use mathlib.Core.Path.{◌≡◌, refl, sym, ◌∙◌}
use mathlib.Core.Bool.{Bool, true, false, false≢true, ◌&&◌}
use mathlib.Core.Logic.{inl, inr}
use Prim.Native.Nat.{ℕ, suc, ◌<◌}
use native.Mathlib.Omega.{arith}
use Rattle.lists.specs.All.{all_to}
use Rattle.plan.specs.Records.{guest_at}
use Rattle.plan.specs.declared.Plan.{Plan}
use Rattle.plan.specs.declared.Refusal.{Refusal}
use Rattle.response.specs.Guest.{fitted_to}
use Rattle.response.specs.Met.{all_met}
use Rattle.verdict.specs.Verdict.{task_verdict}
use Rattle.verdict.specs.declared.TaskVerdict.{TaskVerdict}
use Rattle.verdict.specs.declared.TaskVerdict.TheVariants.{Met, UnmetAt, Unmet, Unjudged}
use Rattle.verdict_laws.specs.Guests.{There}
use Rattle.verdict_laws.specs.Tasks.{TaskMet, TaskMeans, SaysNotMet}
use Rattle.order_laws.specs.Proposals.{SaidMet}
use Rattle.lists.proofs.All.{and_left, and_right, and_true, all_at, all_false}
use Rattle.plan.proofs.Order.{plan_in}
use Rattle.verdict_laws.proofs.Acceptances.{said_met}
use Rattle.verdict_laws.proofs.Guests.{fitted_all, all_fitted}
use Rattle.verdict_laws.proofs.Tasks.{met_in_time, in_time_met, task_verdict_means}

-- Whether a verdict says met.
abbrev is_met : Result TaskVerdict Refusal → Bool
is_met (Err r) = false
is_met (Ok (Met r)) = true
is_met (Ok (UnmetAt r)) = false
is_met (Ok Unmet) = false
is_met (Ok Unjudged) = false

-- One that does not, and is no refusal, says unmet or unjudged.
not_met : (q : Plan) (k i : ℕ) (v : Result TaskVerdict Refusal) → TaskMeans q k i v → is_met v ≡ false → SaysNotMet v
not_met q k i (Err r) m e = absurd m
not_met q k i (Ok (Met r)) m e = absurd (false≢true (sym e))
not_met q k i (Ok (UnmetAt r)) m e = inl (inl (r, refl))
not_met q k i (Ok Unmet) m e = inl (inr refl)
not_met q k i (Ok Unjudged) m e = inr refl

-- One that does has a response.
is_met_lem : (v : Result TaskVerdict Refusal) → is_met v ≡ true → (r : ℕ) × (v ≡ Ok (Met r))
is_met_lem (Err r) e = absurd (false≢true e)
is_met_lem (Ok (Met r)) e = (r, refl)
is_met_lem (Ok (UnmetAt r)) e = absurd (false≢true e)
is_met_lem (Ok Unmet) e = absurd (false≢true e)
is_met_lem (Ok Unjudged) e = absurd (false≢true e)

-- Met is not unmet or unjudged.
met_not : {v : Result TaskVerdict Refusal} {r : ℕ} → v ≡ Ok (Met r) → SaysNotMet v → ⊥
met_not e (inl (inl (r, q))) = (let z : ◌≡◌ {A = ℕ} 0 1 = cc in omega arith)
met_not e (inl (inr q)) = (let z : ◌≡◌ {A = ℕ} 0 1 = cc in omega arith)
met_not e (inr q) = (let z : ◌≡◌ {A = ℕ} 0 1 = cc in omega arith)

module _ (q : Plan) (id k : ℕ) (t : There q id k) where
  -- Where the guest and all above are fitted and its tasks met, each verdict says so.
  pub works_said : (fitted_to q k && all_met q k) ≡ true → SaidMet q id k
  works_said e =
      let fits = and_left (fitted_to q k) _ e in
      let met = and_right (fitted_to q k) _ e in
      record {
        fitted = fits;
        met = met;
        said = λ i h. rw (← t.named)
            (said_met q t.order k t.place (fitted_all q k fits) (met_in_time q k met) i h);
      }

  -- Where each verdict says so, it is so, since a guest has a task.
  said_works : ((i : ℕ) → i < (guest_at q.guests k).tasks → (r : ℕ) × (task_verdict q id (suc i) ≡ Ok (Met r)))
      → (fitted_to q k && all_met q k) ≡ true
  said_works a =
      and_true
      (all_fitted q k (means 0 (omega (arith, ((plan_in q t.order).guests k t.place).head.many))).quoted.fitted)
      (in_time_met q k (λ i h. (
      let m = means i h in
      (m.quoted.w, m.quoted.solves, omega (arith, m.in_time, m.quoted.response)))))
    where
      means : (i : ℕ) (h : i < (guest_at q.guests k).tasks) → TaskMet q k i (a i h).0
      means i h = rw (a i h).1 at (task_verdict_means q id k i t h)

  -- Where it is not so, some verdict says not met.
  pub fails_said : (fitted_to q k && all_met q k) ≡ false
      → (i : ℕ) × (i < (guest_at q.guests k).tasks) × SaysNotMet (task_verdict q id (suc i))
  fails_said e = go (all_to test (guest_at q.guests k).tasks) refl
    where
      test : ℕ → Bool
      test i = is_met (task_verdict q id (suc i))

      go : (b : Bool) → all_to test (guest_at q.guests k).tasks ≡ b
          → (i : ℕ) × (i < (guest_at q.guests k).tasks) × SaysNotMet (task_verdict q id (suc i))
      go true all =
          absurd (false≢true (sym e
          ∙ said_works (λ i h. is_met_lem (task_verdict q id (suc i)) (all_at test (guest_at q.guests k).tasks i h all))))
      go false some =
          let (i, h, n) = all_false test (guest_at q.guests k).tasks some in
          (i, h, not_met q k i (task_verdict q id (suc i)) (task_verdict_means q id k i t h) n)

  -- Where some verdict says not met, it is not so.
  pub said_fails : (i : ℕ) → i < (guest_at q.guests k).tasks → SaysNotMet (task_verdict q id (suc i))
      → (fitted_to q k && all_met q k) ≡ false
  said_fails i h n = go (fitted_to q k && all_met q k) refl
    where
      go : (b : Bool) → (fitted_to q k && all_met q k) ≡ b → b ≡ false
      go true e = absurd (met_not ((works_said e).said i h).1 n)
      go false e = refl
