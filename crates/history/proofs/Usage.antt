-- The numbers beside a state count the ticks of its history.
-- Strategy: a tick adds one where its answer is counted, modulo 2 to the 64. Assumes nothing.
use mathlib.Core.Path.{◌≡◌, refl, ap, subst, ◌∙◌}
use mathlib.Core.List.{List, [], ◌∷◌, ◌++◌}
use Prim.Native.Nat.{ℕ, ◌+◌, ◌%◌, ◌≤◌, ◌<◌}
use native.Mathlib.Decide.{dec_lt}
use native.Mathlib.Omega.{arith}
use lib.ListN.{length, replicate, get_or-replicate}
use borrow.Author.Tests.{eq-eqb, ne_eqb}
use Rattle.lists.specs.Places.{nth}
use Rattle.lists.specs.Sum.{sum_to}
use Rattle.plan.specs.declared.Plan.{Plan}
use Rattle.arrays.specs.Usage.{wrap, nobodys}
use Rattle.dispatcher.specs.declared.Dispatcher.{Dispatcher}
use Rattle.dispatcher.specs.declared.Answer.{Answer}
use Rattle.dispatcher.specs.State.{guest_in, rest_at}
use Rattle.dispatcher.specs.Tick.{holder, worker, usage_after, next}
use Rattle.dispatcher.specs.Answer.{holder_id, answer}
use Rattle.dispatcher.specs.Release.{taken}
use Rattle.dispatcher.specs.Fresh.{idle}
use Rattle.history.specs.Calls.{Call, start, play, ticks_in, answers, CanStart}
use Rattle.history.specs.Share.{bit, names}
use Rattle.history.specs.Usage.{idles, unhad, Accounts}
use Rattle.lists.proofs.Sum.{sum_zero}
use Rattle.plan.proofs.Order.{PlanIn, plan_in}
use Rattle.verdict_laws.proofs.Ids.{id_of, id_one}
use Rattle.history.proofs.Answered.{names_mine, names_else}
use Rattle.history.proofs.Play.{Any, any, play_keeps, answers_length}
use Rattle.history.proofs.Share.{count_none}
use Rattle.history.proofs.Clocks.{sound_start}
use Rattle.history.proofs.Accounts.{by_nobody, by_worked, by_idled}
use Rattle.dispatcher_laws.proofs.Answer.{answer_nobody, answer_idled, answer_worked, answer_finished}
use Rattle.dispatcher_laws.proofs.Fresh.{fresh_idle}
use Rattle.dispatcher_laws.proofs.Sound.{Sound}
use Rattle.dispatcher_laws.proofs.Tick.{usage_nobody, usage_worked, usage_idled, usage_long}
use Rattle.plan.proofs.PeriodicLaws.{starts_in_order}

-- what the numbers of a state are after the answers l
record Counted (p : Plan) (l : List Answer) (d : Dispatcher) : Type 0 where
  long : length d.usage ≡ 17
  accounts : Accounts p l d.usage

-- ---- a tick
module _ (d : Dispatcher) where
  -- Where a task works, no guest idles the tick away, and it is not nobody's.
  worked_tests :
      holder d < d.plan.count → worker d < (guest_in d (holder d)).tasks
      → ((id : ℕ) → idles id (answer d) ≡ 0) × (unhad (answer d) ≡ 0)
  unfolding idles unhad
  worked_tests h w =
      elim (dec_lt 1 (rest_at d (holder d) (worker d))) [
        | yes m ↦ rw (answer_worked d h w m) (λ id. refl, refl)
        | no m ↦ rw (answer_finished d h w (omega arith)) (λ id. refl, refl)
      ]

  module _ (P : PlanIn d.plan) (l : List Answer) (long : length d.usage ≡ 17)
      (A : Accounts d.plan l d.usage) where
    -- The accounts stand over a tick that nobody has.
    accounts_nobody : d.plan.count ≤ holder d → Accounts d.plan (l ++ (answer d ∷ [])) (usage_after d)
    unfolding names idles unhad
    accounts_nobody h =
        rw (usage_nobody d h)
        (by_nobody d.plan P l (answer d) d.usage long A (λ id. rw (answer_nobody d h) refl)
        (λ id. rw (answer_nobody d h) refl) (rw (answer_nobody d h) refl))

    module _ (h : holder d < d.plan.count) where
      -- The accounts stand over a tick that a task has.
      accounts_worked :
          worker d < (guest_in d (holder d)).tasks → Accounts d.plan (l ++ (answer d ∷ [])) (usage_after d)
      accounts_worked w =
          rw (usage_worked d h w)
          (by_worked d.plan P l (answer d) d.usage long A (holder d) h (names_mine d (holder d) h refl)
          (λ k b n. names_else d k P b n)
          (worked_tests h w).1 (λ k. (worked_tests h w).0 (id_of d.plan k)))

      -- The accounts stand over a tick that a guest idles away.
      accounts_idled : (guest_in d (holder d)).tasks ≤ worker d → Accounts d.plan (l ++ (answer d ∷ [])) (usage_after d)
      unfolding bit idles unhad
      accounts_idled w =
          rw (usage_idled d h w)
          (by_idled d.plan P l (answer d) d.usage long A (holder d) h (names_mine d (holder d) h refl)
          (λ k b n. names_else d k P b n)
          (rw (answer_idled d h w) refl)
          (rw (answer_idled d h w) (ap bit (eq-eqb (holder_id d) (holder_id d) refl)))
          (λ k b n. rw (answer_idled d h w)
          (ap bit (ne_eqb (holder_id d) (id_of d.plan k) (λ e. n (id_one d.plan P (holder d) k h b e))))))

    -- The accounts stand over a tick, whoever has it.
    tick_accounts : Accounts d.plan (l ++ (answer d ∷ [])) (usage_after d)
    tick_accounts =
        elim (dec_lt (holder d) d.plan.count) [
          | no n ↦ accounts_nobody (omega arith)
          | yes h ↦
              elim (dec_lt (worker d) (guest_in d (holder d)).tasks) [
                | yes w ↦ accounts_worked h w
                | no w ↦ accounts_idled h (omega arith)
              ]
        ]

-- ---- histories
module _ (p : Plan) (P : PlanIn p) where
  -- What is counted stands over a tick.
  kept_next : (l : List Answer) (d : Dispatcher) → Sound p d → Counted p l d → Counted p (l ++ (answer d ∷ [])) (next d)
  unfolding next
  kept_next l d D K = record {
    long = usage_long d ∙ K.long;
    accounts =
        subst (λ (z : Plan). Accounts z (l ++ (answer d ∷ [])) (usage_after d)) D.plan
        (tick_accounts d (rw D.plan P) l K.long (rw D.plan K.accounts));
  }

  -- What is counted stands over a taken release.
  kept_taken : (l : List Answer) (d : Dispatcher) (k t : ℕ) → Counted p l d → Counted p l (taken d k t)
  unfolding taken
  kept_taken l d k t K = record { long = K.long; accounts = K.accounts }

  -- What is counted stands at the fresh start.
  kept_idle : Counted p [] (idle p)
  unfolding idle
  kept_idle = record {
    long = refl;
    accounts = record {
      ticks = λ k h. omega (arith, zeros k (omega (arith, P.few)), count_none (names (id_of p k)) [] 0);
      idled = λ k h. omega (arith, zeros (8 + k) (omega (arith, P.few)), count_none (idles (id_of p k)) [] 0);
      nobody = omega (arith, zeros 16 (omega arith), count_none unhad [] 0);
      all =
          omega (
            arith,
            sum_zero (nth (replicate 17 0)) p.count (λ k h. zeros k (omega (arith, P.few))),
            zeros 16 (omega arith),
          );
    };
  }
    where
      zeros : (k : ℕ) → k < 17 → nth (replicate 17 0) k ≡ 0
      zeros k h = get_or-replicate 17 k 0 0 h

-- Where the ticks went: the numbers beside the state, after any history from the fresh start, count its ticks.
pub usage_counts :
    (p : Plan) → CanStart p → (cs : List Call)
    → Accounts p (answers cs (start p)) (play cs (start p)).usage
usage_counts p can cs =
    let P = plan_in p (starts_in_order p can) in
    (play_keeps p (Counted p) Any (kept_next p P) (λ l d id task k t D a f K. kept_taken p P l d k t K) cs [] (start p)
    (any cs (start p))
    record { sound = sound_start p can; holds = rw (fresh_idle p can) (kept_idle p P) }
    ).holds.accounts

-- All guests' ticks and nobody's are the ticks done.
pub usage_adds_up :
    (p : Plan)
    → CanStart p
    → (cs : List Call)
    → (sum_to (nth (play cs (start p)).usage) p.count + nth (play cs (start p)).usage nobodys) % wrap
    ≡ ticks_in cs (start p) % wrap
usage_adds_up p can cs =
    (usage_counts p can cs).all ∙ ap (λ (n : ℕ). n % wrap) (answers_length cs (start p) (sound_start p can))
