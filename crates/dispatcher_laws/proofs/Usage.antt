-- The numbers beside a state, where the ticks went, are looked at by nothing but themselves: calls of two states that
-- are the same but for them answer the same, and leave states that are the same but for them. Assumes nothing.
use mathlib.Core.Path.{◌≡◌, refl, sym, ap, ◌∙◌}
use mathlib.Core.Bool.{Bool, true, false}
use mathlib.Core.List.{List, [], ◌∷◌}
use Prim.Native.Nat.{ℕ, zero, suc, ◌+◌, ◌-◌}
use lib.Dec.{ltb, leb}
use Rattle.lists.specs.Choice.{pick}
use Rattle.lists.specs.Refusals.{refusal, ◌or_refuse◌}
use Rattle.plan.specs.Place.{place_of}
use Rattle.dispatcher.specs.declared.Dispatcher.{Dispatcher}
use Rattle.dispatcher.specs.declared.Answer.{Answer}
use Rattle.dispatcher.specs.declared.Answer.TheVariants.{Silent}
use Rattle.dispatcher.specs.declared.Ran.{Ran}
use Rattle.dispatcher.specs.declared.Ticked.{Ticked}
use Rattle.dispatcher.specs.declared.Released.{Released}
use Rattle.dispatcher.specs.State.{rest_at}
use Rattle.dispatcher.specs.Valid.{tasks_in, guest_in_range, task_in_range, row_ok, state_ok}
use Rattle.dispatcher.specs.Tick.{refilled, holder, is_held, left_after, worker, is_worked, rest_after, age_after, wait_after, position_after, next}
use Rattle.dispatcher.specs.Answer.{answer_by, answer, finishes}
use Rattle.dispatcher.specs.Run.{ran_to, run_from, run_for}
use Rattle.dispatcher.specs.Release.{taken, release_number, released_by, release}
use Rattle.dispatcher.specs.Entries.{longest_run, ticked_by, tick, ran_by, run}
use Rattle.dispatcher_laws.specs.Usage.{with_usage, SameButUsage}

-- A state with other numbers beside it.
module _ (d : Dispatcher) (u : List ℕ) where
  -- Refusal 14 does not look at these numbers.
  ok_unseen : state_ok (with_usage d u) ≡ state_ok d
  unfolding state_ok row_ok guest_in_range task_in_range tasks_in
  ok_unseen = refl

  -- What decides a tick's answer decides it whatever these numbers are.
  answer_by_lem : (held worked more : Bool) → answer_by held worked more (with_usage d u) ≡ answer_by held worked more d
  unfolding answer_by refilled holder worker age_after
  answer_by_lem false worked more = refl
  answer_by_lem true false more = refl
  answer_by_lem true true true = refl
  answer_by_lem true true false = refl

  -- A tick's answer does not look at them.
  answer_unseen : answer (with_usage d u) ≡ answer d
  unfolding answer refilled holder is_held worker is_worked
  answer_unseen = answer_by_lem (is_held d) (is_worked d) (ltb 1 (rest_at d (holder d) (worker d)))

  -- The state after a tick is the same but for them.
  next_unseen : SameButUsage (next (with_usage d u)) (next d)
  unfolding refilled holder is_held left_after worker is_worked rest_after age_after wait_after position_after next
  next_unseen v = refl

  -- The number that a release is refused by does not look at them.
  number_unseen : (id task : ℕ) → release_number (with_usage d u) id task ≡ release_number d id task
  unfolding release_number state_ok row_ok guest_in_range task_in_range tasks_in
  number_unseen id task = refl

  -- The state after a taken release is the same but for them.
  taken_unseen : (k t : ℕ) → SameButUsage (taken (with_usage d u) k t) (taken d k t)
  unfolding taken
  taken_unseen k t v = refl

-- Two states that are the same but for these numbers.
module _ (d e : Dispatcher) (S : SameButUsage d e) where
  -- What does not look at the numbers has one value in both.
  one_value : {B : Type 0} (f : Dispatcher → B) → ((c : Dispatcher) → f (with_usage c []) ≡ f c) → f d ≡ f e
  one_value f same = sym (same d) ∙ ap f (S []) ∙ same e

  -- Both are refused as 14, or neither is.
  pub ok_one : state_ok d ≡ state_ok e
  ok_one = one_value state_ok (λ c. ok_unseen c [])

  -- A tick of both has one answer.
  answer_one : answer d ≡ answer e
  answer_one = one_value answer (λ c. answer_unseen c [])

  -- The states after a tick are the same but for these numbers.
  next_same : SameButUsage (next d) (next e)
  next_same v = one_value (λ c. with_usage (next c) v) (λ c. next_unseen c [] v)

  -- A release of both has one number.
  number_one : (id task : ℕ) → release_number d id task ≡ release_number e id task
  number_one id task = one_value (λ c. release_number c id task) (λ c. number_unseen c [] id task)

  -- The states after a taken release are the same but for these numbers.
  taken_same : (k t : ℕ) → SameButUsage (taken d k t) (taken e k t)
  taken_same k t v = one_value (λ c. with_usage (taken c k t) v) (λ c. taken_unseen c [] k t v)

  -- A guest's id stands for one place in both.
  place_one : (id : ℕ) → place_of d.plan id ≡ place_of e.plan id
  place_one id = one_value (λ c. place_of c.plan id) (λ c. refl)

-- Two outcomes of a release that are the same but for these numbers.
pub record ReleasedSame (r s : Released) : Type 0 where
  pub refusal_same : r.refusal ≡ s.refusal
  pub state_same : SameButUsage r.state s.state

-- Two outcomes of a tick that are the same but for these numbers.
pub record TickedSame (r s : Ticked) : Type 0 where
  pub refusal_same : r.refusal ≡ s.refusal
  pub answer_same : r.answer ≡ s.answer
  pub state_same : SameButUsage r.state s.state

-- Two outcomes of a run that are the same but for these numbers.
pub record RanSame (r s : Ran) : Type 0 where
  pub refusal_same : r.refusal ≡ s.refusal
  pub done_same : r.done ≡ s.done
  pub answer_same : r.answer ≡ s.answer
  pub state_same : SameButUsage r.state s.state

-- Runs of both go on tick by tick, and stop at one tick.
run_same : (n m : ℕ) (a : Answer) (d e : Dispatcher) → SameButUsage d e → RanSame (run_from n m a d) (run_from n m a e)
unfolding run_from
run_same zero m a d e S = record { refusal_same = refl; done_same = refl; answer_same = refl; state_same = S }
run_same (suc n) m a d e S =
    rw (answer_one d e S) (go (finishes (answer e)) (run_same n (m + 1) (answer e) (next d) (next e) (next_same d e S)))
  where
    go : (b : Bool) → RanSame (run_from n (m + 1) (answer e) (next d)) (run_from n (m + 1) (answer e) (next e))
        → RanSame (pick b (ran_to (m + 1) (answer e) (next d)) (run_from n (m + 1) (answer e) (next d)))
        (pick b (ran_to (m + 1) (answer e) (next e)) (run_from n (m + 1) (answer e) (next e)))
    go true r = record { refusal_same = refl; done_same = refl; answer_same = refl; state_same = next_same d e S }
    go false r = r

-- The calls of two states that are the same but for these numbers.
module _ (d e : Dispatcher) (S : SameButUsage d e) where
  -- Releases that go by one number have one outcome but for these numbers.
  release_by : (n k t : ℕ) → ReleasedSame (released_by n d k t) (released_by n e k t)
  unfolding released_by
  release_by zero k t = record { refusal_same = refl; state_same = taken_same d e S k t }
  release_by (suc n) k t = record { refusal_same = refl; state_same = S }

  -- A release of both has one outcome but for these numbers.
  pub release_one : (id task : ℕ) → ReleasedSame (release d id task) (release e id task)
  unfolding release
  release_one id task =
      rw (number_one d e S id task, place_one d e S id)
      (release_by (release_number e id task) (place_of e.plan id) (task - 1))

  -- Ticks that go by one number have one outcome but for these numbers.
  tick_by : (n : ℕ) → TickedSame (ticked_by n d) (ticked_by n e)
  unfolding ticked_by
  tick_by zero = record { refusal_same = refl; answer_same = answer_one d e S; state_same = next_same d e S }
  tick_by (suc n) = record { refusal_same = refl; answer_same = refl; state_same = S }

  -- A tick of both has one outcome but for these numbers.
  pub tick_one : TickedSame (tick d) (tick e)
  unfolding tick
  tick_one = rw (ok_one d e S) (tick_by (refusal (state_ok e or_refuse 14 ∷ [])))

  -- Runs that go by one number have one outcome but for these numbers.
  run_by : (x n : ℕ) → RanSame (ran_by x d n) (ran_by x e n)
  unfolding ran_by run_for
  run_by zero n = run_same n 0 Silent d e S
  run_by (suc x) n = record { refusal_same = refl; done_same = refl; answer_same = refl; state_same = S }

  -- A run of both has one outcome but for these numbers.
  pub run_one : (n : ℕ) → RanSame (run d n) (run e n)
  unfolding run
  run_one n = rw (ok_one d e S) (run_by (refusal (state_ok e or_refuse 14 ∷ leb n longest_run or_refuse 13 ∷ [])) n)
