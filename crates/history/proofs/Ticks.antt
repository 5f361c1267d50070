-- A tick and a run of a state in its ranges, as single ticks of the rule. Assumes nothing.
use mathlib.Core.Path.{◌≡◌, refl, ap, ◌∙◌}
use mathlib.Core.Bool.{Bool, true, false}
use mathlib.Core.List.{[], ◌∷◌}
use Prim.Native.Nat.{ℕ, zero, suc, ◌+◌, ◌≤◌, ◌<◌}
use native.Mathlib.Decide.{dec_le}
use native.Mathlib.Omega.{arith}
use lib.Dec.{ltb}
use lib.ListN.{length, get_or}
use Rattle.lists.specs.Choice.{pick}
use Rattle.dispatcher.specs.declared.Dispatcher.{Dispatcher}
use Rattle.dispatcher.specs.declared.Answer.{Answer}
use Rattle.dispatcher.specs.declared.Answer.TheVariants.{Silent}
use Rattle.dispatcher.specs.declared.Ran.{Ran}
use Rattle.dispatcher.specs.State.{rest_at}
use Rattle.dispatcher.specs.Valid.{state_ok}
use Rattle.dispatcher.specs.Tick.{holder, is_held, worker, is_worked, next}
use Rattle.dispatcher.specs.Answer.{answer_by, answer, finishes}
use Rattle.dispatcher.specs.Run.{ticks, ran_to, run_from, run_for}
use Rattle.dispatcher.specs.Entries.{tick, run, longest_run}
use Rattle.history.specs.Calls.{listed, singles}
use Rattle.dispatcher_laws.proofs.Entries.{tick_answer, tick_state, run_fine, run_13}
use Rattle.dispatcher_laws.proofs.Valid.{ok_next}

-- ---- a tick
-- A tick always answers.
listed_by : (a b c : Bool) (d : Dispatcher) → listed (answer_by a b c d) ≡ answer_by a b c d ∷ []
unfolding listed answer_by
listed_by false b c d = refl
listed_by true false c d = refl
listed_by true true true d = refl
listed_by true true false d = refl

-- The answer of a tick is listed.
pub listed_answer : (d : Dispatcher) → listed (answer d) ≡ answer d ∷ []
unfolding answer
listed_answer d = listed_by (is_held d) (is_worked d) (ltb 1 (rest_at d (holder d) (worker d))) d

-- One tick more has one answer more, in front.
pub singles_next : (n : ℕ) (d : Dispatcher) → state_ok d ≡ true → singles (suc n) d ≡ answer d ∷ singles n (next d)
unfolding singles
singles_next n d ok = rw (tick_answer d ok, tick_state d ok, listed_answer d) refl

-- No tick has no answer.
pub singles_none : (d : Dispatcher) → singles 0 d ≡ []
unfolding singles
singles_none d = refl

-- There are as many answers as ticks.
pub singles_length : (n : ℕ) (d : Dispatcher) → state_ok d ≡ true → length (singles n d) ≡ n
singles_length zero d ok = ap length (singles_none d)
singles_length (suc n) d ok = ap length (singles_next n d ok) ∙ ap suc (singles_length n (next d) (ok_next d ok))

-- ---- a run
-- What a run is: so many single ticks; it stops after the first that finishes a job, or when the number is used up.
pub record RunBy (n : ℕ) (d : Dispatcher) (r : Ran) : Type 0 where
  pub fine : r.refusal.number ≡ 0
  pub most : r.done ≤ n
  pub state : r.state ≡ ticks r.done d
  pub nothing : r.done ≡ 0 → (n ≡ 0) × (r.answer ≡ Silent)
  pub last : (m : ℕ) → r.done ≡ suc m → r.answer ≡ get_or (singles r.done d) m Silent
  pub early : (m : ℕ) → suc m < r.done → finishes (get_or (singles r.done d) m Silent) ≡ false
  pub ends : r.done < n → finishes r.answer ≡ true

-- The same of the ticks that are still to do, after k were done and the last of them answered a; j of them are done.
record From (n k : ℕ) (a : Answer) (d : Dispatcher) (r : Ran) : Type 0 where
  j : ℕ
  done : r.done ≡ k + j
  most : j ≤ n
  fine : r.refusal.number ≡ 0
  state : r.state ≡ ticks j d
  nothing : j ≡ 0 → (n ≡ 0) × (r.answer ≡ a)
  last : (m : ℕ) → j ≡ suc m → r.answer ≡ get_or (singles j d) m Silent
  early : (m : ℕ) → suc m < j → finishes (get_or (singles j d) m Silent) ≡ false
  ends : j < n → finishes r.answer ≡ true

-- Where nothing is to do, nothing is done.
from_none : (k : ℕ) (a : Answer) (d : Dispatcher) → From 0 k a d (ran_to k a d)
unfolding ticks
from_none k a d = record {
  j = 0;
  done = omega arith;
  most = omega arith;
  fine = refl;
  state = refl;
  nothing = λ e. (refl, refl);
  last = λ m e. absurd (omega arith);
  early = λ m l. absurd (omega arith);
  ends = λ l. absurd (omega arith);
}

-- The first of them finishes a job, and nothing more is done.
from_stop :
    (n k : ℕ) (a : Answer) (d : Dispatcher)
    → state_ok d ≡ true
    → finishes (answer d) ≡ true
    → From (suc n) k a d (ran_to (k + 1) (answer d) (next d))
unfolding ticks
from_stop n k a d ok e = record {
  j = 1;
  done = refl;
  most = omega arith;
  fine = refl;
  state = refl;
  nothing = λ q. absurd (omega arith);
  last = λ m q. (let z : m ≡ 0 = omega arith in rw (z, singles_next 0 d ok) refl);
  early = λ m l. absurd (omega arith);
  ends = λ l. e;
}

-- The first of them finishes no job, and the rest is done.
from_on :
    (n k : ℕ) (a : Answer) (d : Dispatcher) (r : Ran)
    → state_ok d ≡ true
    → finishes (answer d) ≡ false
    → From n (k + 1) (answer d) (next d) r
    → From (suc n) k a d r
unfolding ticks
from_on n k a d r ok e F = record {
  j = suc F.j;
  done = omega (arith, F.done);
  most = omega (arith, F.most);
  fine = F.fine;
  state = F.state;
  nothing = λ q. absurd (omega arith);
  last = λ m q. rw (singles_next F.j d ok) (last_at F.j m (omega arith) F.nothing F.last);
  early = λ m l. rw (singles_next F.j d ok) (early_at m (omega arith) F.early);
  ends = λ l. F.ends (omega arith);
}
  where
    last_at :
        (j m : ℕ)
        → j ≡ m
        → (j ≡ 0 → (n ≡ 0) × (r.answer ≡ answer d))
        → ((m : ℕ) → j ≡ suc m → r.answer ≡ get_or (singles j (next d)) m Silent)
        → r.answer ≡ get_or (answer d ∷ singles j (next d)) m Silent
    last_at j zero q none more = (none (omega arith)).1
    last_at j (suc m) q none more = more m (omega arith)

    early_at :
        (m : ℕ)
        → m < F.j
        → ((m : ℕ) → suc m < F.j → finishes (get_or (singles F.j (next d)) m Silent) ≡ false)
        → finishes (get_or (answer d ∷ singles F.j (next d)) m Silent) ≡ false
    early_at zero l more = e
    early_at (suc m) l more = more m (omega arith)

-- Any number of them are done so.
from_by : (n k : ℕ) (a : Answer) (d : Dispatcher) → state_ok d ≡ true → From n k a d (run_from n k a d)
unfolding run_from
from_by zero k a d ok = from_none k a d
from_by (suc n) k a d ok = by (finishes (answer d)) refl (from_by n (k + 1) (answer d) (next d) (ok_next d ok))
  where
    by :
        (b : Bool) → finishes (answer d) ≡ b
        → From n (k + 1) (answer d) (next d) (run_from n (k + 1) (answer d) (next d))
        → From (suc n) k a d (pick b (ran_to (k + 1) (answer d) (next d)) (run_from n (k + 1) (answer d) (next d)))
    by true e F = from_stop n k a d ok e
    by false e F = from_on n k a d (run_from n (k + 1) (answer d) (next d)) ok e F

-- The rule's run is its single ticks.
runs_by : (n : ℕ) (d : Dispatcher) → state_ok d ≡ true → RunBy n d (run_for n d)
unfolding run_for
runs_by n d ok =
    let F = from_by n 0 Silent d ok in
    let e : (run_from n 0 Silent d).done ≡ F.j = omega (arith, F.done) in
    record {
      fine = F.fine;
      most = rw e F.most;
      state = rw e F.state;
      nothing = λ q. F.nothing (omega arith);
      last = λ m q. rw e (F.last m (omega arith));
      early = λ m l. rw e (F.early m (omega arith));
      ends = λ l. F.ends (omega arith);
    }

-- A run of at most 1,000,000 ticks is its single ticks.
pub run_by : (n : ℕ) (d : Dispatcher) → state_ok d ≡ true → n ≤ longest_run → RunBy n d (run d n)
run_by n d ok h = rw (run_fine n d ok h) (runs_by n d ok)

-- The state after a run, refused or not, is that of the ticks that it reports.
pub run_state : (n : ℕ) (d : Dispatcher) → state_ok d ≡ true → (run d n).state ≡ ticks (run d n).done d
unfolding ticks
run_state n d ok =
    elim (dec_le n longest_run) [
      | yes h ↦ (run_by n d ok h).state
      | no h ↦ rw (run_13 n d ok (omega arith)) refl
    ]

-- A tick of a state in its ranges reports one tick.
pub tick_one : (d : Dispatcher) → state_ok d ≡ true → length (listed (tick d).answer) ≡ 1
tick_one d ok = ap (λ (a : Answer). length (listed a)) (tick_answer d ok) ∙ ap length (listed_answer d)
