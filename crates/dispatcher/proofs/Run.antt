-- How steps come to a run. Assumes nothing.
use mathlib.Core.Path.{◌≡◌, refl, ◌∙◌}
use Prim.Native.Nat.{ℕ, suc, ◌+◌, ◌-◌, ◌≤◌, ◌<◌}
use native.Mathlib.Decide.{ℕ_discrete}
use native.Mathlib.Numerals.{add-one}
use native.Mathlib.Omega.{arith}
use Rattle.lists.specs.Choice.{pick}
use Rattle.plan.specs.declared.Plan.{Plan}
use Rattle.plan.specs.declared.Columns.{Columns}
use Rattle.plan.specs.Filled.{ColumnsOf}
use Rattle.steps.specs.declared.Turn.{Turn}
use Rattle.steps.specs.declared.Went.{Went}
use Rattle.arrays.specs.Place.{Small}
use Rattle.steps.specs.Step.{Numbers, StepsTo, none, more, StepsOn}
use Rattle.dispatcher.specs.declared.Dispatcher.{Dispatcher}
use Rattle.dispatcher.specs.declared.Answer.{Answer}
use Rattle.dispatcher.specs.Tick.{next}
use Rattle.dispatcher.specs.Answer.{answer, finishes}
use Rattle.dispatcher.specs.Run.{ran_to, run_from, run_for}
use Rattle.dispatcher.specs.Lent.{state_of, Quiet, Stepped, last_by, Gone}
use Rattle.dispatcher.proofs.Answers.{finishes_done, finishes_more}
use Rattle.dispatcher.specs.LentCheck.{InRange}
use Rattle.dispatcher.proofs.Valid.{ok_plan}
use Rattle.dispatcher.proofs.Lent.{small_tasks, quiet, stepped, quiet_kept}

-- One tick more, by whether it finishes a job.
run_more : (n done : ℕ) (last : Answer) (d : Dispatcher) → done < n
    → run_from (n - done) done last d ≡ pick (finishes (answer d)) (ran_to (done + 1) (answer d) (next d)) (run_from (n - (done + 1)) (done + 1) (answer d) (next d))
unfolding run_from
run_more n done last d h = let q : n - done ≡ suc (n - (done + 1)) = omega arith in rw q refl

-- No tick more ends the run.
run_none : (n done : ℕ) (last : Answer) (d : Dispatcher) → n ≤ done → run_from (n - done) done last d ≡ ran_to done last d
unfolding run_from
run_none n done last d h = let q : n - done ≡ 0 = omega arith in rw q refl

-- a run on its way: `done` ticks of n were done, and none finished a job
record Going (d : Dispatcher) (n done : ℕ) (t : Turn) (now : Dispatcher) : Type 0 where
  before : Dispatcher
  last : 0 < done → Stepped before now t
  left : run_for n d ≡ run_from (n - done) done (last_by done before) now

-- A run starts with no tick done.
starts : (d : Dispatcher) (n : ℕ) (t : Turn) → Going d n 0 t d
unfolding run_for last_by
starts d n t = record { before = d; last = λ h. absurd (omega arith); left = let q : n - 0 ≡ n = omega arith in rw q refl }

-- The answer of the last of some ticks is that of the state before it.
last_is : (done : ℕ) (d : Dispatcher) → last_by (done + 1) d ≡ answer d
unfolding last_by
last_is done d = rw add-one refl

module _ {d : Dispatcher} {n done : ℕ} {t u : Turn} {now after : Dispatcher} (g : Going d n done t now) (h : done < n) (s : Stepped now after u) where
  -- A step that finishes no job goes on.
  goes_on : (u.had ≡ 1 → ⊥) → Going d n (done + 1) u after
  goes_on m = record {
    before = now;
    last = λ z. s;
    left =
        g.left
        ∙ run_more n done (last_by done g.before) now h
        ∙ rw (finishes_more now s.had m, s.state, last_is done now) refl;
  }

  -- A step that finishes a job stops the run.
  stops : u.had ≡ 1 → Gone d n (done + 1) u after
  stops m = record {
    before = now;
    last = λ z. s;
    ran =
        g.left
        ∙ run_more n done (last_by done g.before) now h
        ∙ rw (finishes_done now s.had m, s.state, last_is done now) refl;
  }

-- A run whose number is used up is over.
used_up : {d : Dispatcher} {n done : ℕ} {t : Turn} {now : Dispatcher} → Going d n done t now → n ≤ done → Gone d n done t now
used_up {d} {n} {done} {t} {now} g h =
    record { before = g.before; last = g.last; ran = g.left ∙ run_none n done (last_by done g.before) now h }

-- the state of a plan with these numbers
abbrev state_with : Plan → Numbers → Dispatcher
state_with p b = state_of p b.left b.position b.rest b.wait b.age b.usage

module _ {p : Plan} {n : ℕ} {c : Columns} (counts : p.count ≡ n) (u : ColumnsOf p.guests n c) (small : Small n c.tasks) (ticks : ℕ) {b : Numbers} (z : Quiet n b.rest b.wait) where
  -- Steps that finished no job are a run on its way, and leave the places past the guests quiet.
  on_its_way : {done : ℕ} {a : Numbers} {t : Turn} → StepsTo n c.capacities c.periods c.tasks b done a t → done ≤ ticks → (t.had ≡ 1 → ⊥)
      → Going (state_with p b) ticks done t (state_with p a) × Quiet n a.rest a.wait
  on_its_way none h f = (starts _ ticks _, z)
  on_its_way (more s e x) h f =
      let g = on_its_way s (omega arith) e in
      let y = stepped counts u _ _ _ _ _ _ small.guests g.1 x in
      (goes_on g.0 (omega arith) y f, quiet_kept counts u _ _ _ _ _ _ small g.1 y)

  -- Steps are over where the last finished a job or their number is used up.
  gone_by : {done : ℕ} {a : Numbers} {t : Turn} → StepsTo n c.capacities c.periods c.tasks b done a t → done ≤ ticks → ((t.had ≡ 1 → ⊥) → done ≡ ticks)
      → Gone (state_with p b) ticks done t (state_with p a)
  gone_by none h o = used_up (starts _ ticks _) (omega (arith, o (λ e. omega arith)))
  gone_by (more {u = t} s e x) h o =
      let g = on_its_way s (omega arith) e in
      let y = stepped counts u _ _ _ _ _ _ small.guests g.1 x in
      elim (ℕ_discrete t.had 1) [
        | yes k ↦ stops g.0 (omega arith) y k
        | no k ↦ used_up (goes_on g.0 (omega arith) y k) (omega (arith, o k))
      ]

  -- The steps over lent arrays are a run.
  gone : {a : Numbers} {r : Went} → StepsOn n c.capacities c.periods c.tasks b a ticks r → Gone (state_with p b) ticks r.done r.turn (state_with p a)
  gone s = gone_by s.steps s.most s.over

-- The steps over the arrays of a state in its ranges are a run of it.
pub gone_in : {p : Plan} {c : Columns} {b a : Numbers} {ticks : ℕ} {r : Went} → InRange (state_with p b) c
    → StepsOn p.count c.capacities c.periods c.tasks b a ticks r → Gone (state_with p b) ticks r.done r.turn (state_with p a)
gone_in x s = gone refl x.columns (small_tasks (ok_plan _ x.okay) x.columns) _ (quiet _ x.okay) s
