-- A statement says of each task what is to be stated of the entries that were counted. Assumes nothing.
use mathlib.Core.Path.{◌≡◌, refl, sym, ap, ◌∙◌}
use mathlib.Core.Logic.{◌⊎◌, inl, inr, ⊎_elim, ◌≢◌}
use mathlib.Core.Bool.{Bool, true, false, false≢true}
use mathlib.Core.List.{List, [], ◌∷◌, ◌++◌, append_assoc, append-nil}
use Prim.Native.Nat.{ℕ, zero, suc, ◌+◌, ◌<◌}
use native.Mathlib.Omega.{arith}
use lib.Dec.{eqb}
use borrow.Author.Tests.{eqb-true, eq-eqb}
use Rattle.lists.specs.Table.{table}
use Rattle.plan.specs.declared.Plan.{Plan}
use Rattle.plan.specs.declared.Refusal.{Refusal}
use Rattle.plan.specs.Place.{has_guest, has_task}
use Rattle.plan.specs.Order.{plan_refusal}
use Rattle.blockfile.specs.File.{file_refusal}
use Rattle.planfile.specs.Records.{read_of}
use Rattle.logblock.specs.declared.Entry.{Entry}
use Rattle.logblock.specs.Reading.{jobs_in, entry_in}
use Rattle.history.specs.Named.{deadline_by}
use Rattle.statement.specs.declared.Statement.{Statement}
use Rattle.statement.specs.Lines.{Lined, most_lines, empty}
use Rattle.statement.specs.Counting.{line_of, deadline_for, counted_at, counted, entries_counted, block_counted}
use Rattle.statement_laws.specs.Entries.{names, ages_of}
use Rattle.statement_laws.specs.LineSays.{LineSays, task_line, TaskSays, NoTasks}
use Rattle.statement_laws.specs.Taken.{statement_after, counted_entries, counted_blocks}
use Rattle.lists.proofs.All.{and_left, and_right, and_true}
use Rattle.plan.proofs.Order.{PlanIn, plan_in}
use Rattle.planfile_laws.proofs.OnlyOurs.{read_passes}
use Rattle.statement_laws.proofs.Entries.{ages_own, ages_other}
use Rattle.statement_laws.proofs.LineSays.{lined_entries, lined_block, own_line, other_line, empty_line, empty_lined}
use Rattle.statement_laws.proofs.Block.{Named, each_named}
use Rattle.statement_laws.proofs.Lines.{line_below, line_one}
use Rattle.statement_laws.proofs.Taken.{KeptBy, calls_keep}

-- An entry is counted in line k, by that deadline, and its age is one more.
pub record Own (p : Plan) (k deadline : ℕ) (ages : List Entry → List ℕ) (e : Entry) : Type 0 where
  pub line : line_of p e ≡ k
  pub below : k < most_lines
  pub due : deadline_for p e ≡ deadline
  pub next : (es : List Entry) → ages (es ++ (e ∷ [])) ≡ ages es ++ (e.age ∷ [])

-- An entry is counted in another line, and the ages stay.
pub record Other (p : Plan) (k : ℕ) (ages : List Entry → List ℕ) (e : Entry) : Type 0 where
  pub line : k ≢ line_of p e
  pub next : (es : List Entry) → ages (es ++ (e ∷ [])) ≡ ages es

-- Each entry of a taken block is one or the other.
abbrev Follows : Plan → (k deadline : ℕ) → (List Entry → List ℕ) → Type 0
Follows p k deadline ages = (e : Entry) → Named p e → Own p k deadline ages e ⊎ Other p k ages e

-- A statement with its lines says that of line k.
pub record Says (k deadline : ℕ) (ages : List Entry → List ℕ) (s : Statement) (es : List Entry) : Type 0 where
  pub lined : Lined s
  pub line : LineSays s k deadline (ages es)

module _ (p : Plan) (k deadline : ℕ) (ages : List Entry → List ℕ) (follows : Follows p k deadline ages) where
  entry_says : (e : Entry) (s : Statement) (es : List Entry) → Named p e → Lined s → LineSays s k deadline (ages es)
      → LineSays (counted p e s) k deadline (ages (es ++ (e ∷ [])))
  entry_says e s es i lined c = ⊎_elim own other (follows e i)
    where
      own : Own p k deadline ages e → LineSays (counted p e s) k deadline (ages (es ++ (e ∷ [])))
      own o = rw (o.line, o.due, o.next es) (own_line k deadline e.age s (ages es) lined o.below c)

      other : Other p k ages e → LineSays (counted p e s) k deadline (ages (es ++ (e ∷ [])))
      other o =
          rw (o.next es) (other_line (line_of p e) (deadline_for p e) e.age s k deadline (ages es) o.line c)

  entries_say : (b : List ℕ) (n : ℕ) (s : Statement) (es : List Entry)
      → ((i : ℕ) → i < n → Named p (entry_in b i)) → Lined s → LineSays s k deadline (ages es)
      → LineSays (entries_counted p b n s) k deadline (ages (es ++ table (entry_in b) n))
  unfolding entries_counted table
  entries_say b zero s es i lined c = rw append-nil c
  entries_say b (suc n) s es i lined c =
      rw (← append_assoc es)
      (entry_says (entry_in b n) (entries_counted p b n s) (es ++ table (entry_in b) n) (i n (omega arith))
      (lined_entries p b n s lined) (entries_say b n s es (λ j l. i j (omega arith)) lined c))

  block_says : KeptBy (λ s m es. Says k deadline ages s es) p
  unfolding block_counted
  block_says b s m es e c =
      let r = entries_say b (jobs_in b) s es (each_named p s.blocks b e) c.lined c.line in
      record {
        lined = lined_block p b s c.lined;
        line = record { jobs = r.jobs; longest = r.longest; late = r.late; margins = r.margins };
      }

-- The records that were read are in order.
pub read_fine : (plan : List ℕ) → (file_refusal plan).number ≡ 0 → (plan_refusal (read_of plan).plan).number ≡ 0
unfolding read_of
read_fine plan e = ap (λ (r : Refusal). r.number) (read_passes plan e)

read_in : (plan : List ℕ) → (file_refusal plan).number ≡ 0 → PlanIn (read_of plan).plan
read_in plan e = plan_in (read_of plan).plan (read_fine plan e)

-- The line of a task follows the entries that name it.
module _ (p : Plan) (P : PlanIn p) (guest task : ℕ) (g : has_guest p guest ≡ true)
    (t : has_task p guest task ≡ true) where
  task_follows : Follows p (task_line p guest task) (deadline_by p guest task) (ages_of guest task)
  task_follows e i = by (names guest task e) refl
    where
      by : (b : Bool) → names guest task e ≡ b
          → Own p (task_line p guest task) (deadline_by p guest task) (ages_of guest task) e
          ⊎ Other p (task_line p guest task) (ages_of guest task) e
      by true q =
          let a : e.guest ≡ guest = eqb-true _ _ (and_left (eqb e.guest guest) _ q) in
          let b : e.task ≡ task = eqb-true _ _ (and_right (eqb e.guest guest) _ q) in
          inl record {
            line = rw (a, b) refl;
            below = line_below p P guest task g t;
            due = rw (a, b) refl;
            next = λ es. ages_own guest task es e q;
          }
      by false q = inr record {
        line = λ l.
            let o = line_one p P guest task e.guest e.task g t i.guest i.task l in
            false≢true (sym q ∙ and_true (eq-eqb _ _ (sym o.0)) (eq-eqb _ _ (sym o.1)));
        next = λ es. ages_other guest task es e q;
      }

-- A line that is no task's follows none.
none_follows : (p : Plan) (k deadline : ℕ) → NoTasks p k → Follows p k deadline (λ es. [])
none_follows p k deadline none e i = inr record {
  line = λ l. none e.guest e.task i.guest i.task (sym l);
  next = λ es. refl;
}

-- Calls from a statement that says of a task what is to be stated of some entries: after them it says so of those
-- entries and the ones counted since.
pub counts_on :
    (plan : List ℕ) (logs : List (List ℕ)) (guest task : ℕ)
    → has_guest (read_of plan).plan guest ≡ true
    → has_task (read_of plan).plan guest task ≡ true
    → (s : Statement) (es : List Entry)
    → Lined s
    → TaskSays (read_of plan).plan guest task s es
    → TaskSays (read_of plan).plan guest task (statement_after plan logs s) (es ++ counted_entries plan logs s)
counts_on plan logs guest task g t s es lined says =
    let p : Plan = (read_of plan).plan in
    let follows : (file_refusal plan).number ≡ 0
    → Follows p (task_line p guest task) (deadline_by p guest task) (ages_of guest task) =
    λ e. task_follows p (read_in plan e) guest task g t in
    (calls_keep (λ s m es. Says (task_line p guest task) (deadline_by p guest task) (ages_of guest task) s es) plan
    (λ e. block_says p _ _ _ (follows e)) logs s 0 es record { lined = lined; line = says }).line

-- 1. Every plan's bytes, every list of logs, a call for each from the empty statement: a task's line says how many
-- entries of the blocks taken name the task, their greatest age, how many of them are late, and the exact sum of their
-- margins.
pub statement_counts :
    (plan : List ℕ) (logs : List (List ℕ)) (guest task : ℕ)
    → has_guest (read_of plan).plan guest ≡ true
    → has_task (read_of plan).plan guest task ≡ true
    → TaskSays (read_of plan).plan guest task (statement_after plan logs empty) (counted_entries plan logs empty)
unfolding ages_of
statement_counts plan logs guest task g t =
    counts_on plan logs guest task g t empty [] empty_lined (empty_line _ _)

-- A line that is no task's says that nothing was counted.
pub other_lines :
    (plan : List ℕ) (logs : List (List ℕ)) (k deadline : ℕ)
    → NoTasks (read_of plan).plan k
    → LineSays (statement_after plan logs empty) k deadline []
other_lines plan logs k deadline none =
    (calls_keep (λ s m es. Says k deadline (λ es. []) s es) plan
    (λ e. block_says (read_of plan).plan k deadline (λ es. []) (none_follows (read_of plan).plan k deadline none))
    logs empty 0 [] record { lined = empty_lined; line = empty_line k deadline }).line

-- Entries alone leave the blocks counted as they were.
same_blocks : (p : Plan) (b : List ℕ) (n : ℕ) (s : Statement) → (entries_counted p b n s).blocks ≡ s.blocks
unfolding entries_counted counted_at
same_blocks p b zero s = refl
same_blocks p b (suc n) s = same_blocks p b n s

-- A block counted is one block more.
pub one_block : (p : Plan) (b : List ℕ) (s : Statement) → (block_counted p b s).blocks ≡ s.blocks + 1
unfolding block_counted
one_block p b s = ap (λ (n : ℕ). n + 1) (same_blocks p b (jobs_in b) s)

-- The blocks counted are those before, and those that the calls took.
pub blocks_count :
    (plan : List ℕ) (logs : List (List ℕ)) (s : Statement)
    → (statement_after plan logs s).blocks ≡ s.blocks + counted_blocks plan logs s
blocks_count plan logs s =
    calls_keep (λ s m es. s.blocks ≡ m) plan
    (λ e b s m es z c. one_block (read_of plan).plan b s ∙ ap (λ (n : ℕ). n + 1) c) logs s s.blocks [] refl
