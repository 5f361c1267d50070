-- How the code comes to the number that a block is passed over by, and what a block that is taken says. Assumes
-- nothing.
use mathlib.Core.Path.{◌≡◌, refl, sym, ◌∙◌}
use mathlib.Core.Bool.{true}
use mathlib.Core.List.{List, [], ◌∷◌}
use Prim.Native.Nat.{ℕ, zero, suc, ◌≤◌, ◌<◌}
use native.Mathlib.Decide.{dec_le}
use native.Mathlib.Omega.{arith}
use lib.Dec.{ltb}
use borrow.Author.Tests.{ltb-true, lt-ltb, le-ltb}
use Rattle.std.proofs.Common.{Ok, Err}
use Rattle.lists.specs.Refusals.{refusal, ◌or_refuse◌, unless_number}
use Rattle.plan.specs.declared.Columns.{Columns}
use Rattle.plan.specs.declared.Plan.{Plan}
use Rattle.plan.specs.Order.{plan_refusal}
use Rattle.plan.specs.Place.{has_guest, has_task}
use Rattle.logblock.specs.Layout.{most_jobs}
use Rattle.logblock.specs.Reading.{jobs_in, entry_in, own_tests, own_number}
use Rattle.statement.specs.declared.Statement.{Statement}
use Rattle.statement.specs.Lines.{most_blocks}
use Rattle.statement.specs.Counting.{entries_counted, one_more, block_counted}
use Rattle.statement.specs.Block.{guests_there, tasks_there, plan_tests, block_number}
use Rattle.statement.specs.Log.{taken_by, after_block}
use Rattle.statement.specs.Lent.{PlanColumns, EntryIn, Aimed, Countable, missing}
use Rattle.lists.proofs.All.{all_at}
use Rattle.lists.proofs.Refusals.{none_left, go_on, stop, passed, tests_first, err_number, ok_number}
use Rattle.logblock.proofs.EntriesLaws.{jobs_few, age_in}
use Rattle.logblock.proofs.Reading.{OwnIn, own_in}
use Rattle.statement.proofs.Lent.{deadline_there, entry_in_lem}

-- The number of jobs of a block that passes its own tests is at most 41.
pub few_jobs : {b : List ℕ} → OwnIn b → jobs_in b ≤ most_jobs
few_jobs {b} B = jobs_few (jobs_in b) _ B.jobs

module _ (p : Plan) (blocks : ℕ) (b : List ℕ) where
  -- Its own refusal comes first.
  pub own_first : {x : ℕ} → x ≡ own_number b → 0 < x → x ≡ block_number p blocks b
  unfolding own_number block_number
  own_first e h = e ∙ sym (tests_first (own_tests b) (plan_tests p blocks b) (rw e at h))

  pub own_refuses :
      {x : ℕ} → Err x ≡ unless_number (own_number b) (tt {0}) → (x ≡ block_number p blocks b) × (0 < x)
  own_refuses q =
      let e = err_number (own_number b) (tt {0}) q in
      (own_first e.0 (omega arith), omega arith)

  module _ (B : OwnIn b) where
    -- A block that passes its own tests is held against the plan.
    then_plan : block_number p blocks b ≡ refusal (plan_tests p blocks b)
    unfolding block_number
    then_plan =
        go_on 2 _ B.sums ∙ go_on 3 _ B.opens ∙ go_on 18 _ B.jobs ∙ go_on 5 (plan_tests p blocks b) B.rest

    -- What it lacks of the plan comes next.
    pub plan_first : {x : ℕ} → x ≡ missing p b (jobs_in b) → 0 < x → x ≡ block_number p blocks b
    unfolding missing
    plan_first e h = e ∙ sym (then_plan ∙ tests_first _ (ltb blocks most_blocks or_refuse 19 ∷ []) (rw e at h))

    module _ {at : List ℕ} (A : Aimed p b (jobs_in b) at) where
      -- A million blocks are counted.
      pub nineteen : most_blocks ≤ blocks → 19 ≡ block_number p blocks b
      nineteen h =
          sym (then_plan ∙ go_on 7 _ A.guests ∙ go_on 8 _ A.tasks ∙ stop 19 [] (le-ltb blocks most_blocks h))

      -- Nothing is against it.
      pub none : blocks < most_blocks → 0 ≡ block_number p blocks b
      none h =
          sym
          (then_plan ∙ go_on 7 _ A.guests ∙ go_on 8 _ A.tasks ∙ go_on 19 [] (lt-ltb blocks most_blocks h)
          ∙ none_left)

  -- A block that is taken: it passes its own tests, all its guests and tasks are there, and there is room for it.
  pub record TakenIn : Type 0 where
    pub own : OwnIn b
    pub guests : guests_there p b ≡ true
    pub tasks : tasks_there p b ≡ true
    pub room : blocks < most_blocks

  own_none : block_number p blocks b ≡ 0 → own_number b ≡ 0
  own_none e =
      elim (dec_le (own_number b) 0) [
        | yes h ↦ omega arith
        | no h ↦ omega (arith, own_first {x = own_number b} refl (omega arith))
      ]

  pub taken_says : block_number p blocks b ≡ 0 → TakenIn
  taken_says e =
      let B = own_in b (own_none e) in
      let guests = passed (guests_there p b) 7 _ (omega arith) (sym (then_plan B) ∙ e) in
      let tasks = passed (tasks_there p b) 8 _ (omega arith) guests.1 in
      let room = passed (ltb blocks most_blocks) 19 [] (omega arith) tasks.1 in
      record { own = B; guests = guests.0; tasks = tasks.0; room = ltb-true blocks most_blocks room.0 }

-- The entries of a block whose guests and tasks are there can be counted, in a plan in order.
pub entries_in_lem :
    (p : Plan) (b : List ℕ)
    → (plan_refusal p).number ≡ 0
    → OwnIn b
    → guests_there p b ≡ true
    → tasks_there p b ≡ true
    → (i : ℕ) → i < jobs_in b → EntryIn p (entry_in b i)
unfolding entry_in
entries_in_lem p b passes B G T i h =
    entry_in_lem p (entry_in b i) passes (all_at _ (jobs_in b) i h G) (all_at _ (jobs_in b) i h T)
    (age_in (jobs_in b) _ B.jobs i h)

-- A block without a refusal of its own passes its own tests.
pub own_passes : (b : List ℕ) {w : Unit {0}} → Ok w ≡ unless_number (own_number b) (tt {0}) → OwnIn b
own_passes b q = own_in b (ok_number (own_number b) q).0

-- A block that is passed over has its number, and leaves the statement as it is.
module _ (p : Plan) (b : List ℕ) (s : Statement) {x : ℕ} (e : x ≡ block_number p s.blocks b) (h : 0 < x) where
  pub passed_number : Err x ≡ unless_number (block_number p s.blocks b) (tt {0})
  passed_number = rw (← e) (some x h)
    where
      some : (x : ℕ) → 0 < x → Err x ≡ unless_number x (tt {0})
      some zero h = absurd (omega arith)
      some (suc x) h = refl

  pub passed_after : s ≡ after_block p b s
  unfolding taken_by
  passed_after = rw (← e) (some x h)
    where
      some : (x : ℕ) → 0 < x → s ≡ taken_by x p b s
      some zero h = absurd (omega arith)
      some (suc x) h = refl

-- A block past its own tests whose entries have their lines: they can be counted, and once they are the block is taken.
module _ {p : Plan} {c : Columns} {deadlines : List ℕ} (C : PlanColumns p c deadlines)
    {b : List ℕ} (B : OwnIn b) {at : List ℕ} (A : Aimed p b (jobs_in b) at) where
  pub countable : Countable p b (jobs_in b) at deadlines
  countable =
      let guest : (i : ℕ) → i < jobs_in b → has_guest p (entry_in b i).guest ≡ true =
      λ i h. all_at (λ j. has_guest p (entry_in b j).guest) (jobs_in b) i h A.guests in
      let task : (i : ℕ) → i < jobs_in b → has_task p (entry_in b i).guest (entry_in b i).task ≡ true =
      λ i h. all_at (λ j. has_task p (entry_in b j).guest (entry_in b j).task) (jobs_in b) i h A.tasks in
      record {
        few = few_jobs B;
        lines = A.lines;
        due = λ i h. deadline_there C (entry_in b i) (guest i h) (task i h);
        entries = entries_in_lem p b C.passes B A.guests A.tasks;
      }

  module _ (s : Statement) (h : s.blocks < most_blocks) where
    pub taken_number : Ok (tt {0}) ≡ unless_number (block_number p s.blocks b) (tt {0})
    taken_number = rw (← none p s.blocks b B A h) refl

    pub taken_after : {after : Statement} → after ≡ entries_counted p b (jobs_in b) s
        → one_more after ≡ after_block p b s
    unfolding block_counted taken_by
    taken_after e = rw (← none p s.blocks b B A h, e) refl
