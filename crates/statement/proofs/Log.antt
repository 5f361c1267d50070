-- Laws of a log: how the code comes to the statement after it and to what is passed over, block by block, and that a
-- statement in its ranges stays there. Assumes nothing.
use mathlib.Core.Path.{◌≡◌, refl, sym, ◌∙◌}
use mathlib.Core.Bool.{true}
use mathlib.Core.List.{List}
use Prim.Native.Nat.{ℕ, zero, suc, ◌+◌, ◌*◌, ◌≤◌, ◌<◌}
use native.Mathlib.Numerals.{add-one}
use native.Mathlib.Omega.{arith}
use lib.Dec.{ltb}
use borrow.Author.Tests.{lt-ltb, le-ltb}
use Rattle.lists.specs.Choice.{pick}
use Rattle.lists.specs.Refusals.{unless_number}
use Rattle.lists.specs.Sum.{sum_to}
use Rattle.plan.specs.declared.Plan.{Plan}
use Rattle.plan.specs.First.{first_refused, fine}
use Rattle.plan.specs.Order.{plan_refusal}
use Rattle.blockfile.specs.File.{block_at}
use Rattle.logblock.specs.Layout.{most_jobs}
use Rattle.statement.specs.declared.Statement.{Statement}
use Rattle.statement.specs.Lines.{most_blocks, Lined, statement_ok}
use Rattle.statement.specs.Counting.{block_counted}
use Rattle.statement.specs.Block.{block_number}
use Rattle.statement.specs.Log.{taken_by, after_block, after_blocks, passed_by, passed_in, first_passed}
use Rattle.statement.specs.declared.Stated.{Stated}
use Rattle.statement.specs.Call.{stated_over}
use Rattle.statement.specs.Lent.{AtMost}
use Rattle.std.proofs.Common.{Ok, Err}
use Rattle.lists.proofs.Refusals.{ok_number, err_number}
use Rattle.lists.proofs.Sum.{sum_next}
use Rattle.plan.proofs.First.{first_already, first_new, first_passes}
use Rattle.statement.proofs.Lines.{few_blocks, lines_in, in_ranges, at_most}
use Rattle.statement.proofs.CountingLaws.{blocks_next, block_at_most, block_lines, block_lined}
use Rattle.statement.proofs.Block.{TakenIn, taken_says, few_jobs, entries_in_lem}

-- ---- what stays so, whatever a log holds
-- What holds of a statement, and of it with a taken block counted, holds after a block.
after_either :
    (C : Statement → Type 0) (x : ℕ) (p : Plan) (b : List ℕ) (s : Statement)
    → C s
    → (x ≡ 0 → C (block_counted p b s))
    → C (taken_by x p b s)
unfolding taken_by
after_either C zero p b s h go = go refl
after_either C (suc x) p b s h go = h

-- What every taken block keeps, a log keeps.
after_all :
    (C : Statement → Type 0) (p : Plan) (log : List ℕ)
    → ((b : List ℕ) (s : Statement) → TakenIn p s.blocks b → C s → C (block_counted p b s))
    → (n : ℕ) (s : Statement) → C s → C (after_blocks p log n s)
unfolding after_blocks
after_all C p log keeps zero s h = h
after_all C p log keeps (suc n) s h =
    let t = after_blocks p log n s in
    let r = after_all C p log keeps n s h in
    after_either C (block_number p t.blocks (block_at log n)) p (block_at log n) t r
    (λ z. keeps (block_at log n) t (taken_says p t.blocks (block_at log n) z) r)

-- At most a million blocks are counted, and no line has more than 41 jobs for each.
pub record RoomIn (s : Statement) : Type 0 where
  pub few : s.blocks ≤ most_blocks
  pub lines : AtMost (most_jobs * s.blocks) s

pub room_in : (s : Statement) → statement_ok s ≡ true → RoomIn s
room_in s ok = record { few = few_blocks s ok; lines = at_most (lines_in s ok) }

module _ (p : Plan) (passes : (plan_refusal p).number ≡ 0) (log : List ℕ) (n : ℕ) (s : Statement) where
  -- There is room after each block.
  room_after : RoomIn s → RoomIn (after_blocks p log n s)
  room_after R =
      after_all RoomIn p log
      (λ b t T H. record {
        few = omega (arith, blocks_next p b t, T.room);
        lines =
            block_at_most p b t (few_jobs T.own) (entries_in_lem p b passes T.own T.guests T.tasks) H.lines;
      })
      n s R

-- A statement in its ranges stays there with a taken block counted, so that one made by calls alone is never refused by
-- 14.
pub block_stays :
    (p : Plan) (b : List ℕ) (s : Statement)
    → (plan_refusal p).number ≡ 0
    → block_number p s.blocks b ≡ 0
    → Lined s × (statement_ok s ≡ true)
    → Lined (block_counted p b s) × (statement_ok (block_counted p b s) ≡ true)
block_stays p b s passes z H =
    let T = taken_says p s.blocks b z in
    let E = entries_in_lem p b passes T.own T.guests T.tasks in
    let L = lines_in s H.1 in (
      block_lined p b s (few_jobs T.own) E H.0 L,
      in_ranges (block_counted p b s) (omega (arith, blocks_next p b s, T.room))
          (block_lines p b s (few_jobs T.own) E H.0 L),
    )

-- ---- a turn of the loop over a log's blocks
module _ (p : Plan) (log : List ℕ) (s : Statement) where
  -- No block is looked at yet.
  pub log_none : record { refusal = fine; statement = s; passed = 0; position = 0; number = 0 } ≡ stated_over p log 0 s
  unfolding after_blocks sum_to first_refused
  log_none = refl

  -- There is room for the next block.
  pub room_now : (k : ℕ) {t : Stated} → (plan_refusal p).number ≡ 0 → statement_ok s ≡ true
      → t ≡ stated_over p log k s → RoomIn t.statement
  room_now k passes ok T = rw T (room_after p passes log k s (room_in s ok))

  module _ (k : ℕ) {t : Stated} (T : t ≡ stated_over p log k s) {after : Statement}
      (A : after ≡ after_block p (block_at log k) t.statement) where
    state_next : after ≡ after_blocks p log (k + 1) s
    unfolding after_blocks
    state_next = A ∙ rw (T, add-one) refl

    number_is : block_number p t.statement.blocks (block_at log k) ≡ passed_by p log s k
    unfolding passed_by
    number_is = rw T refl

    many_next : {one : ℕ} → pick (ltb 0 (passed_by p log s k)) 1 0 ≡ one → t.passed + one ≡ passed_in p log s (k + 1)
    many_next e =
        sym (sum_next (λ j. pick (ltb 0 (passed_by p log s j)) 1 0) k ∙ rw (e, T) refl)

    -- The block is taken.
    pub log_taken :
        {w : Unit {0}}
        → Ok w ≡ unless_number (block_number p t.statement.blocks (block_at log k)) (tt {0})
        → record { refusal = t.refusal; statement = after; passed = t.passed; position = t.position; number = t.number }
        ≡ stated_over p log (k + 1) s
    log_taken q =
        let z = (ok_number (block_number p t.statement.blocks (block_at log k)) q).0 in
        let n : passed_by p log s k ≤ 0 = omega (arith, number_is) in
        let f = first_passes (passed_by p log s) k n in
        let m : t.passed ≡ passed_in p log s (k + 1) =
        (let e : t.passed ≡ t.passed + 0 = omega arith in e) ∙ many_next (rw (le-ltb 0 (passed_by p log s k) n) refl) in
        rw (state_next, m, f, T) refl

    module _ {x : ℕ} (q : Err x ≡ unless_number (block_number p t.statement.blocks (block_at log k)) (tt {0})) where
      told : (x ≡ passed_by p log s k) × (0 < x)
      told =
          let e = err_number (block_number p t.statement.blocks (block_at log k)) (tt {0}) q in
          (e.0 ∙ number_is, omega arith)

      one_more_passed : t.passed + 1 ≡ passed_in p log s (k + 1)
      one_more_passed = many_next (rw (lt-ltb 0 (passed_by p log s k) (omega (arith, told))) refl)

      -- The block is passed over, and is the first that is.
      pub log_first :
          t.number ≤ 0
          → record { refusal = t.refusal; statement = after; passed = t.passed + 1; position = k; number = x }
          ≡ stated_over p log (k + 1) s
      log_first l =
          let y : (first_passed p log s k).number ≤ 0 = rw T at l in
          let f = first_new (passed_by p log s) k y (omega (arith, told)) in
          rw (state_next, one_more_passed, f, told.0, T) refl

      -- The block is passed over, and is not the first.
      pub log_again :
          0 < t.number
          → record {
            refusal = t.refusal;
            statement = after;
            passed = t.passed + 1;
            position = t.position;
            number = t.number;
          }
          ≡ stated_over p log (k + 1) s
      log_again l =
          let y : 0 < (first_passed p log s k).number = rw T at l in
          let f = first_already (passed_by p log s) k y in
          rw (state_next, one_more_passed, f, T) refl
