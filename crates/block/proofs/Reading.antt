-- How the code comes to a block's number, and what a block that passes says. Assumes nothing.
use mathlib.Core.Path.{◌≡◌, sym, ◌∙◌}
use mathlib.Core.Bool.{Bool, true, ◌&&◌}
use mathlib.Core.List.{List, []}
use Prim.Native.Nat.{ℕ, ◌+◌, ◌-◌, ◌^◌, ◌≤◌, ◌<◌}
use native.Mathlib.Omega.{arith}
use lib.Dec.{ltb, eqb}
use borrow.Author.Tests.{ltb-true, leb-true, eq-eqb, eqb-true, ne_eqb, lt-ltb, le-leb}
use Rattle.plan.specs.Ranges.{most_tasks, guest_ok, tasks_ok}
use Rattle.lists.specs.Places.{nth}
use Rattle.words.specs.Word.{word}
use Rattle.block.specs.Reading.{kind_in, task_count, marks_in, server_half, column, guest_of, sums_to_zero, kind_ok, zero_between, marks_ok, zeros_ok, block_number}
use Rattle.lists.specs.Exactly.{◌exactly_when◌}
use Rattle.block.specs.Layout.{extended_kind, deferrable_server, period_word, marks_server_word}
use Rattle.plan.proofs.RangesLaws.{head_says}
use Rattle.lists.proofs.All.{and_left, and_right, and_true, all_by, all_at}
use Rattle.lists.proofs.Table.{table_at, table_length}
use Rattle.std.proofs.lemmas.List.{ext_get_or}
use Rattle.std.proofs.Common.{length}
use Rattle.lists.proofs.Refusals.{none_left, go_on, passed}

-- A block that passes every test is refused by no number.
pub none : (b : List ℕ) (p new : Bool) → sums_to_zero b ≡ true → (kind_ok b && p) ≡ true
    → (guest_ok (guest_of b) && new) ≡ true → zeros_ok b ≡ true → tasks_ok (guest_of b) ≡ true
    → 0 ≡ block_number b p new
unfolding block_number
none b p new s k h z t = sym (go_on 2 _ s ∙ go_on 3 _ k ∙ go_on 4 _ h ∙ go_on 5 _ z ∙ go_on 6 _ t ∙ none_left)

-- Where the head passes there are at most 16 tasks.
pub few_tasks : (b : List ℕ) → guest_ok (guest_of b) ≡ true → task_count b ≤ most_tasks
few_tasks b e = (head_says _ _ _ _ e).few

pub few_in_block : (b : List ℕ) (new : Bool) → (guest_ok (guest_of b) && new) ≡ true → task_count b ≤ most_tasks
few_in_block b new e = few_tasks b (and_left (guest_ok (guest_of b)) new e)

-- Where the head passes the period is at least 1.
pub some_period : (b : List ℕ) → guest_ok (guest_of b) ≡ true → 1 ≤ word b period_word
some_period b e = let h = head_says _ _ _ _ e in omega (arith, h.some, h.fits)

-- In kind 2 the tasks alone can have marks, and the server is one of two.
pub marks_of_two : (b : List ℕ) → kind_in b ≡ extended_kind
    → (marks_ok b ≡ true) exactly_when ((marks_in b < 2 ^ task_count b) × (server_half b ≤ deferrable_server))
unfolding marks_ok
marks_of_two b e =
    rw (eq-eqb (kind_in b) extended_kind e) (
      λ m. (
        ltb-true _ _ (and_left (ltb (marks_in b) (2 ^ task_count b)) _ m),
        leb-true _ _ (and_right (ltb (marks_in b) (2 ^ task_count b)) _ m),
      ),
      λ m. and_true (lt-ltb _ _ m.0) (le-leb _ _ m.1),
    )

-- In another kind nothing can have marks, and the server is Periodic.
pub marks_of_other : (b : List ℕ) → (kind_in b ≡ extended_kind → ⊥)
    → (marks_ok b ≡ true) exactly_when (word b marks_server_word ≡ 0)
unfolding marks_ok
marks_of_other b n =
    rw (ne_eqb (kind_in b) extended_kind n) (
      λ e.
          let m = ltb-true (marks_in b) 1 (and_left (ltb (marks_in b) 1) _ e) in
          let s = leb-true (server_half b) 0 (and_right (ltb (marks_in b) 1) _ e) in
          omega (arith, m, s),
      λ e.
          and_true (lt-ltb (marks_in b) 1 (omega (arith, e))) (le-leb (server_half b) 0 (omega (arith, e))),
    )

-- A block that no number refuses passes every test.
pub record BlockIn (b : List ℕ) (p new : Bool) : Type 0 where
  pub sums : sums_to_zero b ≡ true
  pub opens : (kind_ok b && p) ≡ true
  pub heads : (guest_ok (guest_of b) && new) ≡ true
  pub zeros : zeros_ok b ≡ true
  pub tasks : tasks_ok (guest_of b) ≡ true

pub block_in : (b : List ℕ) (p new : Bool) → block_number b p new ≡ 0 → BlockIn b p new
unfolding block_number
block_in b p new e =
    let a2 = passed (sums_to_zero b) 2 _ (omega arith) e in
    let a3 = passed (kind_ok b && p) 3 _ (omega arith) a2.1 in
    let a4 = passed (guest_ok (guest_of b) && new) 4 _ (omega arith) a3.1 in
    let a5 = passed (zeros_ok b) 5 _ (omega arith) a4.1 in
    let a6 = passed (tasks_ok (guest_of b)) 6 [] (omega arith) a5.1 in
    record { sums = a2.0; opens = a3.0; heads = a4.0; zeros = a5.0; tasks = a6.0 }

-- Such a block is refused by no number where another place, or another set of ids, is asked for and passes too.
pub passes_too : (b : List ℕ) (p q new fresh : Bool) → BlockIn b p new → q ≡ true → fresh ≡ true
    → block_number b q fresh ≡ 0
passes_too b p q new fresh i e d =
    sym
    (none b q fresh i.sums (and_true (and_left (kind_ok b) p i.opens) e)
    (and_true (and_left (guest_ok (guest_of b)) new i.heads) d) i.zeros i.tasks)

-- A word that must be zero is.
pub zero_at : (b : List ℕ) (from to k : ℕ) → from ≤ k → k < to → zero_between b from to ≡ true → word b k ≡ 0
unfolding zero_between
zero_at b from to k l h e =
    let q : from + (k - from) ≡ k = omega arith in
    rw q at
    (eqb-true (word b (from + (k - from))) 0
    (all_at (λ i. eqb (word b (from + i)) 0) (to - from) (k - from) (omega arith) e))

-- Words that are zero pass.
pub zeros_pass : (b : List ℕ) (from to : ℕ) → ((k : ℕ) → from ≤ k → k < to → word b k ≡ 0)
    → zero_between b from to ≡ true
unfolding zero_between
zeros_pass b from to h = all_by _ (to - from) (λ k l. eq-eqb _ _ (h (from + k) (omega arith) (omega arith)))

-- A column's number.
pub column_at : (b : List ℕ) (at : ℕ → ℕ) (i : ℕ) → i < most_tasks → nth (column b at) i ≡ word b (at i)
unfolding column
column_at b at i h = table_at (λ k. word b (at k)) 0 most_tasks i h

-- A list of numbers that are each the word asked for is the column.
pub column_by : (b : List ℕ) (at : ℕ → ℕ) (x : List ℕ) → length x ≡ most_tasks
    → ((i : ℕ) → i < most_tasks → nth x i ≡ word b (at i)) → x ≡ column b at
unfolding column
column_by b at x l h =
    ext_get_or 0 x _ (l ∙ sym (table_length (λ k. word b (at k)) most_tasks))
    (λ i m. h i (omega arith) ∙ sym (table_at (λ k. word b (at k)) 0 most_tasks i (omega arith)))
