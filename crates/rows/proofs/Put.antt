-- Columns put into a row, one after the other. Assumes nothing.
use mathlib.Core.Path.{◌≡◌, refl, sym, ◌∙◌}
use mathlib.Core.List.{List}
use Prim.Native.Nat.{ℕ, ◌+◌, ◌-◌, ◌*◌, ◌≤◌, ◌<◌}
use native.Mathlib.Omega.{arith}
use borrow.Rule.Slice.PartMut.{put_mid, same_len_mid, mid_len}
use Rattle.std.proofs.lemmas.List.{places}
use borrow.Author.Rules.{rules}
use lib.ListN.{length}
use Rattle.lists.specs.Places.{nth}
use Rattle.plan.specs.declared.Guest.{Guest}
use Rattle.rows.specs.Put.{ColumnPut}
use Rattle.rows.specs.Words.{column, guest_of}
use Rattle.lists.proofs.Table.{table_ext}
use Rattle.rows.proofs.Words.{table_of, low_half, high_half}

-- a column that is copied into a part of a row is put
pub put_is : (old : List ℕ) (first : ℕ) (x y : List ℕ) → length old ≡ 54 → length x ≡ 16 → first ≤ 38 → y ≡ x
    → ColumnPut old first x (put_mid first (first + 16 - first) old y)
put_is old first x y l m h e =
    let part = mid_len first (first + 16) old (omega arith) in
    let as_many : length y ≡ 16 = rw e m in record {
      long = same_len_mid first (first + 16 - first) old y (as_many ∙ sym (part ∙ omega arith)) ∙ l;
      before = λ i b. search (rules, places);
      here = λ i b. rw (← e) (search (rules, places));
    }

-- a column that was put is read there
pub put_column : {old : List ℕ} {first : ℕ} {x new : List ℕ} → ColumnPut old first x new → length x ≡ 16
    → column new first ≡ x
unfolding column
put_column {old} {first} {x} {new} s l =
    table_ext (λ i. nth new (first + i)) (nth x) 16 s.here ∙ table_of 0 x 16 l

-- a column before it is read as it was
pub put_before : {old : List ℕ} {first : ℕ} {x new : List ℕ} → ColumnPut old first x new → (at : ℕ) → at + 16 ≤ first
    → column new at ≡ column old at
unfolding column
put_before {old} {first} {x} {new} s at h = table_ext (λ i. nth new (at + i)) (λ i. nth old (at + i)) 16 (λ i l. s.before (at + i) (omega arith))

-- The six numbers before the columns of a row.
pub record Head (g : Guest) (row : List ℕ) : Type 0 where
  pub id : nth row 0 ≡ g.id
  pub capacity : nth row 1 ≡ g.capacity
  pub period : nth row 2 ≡ g.period
  pub tasks : nth row 3 ≡ g.tasks
  pub halves : nth row 4 ≡ g.charge + g.marks * 65536
  pub deferrable : nth row 5 ≡ g.deferrable

-- The columns of a record are whole.
pub record Whole (g : Guest) : Type 0 where
  pub run : length g.run ≡ 16
  pub every : length g.every ≡ 16
  pub deadline : length g.deadline ≡ 16
  pub charge : g.charge < 65536

-- a head stays where columns are put after it
head_stays : {g : Guest} {first : ℕ} {old x new : List ℕ} → ColumnPut old first x new → 6 ≤ first → Head g old → Head g new
head_stays s h d = record {
  id = s.before 0 (omega arith) ∙ d.id;
  capacity = s.before 1 (omega arith) ∙ d.capacity;
  period = s.before 2 (omega arith) ∙ d.period;
  tasks = s.before 3 (omega arith) ∙ d.tasks;
  halves = s.before 4 (omega arith) ∙ d.halves;
  deferrable = s.before 5 (omega arith) ∙ d.deferrable;
}

-- a head and the three columns put after it say the record
pub row_says : (g : Guest) {head one two row : List ℕ} → Whole g → Head g head → ColumnPut head 6 g.run one
    → ColumnPut one 22 g.every two → ColumnPut two 38 g.deadline row → guest_of row ≡ g
row_says g w h a b c =
    let d = head_stays c (omega arith) (head_stays b (omega arith) (head_stays a (omega arith) h)) in
    let run = put_before c 6 (omega arith) ∙ put_before b 6 (omega arith) ∙ put_column a w.run in
    let every = put_before c 22 (omega arith) ∙ put_column b w.every in
    let deadline = put_column c w.deadline in
    rw (
      d.id,
      d.capacity,
      d.period,
      d.tasks,
      d.halves,
      low_half g.charge g.marks w.charge,
      high_half g.charge g.marks w.charge,
      d.deferrable,
      run,
      every,
      deadline,
    ) refl
