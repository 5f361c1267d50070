-- How the code comes to the block written. Assumes nothing.
use mathlib.Core.Path.{◌≡◌, refl, sym, ap, ◌∙◌}
use mathlib.Core.Bool.{true}
use mathlib.Core.List.{List, [], ◌++◌}
use Prim.Native.Nat.{ℕ, ◌^◌, ◌≤◌, ◌<◌}
use native.Mathlib.Nat.{pow-le-pow_right}
use native.Mathlib.Omega.{arith}
use lib.ListN.{length, set, drop, replicate, length-set, length-replicate}
use lib.Dec.{leb}
use borrow.Author.Tests.{le-leb, leb-true, eqb-true}
use Rattle.lists.specs.Places.{nth}
use Rattle.words.specs.Bytes.{with_word}
use Rattle.plan.specs.declared.Guest.{Guest}
use Rattle.plan.specs.Records.{run_of, every_of, deadline_of}
use Rattle.plan.specs.Marks.{marks_of, live_marks}
use Rattle.plan.specs.Ranges.{guest_ok, tasks_ok, most_tasks}
use Rattle.plan.specs.First.{fine}
use Rattle.plan.specs.Server.{is_periodic}
use Rattle.block.specs.Layout.{block_size, block_words, kind_place_word, last_place, id_word, capacity_word, period_word, tasks_charge_word, marks_server_word, first_task, half_wrap, halves}
use Rattle.blockparts.specs.Parts.{with_check}
use Rattle.blockwriter.specs.Writing.{server_of, server_for, kind_for, with_kind, with_head, words_of, block_of, write_number, write_refusal, written}
use Rattle.words.proofs.Bytes.{length_bytes_of, put_set}
use Rattle.lists.proofs.Refusals.{none_left, go_on, passed}
use Rattle.plan.proofs.MarksLaws.{marks_below}
use Rattle.blockparts.proofs.Parts.{by_refused, laid, zeros_laid, put_laid, entries_length}

-- A record that passes every test is refused by no number.
pub none : (g : Guest) (p n : ℕ) → block_size ≤ n → p ≤ last_place → guest_ok g ≡ true → tasks_ok g ≡ true
    → is_periodic g ≡ true → 0 ≡ write_number g p n
unfolding write_number
none g p n h l o t e =
    sym
    (go_on 12 _ (le-leb block_size n h) ∙ go_on 3 _ (le-leb p last_place l) ∙ go_on 4 _ o ∙ go_on 6 _ t ∙ go_on 23 _ e
    ∙ none_left)

-- A record that the writer does not refuse is a Periodic guest's in its ranges, and there is room for its block.
pub record WriteIn (g : Guest) (p n : ℕ) : Type 0 where
  pub room : block_size ≤ n
  pub low : p ≤ last_place
  pub head : guest_ok g ≡ true
  pub tasks : tasks_ok g ≡ true
  pub periodic : g.deferrable ≡ 0

pub write_in : (g : Guest) (p n : ℕ) → write_number g p n ≡ 0 → WriteIn g p n
unfolding write_number
write_in g p n e =
    let a12 = passed (leb block_size n) 12 _ (omega arith) e in
    let a3 = passed (leb p last_place) 3 _ (omega arith) a12.1 in
    let a4 = passed (guest_ok g) 4 _ (omega arith) a3.1 in
    let a6 = passed (tasks_ok g) 6 _ (omega arith) a4.1 in
    let a23 = passed (is_periodic g) 23 [] (omega arith) a6.1 in
    record {
      room = leb-true block_size n a12.0;
      low = leb-true p last_place a3.0;
      head = a4.0;
      tasks = a6.0;
      periodic = eqb-true g.deferrable 0 a23.0;
    }

-- Putting numbers in keeps the length.
kind_length : (m s p : ℕ) (x : List ℕ) → length (with_kind m s p x) ≡ length x
unfolding with_kind
kind_length m s p x = simp length-set

pub head_length : (g : Guest) (p : ℕ) (x : List ℕ) → length (with_head g p x) ≡ length x
unfolding with_head
head_length g p x = simp length-set (kind_length (live_marks g) (server_for g) p x)

-- Marks of at most 16 tasks fit a half of a word.
pub half_fits : (marks n : ℕ) → n ≤ most_tasks → marks < 2 ^ n → marks < half_wrap
half_fits marks n h l = let s : 2 ^ n ≤ 2 ^ most_tasks = pow-le-pow_right (omega arith) h in omega (arith, l, s)

pub live_fits : (marks n : ℕ) → n ≤ most_tasks → marks_of marks n < half_wrap
live_fits marks n h = half_fits (marks_of marks n) n h (marks_below marks n)

-- Bytes with kind, place, marks and server put in.
abbrev with_opening : List ℕ → (marks server place : ℕ) → List ℕ
with_opening b marks server place =
    with_word (with_word b kind_place_word (halves (kind_for marks server) place)) marks_server_word (halves marks server)

-- Kind, place, marks and server put into them.
kind_laid : (m s p : ℕ) (x t : List ℕ) → length x ≡ block_words
    → with_opening (laid x t) m s p ≡ laid (with_kind m s p x) t
unfolding with_kind
kind_laid m s p x t l =
    let x0 : List ℕ = set x kind_place_word (halves (kind_for m s) p) in
    let l0 : length x0 ≡ block_words = length-set x kind_place_word (halves (kind_for m s) p) ∙ l in
    put_laid x0 t _ _ marks_server_word (halves m s) l0 (omega arith)
    (put_set x block_words kind_place_word (halves (kind_for m s) p) t l (omega arith)) refl

-- The head of a Periodic guest put into them, one word after the other.
pub head_puts :
    (g : Guest) (p : ℕ) (b z b0 b1 b2 b3 b4 : List ℕ)
    → g.deferrable ≡ 0
    → z ≡ replicate block_size 0 ++ drop block_size b
    → b0 ≡ with_opening z (live_marks g) 0 p
    → b1 ≡ with_word b0 id_word g.id
    → b2 ≡ with_word b1 capacity_word g.capacity
    → b3 ≡ with_word b2 period_word g.period
    → b4 ≡ with_word b3 tasks_charge_word (halves g.tasks g.charge)
    → b4 ≡ laid (with_head g p (replicate block_words 0)) (drop block_size b)
unfolding with_head
head_puts g p b z b0 b1 b2 b3 b4 periodic e e0 e1 e2 e3 e4 =
    let t : List ℕ = drop block_size b in
    let x : List ℕ = replicate block_words 0 in
    let x0 : List ℕ = with_kind (live_marks g) (server_for g) p x in
    let x1 : List ℕ = set x0 id_word g.id in
    let x2 : List ℕ = set x1 capacity_word g.capacity in
    let x3 : List ℕ = set x2 period_word g.period in
    let l : length x ≡ block_words = length-replicate {A = ℕ} block_words 0 in
    let l0 : length x0 ≡ block_words = kind_length (live_marks g) (server_for g) p x ∙ l in
    let l1 : length x1 ≡ block_words = length-set x0 id_word g.id ∙ l0 in
    let l2 : length x2 ≡ block_words = length-set x1 capacity_word g.capacity ∙ l1 in
    let l3 : length x3 ≡ block_words = length-set x2 period_word g.period ∙ l2 in
    let o : b0 ≡ with_opening z (live_marks g) (server_for g) p =
    e0 ∙ ap (λ (d : ℕ). with_opening z (live_marks g) (server_of d) p) (sym periodic) in
    let f0 : b0 ≡ laid x0 t = o ∙ rw (e ∙ zeros_laid t) (kind_laid (live_marks g) (server_for g) p x t l) in
    let f1 : b1 ≡ laid x1 t = put_laid x0 t b0 b1 id_word g.id l0 (omega arith) f0 e1 in
    let f2 : b2 ≡ laid x2 t = put_laid x1 t b1 b2 capacity_word g.capacity l1 (omega arith) f1 e2 in
    let f3 : b3 ≡ laid x3 t = put_laid x2 t b2 b3 period_word g.period l2 (omega arith) f2 e3 in
    put_laid x3 t b3 b4 tasks_charge_word (halves g.tasks g.charge) l3 (omega arith) f3 e4

-- The words have their number.
pub words_count : (g : Guest) (p : ℕ) → length (with_head g p (replicate block_words 0)) ≡ block_words
words_count g p = head_length g p (replicate block_words 0) ∙ length-replicate {A = ℕ} block_words 0

pub words_length : (g : Guest) (p : ℕ) → length (words_of g p) ≡ block_words
unfolding words_of
words_length g p =
    entries_length first_task (run_of g) (every_of g) (deadline_of g) g.tasks (with_head g p (replicate block_words 0))
    ∙ words_count g p

-- A block has 512 bytes.
pub block_length : (g : Guest) (p : ℕ) → length (block_of g p) ≡ block_size
unfolding block_of
block_length g p = length_bytes_of (nth (with_check (words_of g p))) block_words

-- A refused write leaves every byte as it was.
pub refused_write_same : (g : Guest) (place : ℕ) (before : List ℕ) → 0 < (write_refusal g place (length before)).number
    → written g place before ≡ before
refused_write_same g place before h =
    sym (by_refused (write_number g place (length before)) (block_of g place) before h)

-- A write that is not refused has number and place 0.
pub write_fine : (g : Guest) (place n : ℕ) → (write_refusal g place n).number ≡ 0 → write_refusal g place n ≡ fine
write_fine g place n e = rw e refl
