-- One block read back: each word of the bytes is the one meant, so every test passes and the record is the guest's.
-- Assumes nothing.
use mathlib.Core.Path.{◌≡◌, refl, sym, ap, ◌∙◌}
use mathlib.Core.Bool.{Bool, true, ◌&&◌}
use mathlib.Core.List.{List}
use Prim.Native.Nat.{ℕ, ◌≤◌, ◌<◌}
use native.Mathlib.Decide.{dec_lt}
use native.Mathlib.Omega.{arith}
use lib.Dec.{ltb}
use borrow.Author.Tests.{eq-eqb, lt-ltb, le-ltb}
use Rattle.plan.specs.Ranges.{most_tasks, guest_ok, tasks_ok}
use Rattle.plan.specs.Marks.{live_marks}
use Rattle.block.specs.Layout.{kind_place_word, last_place, id_word, capacity_word, period_word, tasks_charge_word, marks_server_word, spare_from, spare_to, run_word, every_word, deadline_word, unused_from, check_word, high_half, halves}
use Rattle.words.specs.Word.{word_wrap, word}
use Rattle.words.specs.Bytes.{Below}
use Rattle.block.specs.Reading.{place_in, task_count, column, guest_of, sums_to_zero, kind_ok, own_place, zeros_ok, block_number}
use Rattle.lists.specs.All.{all_to}
use Rattle.lists.specs.Choice.{pick}
use Rattle.lists.specs.Places.{nth}
use Rattle.plan.specs.declared.Guest.{Guest}
use Rattle.blockwriter.specs.Writing.{server_for, kind_for, words_of, block_of}
use Rattle.planfile_laws.specs.File.{first_tasks, cleared_guest}
use Rattle.planfile_laws.specs.Fits.{GuestInTypes}
use Rattle.lists.proofs.All.{and_left, and_right, and_true, all_ext}
use Rattle.lists.proofs.Table.{table_at, table_ext}
use Rattle.plan.proofs.MarksLaws.{marks_same, marks_below}
use Rattle.plan.proofs.RangesLaws.{head_says}
use Rattle.block.proofs.Reading.{none, zeros_pass}
use Rattle.blockparts.proofs.Words.{word_back, sums_back}
use Rattle.blockwriter.proofs.Writing.{words_length}
use Rattle.planfile_laws.proofs.Marks.{server_most, kind_most, Opened, marks_there, server_there, kind_passes, marks_pass}
use Rattle.planfile_laws.proofs.Words.{WordsAt, words_at, words_fit}

module _ (g : Guest) (p : ℕ) (fits : GuestInTypes g) (low : p ≤ last_place) (head : guest_ok g ≡ true)
    (tasks : tasks_ok g ≡ true) where
  few : g.tasks ≤ most_tasks
  few = (head_says g.id g.capacity g.period g.tasks head).few

  written : WordsAt g p
  written = words_at g p few

  fit : Below word_wrap (words_of g p)
  fit = words_fit g p fits low few

  -- Each word of the bytes is the one meant.
  at : (k : ℕ) → k < check_word → word (block_of g p) k ≡ nth (words_of g p) k
  unfolding block_of
  at = word_back (words_of g p) (words_length g p) fit

  sums : sums_to_zero (block_of g p) ≡ true
  unfolding block_of
  sums = sums_back (words_of g p) (words_length g p) fit

  -- The number of tasks, the kind, the marks and the server are the guest's.
  count_is : task_count (block_of g p) ≡ g.tasks
  count_is = let e = at tasks_charge_word (omega arith) ∙ written.tasks_charge in omega (arith, e, few)

  opening : word (block_of g p) kind_place_word ≡ halves (kind_for (live_marks g) (server_for g)) p
  opening = at kind_place_word (omega arith) ∙ written.kind_place

  opened : Opened (block_of g p) (live_marks g) (server_for g)
  opened = record {
    kind = omega (arith, opening, kind_most (live_marks g) (server_for g));
    at = at marks_server_word (omega arith) ∙ written.marks_server;
    few = rw count_is few;
    below = rw count_is (marks_below g.marks g.tasks);
    last = server_most g.deferrable;
  }

  opens : (kind_ok (block_of g p) && own_place (block_of g p) p) ≡ true
  opens =
      and_true (kind_passes (block_of g p) (live_marks g) (server_for g) opened)
      (eq-eqb (place_in (block_of g p)) p (omega (arith, opening, kind_most (live_marks g) (server_for g))))

  -- A column of the block is the guest's, with zeros past the tasks.
  column_is :
      (at-word : ℕ → ℕ) (xs : List ℕ)
      → ((i : ℕ) → i < most_tasks → word (block_of g p) (at-word i) ≡ pick (ltb i g.tasks) (nth xs i) 0)
      → column (block_of g p) at-word ≡ first_tasks g.tasks xs
  unfolding column first_tasks
  column_is at-word xs h = table_ext _ _ most_tasks h

  -- A word of entry i is the task's number, or zero past the tasks.
  entry_is : (i k v : ℕ) → k < check_word → (i < g.tasks → nth (words_of g p) k ≡ v)
      → (g.tasks ≤ i → unused_from g.tasks ≤ k) → word (block_of g p) k ≡ pick (ltb i g.tasks) v 0
  entry_is i k v l used past =
      elim (dec_lt i g.tasks) [
        | yes m ↦ at k l ∙ used m ∙ rw (lt-ltb i g.tasks m) refl
        | no m ↦ at k l
            ∙ written.unused k (past (omega arith)) (omega arith)
            ∙ rw (le-ltb i g.tasks (omega arith)) refl
      ]

  record_is : guest_of (block_of g p) ≡ cleared_guest g
  record_is =
      let w4 : word (block_of g p) tasks_charge_word ≡ halves g.tasks g.charge =
      at tasks_charge_word (omega arith) ∙ written.tasks_charge in
      let e1 : word (block_of g p) id_word ≡ g.id = at id_word (omega arith) ∙ written.id in
      let e2 : word (block_of g p) capacity_word ≡ g.capacity = at capacity_word (omega arith) ∙ written.capacity in
      let e3 : word (block_of g p) period_word ≡ g.period = at period_word (omega arith) ∙ written.period in
      let e5 : high_half (word (block_of g p) tasks_charge_word) ≡ g.charge = omega (arith, few) in
      let e6 = marks_there (block_of g p) (live_marks g) (server_for g) opened in
      let e7 = server_there (block_of g p) (live_marks g) (server_for g) opened in
      let r =
      column_is run_word g.run
      (λ i l. entry_is i (run_word i) (nth g.run i) (omega arith)
      (λ m. (written.entry i m).one) (λ m. omega arith)) in
      let e =
      column_is every_word g.every
      (λ i l. entry_is i (every_word i) (nth g.every i) (omega arith)
      (λ m. (written.entry i m).two) (λ m. omega arith)) in
      let d =
      column_is deadline_word g.deadline
      (λ i l. entry_is i (deadline_word i) (nth g.deadline i) (omega arith)
      (λ m. (written.entry i m).three) (λ m. omega arith)) in
      λ k.
      record {
        id = e1 k;
        capacity = e2 k;
        period = e3 k;
        tasks = count_is k;
        charge = e5 k;
        marks = e6 k;
        deferrable = e7 k;
        run = r k;
        every = e k;
        deadline = d k;
      }

  -- A task's numbers are kept.
  first_at_lem : (xs : List ℕ) (i : ℕ) → i < g.tasks → nth (first_tasks g.tasks xs) i ≡ nth xs i
  unfolding first_tasks
  first_at_lem xs i l =
      table_at (λ i. pick (ltb i g.tasks) (nth xs i) 0) 0 most_tasks i (omega (arith, few))
      ∙ rw (lt-ltb i g.tasks l) refl

  tasks_pass : tasks_ok (cleared_guest g) ≡ true
  unfolding tasks_ok
  tasks_pass =
      and_true
      (all_ext _ _ g.tasks
      (λ i l. rw (first_at_lem g.run i l, first_at_lem g.every i l, first_at_lem g.deadline i l) refl)
      ∙ and_left (all_to _ g.tasks) _ tasks)
      (all_ext _ _ g.tasks
      (λ i l. rw (marks_same g.marks g.tasks i l, first_at_lem g.every i l) refl)
      ∙ and_right (all_to _ g.tasks) _ tasks)

  zeros : zeros_ok (block_of g p) ≡ true
  zeros =
      and_true
      (and_true (marks_pass (block_of g p) (live_marks g) (server_for g) opened)
      (zeros_pass (block_of g p) spare_from spare_to (λ k h l. at k (omega arith) ∙ written.spare k h l)))
      (rw count_is
      (zeros_pass (block_of g p) (unused_from g.tasks) check_word
      (λ k h l. at k l ∙ written.unused k h (omega arith))))

  -- What the reader says of a guest's block.
  pub number_back : (new : Bool) → new ≡ true → block_number (block_of g p) (own_place (block_of g p) p) new ≡ 0
  number_back new e =
      sym
      (none (block_of g p) (own_place (block_of g p) p) new sums opens (and_true (ap guest_ok record_is ∙ head) e) zeros
      (ap tasks_ok record_is ∙ tasks_pass))

  pub guest_back : guest_of (block_of g p) ≡ cleared_guest g
  guest_back = record_is
