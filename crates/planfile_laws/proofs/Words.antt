-- The words of a guest's block, one by one: the head, the entries, and zeros everywhere else. Assumes nothing.
use mathlib.Core.Path.{◌≡◌, refl, ◌∙◌}
use mathlib.Core.List.{List}
use Prim.Native.Nat.{ℕ, ◌≤◌, ◌<◌}
use native.Mathlib.Omega.{arith}
use lib.ListN.{set, replicate, get_or-replicate}
use lib.Seq.{get_or-set_other}
use Rattle.plan.specs.Ranges.{most_tasks}
use Rattle.block.specs.Layout.{block_words, kind_place_word, deferrable_server, last_place, id_word, capacity_word, period_word, tasks_charge_word, marks_server_word, spare_from, spare_to, first_task, unused_from, half_wrap, halves}
use Rattle.plan.specs.Marks.{live_marks}
use Rattle.words.specs.Word.{word_wrap}
use Rattle.words.specs.Bytes.{Below}
use Rattle.lists.specs.Places.{nth}
use Rattle.plan.specs.declared.Guest.{Guest}
use Rattle.plan.specs.Records.{run_of, every_of, deadline_of}
use Rattle.blockparts.specs.Parts.{with_entries}
use Rattle.blockwriter.specs.Writing.{server_for, kind_for, with_kind, with_head, words_of}
use Rattle.planfile_laws.specs.Fits.{GuestInTypes}
use Rattle.blockparts.proofs.Words.{set_fits, zeros_fit, EntryAt, entries_before, entries_after, entries_at, entries_fit}
use Rattle.blockwriter.proofs.Writing.{live_fits, head_length}
use Rattle.planfile_laws.proofs.Marks.{server_most, kind_most}

-- Before anything is put in, all words are zero.
zeros : List ℕ
zeros = replicate block_words 0

module _ (g : Guest) (p : ℕ) where
  -- The head's words.
  head_opening : nth (with_head g p zeros) kind_place_word ≡ halves (kind_for (live_marks g) (server_for g)) p
  unfolding with_head with_kind zeros
  head_opening = refl

  head_id : nth (with_head g p zeros) id_word ≡ g.id
  unfolding with_head with_kind zeros
  head_id = refl

  head_capacity : nth (with_head g p zeros) capacity_word ≡ g.capacity
  unfolding with_head with_kind zeros
  head_capacity = refl

  head_period : nth (with_head g p zeros) period_word ≡ g.period
  unfolding with_head with_kind zeros
  head_period = refl

  head_tasks : nth (with_head g p zeros) tasks_charge_word ≡ halves g.tasks g.charge
  unfolding with_head with_kind zeros
  head_tasks = refl

  head_marks : nth (with_head g p zeros) marks_server_word ≡ halves (live_marks g) (server_for g)
  unfolding with_head with_kind zeros
  head_marks = refl

  -- The words past the head are zero.
  head_past : (k : ℕ) → spare_from ≤ k → k < block_words → nth (with_head g p zeros) k ≡ 0
  unfolding with_head with_kind zeros
  head_past k h l =
      let x : List ℕ = replicate block_words 0 in
      let y : List ℕ = set x kind_place_word (halves (kind_for (live_marks g) (server_for g)) p) in
      let x0 : List ℕ = set y marks_server_word (halves (live_marks g) (server_for g)) in
      let x1 : List ℕ = set x0 id_word g.id in
      let x2 : List ℕ = set x1 capacity_word g.capacity in
      let x3 : List ℕ = set x2 period_word g.period in
      get_or-set_other x3 tasks_charge_word k (halves g.tasks g.charge) 0 (λ q. omega arith)
      ∙ get_or-set_other x2 period_word k g.period 0 (λ q. omega arith)
      ∙ get_or-set_other x1 capacity_word k g.capacity 0 (λ q. omega arith)
      ∙ get_or-set_other x0 id_word k g.id 0 (λ q. omega arith)
      ∙ get_or-set_other y marks_server_word k (halves (live_marks g) (server_for g)) 0 (λ q. omega arith)
      ∙ get_or-set_other x kind_place_word k (halves (kind_for (live_marks g) (server_for g)) p) 0 (λ q. omega arith)
      ∙ get_or-replicate block_words k 0 0 l

  kind_fits : p ≤ last_place → g.tasks ≤ most_tasks → Below word_wrap (with_kind (live_marks g) (server_for g) p zeros)
  unfolding with_kind zeros
  kind_fits l h =
      let k = kind_most (live_marks g) (server_for g) in
      let m : live_marks g < half_wrap = live_fits g.marks g.tasks h in
      let s : server_for g ≤ deferrable_server = server_most g.deferrable in
      let v : ℕ = halves (kind_for (live_marks g) (server_for g)) p in
      set_fits word_wrap (set zeros kind_place_word v) marks_server_word (halves (live_marks g) (server_for g))
      (set_fits word_wrap zeros kind_place_word v zeros_fit (omega (arith, k, l)))
      (omega (arith, m, s))

  head_fits : GuestInTypes g → p ≤ last_place → g.tasks ≤ most_tasks → Below word_wrap (with_head g p zeros)
  unfolding with_head
  head_fits f l h =
      let c = f.charge in
      let y1 : List ℕ = with_kind (live_marks g) (server_for g) p zeros in
      let y2 : List ℕ = set y1 id_word g.id in
      let y3 : List ℕ = set y2 capacity_word g.capacity in
      let y4 : List ℕ = set y3 period_word g.period in
      let f1 : Below word_wrap y1 = kind_fits l h in
      let f2 : Below word_wrap y2 = set_fits word_wrap y1 id_word g.id f1 f.id in
      let f3 : Below word_wrap y3 = set_fits word_wrap y2 capacity_word g.capacity f2 f.capacity in
      let f4 : Below word_wrap y4 = set_fits word_wrap y3 period_word g.period f3 f.period in
      set_fits word_wrap y4 tasks_charge_word (halves g.tasks g.charge) f4 (omega arith)

  -- The words of the block but for the check.
  pub record WordsAt : Type 0 where
    pub kind_place : nth (words_of g p) kind_place_word ≡ halves (kind_for (live_marks g) (server_for g)) p
    pub id : nth (words_of g p) id_word ≡ g.id
    pub capacity : nth (words_of g p) capacity_word ≡ g.capacity
    pub period : nth (words_of g p) period_word ≡ g.period
    pub tasks_charge : nth (words_of g p) tasks_charge_word ≡ halves g.tasks g.charge
    pub marks_server : nth (words_of g p) marks_server_word ≡ halves (live_marks g) (server_for g)
    pub spare : (k : ℕ) → spare_from ≤ k → k < spare_to → nth (words_of g p) k ≡ 0
    pub entry : (i : ℕ) → i < g.tasks
        → EntryAt first_task (words_of g p) i (run_of g i) (every_of g i) (deadline_of g i)
    pub unused : (k : ℕ) → unused_from g.tasks ≤ k → k < block_words → nth (words_of g p) k ≡ 0

  pub words_at : g.tasks ≤ most_tasks → WordsAt
  unfolding words_of zeros
  words_at h =
      let x : List ℕ = with_head g p zeros in
      let y : List ℕ = with_entries first_task (run_of g) (every_of g) (deadline_of g) g.tasks x in
      let before : (k : ℕ) → k < spare_to → nth y k ≡ nth x k =
      entries_before first_task (run_of g) (every_of g) (deadline_of g) g.tasks x in
      record {
        kind_place = before kind_place_word (omega arith) ∙ head_opening;
        id = before id_word (omega arith) ∙ head_id;
        capacity = before capacity_word (omega arith) ∙ head_capacity;
        period = before period_word (omega arith) ∙ head_period;
        tasks_charge = before tasks_charge_word (omega arith) ∙ head_tasks;
        marks_server = before marks_server_word (omega arith) ∙ head_marks;
        spare = λ k l m. before k m ∙ head_past k l (omega arith);
        entry =
            entries_at first_task (run_of g) (every_of g) (deadline_of g) g.tasks x (omega arith)
            (head_length g p zeros);
        unused =
            λ k l m.
            entries_after first_task (run_of g) (every_of g) (deadline_of g) g.tasks x k l ∙ head_past k (omega arith) m;
      }

  pub words_fit : GuestInTypes g → p ≤ last_place → g.tasks ≤ most_tasks → Below word_wrap (words_of g p)
  unfolding words_of zeros
  words_fit f l h =
      entries_fit first_task (run_of g) (every_of g) (deadline_of g) word_wrap g.tasks (with_head g p zeros)
      (λ i _. (f.run i, (f.every i, f.deadline i))) (head_fits f l h)
