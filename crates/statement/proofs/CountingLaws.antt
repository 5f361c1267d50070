-- Laws of counting: a line has at most one job more after an entry, lines stay in their ranges, and a block's entries
-- are counted one by one. Assumes nothing.
use mathlib.Core.Path.{◌≡◌, refl, ap, ◌∙◌}
use mathlib.Core.Bool.{Bool, true, false}
use mathlib.Core.List.{List}
use Prim.Native.Nat.{ℕ, zero, suc, ◌+◌, ◌*◌, ◌≤◌, ◌<◌, max}
use native.Mathlib.Decide.{ℕ_discrete, dec_lt}
use native.Mathlib.Numerals.{add-one}
use native.Mathlib.Omega.{arith}
use lib.Dec.{ltb}
use lib.IntN.{ℤ, pos, nat_abs, ◌+ℤ◌}
use lib.ListN.{length, get_or, set, length-set}
use lib.Seq.{get_or-set_same, get_or-set_other, set_out}
use Rattle.lists.specs.Choice.{pick}
use Rattle.lists.specs.Places.{nth}
use Rattle.plan.specs.declared.Plan.{Plan}
use Rattle.plan.specs.Ranges.{longest}
use Rattle.margins.specs.Margin.{margin_of, widest}
use Rattle.logblock.specs.Layout.{most_jobs}
use Rattle.logblock.specs.Reading.{jobs_in, entry_in}
use Rattle.statement.specs.declared.Statement.{Statement}
use Rattle.statement.specs.Lines.{most_lines, margins_at, Lined}
use Rattle.statement.specs.Counting.{line_of, deadline_for, counted_at, entries_counted, block_counted}
use Rattle.statement.specs.Lent.{AtMost, RoomAt, EntryIn, Countable}
use Rattle.margins.proofs.Margin.{margin_size, sum_size}
use Rattle.statement.proofs.Lines.{LineIn, LinesIn}

-- What holds of the number that is written and of the one that stood there holds after the write.
written :
    {A : Type 0} (P : A → Type 0) (l : List A) (k : ℕ) (v d : A) (j : ℕ)
    → P v
    → P (get_or l j d)
    → P (get_or (set l k v) j d)
written P l k v d j p q =
    elim (ℕ_discrete j k) [
      | yes e ↦
          elim (dec_lt k (length l)) [
            | yes h ↦ rw (e, get_or-set_same l k v d h) p
            | no h ↦ rw (set_out l k v (omega arith)) q
          ]
      | no e ↦ rw (get_or-set_other l k j v d e) q
    ]

-- A job is late at most once.
pub late_once : (b : Bool) → pick b 1 0 ≤ 1
late_once true = omega arith
late_once false = omega arith

-- The sum of so many margins and one more.
one_margin_more :
    (m : ℤ) (d a most : ℕ)
    → (1 ≤ d) × (d ≤ longest)
    → (1 ≤ a) × (a ≤ longest)
    → nat_abs m ≤ widest * most
    → nat_abs (m +ℤ margin_of d a) ≤ widest * (most + 1)
one_margin_more m d a most due age h =
    omega (arith, sum_size m (margin_of d a), margin_size d a due.0 due.1 age.0 age.1)

module _ (k d a : ℕ) (line : k < most_lines) (due : (1 ≤ d) × (d ≤ longest)) (age : (1 ≤ a) × (a ≤ longest))
    {most : ℕ} (s : Statement) where
  -- A line has at most one job more than before.
  at_most_next : AtMost most s → AtMost (most + 1) (counted_at k d a s)
  unfolding counted_at
  at_most_next A = record {
    jobs = λ j h.
        written (λ x. x ≤ most + 1) s.jobs k _ 0 j (omega (arith, A.jobs k line)) (omega (arith, A.jobs j h));
    late = λ j h.
        written (λ x. x ≤ most + 1) s.late k _ 0 j (omega (arith, A.late k line, late_once (ltb d a)))
        (omega (arith, A.late j h));
    margins = λ j h.
        written (λ x. nat_abs x ≤ widest * (most + 1)) s.margins k _ (pos 0) j
        (one_margin_more (margins_at s k) d a most due age (A.margins k line)) (omega (arith, A.margins j h));
  }

  -- Lines in their ranges stay there.
  module _ (S : Lined s) (L : LinesIn most s) where
    here : LineIn (most + 1) (counted_at k d a s) k
    unfolding counted_at
    here =
        let j = get_or-set_same s.jobs k (nth s.jobs k + 1) 0 (omega (arith, S.jobs)) in
        let t = get_or-set_same s.late k (nth s.late k + pick (ltb d a) 1 0) 0 (omega (arith, S.late)) in
        record {
          jobs = omega (arith, j, (L k line).jobs);
          late = omega (arith, j, t, (L k line).late, late_once (ltb d a));
          oldest =
              rw (get_or-set_same s.longest k (max (nth s.longest k) a) 0 (omega (arith, S.longest)))
              (omega (arith, (L k line).oldest));
          margins =
              rw (j, get_or-set_same s.margins k (margins_at s k +ℤ margin_of d a) (pos 0) (omega (arith, S.margins)))
              (one_margin_more (margins_at s k) d a (nth s.jobs k) due age (L k line).margins);
        }

    there : (j : ℕ) → j < most_lines → (j ≡ k → ⊥) → LineIn (most + 1) (counted_at k d a s) j
    unfolding counted_at
    there j h n = record {
      jobs = rw (get_or-set_other s.jobs k j (nth s.jobs k + 1) 0 n) (omega (arith, (L j h).jobs));
      late = rw (
        get_or-set_other s.late k j (nth s.late k + pick (ltb d a) 1 0) 0 n,
        get_or-set_other s.jobs k j (nth s.jobs k + 1) 0 n,
      )
          (L j h).late;
      oldest = rw (get_or-set_other s.longest k j (max (nth s.longest k) a) 0 n) (L j h).oldest;
      margins = rw (
        get_or-set_other s.margins k j (margins_at s k +ℤ margin_of d a) (pos 0) n,
        get_or-set_other s.jobs k j (nth s.jobs k + 1) 0 n,
      )
          (L j h).margins;
    }

    lines_next : LinesIn (most + 1) (counted_at k d a s)
    lines_next j h =
        elim (ℕ_discrete j k) [
          | yes e ↦ rw e here
          | no e ↦ there j h e
        ]

-- The lines are still 128.
lined_next : (k d a : ℕ) (s : Statement) → Lined s → Lined (counted_at k d a s)
unfolding counted_at
lined_next k d a s S = record {
  margins = length-set s.margins k _ ∙ S.margins;
  jobs = length-set s.jobs k _ ∙ S.jobs;
  longest = length-set s.longest k _ ∙ S.longest;
  late = length-set s.late k _ ∙ S.late;
}

module _ (p : Plan) (b : List ℕ) where
  -- Before the first entry nothing is counted, and then one entry after the other.
  pub none_counted : (s : Statement) → s ≡ entries_counted p b 0 s
  unfolding entries_counted
  none_counted s = refl

  next_counted :
      (n : ℕ) (s : Statement)
      → counted_at (line_of p (entry_in b n)) (deadline_for p (entry_in b n)) (entry_in b n).age
      (entries_counted p b n s)
      ≡ entries_counted p b (n + 1) s
  unfolding entries_counted
  next_counted n s = rw add-one refl

  -- Entries leave the number of blocks as it is.
  pub same_blocks : (n : ℕ) (s : Statement) → (entries_counted p b n s).blocks ≡ s.blocks
  unfolding entries_counted counted_at
  same_blocks zero s = refl
  same_blocks (suc n) s = same_blocks n s

  -- A block that is counted is one more.
  pub blocks_next : (s : Statement) → (block_counted p b s).blocks ≡ s.blocks + 1
  unfolding block_counted
  blocks_next s = ap (λ (x : ℕ). x + 1) (same_blocks (jobs_in b) s)

  -- n entries put at most n jobs into a line.
  at_most_after :
      (n : ℕ) {most : ℕ} (s : Statement)
      → ((i : ℕ) → i < n → EntryIn p (entry_in b i))
      → AtMost most s
      → AtMost (most + n) (entries_counted p b n s)
  unfolding entries_counted
  at_most_after zero {most} s E A = let e : most + 0 ≡ most = omega arith in rw e A
  at_most_after (suc n) {most} s E A =
      let e : most + suc n ≡ most + n + 1 = omega arith in
      let i = E n (omega arith) in
      rw e
      (at_most_next _ _ _ i.line i.due i.age (entries_counted p b n s)
      (at_most_after n s (λ j h. E j (omega arith)) A))

  -- A turn of the loop over a block's entries, at the lines and by the deadlines that are lent.
  module _ {n i : ℕ} {at deadlines : List ℕ} (C : Countable p b n at deadlines) (h : i < n) where
    -- The entry's line is one of the 128.
    pub line_inside : nth at i < most_lines
    line_inside = rw (C.lines i h) (C.entries i h).line

    -- There is room for the entry.
    pub room_for :
        {most : ℕ} (s : Statement)
        → most + n < 4294967296
        → AtMost most s
        → RoomAt (nth at i) (nth deadlines (nth at i)) (entry_in b i).age (most + i) (entries_counted p b i s)
    room_for {most} s l A =
        let E = C.entries i h in
        rw (C.lines i h, C.due i h) record {
          line = E.line;
          due = E.due;
          age = E.age;
          few = omega arith;
          at_most = at_most_after i s (λ j m. C.entries j (omega arith)) A;
        }

    -- The entry is counted.
    pub counted_next :
        (s : Statement)
        → counted_at (nth at i) (nth deadlines (nth at i)) (entry_in b i).age (entries_counted p b i s)
        ≡ entries_counted p b (i + 1) s
    counted_next s = rw (C.lines i h, C.due i h) (next_counted i s)

  -- n entries leave lines in their ranges, with at most n jobs more.
  lines_after :
      (n : ℕ) {most : ℕ} (s : Statement)
      → ((i : ℕ) → i < n → EntryIn p (entry_in b i))
      → Lined s × LinesIn most s
      → Lined (entries_counted p b n s) × LinesIn (most + n) (entries_counted p b n s)
  unfolding entries_counted
  lines_after zero {most} s E (S, L) = let e : most + 0 ≡ most = omega arith in (S, rw e L)
  lines_after (suc n) {most} s E SL =
      let e : most + suc n ≡ most + n + 1 = omega arith in
      let i = E n (omega arith) in
      let r = lines_after n s (λ j h. E j (omega arith)) SL in (
        lined_next _ _ _ (entries_counted p b n s) r.0,
        rw e (lines_next _ _ _ i.line i.due i.age (entries_counted p b n s) r.0 r.1),
      )

  module _ (s : Statement) (few : jobs_in b ≤ most_jobs) (E : (i : ℕ) → i < jobs_in b → EntryIn p (entry_in b i)) where
    -- After a block a line has at most 41 jobs for each block, if it had before.
    pub block_at_most :
        AtMost (most_jobs * s.blocks) s → AtMost (most_jobs * (block_counted p b s).blocks) (block_counted p b s)
    unfolding block_counted
    block_at_most A =
        let C = at_most_after (jobs_in b) s E A in
        let e = same_blocks (jobs_in b) s in
        record {
          jobs = λ k h. omega (arith, C.jobs k h);
          late = λ k h. omega (arith, C.late k h);
          margins = λ k h. omega (arith, C.margins k h);
        }

    -- After a block lines are in their ranges, if they were before.
    pub block_lines :
        Lined s
        → LinesIn (most_jobs * s.blocks) s
        → LinesIn (most_jobs * (block_counted p b s).blocks) (block_counted p b s)
    unfolding block_counted
    block_lines S L k h =
        let C = (lines_after (jobs_in b) s E (S, L)).1 k h in
        let e = same_blocks (jobs_in b) s in
        record { jobs = omega arith; late = C.late; oldest = C.oldest; margins = C.margins }

    -- A block leaves 128 lines.
    pub block_lined : Lined s → LinesIn (most_jobs * s.blocks) s → Lined (block_counted p b s)
    unfolding block_counted
    block_lined S L =
        let C = (lines_after (jobs_in b) s E (S, L)).0 in
        record { margins = C.margins; jobs = C.jobs; longest = C.longest; late = C.late }
