-- What a statement in its ranges says of its lines, and back. Assumes nothing.
use mathlib.Core.Path.{◌≡◌}
use mathlib.Core.Bool.{true, ◌&&◌}
use Prim.Native.Nat.{ℕ, ◌*◌, ◌≤◌, ◌<◌}
use native.Mathlib.Omega.{arith}
use lib.Dec.{leb}
use lib.IntN.{nat_abs}
use borrow.Author.Tests.{leb-true, le-leb}
use Rattle.lists.specs.Places.{nth}
use Rattle.plan.specs.Ranges.{longest}
use Rattle.margins.specs.Margin.{widest}
use Rattle.logblock.specs.Layout.{most_jobs}
use Rattle.statement.specs.declared.Statement.{Statement}
use Rattle.statement.specs.Lines.{most_blocks, most_lines, margins_at, line_ok, statement_ok}
use Rattle.statement.specs.Lent.{AtMost}
use Rattle.lists.proofs.All.{and_left, and_right, and_true, all_at, all_by}

-- Line k is in its ranges, with at most so many jobs.
pub record LineIn (most : ℕ) (s : Statement) (k : ℕ) : Type 0 where
  pub jobs : nth s.jobs k ≤ most
  pub late : nth s.late k ≤ nth s.jobs k
  pub oldest : nth s.longest k ≤ longest
  pub margins : nat_abs (margins_at s k) ≤ widest * nth s.jobs k

-- All 128 lines are in their ranges, with at most so many jobs each.
abbrev pub LinesIn : ℕ → Statement → Type 0
LinesIn most s = (k : ℕ) → k < most_lines → LineIn most s k

module _ (s : Statement) where
  line_says : (k : ℕ) → line_ok s k ≡ true → LineIn (most_jobs * s.blocks) s k
  unfolding line_ok
  line_says k e =
      let a = leb (nth s.jobs k) (most_jobs * s.blocks) in
      let b = leb (nth s.late k) (nth s.jobs k) in
      let c = leb (nth s.longest k) longest in
      let abc = and_left (a && b && c) _ e in
      let ab = and_left (a && b) c abc in
      record {
        jobs = leb-true _ _ (and_left a b ab);
        late = leb-true _ _ (and_right a b ab);
        oldest = leb-true _ _ (and_right (a && b) c abc);
        margins = leb-true _ _ (and_right (a && b && c) _ e);
      }

  line_passes : (k : ℕ) → LineIn (most_jobs * s.blocks) s k → line_ok s k ≡ true
  unfolding line_ok
  line_passes k l =
      and_true
      (and_true (and_true (le-leb _ _ l.jobs) (le-leb _ _ l.late)) (le-leb _ _ l.oldest))
      (le-leb _ _ l.margins)

  -- A statement in its ranges counts at most 1,000,000 blocks, and its lines are in theirs.
  pub few_blocks : statement_ok s ≡ true → s.blocks ≤ most_blocks
  unfolding statement_ok
  few_blocks e = leb-true _ _ (and_left (leb s.blocks most_blocks) _ e)

  pub lines_in : statement_ok s ≡ true → LinesIn (most_jobs * s.blocks) s
  unfolding statement_ok
  lines_in e k h = line_says k (all_at (line_ok s) most_lines k h (and_right (leb s.blocks most_blocks) _ e))

  -- Such a statement is in its ranges.
  pub in_ranges : s.blocks ≤ most_blocks → LinesIn (most_jobs * s.blocks) s → statement_ok s ≡ true
  unfolding statement_ok
  in_ranges h L = and_true (le-leb _ _ h) (all_by (line_ok s) most_lines (λ k l. line_passes k (L k l)))

-- Lines in their ranges have at most so many jobs, so many late, and what so many margins come to.
pub at_most : {most : ℕ} {s : Statement} → LinesIn most s → AtMost most s
at_most L = record {
  jobs = λ k h. (L k h).jobs;
  late = λ k h. omega (arith, (L k h).jobs, (L k h).late);
  margins = λ k h. omega (arith, (L k h).jobs, (L k h).margins);
}
