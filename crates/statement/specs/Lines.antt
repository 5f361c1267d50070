-- A statement: the blocks counted, and for each of 128 lines the jobs counted, the longest age, how many were late, and
-- the sum of the margins. The line of task t of guest k, both from 0, is 16 k + t, as in the dispatcher's state.
use Rattle.std.specs.Prelude.{◌≡◌, Bool, ◌&&◌, ℕ, ◌*◌, leb, ℤ, pos, nat_abs, get_or, length, replicate}
use Rattle.lists.specs.All.{all_to}
use Rattle.lists.specs.Places.{nth}
use Rattle.plan.specs.Ranges.{longest}
use Rattle.margins.specs.Margin.{widest}
use Rattle.logblock.specs.Layout.{most_jobs}
use Rattle.statement.specs.declared.Statement.{Statement}

-- The most blocks that a statement counts.
abbrev pub most_blocks : ℕ
most_blocks = 1000000

-- The number of lines.
abbrev pub most_lines : ℕ
most_lines = 128

-- A statement with its 128 lines.
pub record Lined (s : Statement) : Type 0 where
  pub margins : length s.margins ≡ most_lines
  pub jobs : length s.jobs ≡ most_lines
  pub longest : length s.longest ≡ most_lines
  pub late : length s.late ≡ most_lines

-- The sum of the margins in line k.
abbrev pub margins_at : Statement → ℕ → ℤ
margins_at s k = get_or s.margins k (pos 0)

-- The statement in which nothing is counted yet.
abbrev pub empty : Statement
empty = record {
  blocks = 0;
  margins = replicate most_lines (pos 0);
  jobs = replicate most_lines 0;
  longest = replicate most_lines 0;
  late = replicate most_lines 0;
}

-- Line k of a statement is in its ranges: at most 41 jobs for each block, at most as many late as jobs, a longest age
-- of at most 1,000,000, and a sum of margins of at most 999,999 for each job in size.
unfoldable pub line_ok : Statement → ℕ → Bool
line_ok s k =
    leb (nth s.jobs k) (most_jobs * s.blocks)
    && leb (nth s.late k) (nth s.jobs k)
    && leb (nth s.longest k) longest
    && leb (nat_abs (margins_at s k)) (widest * nth s.jobs k)

-- Passes 14: at most 1,000,000 blocks are counted, and all 128 lines are in their ranges.
unfoldable pub statement_ok : Statement → Bool
statement_ok s = leb s.blocks most_blocks && all_to (line_ok s) most_lines
