-- What the numbers of a statement are held in.
use Rattle.std.specs.Prelude.{ℕ, ◌^◌, ◌<◌, nat_abs}
use Rattle.lists.specs.Places.{nth}
use Rattle.statement.specs.declared.Statement.{Statement}
use Rattle.statement.specs.Lines.{most_lines, margins_at}

-- Each sum of margins fits an i64, with its size below 2 to the 63, and each other number of a line fits a u32.
pub record SumsFit (s : Statement) : Type 0 where
  pub margins : (k : ℕ) → k < most_lines → nat_abs (margins_at s k) < 2 ^ 63
  pub jobs : (k : ℕ) → k < most_lines → nth s.jobs k < 2 ^ 32
  pub longest : (k : ℕ) → k < most_lines → nth s.longest k < 2 ^ 32
  pub late : (k : ℕ) → k < most_lines → nth s.late k < 2 ^ 32
