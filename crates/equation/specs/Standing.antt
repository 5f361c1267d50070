-- Where the search for a window stands. Inner: no promise of an entry names this.
use Rattle.std.specs.Prelude.{◌≡◌, ℕ, ◌+◌, ◌-◌, ◌*◌, ◌≤◌, Option}
use Rattle.equation.specs.Guest.{guest_side, guest_under}
use Rattle.equation.specs.System.{System, load, server_periods, later}

-- The number x is no more than f x, nor than any number that f does not raise.
pub record Rising (f : ℕ → ℕ) (x : ℕ) : Type 0 where
  pub rises : x ≤ f x
  pub under : (z : ℕ) → f z ≤ z → x ≤ z

-- the ticks before the last of the server periods that a load takes
abbrev pub before : (capacity period load : ℕ) → ℕ
before capacity period load = (server_periods load capacity - 1) * period

-- what of a load is left for that last one
abbrev pub rest : (capacity load : ℕ) → ℕ
rest capacity load = load - (server_periods load capacity - 1) * capacity

-- the least window of at most `room` ticks that a load ends with: in its last server period what is left of it climbs
-- as a guest's capacity does
unfoldable pub window_of : (above : ℕ → ℕ) → (capacity period load room : ℕ) → Option ℕ
window_of above capacity period load room =
    later (before capacity period load)
    (guest_under above (rest capacity load) (room - before capacity period load))

-- A load is done within z ticks: some part of its last server period is enough for what is left of it and what the
-- guests above take.
pub record Done (S : System) (l z : ℕ) : Type 0 where
  pub part : ℕ
  pub enough : guest_side S.above (rest S.capacity l) part ≤ part
  pub ends : before S.capacity S.period l + part ≤ z

-- The search for the window of task i stands at w: w lies where a load climbs to that is no more than the task's at w,
-- and in no window below w is the task's load done.
pub record Stands (S : System) (i w : ℕ) : Type 0 where
  pub reached : ℕ
  pub some : 1 ≤ reached
  pub loads : reached ≤ load S i w
  pub part : ℕ
  pub is : w ≡ before S.capacity S.period reached + part
  pub rising : Rising (guest_side S.above (rest S.capacity reached)) part
  pub first : (z : ℕ) → Done S (load S i z) z → w ≤ z
