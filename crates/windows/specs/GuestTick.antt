-- One tick as the guests see it: what each holds at the tick's start, and where it stands in its period.
-- Inner: no promise of an entry names this.
use Rattle.std.specs.Prelude.{◌≡◌, ℕ, ◌+◌, ◌≤◌, ◌<◌}
use Rattle.equation.specs.Guest.{guest_side}
use Rattle.windows.specs.Equation.{above}
use Rattle.windows.specs.Served.{ServedFirst}

-- A guest moves on in its period, or begins the next one and is filled: from position p with l left, to position q with
-- h to hold.
pub data Moved (cap per p l q h : ℕ) : Type 0 where
  on : p + 1 < per → q ≡ p + 1 → h ≡ l → Moved cap per p l q h
  over : p + 1 ≡ per → q ≡ 0 → h ≡ cap → Moved cap per p l q h

-- The tick of the guests up to g: guest k has it (k above g: none of these). `held` is what a guest holds once those at
-- position 0 are filled, `left` what it has left after the tick.
pub record GuestTick (cap per : ℕ → ℕ) (g k : ℕ) (held pos left held' pos' : ℕ → ℕ) : Type 0 where
  pub served : ServedFirst g k held left
  pub moved : (j : ℕ) → j ≤ g → Moved (cap j) (per j) (pos j) (left j) (pos' j) (held' j)

-- Guest g is fitted: x solves its equation, and lies inside its period.
pub record GuestFits (cap per : ℕ → ℕ) (g x : ℕ) : Type 0 where
  pub some : 0 < cap g
  pub solves : x ≡ guest_side (above cap per g) (cap g) x
  pub inside : x ≤ per g
  pub periods : (k : ℕ) → k < g → 0 < per k
