-- What a task meets of a gap, and its equation taken apart into whole server periods and the last one. Assumes nothing.
use mathlib.Core.Path.{◌≡◌, sym, ◌∙◌, ap}
use mathlib.Core.Bool.{Bool, true, false}
use Prim.Native.Nat.{ℕ, suc, ◌+◌, ◌-◌, ◌*◌, ◌≤◌, ◌<◌}
use native.Mathlib.Nat.{mul-add}
use native.Mathlib.Omega.{arith}
use Rattle.equation.specs.Guest.{guest_side}
use Rattle.equation.specs.System.{gap_for, System, load, server_periods, right_at, right}
use Rattle.rounding.proofs.Asked.{asked_mono}
use Rattle.rounding.proofs.Up.{Blocks, blocks}

-- of a gap that is at most e longer a task meets at most e more, bound or not
pub gap_for_grows : (b : Bool) (c d e : ℕ) → d ≤ e + c → gap_for b d ≤ e + gap_for b c
unfolding gap_for
gap_for_grows true c d e h = omega arith
gap_for_grows false c d e h = h

-- What the laws ask of task i of a system: x is the guest's own response.
pub record Regular (S : System) (i x : ℕ) : Type 0 where
  pub some : 0 < S.capacity
  pub within : S.capacity ≤ S.period
  pub grows : (a b : ℕ) → a ≤ b → S.above a ≤ S.above b
  pub runs : 0 < S.run i
  pub fits : guest_side S.above S.capacity x ≤ x
  pub ends : x ≤ S.period

-- a longer window loads no less
pub load_grows : (S : System) (i : ℕ) {a b : ℕ} → a ≤ b → load S i a ≤ load S i b
unfolding load
load_grows S i h = omega (arith, asked_mono S.run S.every S.gap i h)

-- a task with a run loads every window
pub load_some : (S : System) (i w : ℕ) → 0 < S.run i → 0 < load S i w
unfolding load
load_some S i w h = omega arith

-- a task meets no more than the gap
pub gap_for_most : (b : Bool) (d : ℕ) → gap_for b d ≤ d
unfolding gap_for
gap_for_most true d = omega arith
gap_for_most false d = omega arith

-- The right side taken apart: m whole server periods, and 1 to C ticks in the last.
pub record Parts (S : System) (i w m : ℕ) : Type 0 where
  pub count : server_periods (load S i w) S.capacity ≡ suc m
  pub more : m * S.capacity < load S i w
  pub most : load S i w ≤ m * S.capacity + S.capacity
  pub is : right S i w ≡ m * S.period + (load S i w - m * S.capacity) + S.above (w - m * S.period)

-- the number of whole server periods before the last
abbrev pub whole : System → (i w : ℕ) → ℕ
whole S i w = server_periods (load S i w) S.capacity - 1

-- every right side can be taken apart so
pub parts : (S : System) (i w : ℕ) → 0 < S.capacity → S.capacity ≤ S.period → 0 < load S i w
    → Parts S i w (whole S i w)
unfolding right right_at
parts S i w pos within loaded =
    let m = whole S i w in
    let b : Blocks (load S i w) S.capacity m = blocks (load S i w) S.capacity pos loaded in
    let e : S.capacity + (S.period - S.capacity) ≡ S.period = omega arith in
    let q : m * S.period ≡ m * S.capacity + m * (S.period - S.capacity) =
    ap (λ (t : ℕ). m * t) (sym e) ∙ mul-add m S.capacity (S.period - S.capacity) in
    record { count = b.count; more = b.more; most = b.most; is = omega arith }
