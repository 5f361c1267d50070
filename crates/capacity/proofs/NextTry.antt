-- Which capacity is tried next, and what a turn leaves of the capacities to try. Assumes nothing.
use mathlib.Core.Path.{◌≡◌, refl}
use mathlib.Core.Bool.{Bool, true, false, not}
use Prim.Native.Nat.{ℕ, min, ◌+◌, ◌-◌, ◌*◌, ◌/◌, ◌≤◌, ◌<◌}
use native.Mathlib.Decide.{dec_le}
use native.Mathlib.Omega.{arith}
use borrow.Author.Tests.{le-leb, lt-leb}
use Rattle.capacity.specs.Search.{few, next_try, too_small, lo_after, hi_after}
use Rattle.lists.proofs.All.{and_true, and_false_left, and_false_right}

-- a capacity that is unfit is not too small
pub unfit_ends : (fit works : ℕ → Bool) (c : ℕ) → fit c ≡ false → too_small fit works c ≡ false
unfit_ends fit works c e = and_false_left (not (works c)) e

-- one that works is not too small
pub working_ends : (fit works : ℕ → Bool) (c : ℕ) → works c ≡ true → too_small fit works c ≡ false
working_ends fit works c e = and_false_right (fit c) (rw e refl)

-- one that is fitted and does not work is too small
pub unmet_small : (fit works : ℕ → Bool) (c : ℕ) → (fit c ≡ true) × (works c ≡ false) → too_small fit works c ≡ true
unmet_small fit works c e = and_true e.0 (rw e.1 refl)

module _ (period lo hi : ℕ) where
  -- up to 32 the lowest is tried
  pub try_lowest : lo ≤ few → lo ≡ next_try period lo hi
  unfolding next_try
  try_lowest l = rw (le-leb lo few l) refl

  -- past it the middle is tried, where one was found that works or is unfit
  pub try_middle : few < lo → hi ≤ period → lo + (hi - lo) / 2 ≡ next_try period lo hi
  unfolding next_try
  try_middle l h = rw (lt-leb lo few l, le-leb hi period h) refl

  -- else twice the lowest is tried, or the last where that is less
  pub try_twice : few < lo → period < hi → min (2 * lo) (hi - 1) ≡ next_try period lo hi
  unfolding next_try
  try_twice l h = rw (lt-leb lo few l, lt-leb hi period h) refl

  -- what is tried is one of those left
  pub try_in : lo < hi → (lo ≤ next_try period lo hi) × (next_try period lo hi < hi)
  try_in h =
      elim (dec_le lo few) [
        | yes l ↦ omega (arith, try_lowest l)
        | no n ↦ elim (dec_le hi period) [
          | yes m ↦ omega (arith, try_middle (omega arith) m)
          | no o ↦ omega (arith, try_twice (omega arith) (omega arith))
        ]
      ]

module _ (fit works : ℕ → Bool) (period lo hi c : ℕ) (e : c ≡ next_try period lo hi) where
  -- past a capacity that is too small
  pub after_small : too_small fit works c ≡ true
      → (c + 1 ≡ lo_after fit works period lo hi) × (hi ≡ hi_after fit works period lo hi)
  unfolding lo_after hi_after
  after_small t = (rw (← e, t) refl, rw (← e, t) refl)

  -- up to one that works or is unfit
  pub after_ends : too_small fit works c ≡ false
      → (lo ≡ lo_after fit works period lo hi) × (c ≡ hi_after fit works period lo hi)
  unfolding lo_after hi_after
  after_ends t = (rw (← e, t) refl, rw (← e, t) refl)

-- From `from` on and below `to` there are some of the numbers from lo on and below hi, and fewer.
pub record Fewer (lo hi from to : ℕ) : Type 0 where
  pub low : lo ≤ from
  pub high : to ≤ hi
  pub fewer : to - from < hi - lo

-- a turn leaves fewer
pub after_fewer : (fit works : ℕ → Bool) (period lo hi : ℕ) → lo < hi
    → Fewer lo hi (lo_after fit works period lo hi) (hi_after fit works period lo hi)
after_fewer fit works period lo hi h = go (too_small fit works (next_try period lo hi)) refl (try_in period lo hi h)
  where
    go : (b : Bool) → too_small fit works (next_try period lo hi) ≡ b
        → (lo ≤ next_try period lo hi) × (next_try period lo hi < hi)
        → Fewer lo hi (lo_after fit works period lo hi) (hi_after fit works period lo hi)
    go true t i = let a = after_small fit works period lo hi _ refl t in omega arith
    go false t i = let a = after_ends fit works period lo hi _ refl t in omega arith
