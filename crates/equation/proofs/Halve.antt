-- Halving an interval for the first number that works: what fits is closed downward, what works upward as far as it
-- fits. Assumes nothing.
use Rattle.std.specs.Prelude.{Option, Some, None}
use mathlib.Core.Path.{◌≡◌, refl, sym, ◌∙◌}
use mathlib.Core.Bool.{Bool, true, false, false≢true}
use Prim.Native.Nat.{ℕ, ◌+◌, ◌-◌, ◌≤◌, ◌<◌}
use native.Mathlib.Omega.{arith}
use native.Mathlib.Decide.{dec_le}
use Rattle.lists.specs.Search.{least}
use Rattle.lists.proofs.Search.{Says, First, Nowhere, least_says, least_is}

-- What halving asks, of numbers from 1 on.
pub record Halving (fit works : ℕ → Bool) : Type 0 where
  pub fits : (a : ℕ) → works a ≡ true → fit a ≡ true
  pub down : (a b : ℕ) → 1 ≤ a → a ≤ b → fit b ≡ true → fit a ≡ true
  pub grow : (a b : ℕ) → 1 ≤ a → a ≤ b → works a ≡ true → fit b ≡ true → works b ≡ true

-- what is not true is false
not_true : (b : Bool) → ¬ (b ≡ true) → b ≡ false
not_true true h = absurd (h refl)
not_true false h = refl

module _ (fit works : ℕ → Bool) (s : Halving fit works) (lo mid hi : ℕ) (pos : 1 ≤ lo) (l : lo ≤ mid)
    (h : mid < hi) where
  -- nothing works from an unfit number on
  none_above : fit mid ≡ false → (z : ℕ) → mid ≤ z → works z ≡ false
  none_above e z k = not_true (works z) (λ w. false≢true (sym e ∙ s.down mid z (omega arith) k (s.fits z w)))

  -- nothing works up to a number that fits and does not work
  none_below : fit mid ≡ true → works mid ≡ false → (z : ℕ) → 1 ≤ z → z ≤ mid → works z ≡ false
  none_below f e z p k = not_true (works z) (λ w. false≢true (sym e ∙ s.grow z mid p k w f))

  -- what is said of the left part holds of the whole, where none works from the middle on
  left_says : (r : Option ℕ) → ((z : ℕ) → mid ≤ z → works z ≡ false) → Says works (mid - lo) lo r
      → Says works (hi - lo) lo r
  left_says None n o =
      record { never = λ z p k. elim (dec_le mid z) [ yes q ↦ n z q | no q ↦ o.never z p (omega arith) ] }
  left_says (Some y) n o = record { low = o.low; high = omega arith; holds = o.holds; first = o.first }

  -- what is said of the right part holds of the whole, where none works up to the middle
  right_says : (r : Option ℕ) → ((z : ℕ) → 1 ≤ z → z ≤ mid → works z ≡ false) → Says works (hi - (mid + 1)) (mid + 1) r
      → Says works (hi - lo) lo r
  right_says None n o =
      record {
        never = λ z p k. elim (dec_le z mid)
            [ yes q ↦ n z (omega arith) q | no q ↦ o.never z (omega arith) (omega arith) ];
      }
  right_says (Some y) n o = record {
    low = omega arith;
    high = omega arith;
    holds = o.holds;
    first = λ z p k. elim (dec_le z mid) [ yes q ↦ n z (omega arith) q | no q ↦ o.first z (omega arith) k ];
  }

  -- the middle does not fit: the answer is to the left
  pub halve_left : fit mid ≡ false → least works (mid - lo) lo ≡ least works (hi - lo) lo
  halve_left e =
      least_is works (hi - lo) lo _
      (left_says (least works (mid - lo) lo) (none_above e) (least_says works (mid - lo) lo))

  -- the middle fits and does not work: the answer is to the right
  pub halve_right : fit mid ≡ true → works mid ≡ false
      → least works (hi - (mid + 1)) (mid + 1) ≡ least works (hi - lo) lo
  halve_right f e =
      least_is works (hi - lo) lo _
      (right_says (least works (hi - (mid + 1)) (mid + 1)) (none_below f e)
      (least_says works (hi - (mid + 1)) (mid + 1)))

  -- the middle works, and so does one to the left
  pub halve_lower : {y : ℕ} → least works (mid - lo) lo ≡ Some y → Some y ≡ least works (hi - lo) lo
  halve_lower {y} e =
      let o : First works (mid - lo) lo y = rw e at (least_says works (mid - lo) lo) in
      least_is works (hi - lo) lo (Some y) record {
        low = o.low;
        high = omega (arith, o.high);
        holds = o.holds;
        first = o.first;
      }

  -- the middle works, and none does to the left
  pub halve_here : works mid ≡ true → least works (mid - lo) lo ≡ None → Some mid ≡ least works (hi - lo) lo
  halve_here w e =
      let o : Nowhere works (mid - lo) lo = rw e at (least_says works (mid - lo) lo) in
      least_is works (hi - lo) lo (Some mid) record {
        low = l;
        high = omega arith;
        holds = w;
        first = λ z p k. o.never z p (omega arith);
      }

-- an empty interval has none
pub halve_none : (works : ℕ → Bool) (lo hi : ℕ) → hi ≤ lo → None ≡ least works (hi - lo) lo
halve_none works lo hi h = least_is works (hi - lo) lo None record { never = λ z p k. absurd (omega arith) }
