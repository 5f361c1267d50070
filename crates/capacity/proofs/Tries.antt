-- The search tries few capacities: it climbs to 32 one by one, doubles until it is bounded, then halves. Assumes
-- nothing.
use mathlib.Core.Path.{◌≡◌, refl, sym, ◌∙◌, ap}
use mathlib.Core.Bool.{Bool, true, false, false≢true}
use Prim.Native.Nat.{ℕ, zero, suc, min, ◌+◌, ◌-◌, ◌*◌, ◌/◌, ◌^◌, ◌≤◌, ◌<◌}
use native.Mathlib.Nat.{le_refl, two-pow-succ}
use native.Mathlib.Decide.{dec_le}
use native.Mathlib.Omega.{arith}
use lib.Dec.{leb}
use borrow.Author.Tests.{le-leb, lt-leb}
use Rattle.lists.specs.Choice.{pick}
use Rattle.plan.specs.Ranges.{longest}
use Rattle.capacity.specs.Search.{few, next_try, too_small, lo_after, hi_after}
use Rattle.capacity.specs.Tries.{tries_in, tries_from, most_tries}
use Rattle.equation.proofs.Halve.{Halving}
use Rattle.capacity.proofs.NextTry.{unfit_ends, working_ends, try_lowest, try_middle, try_twice}
use Rattle.capacity.proofs.NextTry.{after_small, after_ends, after_fewer}

module _ (fit works : ℕ → Bool) (period : ℕ) where
  -- the tries from lo on and below hi
  abbrev tries : (fuel lo hi : ℕ) → ℕ
  tries = tries_in fit works period

  -- no turn is left: none is tried
  no_fuel : (lo hi : ℕ) → tries 0 lo hi ≡ 0
  unfolding tries_in
  no_fuel lo hi = refl

  -- no capacity is left: none is tried
  none_left : (fuel lo hi : ℕ) → hi ≤ lo → tries fuel lo hi ≡ 0
  unfolding tries_in
  none_left zero lo hi h = refl
  none_left (suc fuel) lo hi h = rw (le-leb hi lo h, tries_in) refl

  -- some are left: one is tried, and then those that the turn leaves
  one_more_lem : (fuel lo hi : ℕ) → lo < hi
      → tries (suc fuel) lo hi ≡ suc (tries fuel (lo_after fit works period lo hi) (hi_after fit works period lo hi))
  unfolding tries_in
  one_more_lem fuel lo hi h = rw (lt-leb hi lo h, tries_in) refl

  -- what holds of the tries after either outcome holds before
  by_outcome : (P : ℕ → Type 0) (fuel lo hi c : ℕ) → lo < hi → c ≡ next_try period lo hi
      → (too_small fit works c ≡ true → P (suc (tries fuel (c + 1) hi)))
      → (too_small fit works c ≡ false → P (suc (tries fuel lo c))) → P (tries (suc fuel) lo hi)
  by_outcome P fuel lo hi c h e small ends = rw (one_more_lem fuel lo hi h) (go (too_small fit works c) refl)
    where
      go : (b : Bool) → too_small fit works c ≡ b
          → P (suc (tries fuel (lo_after fit works period lo hi) (hi_after fit works period lo hi)))
      go true t =
          let a = after_small fit works period lo hi c e t in
          rw (← a.0, ← a.1) (small t)
      go false t =
          let a = after_ends fit works period lo hi c e t in
          rw (← a.0, ← a.1) (ends t)

  -- With more fuel than capacities the fuel plays no part: each turn leaves fewer.
  pub tries_enough : (fuel more lo hi : ℕ) → hi - lo ≤ fuel → hi - lo ≤ more → tries fuel lo hi ≡ tries more lo hi
  tries_enough zero more lo hi f m = none_left zero lo hi (omega arith) ∙ sym (none_left more lo hi (omega arith))
  tries_enough (suc fuel) zero lo hi f m =
      none_left (suc fuel) lo hi (omega arith) ∙ sym (none_left zero lo hi (omega arith))
  tries_enough (suc fuel) (suc more) lo hi f m =
      elim (dec_le hi lo) [
        | yes e ↦ none_left (suc fuel) lo hi e ∙ sym (none_left (suc more) lo hi e)
        | no n ↦ let left = after_fewer fit works period lo hi (omega arith) in
            one_more_lem fuel lo hi (omega arith)
            ∙ ap suc (tries_enough fuel more _ _ (omega arith) (omega arith))
            ∙ sym (one_more_lem more lo hi (omega arith))
      ]

  -- halving takes m tries of fewer than 2 ^ m capacities
  halves : (fuel m lo hi : ℕ) → few < lo → hi ≤ period → hi - lo < 2 ^ m → tries fuel lo hi ≤ m
  halves zero m lo hi l h s = omega (arith, no_fuel lo hi)
  halves (suc fuel) zero lo hi l h s = omega (arith, none_left (suc fuel) lo hi (omega arith))
  halves (suc fuel) (suc m) lo hi l h s =
      elim (dec_le hi lo) [
        | yes e ↦ omega (arith, none_left (suc fuel) lo hi e)
        | no n ↦ let c = lo + (hi - lo) / 2 in
            by_outcome (λ t. t ≤ suc m) fuel lo hi c (omega arith) (try_middle period lo hi l h)
            (λ t. omega (arith, halves fuel m (c + 1) hi (omega arith) h (omega (arith, two-pow-succ m))))
            (λ t. omega (arith, halves fuel m lo c l (omega arith) (omega (arith, two-pow-succ m))))
      ]

  -- Up to 32 a try moves lo by one, and none is left after one that works or is unfit: so the tries from lo on are no
  -- more than those that take it to 33, and then some from there.
  climbs : (fuel lo : ℕ) → lo ≤ few + 1
      → (rest : ℕ) × (lo + tries fuel lo (period + 1) ≤ few + 1 + tries rest (few + 1) (period + 1))
  climbs zero lo l = (0, omega (arith, no_fuel lo (period + 1)))
  climbs (suc fuel) lo l =
      elim (dec_le lo few) [
        | no n ↦ let e : lo ≡ few + 1 = omega arith in (suc fuel, rw e (le_refl _))
        | yes m ↦ elim (dec_le (period + 1) lo) [
          | yes e ↦ (0, omega (arith, none_left (suc fuel) lo (period + 1) e))
          | no n ↦ by_outcome
              (λ t. (rest : ℕ) × (lo + t ≤ few + 1 + tries rest (few + 1) (period + 1)))
              fuel lo (period + 1) lo (omega arith) (try_lowest period lo (period + 1) m)
              (λ t. let up = climbs fuel (lo + 1) (omega arith) in (up.0, omega (arith, up.1)))
              (λ t. (0, omega (arith, none_left fuel lo lo (le_refl lo))))
        ]
      ]

  -- Where lo + 1 doubled e times is past the longest period, at most e tries double; then fewer than 2 ^ 19 capacities
  -- are left to halve.
  doubles_most : (fuel e lo : ℕ) → period ≤ longest → few < lo → longest + 1 < (lo + 1) * 2 ^ e
      → tries fuel lo (period + 1) ≤ e + 19
  doubles_most zero e lo most l s = omega (arith, no_fuel lo (period + 1))
  doubles_most (suc fuel) zero lo most l s = omega (arith, none_left (suc fuel) lo (period + 1) (omega arith))
  doubles_most (suc fuel) (suc e) lo most l s =
      elim (dec_le (period + 1) lo) [
        | yes e ↦ omega (arith, none_left (suc fuel) lo (period + 1) e)
        | no n ↦ let c = min (2 * lo) (period + 1 - 1) in
            by_outcome (λ t. t ≤ suc e + 19) fuel lo (period + 1) c (omega arith)
            (try_twice period lo (period + 1) l (omega arith))
            (λ t. elim (dec_le (2 * lo) period) [
              | yes m ↦ let q : c ≡ 2 * lo = omega arith in
                  let twice : longest + 1 < (lo + 1) * (2 ^ e + 2 ^ e) = rw (two-pow-succ e) at s in
                  let d = doubles_most fuel e (2 * lo + 1) most (omega arith) (omega arith) in
                  rw q (omega (arith, d))
              | no o ↦ omega (arith, none_left fuel (c + 1) (period + 1) (omega arith))
            ])
            (λ t. omega (arith, halves fuel 19 lo c l (omega arith) (omega arith)))
      ]

  -- From past 32 on no more than 34 are tried: 15 that double and 19 that halve.
  pub past_most : (fuel lo : ℕ) → period ≤ longest → few < lo → tries fuel lo (period + 1) ≤ 34
  past_most fuel lo most l = doubles_most fuel 15 lo most l (omega arith)

  -- From up to 33 on no more are tried than those that take lo to 33, and 34.
  pub climb_most : (fuel lo : ℕ) → period ≤ longest → lo ≤ few + 1 → lo + tries fuel lo (period + 1) ≤ few + 1 + 34
  climb_most fuel lo most l =
      let up = climbs fuel lo l in
      omega (arith, up.1, past_most up.0 (few + 1) most (omega arith))

  -- The search for one task tries no more than 66 capacities, from whichever it begins, whichever are fitted and
  -- whichever work: 32 one by one, 15 that double and 19 that halve.
  pub tries_most : (fuel lo : ℕ) → period ≤ longest → 1 ≤ lo → tries fuel lo (period + 1) ≤ most_tries
  tries_most fuel lo most pos =
      elim (dec_le lo (few + 1)) [
        | yes l ↦ omega (arith, climb_most fuel lo most l)
        | no n ↦ omega (arith, past_most fuel lo most (omega arith))
      ]

module _ (fit works : ℕ → Bool) (good : Halving fit works) (period a : ℕ) (low : 1 ≤ a) (high : a ≤ period)
    (w : works a ≡ true) where
  -- from one that works on a fitted capacity works, so one that is too small is below it
  small_below : (c : ℕ) → too_small fit works c ≡ true → c < a
  small_below c t =
      elim (dec_le a c) [ no n ↦ omega arith | yes h ↦ absurd (false≢true (sym (go (fit c) refl h) ∙ t)) ]
    where
      go : (b : Bool) → fit c ≡ b → a ≤ c → too_small fit works c ≡ false
      go true f h = working_ends fit works c (good.grow a c low h w f)
      go false f h = unfit_ends fit works c f

  -- Up to 32 the capacities from lo on are tried up to one that works, so up to the smallest: no more than a search
  -- upward tries.
  pub tries_small : a ≤ few → (fuel lo : ℕ) → lo ≤ a → lo + tries_in fit works period fuel lo (period + 1) ≤ a + 1
  tries_small l zero lo h = omega (arith, no_fuel fit works period lo (period + 1))
  tries_small l (suc fuel) lo h =
      by_outcome fit works period (λ t. lo + t ≤ a + 1) fuel lo (period + 1) lo (omega arith)
      (try_lowest period lo (period + 1) (omega arith))
      (λ t. omega (arith, tries_small l fuel (lo + 1) (omega (arith, small_below lo t))))
      (λ t. omega (arith, none_left fit works period fuel lo lo (le_refl lo)))

  -- so from c on, which is tried first
  pub from_small : a ≤ few → (c : ℕ) → c ≤ a → c + tries_from fit works period c ≤ a + 1
  from_small l c h = go (works c) refl
    where
      go : (b : Bool) → works c ≡ b
          → c + suc (pick b 0 (tries_in fit works period (period + 1) (c + 1) (period + 1))) ≤ a + 1
      go true e = omega arith
      go false e =
          let other : ¬ (c ≡ a) = λ q. false≢true (sym e ∙ rw q w) in
          omega (
            arith,
            tries_small l (period + 1) (c + 1) (elim (dec_le (c + 1) a) [
              | yes k ↦ k
              | no k ↦ absurd (other (omega arith))
            ]),
          )

-- No number below 66 would do: under the longest period the answer 557,056 takes that many.
pub most_reached : tries_from (λ c. true) (λ c. leb 557056 c) longest 1 ≡ most_tries
unfolding tries_in next_try lo_after hi_after
most_reached = refl
