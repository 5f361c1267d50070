-- Task by task: what is the smallest for each task, from where the one before it ended, is at the end the smallest for
-- all. Over any numbers that can be halved for each task. Assumes nothing.
use Rattle.std.specs.Prelude.{Some, None}
use mathlib.Core.Path.{◌≡◌, refl, sym, ◌∙◌}
use mathlib.Core.Bool.{Bool, true, false, false≢true, ◌&&◌}
use Prim.Native.Nat.{ℕ, suc, ◌+◌, ◌-◌, ◌≤◌, ◌<◌}
use native.Mathlib.Decide.{dec_le}
use native.Mathlib.Numerals.{add-one}
use native.Mathlib.Omega.{arith}
use Rattle.lists.specs.All.{all_to}
use Rattle.lists.specs.Search.{least}
use Rattle.lists.proofs.All.{and_left, and_right, and_true, and_false_left, and_false_right, all_at, all_by, all_fails}
use Rattle.lists.proofs.Search.{First, Nowhere, least_says, least_is}
use Rattle.equation.proofs.Halve.{Halving}

-- where c does not pass, the smallest from c on is past it
pub smallest_past : (f : ℕ → Bool) (c hi : ℕ) → c < hi → f c ≡ false
    → least f (hi - c) c ≡ least f (hi - (c + 1)) (c + 1)
unfolding least
smallest_past f c hi l e = let n : hi - c ≡ suc (hi - (c + 1)) = omega arith in rw (n, least, e, add-one) refl

module _ (fit : ℕ → Bool) (m : ℕ → ℕ → Bool) where
  -- c is fitted and task i is met there
  abbrev pub one : (i c : ℕ) → Bool
  one i c = fit c && m i c

  -- c is fitted and the first i tasks are met there
  abbrev pub up_to : (i c : ℕ) → Bool
  up_to i c = fit c && all_to (λ j. m j c) i

  -- where task j is not met at a number, it does not meet the first i, j being one of them
  one_fails : (i j z : ℕ) → j < i → one j z ≡ false → up_to i z ≡ false
  one_fails i j z h e = go (fit z) refl
    where
      go : (b : Bool) → fit z ≡ b → up_to i z ≡ false
      go false q = and_false_left _ q
      go true q = and_false_right (fit z) (sym (all_fails (λ j. m j z) i j h (sym (rw q refl) ∙ e)))

  -- where the first i are not met, no more are
  fewer_fail : (i n z : ℕ) → i ≤ n → up_to i z ≡ false → up_to n z ≡ false
  fewer_fail i n z h e = go (up_to n z) refl
    where
      go : (b : Bool) → up_to n z ≡ b → up_to n z ≡ false
      go false q = q
      go true q =
          absurd (false≢true (sym e
          ∙ and_true (and_left (fit z) _ q)
          (all_by (λ j. m j z) i (λ j l. all_at (λ j. m j z) n j (omega arith) (and_right (fit z) _ q)))))

  -- The first i tasks are settled at c: below it not all of them are met, and from the first one on they are met there.
  pub record Settled (period i c : ℕ) : Type 0 where
    pub low : 1 ≤ c
    pub high : c ≤ period
    pub below : (z : ℕ) → 1 ≤ z → z < c → up_to i z ≡ false
    pub fits : fit c ≡ true
    pub met : (j : ℕ) → j < i → m j c ≡ true

  -- at the start no task is settled, at 1
  pub settled_none : (period : ℕ) → 1 ≤ period → fit 1 ≡ true → Settled period 0 1
  settled_none period some fits = record {
    low = omega arith;
    high = some;
    below = λ z l h. absurd (omega arith);
    fits = fits;
    met = λ j h. absurd (omega arith);
  }

  -- what is met at c too is settled there with those before it
  pub settled_met : (period i r c : ℕ) → Settled period i c → i ≤ r → ((j : ℕ) → i ≤ j → j < r → m j c ≡ true)
      → Settled period r c
  settled_met period i r c s h met = record {
    low = s.low;
    high = s.high;
    below = λ z p k. fewer_fail i r z h (s.below z p k);
    fits = s.fits;
    met = λ j k. elim (dec_le i j) [
      | yes q ↦ met j q k
      | no q ↦ s.met j (omega arith)
    ];
  }

  module _ (period i c : ℕ) (s : Settled period i c) where
    -- the next task is met from c on at c' first: it is settled there with those before it
    pub settled_next : (c' : ℕ) → Some c' ≡ least (one i) (period + 1 - c) c → ((j : ℕ) → j < i → Halving fit (one j))
        → Settled period (i + 1) c'
    settled_next c' e good =
        let f : First (one i) (period + 1 - c) c c' = rw (← e) at (least_says (one i) (period + 1 - c) c) in
        let fits = and_left (fit c') _ f.holds in
        record {
          low = omega (arith, s.low, f.low);
          high = omega (arith, s.high, f.low, f.high);
          below = λ z p k. elim (dec_le c z) [
            | yes q ↦ one_fails (i + 1) i z (omega arith) (f.first z q k)
            | no q ↦ fewer_fail i (i + 1) z (omega arith) (s.below z p (omega arith))
          ];
          fits = fits;
          met = λ j k. elim (dec_le i j) [
            | yes q ↦ let o : i ≡ j = omega arith in rw (← o) (and_right (fit c') _ f.holds)
            | no q ↦ and_right (fit c') _ ((good j (omega arith)).grow c c' s.low f.low
                (and_true s.fits (s.met j (omega arith))) fits)
          ];
        }

    -- it is met nowhere from c on: so all n tasks are met nowhere
    pub settled_nowhere : None ≡ least (one i) (period + 1 - c) c → (n : ℕ) → i < n → None ≡ least (up_to n) period 1
    settled_nowhere e n h =
        let f : Nowhere (one i) (period + 1 - c) c = rw (← e) at (least_says (one i) (period + 1 - c) c) in
        least_is (up_to n) period 1 None record {
          never = λ z p q. elim (dec_le c z) [
            | yes l ↦ one_fails n i z h (f.never z l (omega arith))
            | no l ↦ fewer_fail i n z (omega arith) (s.below z p (omega arith))
          ];
        }

  -- where 1 does not fit, and what fits is closed downward, none is met anywhere
  pub none_fits : (period n : ℕ) → ((c : ℕ) → 1 ≤ c → fit c ≡ true → fit 1 ≡ true) → fit 1 ≡ false
      → None ≡ least (up_to n) period 1
  none_fits period n down e =
      least_is (up_to n) period 1 None record { never = λ z p q. and_false_left _ (unfit z p (fit z) refl) }
    where
      unfit : (z : ℕ) → 1 ≤ z → (b : Bool) → fit z ≡ b → fit z ≡ false
      unfit z p false q = q
      unfit z p true q = absurd (false≢true (sym e ∙ down z p q))

  -- all n tasks are settled: it is the smallest at which all are met
  pub settled_all : (period n c : ℕ) → 1 ≤ n → Settled period n c → Some c ≡ least (up_to n) period 1
  settled_all period n c h s =
      least_is (up_to n) period 1 (Some c) record {
        low = s.low;
        high = omega (arith, s.high);
        holds = and_true s.fits (all_by (λ j. m j c) n s.met);
        first = s.below;
      }
