-- The places in the order of their keys are an order that goes by them, and in every order each place stands somewhere.
-- Assumes nothing.
use mathlib.Core.Path.{◌≡◌, sym, ap}
use mathlib.Core.Bool.{Bool}
use mathlib.Core.List.{List}
use Prim.Native.Nat.{ℕ, zero, suc, ◌-◌, ◌≤◌, ◌<◌}
use native.Mathlib.Decide.{dec_lt, dec_le}
use native.Mathlib.Nat.{le_refl, le_trans}
use native.Mathlib.Omega.{arith}
use lib.Dec.{eqb}
use borrow.Author.Tests.{eqb-true, eqb-false}
use Rattle.lists.specs.Places.{nth}
use Rattle.lists.specs.Search.{first_from}
use Rattle.lists.specs.Sum.{sum_to}
use Rattle.order.specs.Sorting.{sorted}
use Rattle.order.specs.Steps.{Inserts}
use Rattle.order_laws.specs.Orders.{IsOrder, GoesBy}
use Rattle.lists.proofs.Search.{first_found, first_before}
use Rattle.lists.proofs.Sum.{sum_same}
use Rattle.order.proofs.SortingLaws.{Goes, next_at, next_goes, next_inserts, sorted_long, sorted_below}
use Rattle.order_laws.proofs.Sum.{without, without_other, sum_without, sum_once}

-- Place a may stand before place b: its key is no larger, and where the keys are equal it stood before it.
abbrev Before : (key : ℕ → ℕ) → (a b : ℕ) → Type 0
Before key a b = (key a ≤ key b) × (key a ≡ key b → a < b)

-- One more place is put in, and of two places the one before may still stand before the other.
before_next : (key : ℕ → ℕ) (n : ℕ)
    → ((i j : ℕ) → i < j → j < n → Before key (nth (sorted key n) i) (nth (sorted key n) j))
    → (i j : ℕ) → i < j → j < suc n → Before key (nth (sorted key (suc n)) i) (nth (sorted key (suc n)) j)
before_next key n old i j h l = go
  where
    p : ℕ
    p = next_at key n

    g : Goes key n (sorted key n) n p
    g = next_goes key n

    s : Inserts (sorted key n) p n (sorted key (suc n))
    s = next_inserts key n

    -- Where the new place is the first of the two, the second has a larger key.
    above : p < j → key n < key (nth (sorted key n) (j - 1))
    above b =
        elim (dec_lt p (j - 1)) [
          | yes m ↦ omega (arith, g.before (omega arith), (old p (j - 1) m (omega arith)).0)
          | no m ↦
              let e : p ≡ j - 1 = omega arith in
              rw (← e) (g.before (omega arith))
        ]

    go : Before key (nth (sorted key (suc n)) i) (nth (sorted key (suc n)) j)
    go =
        elim (dec_lt j p) [
          | yes a ↦ rw (s.above i (omega arith), s.above j a) (old i j h (omega (arith, g.within)))
          | no a ↦
              elim (dec_lt p j) [
                | no b ↦
                    let e : j ≡ p = omega arith in
                    rw (e, s.here, s.above i (omega arith)) (
                      g.behind i (omega arith),
                      λ q. sorted_below key n i (omega (arith, g.within)),
                    )
                | yes b ↦
                    rw (s.below j b (omega arith))
                    (elim (dec_lt i p) [
                      | yes m ↦ rw (s.above i m) (old i (j - 1) (omega arith) (omega arith))
                      | no m ↦
                          elim (dec_lt p i) [
                            | yes k ↦ rw (s.below i k (omega arith)) (old (i - 1) (j - 1) (omega arith) (omega arith))
                            | no k ↦
                                let e : i ≡ p = omega arith in
                                let x = above b in
                                rw (e, s.here) (omega arith, λ q. absurd (omega arith))
                          ]
                    ])
              ]
        ]

-- So of any two places in order the first may stand before the other.
before : (key : ℕ → ℕ) (n i j : ℕ) → i < j → j < n → Before key (nth (sorted key n) i) (nth (sorted key n) j)
before key zero i j h l = absurd (omega arith)
before key (suc n) i j h l = before_next key n (before key n) i j h l

module _ (key : ℕ → ℕ) (n : ℕ) where
  -- The places in order go by their keys, equals as they stood.
  pub sorted_goes : GoesBy key n (sorted key n)
  sorted_goes = record { rises = λ i j h l. (before key n i j h l).0; stable = λ i j h l. (before key n i j h l).1 }

  -- No place stands twice: of equals the first stood before the other.
  pub sorted_order : IsOrder n (sorted key n)
  sorted_order = record {
    long = sorted_long key n;
    named = sorted_below key n;
    once = λ i j h l e.
        elim (dec_lt i j) [
          | yes m ↦ absurd (let x = sorted_goes.stable i j m l (ap key e) in omega arith)
          | no m ↦
              elim (dec_lt j i) [
                | yes k ↦ absurd (let x = sorted_goes.stable j i k h (ap key (sym e)) in omega arith)
                | no k ↦ omega arith
              ]
        ];
  }

-- Where place x stands in an order of n.
unfoldable pub stands_at : (order : List ℕ) → (n x : ℕ) → ℕ
stands_at order n x = first_from (λ k. eqb (nth order k) x) n 0

-- An order leaves no place out: n places none of which is twice are all of them.
pub each_stands : (n : ℕ) (order : List ℕ) → IsOrder n order → (x : ℕ) → x < n
    → (stands_at order n x < n) × (nth order (stands_at order n x) ≡ x)
unfolding stands_at
each_stands n order o x h =
    elim (dec_lt (stands_at order n x) n) [
      | yes l ↦ (l, eqb-true (nth order (stands_at order n x)) x (first_found here n 0 (omega arith)))
      | no l ↦
          let most = sum_once (without one x) (nth order) n n o.named o.once in
          let all : sum_to (λ k. without one x (nth order k)) n ≡ sum_to one n =
          sum_same _ one n (λ k b.
          without_other one x (nth order k)
          (eqb-false (nth order k) x (first_before here n 0 k (omega arith) (omega arith)))) in
          absurd (omega (arith, sum_without one x n h))
    ]
  where
    here : ℕ → Bool
    here k = eqb (nth order k) x

    one : ℕ → ℕ
    one y = 1

-- Of the first places the one that is sent furthest.
pub furthest : (at : ℕ → ℕ) (i : ℕ) → (m : ℕ) × (m ≤ i) × ((j : ℕ) → j ≤ i → at j ≤ at m)
furthest at zero = (0, le_refl 0, λ j h. (let e : j ≡ 0 = omega arith in rw e (le_refl (at 0))))
furthest at (suc i) =
    let (m, l, h) = furthest at i in
    elim (dec_le (at m) (at (suc i))) [
      | yes b ↦ (
        suc i,
        le_refl (suc i),
        λ j k.
            elim (dec_le j i) [
              | yes q ↦ le_trans (h j q) b
              | no q ↦ let e : j ≡ suc i = omega arith in rw e (le_refl (at (suc i)))
            ],
      )
      | no b ↦ (
        m,
        omega arith,
        λ j k.
            elim (dec_le j i) [
              | yes q ↦ h j q
              | no q ↦ let e : j ≡ suc i = omega arith in rw e (omega arith)
            ],
      )
    ]
