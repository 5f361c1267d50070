-- Laws of `all_to` and of `◌&&◌`. Assumes nothing.
use mathlib.Core.Path.{◌≡◌, refl, sym, ◌∙◌}
use mathlib.Core.Logic.{⊎_elim}
use mathlib.Core.Bool.{Bool, true, false, false≢true, ◌&&◌}
use Prim.Native.Nat.{ℕ, zero, suc, ◌+◌, ◌≤◌, ◌<◌}
use native.Mathlib.Nat.{eq-or-lt_of_le}
use native.Mathlib.Numerals.{add-one}
use native.Mathlib.Omega.{arith}
use Rattle.lists.specs.All.{all_to}

-- where both tests pass, the left one passes
pub and_left : (a b : Bool) → (a && b) ≡ true → a ≡ true
and_left true b e = refl
and_left false b e = e

-- where both tests pass, the right one passes
pub and_right : (a b : Bool) → (a && b) ≡ true → b ≡ true
and_right true b e = e
and_right false b e = absurd (false≢true e)

-- where each test passes, both pass
pub and_true : {a b : Bool} → a ≡ true → b ≡ true → (a && b) ≡ true
and_true p q = rw (p, q) refl

-- where the left test fails, not both pass
pub and_false_left : {a : Bool} (b : Bool) → a ≡ false → (a && b) ≡ false
and_false_left b e = rw e refl

-- where the right test fails, not both pass
pub and_false_right : (a : Bool) {b : Bool} → b ≡ false → (a && b) ≡ false
and_false_right true e = e
and_false_right false e = refl

-- a loop starts: none is tested yet
pub all_none : (f : ℕ → Bool) → all_to f 0 ≡ true
unfolding all_to
all_none f = refl

-- a turn of a loop that gathers tests
pub all_turn : (f : ℕ → Bool) (n : ℕ) (ok r : Bool) → ok ≡ all_to f n → r ≡ f n → (ok && r) ≡ all_to f (n + 1)
unfolding all_to
all_turn f n ok r h e = rw (h, e, add-one)

-- a turn of a loop that leaves at the first failure: one more passes
pub all_next : (f : ℕ → Bool) (n : ℕ) → all_to f n ≡ true → f n ≡ true → all_to f (n + 1) ≡ true
unfolding all_to
all_next f n e q = rw add-one (and_true e q)

-- where each of the first n passes, all pass
pub all_by : (f : ℕ → Bool) (n : ℕ) → ((k : ℕ) → k < n → f k ≡ true) → all_to f n ≡ true
unfolding all_to
all_by f zero h = refl
all_by f (suc n) h = and_true (all_by f n (λ k l. h k (omega arith))) (h n (omega arith))

-- where all of the first n pass, each passes
pub all_at : (f : ℕ → Bool) (n k : ℕ) → k < n → all_to f n ≡ true → f k ≡ true
unfolding all_to
all_at f zero k h e = absurd (omega arith)
all_at f (suc n) k h e =
    ⊎_elim (λ p. rw p (and_right (all_to f n) (f n) e)) (λ p. all_at f n k p (and_left (all_to f n) (f n) e))
    (eq-or-lt_of_le {n = k} {m = n} (omega arith))

-- a loop's way out: n fails, and is below m
pub all_fails : (f : ℕ → Bool) (m n : ℕ) → n < m → f n ≡ false → false ≡ all_to f m
all_fails f m n h q = go (all_to f m) refl
  where
    go : (b : Bool) → all_to f m ≡ b → false ≡ b
    go true e = absurd (false≢true (sym q ∙ all_at f m n h e))
    go false e = refl

-- a loop's end: all n were passed
pub all_done : (f : ℕ → Bool) (i n : ℕ) → i ≡ n → all_to f i ≡ true → true ≡ all_to f n
all_done f i n e q = sym (rw (← e) q)

-- tests that agree at each number below n agree on all of them
pub all_ext : (f g : ℕ → Bool) (n : ℕ) → ((k : ℕ) → k < n → f k ≡ g k) → all_to f n ≡ all_to g n
unfolding all_to
all_ext f g zero h = refl
all_ext f g (suc n) h = rw (all_ext f g n (λ k l. h k (omega arith)), h n (omega arith)) refl

-- three tests in a row can be grouped either way
pub and_assoc : (a b c : Bool) → ((a && b) && c) ≡ (a && (b && c))
and_assoc true b c = refl
and_assoc false b c = refl

-- all pass two tests exactly if all pass the one and all pass the other
and_swap : (a b f g : Bool) → ((a && b) && (f && g)) ≡ ((a && f) && (b && g))
and_swap false b f g = refl
and_swap true true f g = refl
and_swap true false true g = refl
and_swap true false false g = refl

pub all_and : (f g : ℕ → Bool) (n : ℕ) → all_to (λ k. f k && g k) n ≡ (all_to f n && all_to g n)
unfolding all_to
all_and f g zero = refl
all_and f g (suc n) = rw (all_and f g n) (and_swap (all_to f n) (all_to g n) (f n) (g n))

-- not all pass, so one fails
pub all_false : (f : ℕ → Bool) (n : ℕ) → all_to f n ≡ false → (j : ℕ) × (j < n) × (f j ≡ false)
unfolding all_to
all_false f zero e = absurd (false≢true (sym e))
all_false f (suc n) e = go (all_to f n) refl (f n) refl (all_false f n)
  where
    go : (a : Bool) → all_to f n ≡ a → (b : Bool) → f n ≡ b → (all_to f n ≡ false → (j : ℕ) × (j < n) × (f j ≡ false))
        → (j : ℕ) × (j < suc n) × (f j ≡ false)
    go a p false q h = (n, omega arith, q)
    go false p true q h = (let x = h p in (x.0, omega (arith, x.1), x.2))
    go true p true q h = absurd (false≢true (sym e ∙ and_true p q))

-- a loop's end: n places were tested and no more
pub all_end : (f : ℕ → Bool) (i n : ℕ) {ok : Bool} → ok ≡ all_to f i → i ≤ n → n ≤ i → ok ≡ all_to f n
all_end f i n e p q = let h : i ≡ n = omega arith in rw (← h) e
