-- Laws of `least` and `first_from`. Assumes nothing.
use Rattle.std.specs.Prelude.{Option, Some, None, is_some}
use mathlib.Core.Path.{◌≡◌, refl, sym, ◌∙◌, ap}
use mathlib.Core.Logic.{◌⊎◌, inl, inr, ⊎_elim}
use mathlib.Core.Bool.{Bool, true, false, false≢true}
use Prim.Native.Nat.{ℕ, zero, suc, ◌+◌, ◌-◌, ◌≤◌, ◌<◌}
use native.Mathlib.Nat.{eq-or-lt_of_le}
use native.Mathlib.Numerals.{add-one}
use native.Mathlib.Omega.{arith}
use Rattle.lists.specs.Choice.{pick}
use Rattle.lists.specs.Search.{least, first_from}

-- y is the first number from x on, and below x + d, at which p passes
pub record First (p : ℕ → Bool) (d x y : ℕ) : Type 0 where
  pub low : x ≤ y
  pub high : y < x + d
  pub holds : p y ≡ true
  pub first : (z : ℕ) → x ≤ z → z < y → p z ≡ false

-- p passes at no number from x on and below x + d
pub record Nowhere (p : ℕ → Bool) (d x : ℕ) : Type 0 where
  pub never : (z : ℕ) → x ≤ z → z < x + d → p z ≡ false

-- what an answer of the search says of p
abbrev pub Says : (ℕ → Bool) → ℕ → ℕ → Option ℕ → Type 0
Says p d x None = Nowhere p d x
Says p d x (Some y) = First p d x y

-- where p passes at x the search finds x
least_true : (p : ℕ → Bool) (d x : ℕ) → p x ≡ true → least p (suc d) x ≡ Some x
unfolding least
least_true p d x e = rw (e, least)

-- where p fails at x the search goes on from x + 1
least_false : (p : ℕ → Bool) (d x : ℕ) → p x ≡ false → least p (suc d) x ≡ least p d (suc x)
unfolding least
least_false p d x e = rw (e, least)

-- p fails at x, so what is said from x + 1 on is said from x on
stepped : (p : ℕ → Bool) (d x : ℕ) (f : Option ℕ) → p x ≡ false → Says p d (suc x) f → Says p (suc d) x f
stepped p d x None e o = record { never = λ z h k. go z k (eq-or-lt_of_le h) }
  where
    go : (z : ℕ) → z < x + suc d → (x ≡ z) ⊎ (x < z) → p z ≡ false
    go z k (inl q) = rw (← q) e
    go z k (inr l) = o.never z l (omega arith)
stepped p d x (Some y) e o =
    record { low = omega arith; high = omega arith; holds = o.holds; first = λ z h k. go z k (eq-or-lt_of_le h) }
  where
    go : (z : ℕ) → z < y → (x ≡ z) ⊎ (x < z) → p z ≡ false
    go z k (inl q) = rw (← q) e
    go z k (inr l) = o.first z l k

-- the search's answer says what is so of p
pub least_says : (p : ℕ → Bool) (d x : ℕ) → Says p d x (least p d x)
unfolding least
least_says p zero x = record { never = λ z h k. absurd (omega arith) }
least_says p (suc d) x = go (p x) refl (least_says p d (suc x))
  where
    go : (b : Bool) → p x ≡ b → Says p d (suc x) (least p d (suc x)) → Says p (suc d) x (least p (suc d) x)
    go true e o = rw (least_true p d x e) record {
      low = omega arith;
      high = omega arith;
      holds = e;
      first = λ z h k. absurd (omega arith);
    }
    go false e o = rw (least_false p d x e) (stepped p d x (least p d (suc x)) e o)

-- two answers that say what is so of p are one
pub says_one : (p : ℕ → Bool) (d x : ℕ) (r s : Option ℕ) → Says p d x r → Says p d x s → r ≡ s
says_one p d x None None a b = refl
says_one p d x None (Some y) a b = absurd (false≢true (sym (a.never y b.low b.high) ∙ b.holds))
says_one p d x (Some y) None a b = absurd (false≢true (sym (b.never y a.low a.high) ∙ a.holds))
says_one p d x (Some y) (Some z) a b =
    let h : ¬ (y < z) = λ k. false≢true (sym (b.first y a.low k) ∙ a.holds) in
    let g : ¬ (z < y) = λ k. false≢true (sym (a.first z b.low k) ∙ b.holds) in
    let e : y ≡ z = omega arith in
    ap Some e

-- an answer that says what is so of p is the search's
pub least_is : (p : ℕ → Bool) (d x : ℕ) (r : Option ℕ) → Says p d x r → r ≡ least p d x
least_is p d x r a = says_one p d x r (least p d x) a (least_says p d x)

-- tests that agree on the numbers searched find the same
says_ext :
    (p q : ℕ → Bool) (d x : ℕ) (f : Option ℕ) → ((z : ℕ) → x ≤ z → z < x + d → p z ≡ q z) → Says p d x f → Says q d x f
says_ext p q d x None h w = record { never = λ z l b. sym (h z l b) ∙ w.never z l b }
says_ext p q d x (Some y) h w = record {
  low = w.low;
  high = w.high;
  holds = sym (h y w.low w.high) ∙ w.holds;
  first = λ z l b. sym (h z l (omega (arith, w.high))) ∙ w.first z l b;
}

pub least_ext : (p q : ℕ → Bool) (d x : ℕ) → ((z : ℕ) → x ≤ z → z < x + d → p z ≡ q z) → least p d x ≡ least q d x
least_ext p q d x h = least_is q d x (least p d x) (says_ext p q d x (least p d x) h (least_says p d x))

-- p fails at each number below k
abbrev pub Passed : (ℕ → Bool) → ℕ → Type 0
Passed p k = (z : ℕ) → z < k → p z ≡ false

-- a counting loop's way out: k passes
pub count_at : (p : ℕ → Bool) (n k : ℕ) → k < n → Passed p k → p k ≡ true → Some k ≡ least p n 0
count_at p n k h b e =
    least_is p n 0 (Some k) record { low = omega arith; high = omega arith; holds = e; first = λ z l m. b z m }

-- a counting loop's end: no number passed
pub count_none : (p : ℕ → Bool) (n k : ℕ) → n ≤ k → Passed p k → None ≡ least p n 0
count_none p n k h b = least_is p n 0 None record { never = λ z l m. b z (omega arith) }

-- where something was found it is a number
pub at_of : (f : Option ℕ) → is_some f ≡ true → (y : ℕ) × (f ≡ Some y)
at_of None e = absurd (false≢true e)
at_of (Some y) e = (y, refl)

-- a number that was found is something
pub is_at_lem : {f : Option ℕ} {y : ℕ} → f ≡ Some y → is_some f ≡ true
is_at_lem e = rw e refl

-- a search over places, one turn: place k passes
pub first_hit : (f : ℕ → Bool) (n k : ℕ) → k < n → f k ≡ true → first_from f (n - k) k ≡ k
unfolding first_from
first_hit f n k h e = let q : n - k ≡ suc (n - (k + 1)) = omega arith in rw (q, e) refl

-- a search over places, one turn: place k fails
pub first_skip : (f : ℕ → Bool) (n k : ℕ) → k < n → f k ≡ false
    → first_from f (n - k) k ≡ first_from f (n - (k + 1)) (k + 1)
unfolding first_from
first_skip f n k h e = let q : n - k ≡ suc (n - (k + 1)) = omega arith in rw (q, e, add-one) refl

-- past the last place there is none
pub first_none : (f : ℕ → Bool) (n k : ℕ) → n ≤ k → first_from f (n - k) k ≡ k
unfolding first_from
first_none f n k h = let q : n - k ≡ 0 = omega arith in rw q refl

-- what was found passes
found_by : (f : ℕ → Bool) (m k r : ℕ) (b : Bool) → f k ≡ b → (r < suc k + m → f r ≡ true) → pick b k r < k + suc m
    → f (pick b k r) ≡ true
found_by f m k r true e g h = e
found_by f m k r false e g h = g (omega arith)

pub first_found : (f : ℕ → Bool) (m k : ℕ) → first_from f m k < k + m → f (first_from f m k) ≡ true
unfolding first_from
first_found f zero k h = absurd (omega arith)
first_found f (suc m) k h = found_by f m k (first_from f m (suc k)) (f k) refl (first_found f m (suc k)) h

-- what was found is no further than the places go
le_by : (b : Bool) (k m r : ℕ) → r ≤ suc k + m → pick b k r ≤ k + suc m
le_by true k m r h = omega arith
le_by false k m r h = omega arith

first_le_add : (f : ℕ → Bool) (m k : ℕ) → first_from f m k ≤ k + m
unfolding first_from
first_le_add f zero k = omega arith
first_le_add f (suc m) k = le_by (f k) k m (first_from f m (suc k)) (first_le_add f m (suc k))

pub first_le : (f : ℕ → Bool) (n : ℕ) → first_from f n 0 ≤ n
first_le f n = omega (arith, first_le_add f n 0)

-- tests that agree find the same place
pub first_ext : (f g : ℕ → Bool) (m k : ℕ) → ((z : ℕ) → z < k + m → f z ≡ g z) → first_from f m k ≡ first_from g m k
unfolding first_from
first_ext f g zero k h = refl
first_ext f g (suc m) k h = rw (h k (omega arith), first_ext f g m (suc k) (λ z l. h z (omega arith))) refl

-- before the place that was found none passes
before_by : (f : ℕ → Bool) (k r z : ℕ) (b : Bool) → f k ≡ b → (suc k ≤ z → z < r → f z ≡ false) → k ≤ z
    → z < pick b k r → f z ≡ false
before_by f k r z true e g l h = absurd (omega arith)
before_by f k r z false e g l h = ⊎_elim (λ p. rw (← p) e) (λ p. g p h) (eq-or-lt_of_le {n = k} {m = z} l)

pub first_before : (f : ℕ → Bool) (m k z : ℕ) → k ≤ z → z < first_from f m k → f z ≡ false
unfolding first_from
first_before f zero k z l h = absurd (omega arith)
first_before f (suc m) k z l h = before_by f k (first_from f m (suc k)) z (f k) refl (first_before f m (suc k) z) l h
