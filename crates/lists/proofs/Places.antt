-- Laws of `up_to`. Assumes nothing.
use mathlib.Core.Path.{◌≡◌, refl, ap, ◌∙◌}
use mathlib.Core.Logic.{◌⊎◌, inl, inr, ⊎_elim}
use mathlib.Core.List.{List}
use Prim.Native.Nat.{ℕ, zero, suc, ◌+◌, ◌≤◌, ◌<◌}
use native.Mathlib.Decide.{dec_le, dec_lt, ℕ_discrete}
use native.Mathlib.Nat.{eq-or-lt_of_le}
use native.Mathlib.Numerals.{add-one}
use native.Mathlib.Omega.{arith}
use lib.ListN.{length, get_or, set, length-set}
use lib.Seq.{get_or-set_same, get_or-set_other, set_out, set-get_or}
use Rattle.lists.specs.Places.{up_to}

-- the list keeps its length
pub up_to_length : (f : ℕ → ℕ → ℕ) (n : ℕ) (l : List ℕ) → length (up_to f n l) ≡ length l
unfolding up_to
up_to_length f zero l = refl
up_to_length f (suc n) l = length-set (up_to f n l) n (f n (get_or l n 0)) ∙ up_to_length f n l

-- no place has changed from n on
pub up_to_rest : (f : ℕ → ℕ → ℕ) (n : ℕ) (l : List ℕ) (k : ℕ) → n ≤ k → get_or (up_to f n l) k 0 ≡ get_or l k 0
unfolding up_to
up_to_rest f zero l k h = refl
up_to_rest f (suc n) l k h =
    get_or-set_other (up_to f n l) n k (f n (get_or l n 0)) 0 (λ e. omega arith) ∙ up_to_rest f n l k (omega arith)

-- place k holds the changed number once it has been passed
pub up_to_at : (f : ℕ → ℕ → ℕ) (n : ℕ) (l : List ℕ) (k : ℕ) → k < n → k < length l
    → get_or (up_to f n l) k 0 ≡ f k (get_or l k 0)
unfolding up_to
up_to_at f zero l k h p = absurd (omega arith)
up_to_at f (suc n) l k h p =
    ⊎_elim
    (λ e. rw e (get_or-set_same (up_to f n l) n (f n (get_or l n 0)) 0 (rw (up_to_length f n l, ← e) p)))
    (λ q. get_or-set_other (up_to f n l) n k (f n (get_or l n 0)) 0 (λ e. omega arith) ∙ up_to_at f n l k q p)
    (eq-or-lt_of_le {n = k} {m = n} (omega arith))

-- a loop starts: no place is changed yet
pub up_to_none : (f : ℕ → ℕ → ℕ) (l : List ℕ) → up_to f 0 l ≡ l
unfolding up_to
up_to_none f l = refl

-- changing one place more is writing it
up_to_step : (f : ℕ → ℕ → ℕ) (n : ℕ) (l : List ℕ) → set (up_to f n l) n (f n (get_or l n 0)) ≡ up_to f (n + 1) l
unfolding up_to
up_to_step f n l = rw add-one refl

-- a loop's turn: the list is the first n places changed; one more is written, with f of what stands there
pub up_to_next : (f : ℕ → ℕ → ℕ) (n : ℕ) (l w : List ℕ) (v : ℕ) → w ≡ up_to f n l → v ≡ f n (get_or w n 0)
    → set w n v ≡ up_to f (n + 1) l
up_to_next f n l w v e q = rw (e, q, e, up_to_rest f n l n (omega arith)) (up_to_step f n l)

-- a place after a write holds what was written, or what it held
pub set_get : (l : List ℕ) (i v k : ℕ) → (get_or (set l i v) k 0 ≡ v) ⊎ (get_or (set l i v) k 0 ≡ get_or l k 0)
set_get l i v k =
    elim (ℕ_discrete k i) [
      | yes e ↦
          elim (dec_lt i (length l)) [
            | yes h ↦ inl (rw e (get_or-set_same l i v 0 h))
            | no h ↦ inr (ap (λ (x : List ℕ). get_or x k 0) (set_out l i v (omega arith)))
          ]
      | no e ↦ inr (get_or-set_other l i k v 0 e)
    ]

-- a place after the first n were changed holds the changed number, or what it held
pub up_to_get :
    (f : ℕ → ℕ → ℕ) (n : ℕ) (l : List ℕ) (k : ℕ)
    → (get_or (up_to f n l) k 0 ≡ f k (get_or l k 0)) ⊎ (get_or (up_to f n l) k 0 ≡ get_or l k 0)
unfolding up_to
up_to_get f zero l k = inr refl
up_to_get f (suc n) l k =
    elim (ℕ_discrete k n) [
      | yes e ↦
          ⊎_elim (λ p. inl (p ∙ rw e refl)) (λ p. ⊎_elim (λ q. inl (p ∙ q)) (λ q. inr (p ∙ q)) (up_to_get f n l k))
          (set_get (up_to f n l) n (f n (get_or l n 0)) k)
      | no e ↦
          ⊎_elim (λ q. inl (get_or-set_other (up_to f n l) n k (f n (get_or l n 0)) 0 e ∙ q))
          (λ q. inr (get_or-set_other (up_to f n l) n k (f n (get_or l n 0)) 0 e ∙ q)) (up_to_get f n l k)
    ]

-- changes that agree on the first n places give one list
pub up_to_ext : (f g : ℕ → ℕ → ℕ) (n : ℕ) (l : List ℕ) → ((k x : ℕ) → k < n → f k x ≡ g k x) → up_to f n l ≡ up_to g n l
unfolding up_to
up_to_ext f g zero l h = refl
up_to_ext f g (suc n) l h = rw (up_to_ext f g n l (λ k x b. h k x (omega arith)), h n (get_or l n 0) (omega arith)) refl

-- places from m on that a change leaves as they are need not be passed
pub up_to_short : (f : ℕ → ℕ → ℕ) (m n : ℕ) (l : List ℕ) → m ≤ n
    → ((k : ℕ) → m ≤ k → k < n → f k (get_or l k 0) ≡ get_or l k 0) → up_to f n l ≡ up_to f m l
unfolding up_to
up_to_short f m zero l p h = let e : m ≡ 0 = omega arith in rw e refl
up_to_short f m (suc n) l p h =
    elim (dec_le m n) [
      | yes q ↦
          rw (h n q (omega arith), ← up_to_rest f n l n (omega arith)) (set-get_or (up_to f n l) n 0)
          ∙ up_to_short f m n l q (λ k a b. h k a (omega arith))
      | no q ↦ let e : m ≡ suc n = omega arith in rw e refl
    ]
