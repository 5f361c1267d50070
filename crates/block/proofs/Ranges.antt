-- Tests and values at each number of a range, as a chain over it or a closure for each place gives them. Assumes
-- nothing.
use Rattle.std.proofs.Common.{◌≡◌, Bool, true, false, ℕ, zero, suc, ◌+◌, ◌<◌, ◌≤◌, List, length, ⊎_elim, eq-or-lt_of_le, sym, ◌∙◌, ap, arith}
use Rattle.std.proofs.lemmas.List.FromFn.{get_or-range_with_len, length-range_with_len}
use Rattle.std.specs.List.{range_with_len, AllWithin, HoldsAt}
use Rattle.std.specs.Bool.{MatchBool}
use Rattle.std.specs.Array.{IsFromFnResultFrom}
use denote.Param.Members.{Mut, Called}
use Rattle.lists.specs.All.{all_to}
use Rattle.lists.specs.Places.{nth}
use Rattle.lists.proofs.All.{all_by, all_fails, all_ext}

-- Whether each of n numbers from one on passes.
pub all_over : (f : ℕ → Bool) (from n : ℕ) (ok : Bool)
    → MatchBool ok (AllWithin (λ k. f k ≡ true) (range_with_len from n) 0 (length (range_with_len from n)))
    ((k : ℕ) × (k < length (range_with_len from n)) × HoldsAt (λ k. f k ≡ false) (range_with_len from n) k)
    → ok ≡ all_to (λ i. f (from + i)) n
all_over f from n true h =
    sym
    (all_by (λ i. f (from + i)) n
    (λ i l. rw (get_or-range_with_len from n i 0 l) at
    (h i 0 (omega arith) (omega (arith, length-range_with_len from n)))))
all_over f from n false h =
    let l : h.0 < n = omega (arith, h.1, length-range_with_len from n) in
    all_fails (λ i. f (from + i)) n h.0 l (rw (get_or-range_with_len from n h.0 0 l) at (h.2 0))

-- What a closure that keeps what it holds gives at each place.
pub each_by : {F : Type 0} (g : Mut F (ℕ × Unit {0}) ℕ) (f : F) (ys : List ℕ) (v : ℕ → ℕ)
    → ((i y : ℕ) (q : F) → Called g f (i, tt) y q → (q ≡ f) × (y ≡ v i))
    → (i n : ℕ) → IsFromFnResultFrom g f ys i n → (k : ℕ) → i ≤ k → k < i + n → nth ys k ≡ v k
each_by g f ys v h i zero a k l u = absurd (omega arith)
each_by g f ys v h i (suc n) a k l u =
    let s = h i a.1 a.0 a.3 in
    ⊎_elim (λ e. rw (← e) (a.2.1 0 ∙ s.1))
    (λ m. each_by g f ys v h (i + 1) n (rw s.0 at a.4) k (omega arith) (omega arith))
    (eq-or-lt_of_le {n = i} {m = k} l)

-- Whether each of the first n numbers passes.
pub all_below : (f : ℕ → Bool) (n : ℕ) (ok : Bool)
    → MatchBool ok (AllWithin (λ k. f k ≡ true) (range_with_len 0 n) 0 (length (range_with_len 0 n)))
    ((k : ℕ) × (k < length (range_with_len 0 n)) × HoldsAt (λ k. f k ≡ false) (range_with_len 0 n) k)
    → ok ≡ all_to f n
all_below f n ok h =
    all_over f 0 n ok h ∙ all_ext _ _ n (λ i l. let e : 0 + i ≡ i = omega arith in ap f e)
