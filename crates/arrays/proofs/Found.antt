-- What a slice's search finds, or else its length, is what the search over places finds. Assumes nothing.
use Rattle.std.specs.Prelude.{position, unwrap_or}
use Rattle.std.proofs.Common.{◌≡◌, ℕ, ◌<◌, Bool, List, length, get_or, ◌∙◌, arith, le-ltb, lt-ltb}
use Rattle.std.specs.List.{position_or_len}
use Rattle.std.proofs.lemmas.List.Sums.{position_or_len_is}
use native.Mathlib.Decide.{dec_lt}
use Rattle.lists.specs.Search.{first_from}
use Rattle.lists.proofs.Search.{first_le, first_found, first_before}

pub found_first :
    (p f : ℕ → Bool) (xs : List ℕ) (n : ℕ)
    → length xs ≡ n
    → ((k : ℕ) → k < n → p (get_or xs k 0) ≡ f k)
    → unwrap_or (position p xs) n ≡ first_from f n 0
found_first p f xs n long agree =
    let e : position_or_len p xs ≡ first_from f n 0 =
    position_or_len_is p xs (first_from f n 0) 0 (omega (arith, first_le f n))
    (λ k h. agree k (omega (arith, first_le f n)) ∙ first_before f n 0 k (omega arith) h)
    (λ h. agree (first_from f n 0) (omega arith) ∙ first_found f n 0 (omega arith)) in
    elim (dec_lt (position_or_len p xs) (length xs)) [
      | yes h ↦ rw (lt-ltb (position_or_len p xs) (length xs) h) e
      | no h ↦ rw (le-ltb (position_or_len p xs) (length xs) (omega arith)) (omega (arith, e, first_le f n))
    ]
