-- Laws of a count: later answers do not change it, and one tick more adds what that tick's answer says. Assumes
-- nothing.
use mathlib.Core.Path.{◌≡◌, ap}
use mathlib.Core.List.{List, [], ◌∷◌, ◌++◌}
use Prim.Native.Nat.{ℕ, suc, ◌+◌, ◌≤◌, ◌<◌}
use native.Mathlib.Omega.{arith}
use lib.ListN.{length, get_or-append}
use lib.Seq.{get_or_at}
use Rattle.dispatcher.specs.declared.Answer.{Answer}
use Rattle.dispatcher.specs.declared.Answer.TheVariants.{Silent}
use Rattle.history.specs.Share.{answer_at, count_of}
use Rattle.lists.proofs.Sum.{sum_none, sum_last, sum_same}

-- An answer already given stands.
pub answer_old : (l m : List Answer) (k : ℕ) → k < length l → answer_at (l ++ m) k ≡ answer_at l k
answer_old l m k h = get_or-append l m Silent k h

-- The answer that is added is the last.
pub answer_new : (l : List Answer) (a : Answer) (k : ℕ) → length l ≡ k → answer_at (l ++ (a ∷ [])) k ≡ a
answer_new l a k e = get_or_at l a [] Silent k e

module _ (f : Answer → ℕ) where
  -- No ticks count as none.
  pub count_none : (l : List Answer) (m : ℕ) → count_of f l m 0 ≡ 0
  unfolding count_of
  count_none l m = sum_none (λ j. f (answer_at l (m + j)))

  -- Ticks already done count as they did.
  pub count_old : (l k : List Answer) (m n : ℕ) → m + n ≤ length l → count_of f (l ++ k) m n ≡ count_of f l m n
  unfolding count_of
  count_old l k m n h =
      sum_same (λ j. f (answer_at (l ++ k) (m + j))) (λ j. f (answer_at l (m + j))) n
      (λ j b. ap f (answer_old l k (m + j) (omega arith)))

  -- The last tick can be peeled off a count.
  count_last : (l : List Answer) (m n : ℕ) → count_of f l m (suc n) ≡ count_of f l m n + f (answer_at l (m + n))
  unfolding count_of
  count_last l m n = sum_last (λ j. f (answer_at l (m + j))) n

  -- One tick more adds what its answer says.
  pub count_next :
      (l : List Answer) (a : Answer) (m n : ℕ) → length l ≡ m + n
      → count_of f (l ++ (a ∷ [])) m (suc n) ≡ count_of f l m n + f a
  count_next l a m n e =
      omega (
        arith,
        count_last (l ++ (a ∷ [])) m n,
        count_old l (a ∷ []) m n (omega arith),
        ap f (answer_new l a (m + n) e),
      )
