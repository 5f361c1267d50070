-- Laws of a log in two parts, the first of whole blocks. Assumes nothing.
use mathlib.Core.Path.{◌≡◌, refl, ap, ◌∙◌}
use mathlib.Core.List.{List, ◌++◌}
use Prim.Native.Nat.{ℕ, zero, suc, ◌+◌, ◌*◌, ◌%◌, ◌≤◌, ◌<◌}
use native.Mathlib.Nat.{add-zero, add-suc}
use native.Mathlib.Omega.{arith}
use lib.Dec.{ltb}
use lib.ListN.{length, take, drop, length-append, length-drop}
use lib.Seq.{take-append-le, drop-append-le, drop-append-add}
use Rattle.lists.specs.Choice.{pick}
use Rattle.lists.specs.Sum.{sum_to}
use Rattle.plan.specs.declared.Plan.{Plan}
use Rattle.plan.specs.declared.Refusal.{Refusal}
use Rattle.plan.specs.First.{refused, fine, or_else, first_refused}
use Rattle.block.specs.Layout.{block_size}
use Rattle.blockfile.specs.File.{block_at, blocks_in}
use Rattle.statement.specs.declared.Statement.{Statement}
use Rattle.statement.specs.Log.{after_blocks, passed_by, passed_in, first_passed}
use Rattle.statement_laws.specs.Cut.{first_of}
use Rattle.lists.proofs.Sum.{sum_same}

-- A sum over m and then n more is two sums.
sum_parts : (f : ℕ → ℕ) (m n : ℕ) → sum_to f (m + n) ≡ sum_to f m + sum_to (λ k. f (m + k)) n
unfolding sum_to
sum_parts f m zero = rw add-zero (omega arith)
sum_parts f m (suc n) = rw add-suc (omega (arith, sum_parts f m n))

-- The first refusal of m places and n more is that of the m, else that of the n.
or_or : (x k y j : ℕ) (r : Refusal)
    → or_else x k (or_else y j r) ≡ or_else (or_else x k (refused y j)).number (or_else x k (refused y j)).place r
unfolding or_else
or_or zero k y j r = refl
or_or (suc x) k y j r = refl

first_parts : (f : ℕ → ℕ) (m n k : ℕ)
    → first_refused f (m + n) k
    ≡ or_else (first_refused f m k).number (first_refused f m k).place (first_refused f n (k + m))
unfolding first_refused or_else
first_parts f zero n k = let e : 0 + n ≡ n = omega arith in rw (e, add-zero) refl
first_parts f (suc m) n k =
    let e : suc m + n ≡ suc (m + n) = omega arith in
    let q : k + suc m ≡ suc k + m = omega arith in
    rw (e, q)
    (ap (λ (r : Refusal). or_else (f k) k r) (first_parts f m n (suc k))
    ∙ or_or (f k) k (first_refused f m (suc k)).number (first_refused f m (suc k)).place (first_refused f n (suc k + m)))

-- The first refusal from place m on is that of the places counted anew, moved on by m.
move_by : (x k m : ℕ) (r : Refusal)
    → or_else x (m + k) (or_else r.number (m + r.place) fine)
    ≡ or_else (or_else x k r).number (m + (or_else x k r).place) fine
unfolding or_else
move_by zero k m r = refl
move_by (suc x) k m r = refl

first_moved : (f g : ℕ → ℕ) (m n k : ℕ) → ((j : ℕ) → j < k + n → f (m + j) ≡ g j)
    → first_refused f n (m + k) ≡ or_else (first_refused g n k).number (m + (first_refused g n k).place) fine
unfolding first_refused or_else
first_moved f g m zero k h = refl
first_moved f g m (suc n) k h =
    rw (h k (omega arith), ← add-suc m k)
    (ap (λ (r : Refusal). or_else (g k) (m + k) r) (first_moved f g m n (suc k) (λ j l. h j (omega arith)))
    ∙ move_by (g k) k m (first_refused g n (suc k)))

-- Places that agree have the same first refusal.
first_same : (f g : ℕ → ℕ) (n k : ℕ) → ((j : ℕ) → j < k + n → f j ≡ g j) → first_refused f n k ≡ first_refused g n k
unfolding first_refused
first_same f g zero k h = refl
first_same f g (suc n) k h = rw (h k (omega arith), first_same f g n (suc k) (λ j l. h j (omega arith))) refl

module _ (p : Plan) (a b : List ℕ) (whole : length a % block_size ≡ 0) (s : Statement) where
  -- The statement after the first part.
  abbrev between : Statement
  between = after_blocks p a (blocks_in a) s

  block_first : (k : ℕ) → k < blocks_in a → block_at (a ++ b) k ≡ block_at a k
  block_first k l =
      ap (take block_size) (drop-append-le (block_size * k) a b (omega arith))
      ∙ take-append-le block_size (drop (block_size * k) a) b (omega (arith, length-drop (block_size * k) a))

  block_rest : (k : ℕ) → block_at (a ++ b) (blocks_in a + k) ≡ block_at b k
  block_rest k =
      let e : block_size * (blocks_in a + k) ≡ length a + block_size * k = omega arith in
      rw (e, drop-append-add a b (block_size * k)) refl

  after_first : (k : ℕ) → k ≤ blocks_in a → after_blocks p (a ++ b) k s ≡ after_blocks p a k s
  unfolding after_blocks
  after_first zero l = refl
  after_first (suc k) l = rw (block_first k (omega arith), after_first k (omega arith)) refl

  pub after_rest : (k : ℕ) → after_blocks p (a ++ b) (blocks_in a + k) s ≡ after_blocks p b k between
  unfolding after_blocks
  after_rest zero = rw add-zero (after_first (blocks_in a) (omega arith))
  after_rest (suc k) = rw (add-suc (blocks_in a) k) (rw (block_rest k, after_rest k) refl)

  passed_first : (k : ℕ) → k < blocks_in a → passed_by p (a ++ b) s k ≡ passed_by p a s k
  unfolding passed_by
  passed_first k l = rw (block_first k l, after_first k (omega arith)) refl

  passed_rest : (k : ℕ) → passed_by p (a ++ b) s (blocks_in a + k) ≡ passed_by p b between k
  unfolding passed_by
  passed_rest k = rw (block_rest k, after_rest k) refl

  -- The blocks of both parts.
  pub blocks_parts : length b % block_size ≡ 0 → blocks_in (a ++ b) ≡ blocks_in a + blocks_in b
  blocks_parts e = rw (length-append a b) (omega arith)

  -- How many of both parts are passed over.
  pub passed_parts : (n : ℕ)
      → passed_in p (a ++ b) s (blocks_in a + n) ≡ passed_in p a s (blocks_in a) + passed_in p b between n
  passed_parts n =
      let one : ℕ → ℕ = λ number. pick (ltb 0 number) 1 0 in
      omega (
        arith,
        sum_parts (λ k. one (passed_by p (a ++ b) s k)) (blocks_in a) n,
        sum_same (λ k. one (passed_by p (a ++ b) s k)) (λ k. one (passed_by p a s k)) (blocks_in a)
            (λ k l. ap one (passed_first k l)),
        sum_same (λ k. one (passed_by p (a ++ b) s (blocks_in a + k))) (λ k. one (passed_by p b between k)) n
            (λ k l. ap one (passed_rest k)),
      )

  -- The first that is passed over.
  pub first_of_parts : (n : ℕ)
      → first_passed p (a ++ b) s (blocks_in a + n)
      ≡ first_of (blocks_in a) (first_passed p a s (blocks_in a)) (first_passed p b between n)
  unfolding first_of
  first_of_parts n =
      first_parts (passed_by p (a ++ b) s) (blocks_in a) n 0
      ∙ rw (
        first_same (passed_by p (a ++ b) s) (passed_by p a s) (blocks_in a) 0 (λ k l. passed_first k (omega arith)),
        from,
        first_moved (passed_by p (a ++ b) s) (passed_by p b between) (blocks_in a) n 0 (λ k l. passed_rest k),
      ) refl
    where
      from : 0 + blocks_in a ≡ blocks_in a + 0
      from = omega arith
