-- Laws of `table`, for any element. Assumes nothing.
use mathlib.Core.Path.{◌≡◌, refl}
use mathlib.Core.Logic.{⊎_elim}
use mathlib.Core.List.{List, [], ◌∷◌, ◌++◌, append_assoc, append-nil}
use Prim.Native.Nat.{ℕ, zero, suc, ◌+◌, ◌<◌}
use native.Mathlib.Nat.{eq-or-lt_of_le}
use native.Mathlib.Numerals.{add-one}
use native.Mathlib.Omega.{arith}
use lib.ListN.{length, get_or, set, drop, length-append}
use lib.Seq.{drop-cons, set_at, get_or_at}
use Rattle.lists.specs.Table.{table}

-- a table has n elements
pub table_length : {A : Type 0} (f : ℕ → A) (n : ℕ) → length (table f n) ≡ n
unfolding table
table_length f zero = refl
table_length f (suc n) = simp length-append (omega (arith, table_length f n))

-- place k of a table with more behind it holds f k
pub table_before :
    {A : Type 0} (f : ℕ → A) (d : A) (n : ℕ) (t : List A) (i : ℕ) → i < n → get_or (table f n ++ t) i d ≡ f i
unfolding table
table_before f d zero t i l = absurd (omega arith)
table_before f d (suc n) t i l =
    rw append_assoc
    (⊎_elim (λ e. rw e (get_or_at (table f n) (f n) t d n (table_length f n))) (λ m. table_before f d n (f n ∷ t) i m)
    (eq-or-lt_of_le {n = i} {m = n} (omega arith)))

-- place k of a table holds f k
pub table_at : {A : Type 0} (f : ℕ → A) (d : A) (n i : ℕ) → i < n → get_or (table f n) i d ≡ f i
table_at f d n i h = rw (← append-nil (table f n)) (table_before f d n [] i h)

-- a turn of a loop that fills a list
pub table_turn : {A : Type 0} (f : ℕ → A) (d : A) (i : ℕ) (x₀ x : List A) (r : A) → i < length x₀
    → x ≡ table f i ++ drop i x₀ → r ≡ f i
    → set x i r ≡ table f (i + 1) ++ drop (i + 1) x₀
unfolding table
table_turn f d i x₀ x r l h e =
    rw (
      h,
      e,
      add-one i,
      drop-cons x₀ i d l,
      set_at (table f i) (get_or x₀ i d) (drop (suc i) x₀) (f i) i (table_length f i),
      append_assoc,
    )

-- functions that agree below n have one table
pub table_ext : {A : Type 0} (f g : ℕ → A) (n : ℕ) → ((i : ℕ) → i < n → f i ≡ g i) → table f n ≡ table g n
unfolding table
table_ext f g zero h = refl
table_ext f g (suc n) h = rw (table_ext f g n (λ i l. h i (omega arith)), h n (omega arith))
