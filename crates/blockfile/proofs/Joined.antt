-- Laws of parts joined, each of 512 bytes. Assumes nothing.
use mathlib.Core.Path.{◌≡◌, refl, sym, ap, ◌∙◌}
use mathlib.Core.Logic.{⊎_elim}
use mathlib.Core.List.{List, [], ◌++◌, append_assoc, append-nil}
use Prim.Native.Nat.{ℕ, zero, suc, ◌+◌, ◌*◌, ◌-◌, ◌≤◌, ◌<◌}
use native.Mathlib.Nat.{eq-or-lt_of_le}
use native.Mathlib.Numerals.{add-one}
use native.Mathlib.Omega.{arith}
use lib.ListN.{length, take, drop, length-append, length-drop}
use lib.Seq.{length-take-le, take_all, take_at, take-add, drop_at, drop-drop, drop-length}
use Rattle.block.specs.Layout.{block_size}
use Rattle.blockfile.specs.File.{block_at}
use Rattle.blockfile.specs.Joined.{joined}

-- Parts that agree join to the same.
pub joined_ext : (f g : ℕ → List ℕ) (n : ℕ) → ((k : ℕ) → k < n → f k ≡ g k) → joined f n ≡ joined g n
unfolding joined
joined_ext f g zero h = refl
joined_ext f g (suc n) h = rw (joined_ext f g n (λ k l. h k (omega arith)), h n (omega arith)) refl

-- Parts of a block's length, as far as they are joined.
abbrev EachLong : (ℕ → List ℕ) → ℕ → Type 0
EachLong f n = (k : ℕ) → k < n → length (f k) ≡ block_size

pub joined_length : (f : ℕ → List ℕ) (n : ℕ) → EachLong f n → length (joined f n) ≡ block_size * n
unfolding joined
joined_length f zero long = refl
joined_length f (suc n) long =
    simp length-append (omega (arith, joined_length f n (λ k l. long k (omega arith)), long n (omega arith)))

-- Each part, with more behind.
joined_before :
    (f : ℕ → List ℕ) (n : ℕ) → EachLong f n → (t : List ℕ) (k : ℕ) → k < n → block_at (joined f n ++ t) k ≡ f k
unfolding joined
joined_before f zero long t k l = absurd (omega arith)
joined_before f (suc n) long t k l =
    rw append_assoc
    (⊎_elim
    (λ (e : k ≡ n).
    rw e
    (ap (take block_size)
    (drop_at (joined f n) (f n ++ t) (block_size * n) (joined_length f n (λ k l. long k (omega arith))))
    ∙ take_at (f n) t block_size (long n (omega arith))))
    (λ (m : k < n). joined_before f n (λ k l. long k (omega arith)) (f n ++ t) k m)
    (eq-or-lt_of_le {n = k} {m = n} (omega arith)))

-- Each part is a block of the whole.
pub joined_at : (f : ℕ → List ℕ) (n : ℕ) → EachLong f n → (k : ℕ) → k < n → block_at (joined f n) k ≡ f k
joined_at f n long k l = rw (← append-nil (joined f n)) (joined_before f n long [] k l)

-- The blocks of a list joined are its first bytes.
pub blocks_joined : (s : List ℕ) (n : ℕ) → joined (block_at s) n ≡ take (block_size * n) s
unfolding joined
blocks_joined s zero = refl
blocks_joined s (suc n) =
    let e : block_size * suc n ≡ block_size * n + block_size = omega arith in
    rw (e, blocks_joined s n) (sym (take-add (block_size * n) block_size s))

-- The part behind j parts has room for one more.
pub part_room : (j : ℕ) (x : List ℕ) → block_size * j + block_size ≤ length x
    → block_size ≤ length (take (length x - block_size * j) (drop (block_size * j) x))
part_room j x h =
    let d = length-drop (block_size * j) x in
    let l = length-take-le (length x - block_size * j) (drop (block_size * j) x) (omega arith) in
    omega arith

-- A loop's turn: one part more is put in behind those that stand, into a part that reaches to the end.
pub part_next : (f : ℕ → List ℕ) (j : ℕ) (o x part : List ℕ) → EachLong f j
    → block_size * j ≤ length o → x ≡ joined f j ++ drop (block_size * j) o
    → part ≡ f j ++ drop block_size (take (length x - block_size * j) (drop (block_size * j) x))
    → take (block_size * j) x ++ (part ++ drop (length x - block_size * j) (drop (block_size * j) x))
    ≡ joined f (j + 1) ++ drop (block_size * (j + 1)) o
unfolding joined
part_next f j o x part long room e q =
    let h = joined_length f j long in
    let front : take (block_size * j) x ≡ joined f j = rw e (take_at (joined f j) (drop (block_size * j) o) _ h) in
    let back : drop (block_size * j) x ≡ drop (block_size * j) o =
    rw e (drop_at (joined f j) (drop (block_size * j) o) _ h) in
    let m : length x - block_size * j ≡ length (drop (block_size * j) o) =
    omega (arith, ap length e, length-append (joined f j) (drop (block_size * j) o), h) in
    let n : block_size * suc j ≡ block_size * j + block_size = omega arith in
    rw (
      q,
      front,
      back,
      m,
      take_all (length (drop (block_size * j) o)) (drop (block_size * j) o) (omega arith),
      drop-length (drop (block_size * j) o),
      append-nil,
      drop-drop,
      add-one j,
      n,
      append_assoc,
    )
