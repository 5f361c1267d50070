-- Laws of the bytes of words: words and bytes go over into each other and back. Assumes nothing.
use Rattle.std.proofs.Common.{◌≡◌, ℕ, zero, suc, ◌+◌, ◌*◌, ◌/◌, ◌%◌, ◌<◌, ◌≤◌, ◌≢◌, List, [], ◌∷◌, ◌++◌, length, get_or, take, set, replicate, sym, refl, ap, ◌∙◌, ⊎_elim, append_assoc, mod-eq_of_lt, eq-or-lt_of_le, arith, length-append, get_or-set_other, get_or-set_same}
use native.Mathlib.Nat.{div-div-eq-div-mul}
use lib.ListN.{replicate-append-replicate}
use Rattle.lists.specs.Places.{nth}
use Rattle.words.specs.Bytes.{Bytes, bytes4, with_u32, with_word, bytes_of}
use Rattle.words.specs.Word.{word_wrap, u32_at, word}

-- Four bytes a word.
pub length_bytes_of : (f : ℕ → ℕ) (n : ℕ) → length (bytes_of f n) ≡ 4 * n
unfolding bytes_of
length_bytes_of f zero = refl
length_bytes_of f (suc n) = simp length-append (omega (arith, length_bytes_of f n))

-- Four known elements at a seam.
at_seam : (p : List ℕ) (a b c d : ℕ) (t : List ℕ) (n : ℕ) → length p ≡ n →
    u32_at (p ++ (a ∷ b ∷ c ∷ d ∷ t)) n ≡ a + 256 * b + 65536 * c + 16777216 * d
at_seam [] a b c d t zero e = refl
at_seam [] a b c d t (suc n) e = absurd (omega arith)
at_seam (x ∷ p) a b c d t zero e = absurd (omega arith)
at_seam (x ∷ p) a b c d t (suc n) e =
    let e2 : length p ≡ n = omega arith in
    let s1 : suc n + 1 ≡ suc (n + 1) = omega arith in
    let s2 : suc n + 2 ≡ suc (n + 2) = omega arith in
    let s3 : suc n + 3 ≡ suc (n + 3) = omega arith in
    rw (s1, s2, s3) (at_seam p a b c d t n e2)

by256 : (x : ℕ) → x ≡ x % 256 + 256 * (x / 256)
by256 x = omega arith

-- A number's four bytes say it modulo 2 to the 32.
digits4 : (w r0 r1 r2 r3 q1 q2 q3 q4 : ℕ) → w ≡ r0 + 256 * q1 → q1 ≡ r1 + 256 * q2 → q2 ≡ r2 + 256 * q3
    → q3 ≡ r3 + 256 * q4 →
    r0 < 256 → r1 < 256 → r2 < 256 → r3 < 256 →
    r0 + 256 * r1 + 65536 * r2 + 16777216 * r3 ≡ w % word_wrap
digits4 w r0 r1 r2 r3 q1 q2 q3 q4 h0 h1 h2 h3 l0 l1 l2 l3 = omega arith

byte : (x : ℕ) → x % 256 < 256
byte x = omega arith

pub join4_mod : (w : ℕ)
    → w % 256 + 256 * (w / 256 % 256) + 65536 * (w / 65536 % 256) + 16777216 * (w / 16777216 % 256) ≡ w % word_wrap
join4_mod w =
    digits4 w (w % 256) (w / 256 % 256) (w / 65536 % 256) (w / 16777216 % 256) (w / 256) (w / 65536) (w / 16777216)
    (w / 16777216 / 256)
    (by256 w)
    (by256 (w / 256) ∙ ap (λ (q : ℕ). w / 256 % 256 + 256 * q) (div-div-eq-div-mul w 256 256))
    (by256 (w / 65536) ∙ ap (λ (q : ℕ). w / 65536 % 256 + 256 * q) (div-div-eq-div-mul w 65536 256))
    (by256 (w / 16777216)) (byte w) (byte (w / 256)) (byte (w / 65536)) (byte (w / 16777216))

-- Bytes are those of the number that they say.
low : (a y : ℕ) → a < 256 → (a + 256 * y) % 256 ≡ a
low a y h = omega arith

high : (a y : ℕ) → a < 256 → (a + 256 * y) / 256 ≡ y
high a y h = omega arith

pub split4 : (a b c d : ℕ) → a < 256 → b < 256 → c < 256 → d < 256 →
    bytes4 (a + 256 * b + 65536 * c + 16777216 * d) ≡ a ∷ b ∷ c ∷ d ∷ []
split4 a b c d ha hb hc hd =
    let w : ℕ = a + 256 * (b + 256 * (c + 256 * d)) in
    let e : a + 256 * b + 65536 * c + 16777216 * d ≡ w = omega arith in
    let q1 : w / 256 ≡ b + 256 * (c + 256 * d) = high a (b + 256 * (c + 256 * d)) ha in
    let q2 : w / 65536 ≡ c + 256 * d =
    sym (div-div-eq-div-mul w 256 256) ∙ ap (λ (q : ℕ). q / 256) q1 ∙ high b (c + 256 * d) hb in
    let q3 : w / 16777216 ≡ d = sym (div-div-eq-div-mul w 65536 256) ∙ ap (λ (q : ℕ). q / 256) q2 ∙ high c d hc in
    rw (e, q1, q2, q3, low a (b + 256 * (c + 256 * d)) ha, low b (c + 256 * d) hb, low c d hc, mod-eq_of_lt hd)

-- Words of the bytes of words, modulo 2 to the 32.
pub word_bytes_of_mod : (f : ℕ → ℕ) (n : ℕ) (t : List ℕ) (k : ℕ) → k < n → word (bytes_of f n ++ t) k ≡ f k % word_wrap
unfolding word bytes_of
word_bytes_of_mod f zero t k l = absurd (omega arith)
word_bytes_of_mod f (suc n) t k l =
    rw append_assoc
    (⊎_elim
    (λ e. rw e (at_seam (bytes_of f n) (f n % 256) (f n / 256 % 256) (f n / 65536 % 256) (f n / 16777216 % 256) t (4 * n)
    (length_bytes_of f n)
    ∙ join4_mod (f n)))
    (λ m. word_bytes_of_mod f n (bytes4 (f n) ++ t) k m)
    (eq-or-lt_of_le {n = k} {m = n} (omega arith)))

-- Words that fit are read back from their bytes as themselves.
pub word_bytes_of : (f : ℕ → ℕ) (n : ℕ) (t : List ℕ) (k : ℕ) → k < n → f k < word_wrap → word (bytes_of f n ++ t) k ≡ f k
word_bytes_of f n t k l h = word_bytes_of_mod f n t k l ∙ mod-eq_of_lt h

-- The first elements, and four more.
take4 : (l : List ℕ) (n : ℕ) → n + 4 ≤ length l →
    take (n + 4) l ≡ take n l ++ (get_or l n 0 ∷ get_or l (n + 1) 0 ∷ get_or l (n + 2) 0 ∷ get_or l (n + 3) 0 ∷ [])
take4 (a ∷ b ∷ c ∷ d ∷ l) zero h = refl
take4 (x ∷ l) (suc n) h =
    let s1 : suc n + 1 ≡ suc (n + 1) = omega arith in
    let s2 : suc n + 2 ≡ suc (n + 2) = omega arith in
    let s3 : suc n + 3 ≡ suc (n + 3) = omega arith in
    let s4 : suc n + 4 ≡ suc (n + 4) = omega arith in
    rw (s1, s2, s3, s4) (ap (λ (r : List ℕ). x ∷ r) (take4 l n (omega arith)))
take4 [] n h = absurd (omega arith)
take4 (a ∷ []) zero h = absurd (omega arith)
take4 (a ∷ b ∷ []) zero h = absurd (omega arith)
take4 (a ∷ b ∷ c ∷ []) zero h = absurd (omega arith)

-- The bytes of a list's words are the list's.
pub bytes_of_word : (b : List ℕ) (n : ℕ) → 4 * n ≤ length b → Bytes b → bytes_of (word b) n ≡ take (4 * n) b
unfolding word bytes_of
bytes_of_word b zero h bs = refl
bytes_of_word b (suc n) h bs =
    let e : 4 * suc n ≡ 4 * n + 4 = omega arith in
    rw (
      e,
      bytes_of_word b n (omega arith) bs,
      take4 b (4 * n) (omega arith),
      split4 (get_or b (4 * n) 0) (get_or b (4 * n + 1) 0) (get_or b (4 * n + 2) 0) (get_or b (4 * n + 3) 0) (bs _) (bs _)
          (bs _) (bs _),
    )

with_seam : (p : List ℕ) (a b c d : ℕ) (t : List ℕ) (w n : ℕ) → length p ≡ n
    → with_u32 (p ++ (a ∷ b ∷ c ∷ d ∷ t)) n w ≡ p ++ (bytes4 w ++ t)
with_seam [] a b c d t w zero e = refl
with_seam [] a b c d t w (suc n) e = absurd (omega arith)
with_seam (x ∷ p) a b c d t w zero e = absurd (omega arith)
with_seam (x ∷ p) a b c d t w (suc n) e =
    let s1 : suc n + 1 ≡ suc (n + 1) = omega arith in
    let s2 : suc n + 2 ≡ suc (n + 2) = omega arith in
    let s3 : suc n + 3 ≡ suc (n + 3) = omega arith in
    rw (s1, s2, s3) (ap (λ (r : List ℕ). x ∷ r) (with_seam p a b c d t w n (omega arith)))

-- Bytes of words that agree.
pub bytes_ext : (f g : ℕ → ℕ) (n : ℕ) → ((k : ℕ) → k < n → f k ≡ g k) → bytes_of f n ≡ bytes_of g n
unfolding bytes_of
bytes_ext f g zero h = refl
bytes_ext f g (suc n) h = rw (bytes_ext f g n (λ k l. h k (omega arith)), h n (omega arith))

put_last : (f g : ℕ → ℕ) (n k w : ℕ) (t : List ℕ) → k ≡ n → g k ≡ w → ((j : ℕ) → j ≢ k → g j ≡ f j) →
    with_word (bytes_of f n ++ (bytes4 (f n) ++ t)) k w ≡ bytes_of g n ++ (bytes4 (g n) ++ t)
put_last f g n k w t q e o =
    let h : g n ≡ w = rw (← q) e in
    let s : bytes_of g n ≡ bytes_of f n = bytes_ext g f n (λ j l. o j (λ p. omega arith)) in
    rw (q, h, s)
    (with_seam (bytes_of f n) (f n % 256) (f n / 256 % 256) (f n / 65536 % 256) (f n / 16777216 % 256) t w (4 * n)
    (length_bytes_of f n))

-- A word put among the bytes of words.
put_among : (f g : ℕ → ℕ) (n k w : ℕ) (t : List ℕ) → k < n → g k ≡ w → ((j : ℕ) → j ≢ k → g j ≡ f j) →
    with_word (bytes_of f n ++ t) k w ≡ bytes_of g n ++ t
unfolding bytes_of
put_among f g zero k w t l e o = absurd (omega arith)
put_among f g (suc n) k w t l e o =
    rw (append_assoc (bytes_of f n) (bytes4 (f n)) t, append_assoc (bytes_of g n) (bytes4 (g n)) t)
    (⊎_elim
    (λ q. put_last f g n k w t q e o)
    (λ m. rw (o n (λ q. omega arith)) (put_among f g n k w (bytes4 (f n) ++ t) m e o))
    (eq-or-lt_of_le {n = k} {m = n} (omega arith)))

-- Word k of a list put in.
pub put_set : (x : List ℕ) (n k w : ℕ) (t : List ℕ) → length x ≡ n → k < n →
    with_word (bytes_of (nth x) n ++ t) k w ≡ bytes_of (nth (set x k w)) n ++ t
put_set x n k w t e l =
    put_among (nth x) (nth (set x k w)) n k w t l (get_or-set_same x k w 0 (omega arith))
    (λ j o. get_or-set_other x k j w 0 o)

-- Zero bytes are zero words.
pub bytes_zeros : (f : ℕ → ℕ) (n : ℕ) → ((k : ℕ) → k < n → f k ≡ 0) → replicate (4 * n) 0 ≡ bytes_of f n
unfolding bytes_of
bytes_zeros f zero h = refl
bytes_zeros f (suc n) h =
    let e : 4 * suc n ≡ 4 * n + 4 = omega arith in
    rw (e, h n (omega arith), ← bytes_zeros f n (λ k l. h k (omega arith)))
    (sym (replicate-append-replicate (4 * n) 4 0))
