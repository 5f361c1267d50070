-- Laws of one word put into bytes: its own bytes, and those before and behind it. Assumes nothing.
use Rattle.std.proofs.Common.{◌≡◌, ℕ, zero, suc, ◌+◌, ◌*◌, ◌/◌, ◌%◌, ◌<◌, ◌≤◌, ◌≢◌, List, [], ◌∷◌, ◌++◌, length, set, refl, ap, ◌∙◌, ⊎_elim, arith, length-set, get_or-set_other, get_or-set_same}
use native.Mathlib.Decide.{dec_lt}
use lib.Seq.{set-append_left, set-get_or}
use Rattle.lists.specs.Places.{nth}
use borrow.Rule.Slice.PartMut.{put_mid}
use Rattle.words.specs.Bytes.{Bytes, bytes4, with_u32, with_word}
use Rattle.words.specs.Word.{word_wrap, u32_at, word}
use Rattle.lists.proofs.Places.{set_get}
use Rattle.words.proofs.Bytes.{join4_mod, split4}

-- The length stays.
pub with_length : (b : List ℕ) (i w : ℕ) → length (with_u32 b i w) ≡ length b
with_length b i w = simp length-set

module _ (b : List ℕ) (i w : ℕ) where
  -- The bytes with one, two and three of the word's put in.
  abbrev with1 : List ℕ
  with1 = set b i (w % 256)

  abbrev with2 : List ℕ
  with2 = set with1 (i + 1) (w / 256 % 256)

  abbrev with3 : List ℕ
  with3 = set with2 (i + 2) (w / 65536 % 256)

  -- More bytes behind stay.
  pub with_front : (t : List ℕ) → i + 4 ≤ length b → with_u32 (b ++ t) i w ≡ with_u32 b i w ++ t
  with_front t h =
      rw (
        set-append_left b t i (w % 256) (omega arith),
        set-append_left with1 t (i + 1) (w / 256 % 256) (simp length-set (omega arith)),
        set-append_left with2 t (i + 2) (w / 65536 % 256) (simp length-set (omega arith)),
        set-append_left with3 t (i + 3) (w / 16777216 % 256) (simp length-set (omega arith)),
      )

  -- A byte that is none of the four stays.
  beside : (m : ℕ) → m ≢ i → m ≢ i + 1 → m ≢ i + 2 → m ≢ i + 3 → nth (with_u32 b i w) m ≡ nth b m
  beside m n0 n1 n2 n3 =
      get_or-set_other with3 (i + 3) m (w / 16777216 % 256) 0 n3
      ∙ get_or-set_other with2 (i + 2) m (w / 65536 % 256) 0 n2
      ∙ get_or-set_other with1 (i + 1) m (w / 256 % 256) 0 n1
      ∙ get_or-set_other b i m (w % 256) 0 n0

  pub with_before : (m : ℕ) → m < i → nth (with_u32 b i w) m ≡ nth b m
  with_before m h = beside m (λ e. omega arith) (λ e. omega arith) (λ e. omega arith) (λ e. omega arith)

  pub with_behind : (m : ℕ) → i + 4 ≤ m → nth (with_u32 b i w) m ≡ nth b m
  with_behind m h = beside m (λ e. omega arith) (λ e. omega arith) (λ e. omega arith) (λ e. omega arith)

  module _ (h : i + 4 ≤ length b) where
    -- The first two of the four.
    pub with_first : nth (with_u32 b i w) i ≡ w % 256
    with_first =
        get_or-set_other with3 (i + 3) i (w / 16777216 % 256) 0 (λ e. omega arith)
        ∙ get_or-set_other with2 (i + 2) i (w / 65536 % 256) 0 (λ e. omega arith)
        ∙ get_or-set_other with1 (i + 1) i (w / 256 % 256) 0 (λ e. omega arith)
        ∙ get_or-set_same b i (w % 256) 0 (omega arith)

    pub with_second : nth (with_u32 b i w) (i + 1) ≡ w / 256 % 256
    with_second =
        get_or-set_other with3 (i + 3) (i + 1) (w / 16777216 % 256) 0 (λ e. omega arith)
        ∙ get_or-set_other with2 (i + 2) (i + 1) (w / 65536 % 256) 0 (λ e. omega arith)
        ∙ get_or-set_same with1 (i + 1) (w / 256 % 256) 0 (simp length-set (omega arith))

    -- The four say the word, modulo 2 to the 32.
    with_all : u32_at (with_u32 b i w) i ≡ w % word_wrap
    with_all =
        rw (
          with_first,
          with_second,
          get_or-set_other with3 (i + 3) (i + 2) (w / 16777216 % 256) 0 (λ e. omega arith)
              ∙ get_or-set_same with2 (i + 2) (w / 65536 % 256) 0 (simp length-set (omega arith)),
          get_or-set_same with3 (i + 3) (w / 16777216 % 256) 0 (simp length-set (omega arith)),
        )
        (join4_mod w)

  -- What was bytes still is.
  pub with_bytes : Bytes b → Bytes (with_u32 b i w)
  with_bytes h =
      put with3 (i + 3) _ (omega arith)
      (put with2 (i + 2) _ (omega arith) (put with1 (i + 1) _ (omega arith) (put b i _ (omega arith) h)))
    where
      put : (l : List ℕ) (j v : ℕ) → v < 256 → Bytes l → Bytes (set l j v)
      put l j v lt bs k = ⊎_elim (λ e. rw e lt) (λ e. rw e (bs k)) (set_get l j v k)

-- The word put in is read back.
pub word_with : (b : List ℕ) (k w : ℕ) → 4 * k + 4 ≤ length b → word (with_word b k w) k ≡ w % word_wrap
unfolding word
word_with b k w h = with_all b (4 * k) w h

-- All other words stay.
pub word_beside : (b : List ℕ) (k w j : ℕ) → j ≢ k → word (with_word b k w) j ≡ word b j
unfolding word
word_beside b k w j n =
    elim (dec_lt j k) [
      | yes h ↦ rw (
        with_before b (4 * k) w (4 * j) (omega arith),
        with_before b (4 * k) w (4 * j + 1) (omega arith),
        with_before b (4 * k) w (4 * j + 2) (omega arith),
        with_before b (4 * k) w (4 * j + 3) (omega arith),
      )
      | no h ↦ let l : k < j = other j k n (omega arith) in
          rw (
            with_behind b (4 * k) w (4 * j) (omega arith),
            with_behind b (4 * k) w (4 * j + 1) (omega arith),
            with_behind b (4 * k) w (4 * j + 2) (omega arith),
            with_behind b (4 * k) w (4 * j + 3) (omega arith),
          )
    ]
  where
    other : (j k : ℕ) → j ≢ k → k ≤ j → k < j
    other j k n h = elim (dec_lt k j) [ yes l ↦ l | no l ↦ absurd (n (omega arith)) ]

-- Its own word put into bytes changes nothing.
with_own : (b : List ℕ) (i : ℕ) → Bytes b → with_u32 b i (u32_at b i) ≡ b
with_own b i h =
    let s = split4 (nth b i) (nth b (i + 1)) (nth b (i + 2)) (nth b (i + 3)) (h _) (h _) (h _) (h _) in
    rw (
      ap (λ (l : List ℕ). nth l 0) s,
      ap (λ (l : List ℕ). nth l 1) s,
      ap (λ (l : List ℕ). nth l 2) s,
      ap (λ (l : List ℕ). nth l 3) s,
      set-get_or b i 0,
      set-get_or b (i + 1) 0,
      set-get_or b (i + 2) 0,
      set-get_or b (i + 3) 0,
    )

pub word_own : (b : List ℕ) (k : ℕ) → Bytes b → with_word b k (word b k) ≡ b
unfolding word
word_own b k h = with_own b (4 * k) h

-- The four bytes put in one after the other are put in as a part.
pub with_part : (b : List ℕ) (i w : ℕ) → i + 4 ≤ length b → put_mid i 4 b (bytes4 w) ≡ with_u32 b i w
with_part (a ∷ b ∷ c ∷ d ∷ t) zero w h = refl
with_part (x ∷ b) (suc i) w h =
    let s1 : suc i + 1 ≡ suc (i + 1) = omega arith in
    let s2 : suc i + 2 ≡ suc (i + 2) = omega arith in
    let s3 : suc i + 3 ≡ suc (i + 3) = omega arith in
    rw (s1, s2, s3) (ap (λ (r : List ℕ). x ∷ r) (with_part b i w (omega arith)))
with_part [] i w h = absurd (omega arith)
with_part (a ∷ []) zero w h = absurd (omega arith)
with_part (a ∷ b ∷ []) zero w h = absurd (omega arith)
with_part (a ∷ b ∷ c ∷ []) zero w h = absurd (omega arith)
