-- What of a block a conversion changes: its kind, its server and its check alone. Assumes nothing.
use mathlib.Core.Path.{◌≡◌, refl, sym, ap, ◌∙◌}
use mathlib.Core.Logic.{◌≢◌, inl, inr}
use mathlib.Core.Bool.{true, ◌&&◌}
use mathlib.Core.List.{List}
use Prim.Native.Nat.{ℕ, ◌+◌, ◌*◌, ◌/◌, ◌≤◌, ◌<◌}
use native.Mathlib.Decide.{dec_lt, ℕ_discrete}
use native.Mathlib.Nat.{mod-eq_of_lt}
use native.Mathlib.Omega.{arith}
use lib.ListN.{length, get_or-eq_default}
use borrow.Author.Tests.{eqb-true, le-leb}
use Rattle.lists.specs.Places.{nth}
use Rattle.words.specs.Word.{word}
use Rattle.words.specs.Bytes.{Bytes}
use Rattle.plan.specs.Order.{new_id}
use Rattle.plan.specs.Ranges.{most_tasks}
use Rattle.plan.specs.Server.{as_periodic}
use Rattle.block.specs.Layout.{block_size, kind_place_word, plain_kind, extended_kind, last_place, marks_server_word, spare_from, spare_to, check_word, halves}
use Rattle.block.specs.Reading.{kind_in, place_in, marks_in, task_count, guest_of, kind_ok, own_place, zero_between, marks_ok}
use Rattle.blockwriter.specs.Writing.{server_for, kind_for, words_of, block_of}
use Rattle.blockfile.specs.File.{block_at, id_at, blocks_in, number_at, file_refusal}
use Rattle.conversion.specs.Converting.{converted_block, converted_bytes}
use Rattle.conversion_laws.specs.Changed.{CanChange, OnlyThese}
use Rattle.lists.proofs.All.{and_left, and_right}
use Rattle.block.proofs.Reading.{BlockIn, block_in, few_in_block}
use Rattle.block.proofs.Table.{low_bytes, high_bytes}
use Rattle.blockfile.proofs.File.{file_in, part_long}
use Rattle.planfile_laws.proofs.Joined.{block_in_bytes}
use Rattle.planfile_laws.proofs.Marks.{kind_most, marks_say, marks_again, kind_again}
use Rattle.planfile_laws.proofs.Words.{words_at}
use Rattle.planfile_laws.proofs.Written.{word_of, marks_word}
use Rattle.planfile_laws.proofs.OnlyOurs.{block_bytes, block_again}
use Rattle.conversion.proofs.Outcome.{blocks_few}
use Rattle.conversion_laws.proofs.Words.{word_agrees, byte_same}
use Rattle.conversion_laws.proofs.Bytes.{converted_long, converted_block_lem}

-- Two bytes are known by the number that they say.
two_bytes : (a b c d : ℕ) → a < 256 → c < 256 → a + 256 * b ≡ c + 256 * d → (a ≡ c) × (b ≡ d)
two_bytes a b c d f g e = (omega arith, omega arith)

-- A block b that passes at its place p, and the same one converted.
module _ (b : List ℕ) (p : ℕ) (bytes : Bytes b) (long : length b ≡ block_size) (low : p ≤ last_place)
    (few : task_count b ≤ most_tasks) (kind : kind_ok b ≡ true) (own : place_in b ≡ p) (marks : marks_ok b ≡ true)
    (again : block_of (guest_of b) p ≡ b) where
  bytes_too : Bytes (converted_block b p)
  unfolding converted_block
  bytes_too = block_in_bytes (as_periodic (guest_of b)) p

  -- Its opening: kind 2 where a task has a mark, else kind 1, and the place.
  opening : word (converted_block b p) kind_place_word ≡ halves (kind_for (marks_in b) 0) p
  unfolding converted_block
  opening =
      let k = kind_most (marks_in b) 0 in
      let w : nth (words_of (as_periodic (guest_of b)) p) kind_place_word ≡ halves (kind_for (marks_in b) 0) p =
      (words_at (as_periodic (guest_of b)) p few).kind_place
      ∙ ap (λ (m : ℕ). halves (kind_for m 0) p) (marks_again b marks) in
      word_of (as_periodic (guest_of b)) p kind_place_word (omega arith) ∙ rw w (mod-eq_of_lt (omega arith))

  -- Its marks are the block's, and its server is Periodic.
  marks_alone : word (converted_block b p) marks_server_word ≡ marks_in b
  unfolding converted_block
  marks_alone = marks_word (as_periodic (guest_of b)) p few refl ∙ marks_again b marks

  -- Its other words but the check are the block's.
  other_word : (k : ℕ) → k ≢ kind_place_word → k ≢ marks_server_word → k < check_word
      → word (converted_block b p) k ≡ word b k
  unfolding converted_block
  other_word k n m l = word_agrees (guest_of b) p k n m l ∙ ap (λ (x : List ℕ). word x k) again

  -- Bytes 2-3, the place.
  place_stays : (nth (converted_block b p) 2 ≡ nth b 2) × (nth (converted_block b p) 3 ≡ nth b 3)
  place_stays =
      let h = high_bytes (converted_block b p) kind_place_word bytes_too in
      let i = high_bytes b kind_place_word bytes in
      two_bytes _ _ _ _ (bytes_too 2) (bytes 2) (omega (arith, h, i, opening, kind_most (marks_in b) 0, own))

  -- Bytes 20-21, the marks.
  marks_stay : (nth (converted_block b p) 20 ≡ nth b 20) × (nth (converted_block b p) 21 ≡ nth b 21)
  marks_stay =
      let h = low_bytes (converted_block b p) marks_server_word bytes_too in
      let i = low_bytes b marks_server_word bytes in
      two_bytes _ _ _ _ (bytes_too 20) (bytes 20) (omega (arith, h, i, marks_alone))

  -- Byte 22, the server, is 0, and byte 23 was 0.
  server_none : (nth (converted_block b p) 22 ≡ 0) × (nth (converted_block b p) 23 ≡ nth b 23)
  server_none =
      let h = high_bytes (converted_block b p) marks_server_word bytes_too in
      let i = high_bytes b marks_server_word bytes in
      (omega (arith, h, marks_alone), omega (arith, h, i, marks_alone, (marks_say b marks).1))

  -- Of bytes 0-3 the place alone is sure to stay.
  opening_stays : (i : ℕ) → i < 4 → (CanChange i → ⊥) → nth (converted_block b p) i ≡ nth b i
  opening_stays i l n =
      elim (dec_lt i 2) [
        | yes h ↦ absurd (n (inl h))
        | no h ↦ elim (dec_lt i 3) [
          | yes k ↦ let e : i ≡ 2 = omega arith in rw e place_stays.0
          | no k ↦ let e : i ≡ 3 = omega arith in rw e place_stays.1
        ]
      ]

  -- Of bytes 20-23 all but the server.
  marks_server_stays : (i : ℕ) → 20 ≤ i → i < 24 → (CanChange i → ⊥) → nth (converted_block b p) i ≡ nth b i
  marks_server_stays i l h n =
      elim (dec_lt i 21) [
        | yes k ↦ let e : i ≡ 20 = omega arith in rw e marks_stay.0
        | no k ↦ elim (dec_lt i 22) [
          | yes m ↦ let e : i ≡ 21 = omega arith in rw e marks_stay.1
          | no m ↦ elim (dec_lt i 23) [
            | yes q ↦ absurd (n (inr (inl (omega arith))))
            | no q ↦ let e : i ≡ 23 = omega arith in rw e server_none.1
          ]
        ]
      ]

  -- Each byte but those that can change is as it was.
  others : (i : ℕ) → (CanChange i → ⊥) → nth (converted_block b p) i ≡ nth b i
  others i n =
      elim (ℕ_discrete (i / 4) kind_place_word) [
        | yes q ↦ opening_stays i (omega arith) n
        | no a ↦ elim (ℕ_discrete (i / 4) marks_server_word) [
          | yes q ↦ marks_server_stays i (omega arith) (omega arith) n
          | no m ↦ elim (dec_lt i 508) [
            | yes l ↦ byte_same b (converted_block b p) bytes bytes_too i (other_word (i / 4) a m (omega arith))
            | no l ↦ elim (dec_lt i 512) [
              | yes h ↦ absurd (n (inr (inr (omega arith, h))))
              | no h ↦
                  get_or-eq_default (converted_block b p) 0 (omega (arith, converted_long b p))
                  ∙ sym (get_or-eq_default b 0 (omega arith))
            ]
          ]
        ]
      ]

  pub only_these : OnlyThese b (converted_block b p)
  only_these = record {
    others = others;
    server = server_none.0;
    unmarked =
        λ e.
        let h = low_bytes (converted_block b p) kind_place_word bytes_too in
        let z : marks_in b ≡ 0 = low_bytes b marks_server_word bytes ∙ e in
        let w : word (converted_block b p) kind_place_word ≡ halves plain_kind p = rw z at opening in
        omega (arith, h, w);
    marked =
        λ l.
        let h = low_bytes (converted_block b p) kind_place_word bytes_too in
        let m : 1 ≤ marks_in b = omega (arith, low_bytes b marks_server_word bytes) in
        let t : (server : ℕ) → kind_for (marks_in b) server ≡ extended_kind = λ server. rw (le-leb 1 (marks_in b) m) refl in
        let was : kind_in b ≡ extended_kind =
        sym (kind_again b marks kind)
        ∙ ap (λ (x : ℕ). kind_for x (server_for (guest_of b))) (marks_again b marks)
        ∙ t (server_for (guest_of b)) in
        omega (arith, h, opening, t 0, was, low_bytes b kind_place_word bytes);
  }

-- A converted block differs from its source in kind, server and check alone.
pub only_these_bytes : (s : List ℕ) → Bytes s → (file_refusal s).number ≡ 0 → (k : ℕ) → k < blocks_in s
    → OnlyThese (block_at s k) (block_at (converted_bytes s) k)
unfolding number_at
only_these_bytes s bytes ok k l =
    let b = block_at s k in
    let i : BlockIn b (own_place b k) (new_id (id_at s) k) =
    block_in b (own_place b k) (new_id (id_at s) k) ((file_in s ok).blocks k l) in
    rw (converted_block_lem s k l)
    (only_these b k (block_bytes s bytes k) (part_long s b k refl l) (omega (arith, blocks_few s ok))
    (few_in_block b (new_id (id_at s) k) i.heads) (and_left (kind_ok b) (own_place b k) i.opens)
    (eqb-true (place_in b) k (and_right (kind_ok b) (own_place b k) i.opens))
    (and_left (marks_ok b) (zero_between b spare_from spare_to)
    (and_left (marks_ok b && zero_between b spare_from spare_to) _ i.zeros))
    (block_again s ok bytes k l))
