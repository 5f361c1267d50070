-- One block moved: it says the same but for its place, passes what it passed, and has no other byte changed. Assumes
-- nothing.
use mathlib.Core.Path.{◌≡◌, refl, sym, ap, ◌∙◌}
use mathlib.Core.Logic.{inl, inr}
use mathlib.Core.Bool.{Bool, true}
use mathlib.Core.List.{List}
use Prim.Native.Nat.{ℕ, ◌+◌, ◌*◌, ◌-◌, ◌%◌, ◌≤◌, ◌<◌}
use native.Mathlib.Decide.{dec_lt}
use native.Mathlib.Omega.{arith}
use lib.ListN.{length}
use borrow.Author.Tests.{eq-eqb, eqb-true}
use Rattle.lists.specs.Places.{nth}
use Rattle.lists.specs.Sum.{sum_to}
use Rattle.words.specs.Word.{word_wrap, u32_at, word}
use Rattle.words.specs.Bytes.{Bytes, with_word}
use Rattle.words.specs.Wrap.{wrapped, complement}
use Rattle.plan.specs.declared.Guest.{Guest}
use Rattle.plan.specs.Ranges.{most_tasks, guest_ok, tasks_ok}
use Rattle.block.specs.Layout.{block_size, block_words, kind_place_word, last_place, id_word, capacity_word, period_word, tasks_charge_word, marks_server_word, spare_from, spare_to, run_word, every_word, deadline_word, unused_from, check_word, halves}
use Rattle.block.specs.Reading.{kind_in, place_in, task_count, column, guest_of, sums_to_zero, kind_ok, own_place, zero_between, marks_ok, zeros_ok, block_number}
use Rattle.salvage.specs.Moving.{placed_at, moved}
use Rattle.salvage_laws.specs.Saved.{Anew}
use Rattle.lists.proofs.All.{and_left, and_true, all_ext}
use Rattle.lists.proofs.Sum.{sum_last, sum_same}
use Rattle.lists.proofs.Table.{table_ext}
use Rattle.words.proofs.Word.{word_fits}
use Rattle.words.proofs.Wrap.{complement_sum, complement_only}
use Rattle.words.proofs.WithWord.{with_length, with_before, with_behind, with_first, with_second, with_bytes, word_with, word_beside, word_own}
use Rattle.block.proofs.Reading.{BlockIn, none}
use Rattle.block.proofs.Table.{word_bytes}
use Rattle.salvage.proofs.Moving.{moved_opening, moved_other}

-- A column of two blocks whose entries have the same words.
column_same : (b c : List ℕ) (at : ℕ → ℕ) → ((i : ℕ) → i < most_tasks → word c (at i) ≡ word b (at i))
    → column c at ≡ column b at
unfolding column
column_same b c at h = table_ext _ _ most_tasks h

-- Words that must be zero, of two blocks that have them in common.
zeros_same : (b c : List ℕ) (from to : ℕ) → ((k : ℕ) → from ≤ k → k < to → word c k ≡ word b k)
    → zero_between c from to ≡ zero_between b from to
unfolding zero_between
zeros_same b c from to h =
    all_ext _ _ (to - from) (λ k l. rw (h (from + k) (omega arith) (omega arith)) refl)

module _ (b : List ℕ) (p : ℕ) (long : length b ≡ block_size) (low : p ≤ last_place) where
  other : (k : ℕ) → 0 < k → k < check_word → word (moved b p) k ≡ word b k
  other = moved_other b p long low

  kind_same : kind_in (moved b p) ≡ kind_in b
  kind_same = omega (arith, moved_opening b p long low)

  -- The place is the new one.
  pub place_anew : place_in (moved b p) ≡ p
  place_anew = omega (arith, moved_opening b p long low)

  -- The record is the same.
  pub record_same : guest_of (moved b p) ≡ guest_of b
  record_same =
      rw (
        other id_word (omega arith) (omega arith),
        other capacity_word (omega arith) (omega arith),
        other period_word (omega arith) (omega arith),
        other tasks_charge_word (omega arith) (omega arith),
        other marks_server_word (omega arith) (omega arith),
        column_same b (moved b p) run_word (λ i l. other (run_word i) (omega arith) (omega arith)),
        column_same b (moved b p) every_word (λ i l. other (every_word i) (omega arith) (omega arith)),
        column_same b (moved b p) deadline_word (λ i l. other (deadline_word i) (omega arith) (omega arith)),
      )

  -- The test of the kind is the same.
  opens_same : kind_ok (moved b p) ≡ kind_ok b
  opens_same = rw (kind_same, other marks_server_word (omega arith) (omega arith)) refl

  -- The test of zero bytes is the same.
  marks_same : marks_ok (moved b p) ≡ marks_ok b
  unfolding marks_ok
  marks_same =
      rw (
        kind_same,
        other marks_server_word (omega arith) (omega arith),
        other tasks_charge_word (omega arith) (omega arith),
      ) refl

  zero_bytes_same : zeros_ok (moved b p) ≡ zeros_ok b
  zero_bytes_same =
      let count : task_count (moved b p) ≡ task_count b =
      ap (λ (g : Guest). g.tasks) record_same in
      rw (
        marks_same,
        zeros_same b (moved b p) spare_from spare_to (λ k l h. other k (omega arith) (omega arith)),
        count,
        zeros_same b (moved b p) (unused_from (task_count b)) check_word (λ k l h. other k (omega arith) h),
      ) refl

  -- The words sum to zero.
  sums_anew : sums_to_zero (moved b p) ≡ true
  unfolding moved
  sums_anew =
      let c = complement (wrapped (word (placed_at b p)) check_word) in
      let l = with_length b (4 * kind_place_word) (halves (kind_in b) p) ∙ long in
      eq-eqb (wrapped (word (with_word (placed_at b p) check_word c)) block_words) 0
      (rw (
        sum_last (word (with_word (placed_at b p) check_word c)) check_word,
        sum_same (word (with_word (placed_at b p) check_word c)) (word (placed_at b p)) check_word
            (λ k h. word_beside (placed_at b p) check_word c k (λ e. omega arith)),
        word_with (placed_at b p) check_word c (omega arith),
      )
      (sum_zero (sum_to (word (placed_at b p)) check_word)))
    where
      sum_zero : (S : ℕ) → (S + complement (S % word_wrap) % word_wrap) % word_wrap ≡ 0
      sum_zero S = omega (arith, complement_sum S)

  -- A block that passes by itself passes at its new place too, where its id is new.
  pub passes_moved : (new fresh : Bool) → BlockIn b true new → fresh ≡ true
      → block_number (moved b p) (own_place (moved b p) p) fresh ≡ 0
  passes_moved new fresh i e =
      sym
      (none (moved b p) (own_place (moved b p) p) fresh sums_anew
      (and_true (opens_same ∙ and_left (kind_ok b) true i.opens) (eq-eqb (place_in (moved b p)) p place_anew))
      (and_true (ap (λ (g : Guest). guest_ok g) record_same ∙ and_left (guest_ok (guest_of b)) new i.heads) e)
      (zero_bytes_same ∙ i.zeros)
      (ap tasks_ok record_same ∙ i.tasks))

-- Each byte but those of place and check is as it was.
pub only_anew : (b : List ℕ) (p : ℕ) → Bytes b → length b ≡ block_size → p ≤ last_place → (i : ℕ) → (Anew i → ⊥)
    → nth (moved b p) i ≡ nth b i
unfolding moved
only_anew b p bytes long low i n =
    elim (dec_lt i 508) [
      | yes h ↦ with_before (placed_at b p) 508 _ i h ∙ placed i (λ l m. n (inl (l, m)))
      | no h ↦ elim (dec_lt i 512) [
        | yes l ↦ absurd (n (inr (omega arith, l)))
        | no l ↦ with_behind (placed_at b p) 508 _ i (omega arith) ∙ with_behind b 0 _ i (omega arith)
      ]
    ]
  where
    w : word b kind_place_word ≡ u32_at b (4 * kind_place_word)
    w = word_bytes b kind_place_word

    placed : (i : ℕ) → (2 ≤ i → i < 4 → ⊥) → nth (placed_at b p) i ≡ nth b i
    placed i n =
        elim (dec_lt i 1) [
          | yes h ↦ let e : i ≡ 0 = omega arith in
              rw e (with_first b 0 (halves (kind_in b) p) (omega arith) ∙ omega (arith, w, bytes 0, bytes 1))
          | no h ↦ elim (dec_lt i 2) [
            | yes l ↦ let e : i ≡ 1 = omega arith in
                rw e (with_second b 0 (halves (kind_in b) p) (omega arith) ∙ omega (arith, w, bytes 0, bytes 1))
            | no l ↦ elim (dec_lt i 4) [
              | yes m ↦ absurd (n (omega arith) m)
              | no m ↦ with_behind b 0 (halves (kind_in b) p) i (omega arith)
            ]
          ]
        ]

-- A moved block is bytes.
pub moved_bytes : (b : List ℕ) (p : ℕ) → Bytes b → Bytes (moved b p)
unfolding moved
moved_bytes b p bytes = with_bytes (placed_at b p) (4 * check_word) _ (with_bytes b (4 * kind_place_word) _ bytes)

-- A block whose words sum to zero, moved to the place that it has, is as it was.
pub moved_own : (b : List ℕ) (p : ℕ) → Bytes b → sums_to_zero b ≡ true → place_in b ≡ p → moved b p ≡ b
unfolding moved
moved_own b p bytes sums e =
    let opening : halves (kind_in b) p ≡ word b kind_place_word = omega (arith, e) in
    let z : wrapped (word b) block_words ≡ 0 = eqb-true (wrapped (word b) block_words) 0 sums in
    let check : complement (wrapped (word b) check_word) ≡ word b check_word =
    complement_only (word b check_word) (sum_to (word b) check_word) (rw (sum_last (word b) check_word) at z)
    (word_fits b check_word bytes) in
    rw (opening, word_own b kind_place_word bytes, check) (word_own b check_word bytes)
