-- The words of a guest's block, and of the same guest's made Periodic. Assumes nothing.
use mathlib.Core.Path.{◌≡◌, refl, sym, ap, ◌∙◌}
use mathlib.Core.Logic.{◌≢◌}
use mathlib.Core.List.{List, [], ◌∷◌}
use Prim.Native.Nat.{ℕ, zero, suc, ◌+◌, ◌*◌, ◌/◌, ◌%◌, ◌<◌}
use native.Mathlib.Omega.{arith}
use lib.ListN.{length, set, replicate, length-set}
use lib.Seq.{get_or-set_other}
use Rattle.lists.specs.Places.{nth}
use Rattle.words.specs.Word.{word_wrap, word}
use Rattle.words.specs.Bytes.{Bytes, bytes4}
use Rattle.plan.specs.declared.Guest.{Guest}
use Rattle.plan.specs.Records.{run_of, every_of, deadline_of}
use Rattle.plan.specs.Marks.{live_marks}
use Rattle.plan.specs.Server.{as_periodic}
use Rattle.block.specs.Layout.{block_words, kind_place_word, id_word, capacity_word, period_word, tasks_charge_word, marks_server_word, first_task, check_word, halves}
use Rattle.blockparts.specs.Parts.{with_entry, with_entries}
use Rattle.blockwriter.specs.Writing.{server_for, kind_for, with_kind, with_head, words_of, block_of}
use Rattle.words.proofs.Bytes.{split4}
use Rattle.block.proofs.Table.{word_bytes}
use Rattle.planfile_laws.proofs.Written.{word_of}

-- Two lists of one length that have the same number at a place.
record Agree (w : ℕ) (l m : List ℕ) : Type 0 where
  long : length l ≡ length m
  here : nth l w ≡ nth m w

-- They still agree when one number is put into both.
set_same : (w i v : ℕ) (l m : List ℕ) → length l ≡ length m → nth l w ≡ nth m w → nth (set l i v) w ≡ nth (set m i v) w
set_same w i v [] [] e h = refl
set_same w i v [] (y ∷ m) e h = absurd (omega arith)
set_same w i v (x ∷ l) [] e h = absurd (omega arith)
set_same zero zero v (x ∷ l) (y ∷ m) e h = refl
set_same (suc w) zero v (x ∷ l) (y ∷ m) e h = h
set_same zero (suc i) v (x ∷ l) (y ∷ m) e h = h
set_same (suc w) (suc i) v (x ∷ l) (y ∷ m) e h = set_same w i v l m (omega arith) h

set_agrees : (w i v : ℕ) {l m : List ℕ} → Agree w l m → Agree w (set l i v) (set m i v)
set_agrees w i v {l} {m} a = record {
  long = length-set l i v ∙ a.long ∙ sym (length-set m i v);
  here = set_same w i v l m a.long a.here;
}

-- So they do when the same entries are.
entries_agree : (w first : ℕ) (a b c : ℕ → ℕ) (n : ℕ) {l m : List ℕ} → Agree w l m
    → Agree w (with_entries first a b c n l) (with_entries first a b c n m)
unfolding with_entries with_entry
entries_agree w first a b c zero h = h
entries_agree w first a b c (suc n) h =
    set_agrees w _ (c n) (set_agrees w _ (b n) (set_agrees w _ (a n) (entries_agree w first a b c n h)))

module _ (g : Guest) (place w : ℕ) (opening : w ≢ kind_place_word) (server : w ≢ marks_server_word) where
  -- Kind, place, marks and server put in change no other word.
  kind_other : (marks s : ℕ) (x : List ℕ) → Agree w (with_kind marks s place x) x
  unfolding with_kind
  kind_other marks s x = record {
    long = simp length-set;
    here =
        get_or-set_other (set x kind_place_word (halves (kind_for marks s) place)) marks_server_word w (halves marks s) 0
        server
        ∙ get_or-set_other x kind_place_word w (halves (kind_for marks s) place) 0 opening;
  }

  -- Every other word of the head is the same.
  head_agrees : (x : List ℕ) → Agree w (with_head (as_periodic g) place x) (with_head g place x)
  unfolding with_head
  head_agrees x =
      let p = kind_other (live_marks g) 0 x in
      let q = kind_other (live_marks g) (server_for g) x in
      let kind : Agree w (with_kind (live_marks g) 0 place x) (with_kind (live_marks g) (server_for g) place x) =
      record { long = p.long ∙ sym q.long; here = p.here ∙ sym q.here } in
      set_agrees w tasks_charge_word (halves g.tasks g.charge)
      (set_agrees w period_word g.period
      (set_agrees w capacity_word g.capacity
      (set_agrees w id_word g.id kind)))

  -- So is every other word of the block.
  words_agree : nth (words_of (as_periodic g) place) w ≡ nth (words_of g place) w
  unfolding words_of
  words_agree =
      (entries_agree w first_task (run_of g) (every_of g) (deadline_of g) g.tasks (head_agrees (replicate block_words 0))
      ).here

  pub word_agrees : w < check_word → word (block_of (as_periodic g) place) w ≡ word (block_of g place) w
  word_agrees l =
      word_of (as_periodic g) place w l ∙ ap (λ (x : ℕ). x % word_wrap) words_agree ∙ sym (word_of g place w l)

-- Where a word is the same, each of its bytes is.
module _ (b c : List ℕ) (f : Bytes b) (g : Bytes c) where
  four : (a : List ℕ) → Bytes a → (q : ℕ)
      → bytes4 (word a q) ≡ nth a (4 * q) ∷ nth a (4 * q + 1) ∷ nth a (4 * q + 2) ∷ nth a (4 * q + 3) ∷ []
  four a h q = rw (word_bytes a q) (split4 _ _ _ _ (h _) (h _) (h _) (h _))

  byte_at : (q j : ℕ) → j < 4 → word c q ≡ word b q → nth c (4 * q + j) ≡ nth b (4 * q + j)
  byte_at q j l e = by j l
    where
      same : nth c (4 * q) ∷ nth c (4 * q + 1) ∷ nth c (4 * q + 2) ∷ nth c (4 * q + 3) ∷ []
          ≡ nth b (4 * q) ∷ nth b (4 * q + 1) ∷ nth b (4 * q + 2) ∷ nth b (4 * q + 3) ∷ []
      same = sym (four c g q) ∙ ap (λ (w : ℕ). bytes4 w) e ∙ four b f q

      by : (j : ℕ) → j < 4 → nth c (4 * q + j) ≡ nth b (4 * q + j)
      by zero l = let z : 4 * q + 0 ≡ 4 * q = omega arith in rw z (ap (λ (x : List ℕ). nth x 0) same)
      by (suc zero) l = ap (λ (x : List ℕ). nth x 1) same
      by (suc (suc zero)) l = ap (λ (x : List ℕ). nth x 2) same
      by (suc (suc (suc zero))) l = ap (λ (x : List ℕ). nth x 3) same
      by (suc (suc (suc (suc j)))) l = absurd (omega arith)

  pub byte_same : (i : ℕ) → word c (i / 4) ≡ word b (i / 4) → nth c i ≡ nth b i
  byte_same i e =
      let q : 4 * (i / 4) + i % 4 ≡ i = omega arith in rw q at (byte_at (i / 4) (i % 4) (omega arith) e)
