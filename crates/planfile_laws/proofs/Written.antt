-- What the writer writes: nothing of a Deferrable guest, and for a plan of Periodic guests the only bytes that read as
-- it. Assumes nothing.
use mathlib.Core.Path.{◌≡◌, ap, ◌∙◌}
use mathlib.Core.Bool.{true}
use mathlib.Core.List.{List, [], ◌++◌, append-nil}
use Prim.Native.Nat.{ℕ, ◌%◌, ◌≤◌, ◌<◌}
use native.Mathlib.Nat.{mod-eq_of_lt}
use native.Mathlib.Omega.{arith}
use lib.ListN.{length, drop, get_or-append}
use lib.Seq.{get_or-set_other}
use Rattle.lists.specs.Places.{nth}
use Rattle.words.specs.Word.{word_wrap, word}
use Rattle.words.specs.Bytes.{Bytes}
use Rattle.plan.specs.declared.Guest.{Guest}
use Rattle.plan.specs.declared.Refusal.{Refusal}
use Rattle.plan.specs.Records.{guest_at}
use Rattle.plan.specs.Marks.{live_marks}
use Rattle.plan.specs.Ranges.{most_tasks}
use Rattle.plan.specs.First.{fine}
use Rattle.plan.specs.Periodic.{all_periodic}
use Rattle.block.specs.Layout.{block_size, block_words, marks_server_word, check_word, half_wrap}
use Rattle.blockparts.specs.Parts.{with_check}
use Rattle.blockwriter.specs.Writing.{server_of, server_for, words_of, block_of, write_refusal, written}
use Rattle.blockfile.specs.File.{block_at, blocks_in}
use Rattle.planfile.specs.Records.{read_of}
use Rattle.words.proofs.Bytes.{word_bytes_of_mod}
use Rattle.plan.proofs.RangesLaws.{head_says}
use Rattle.block.proofs.Table.{high_bytes}
use Rattle.blockparts.proofs.Parts.{by_none}
use Rattle.blockwriter.proofs.Writing.{WriteIn, write_in, live_fits, block_length}
use Rattle.planfile_laws.proofs.Words.{words_at}
use Rattle.planfile_laws.proofs.Joined.{block_in_bytes}
use Rattle.planfile_laws.proofs.ReadBack.{written_so}
use Rattle.planfile_laws.proofs.OnlyOurs.{block_again, read_passes, read_count, read_at}

-- A word of a guest's block but for the check, modulo 2 to the 32.
pub word_of : (g : Guest) (place k : ℕ) → k < check_word → word (block_of g place) k ≡ nth (words_of g place) k % word_wrap
unfolding block_of with_check
word_of g place k l =
    let x = words_of g place in
    rw (← append-nil (block_of g place))
    (word_bytes_of_mod (nth (with_check x)) block_words [] k (omega arith)
    ∙ ap (λ (w : ℕ). w % word_wrap) (get_or-set_other x check_word k _ 0 (λ q. omega arith)))

-- The word of marks and server has the marks alone, where the guest is Periodic.
pub marks_word : (g : Guest) (place : ℕ) → g.tasks ≤ most_tasks → g.deferrable ≡ 0
    → word (block_of g place) marks_server_word ≡ live_marks g
marks_word g place few periodic =
    let m : live_marks g < half_wrap = live_fits g.marks g.tasks few in
    let server : server_for g ≡ 0 = ap (λ (d : ℕ). server_of d) periodic in
    let at : nth (words_of g place) marks_server_word ≡ live_marks g = (words_at g place few).marks_server ∙ omega arith in
    word_of g place marks_server_word (omega arith) ∙ rw at (mod-eq_of_lt (omega arith))

-- Byte 22 of what the writer wrote is 0.
pub byte_22_zero : (g : Guest) (place : ℕ) (before : List ℕ) → (write_refusal g place (length before)).number ≡ 0
    → nth (written g place before) 22 ≡ 0
byte_22_zero g place before e =
    let i : WriteIn g place (length before) = write_in g place (length before) e in
    let few = (head_says _ _ _ _ i.head).few in
    let w = marks_word g place few i.periodic in
    let m = live_fits g.marks g.tasks few in
    let l = block_length g place in
    let high = high_bytes (block_of g place) marks_server_word (block_in_bytes g place) in
    rw (← by_none _ (block_of g place) before e)
    (get_or-append (block_of g place) (drop block_size before) 0 22 (omega arith)
    ∙ omega (arith, high, w, m))

-- Where each guest read is Periodic, each block of those bytes is what the writer, which refuses none of them, leaves
-- in the first 512 of the lent bytes.
pub only_written : (s : List ℕ) → Bytes s → (read_of s).refusal.number ≡ 0 → all_periodic (read_of s).plan ≡ true
    → (k : ℕ) → k < blocks_in s → (before : List ℕ) → block_size ≤ length before
    → (write_refusal (guest_at (read_of s).plan.guests k) k (length before) ≡ fine)
    × (written (guest_at (read_of s).plan.guests k) k before ≡ block_at s k ++ drop block_size before)
unfolding read_of
only_written s bytes ok periodic k l before room =
    let passes = ap (λ (r : Refusal). r.number) (read_passes s ok) in
    let w = written_so (read_of s).plan passes periodic k (omega (arith, read_count s ok)) before room in
    let b : block_of (guest_at (read_of s).plan.guests k) k ≡ block_at s k =
    ap (λ (g : Guest). block_of g k) (read_at s ok k l) ∙ block_again s ok bytes k l in
    (w.0, w.1 ∙ ap (λ (x : List ℕ). x ++ drop block_size before) b)
