-- The layout, said in words, says document 01's table, said in bytes. Assumes nothing.
use mathlib.Core.Path.{◌≡◌, refl, sym, ◌∙◌}
use mathlib.Core.Bool.{true, ◌&&◌}
use mathlib.Core.List.{List}
use Prim.Native.Nat.{ℕ, zero, suc, ◌+◌, ◌*◌, ◌/◌, ◌%◌, ◌^◌, ◌≤◌, ◌<◌}
use native.Mathlib.Decide.{dec_lt, ℕ_discrete}
use native.Mathlib.Omega.{arith}
use borrow.Author.Tests.{eq-eqb, eqb-true}
use Rattle.lists.specs.All.{all_to}
use Rattle.lists.specs.Places.{nth}
use Rattle.lists.specs.Sum.{sum_to}
use Rattle.words.specs.Word.{word_wrap, u16_at, u32_at, word}
use Rattle.words.specs.Wrap.{wrapped}
use Rattle.words.specs.Bytes.{Bytes}
use Rattle.plan.specs.Ranges.{most_tasks}
use Rattle.lists.specs.Exactly.{◌exactly_when◌}
use Rattle.block.specs.Layout.{block_words, kind_place_word, extended_kind, id_word, capacity_word, period_word, tasks_charge_word, marks_server_word, spare_from, spare_to, run_word, every_word, deadline_word, unused_from, check_word, low_half, high_half}
use Rattle.block.specs.Reading.{kind_in, task_count, column, zero_between, marks_ok, zeros_ok}
use Rattle.block.specs.Table.{ZeroBytes, ZerosStand, InBytes}
use Rattle.lists.proofs.All.{and_left, and_right, and_true}
use Rattle.lists.proofs.Sum.{sum_last}
use Rattle.block.proofs.Reading.{marks_of_two, marks_of_other, zero_at, zeros_pass, column_at}

-- A word is its four bytes, least first.
pub word_bytes : (b : List ℕ) (k : ℕ) → word b k ≡ u32_at b (4 * k)
unfolding word
word_bytes b k = refl

-- The low half of a word is its first two bytes.
pub low_bytes : (b : List ℕ) (k : ℕ) → Bytes b → low_half (word b k) ≡ u16_at b (4 * k)
low_bytes b k h = omega (arith, word_bytes b k, h (4 * k), h (4 * k + 1))

-- The high half of a word is its other two bytes.
pub high_bytes : (b : List ℕ) (k : ℕ) → Bytes b → high_half (word b k) ≡ u16_at b (4 * k + 2)
high_bytes b k h =
    let e : 4 * k + 2 + 1 ≡ 4 * k + 3 = omega arith in rw e (omega (arith, word_bytes b k, h (4 * k), h (4 * k + 1)))

-- A number of entry i stands where its word does.
entry_bytes : (b : List ℕ) (at : ℕ → ℕ) (from i : ℕ) → i < most_tasks → 4 * at i ≡ from + 12 * i
    → nth (column b at) i ≡ u32_at b (from + 12 * i)
entry_bytes b at from i h e = column_at b at i h ∙ rw (← e) (word_bytes b (at i))

-- Where a word is zero, each of its bytes is.
byte_at : (b : List ℕ) (q j : ℕ) → j < 4 → word b q ≡ 0 → nth b (4 * q + j) ≡ 0
byte_at b q zero l e = let z : 4 * q + 0 ≡ 4 * q = omega arith in rw z (omega (arith, word_bytes b q))
byte_at b q (suc zero) l e = omega (arith, word_bytes b q)
byte_at b q (suc (suc zero)) l e = omega (arith, word_bytes b q)
byte_at b q (suc (suc (suc zero))) l e = omega (arith, word_bytes b q)
byte_at b q (suc (suc (suc (suc j)))) l e = absurd (omega arith)

pub byte_of : (b : List ℕ) (i : ℕ) → word b (i / 4) ≡ 0 → nth b i ≡ 0
byte_of b i e = let q : 4 * (i / 4) + i % 4 ≡ i = omega arith in rw q at (byte_at b (i / 4) (i % 4) (omega arith) e)

-- The words from one on, up to another, are zero exactly when their bytes are.
pub zero_bytes : (b : List ℕ) (from to : ℕ) → (zero_between b from to ≡ true) exactly_when ZeroBytes b (4 * from) (4 * to)
zero_bytes b from to = (
  λ e i l h. byte_of b i (zero_at b from to (i / 4) (omega arith) (omega arith) e),
  λ h.
      zeros_pass b from to (λ k l u.
      word_bytes b k
      ∙ rw (
        h (4 * k) (omega arith) (omega arith),
        h (4 * k + 1) (omega arith) (omega arith),
        h (4 * k + 2) (omega arith) (omega arith),
        h (4 * k + 3) (omega arith) (omega arith),
      ) refl),
)

-- A block of kind 2 has marks of which none is past the tasks, a server beside them, and zero in byte 23.
extended_stand : (b : List ℕ) → Bytes b → kind_in b ≡ extended_kind
    → (marks_ok b ≡ true) exactly_when ((u16_at b 20 < 2 ^ task_count b) × ((nth b 22 ≤ 1) × (nth b 23 ≡ 0)))
extended_stand b h t =
    let low = low_bytes b marks_server_word h in
    let high = high_bytes b marks_server_word h in (
      λ e.
          let m = (marks_of_two b t).0 e in
          (rw (← low) m.0, (omega (arith, high, m.1), omega (arith, high, m.1))),
      λ z. (marks_of_two b t).1 (rw low z.0, omega (arith, high, z.1.0, z.1.1)),
    )

-- A block of another kind has zero there.
plain_stand : (b : List ℕ) → (kind_in b ≡ extended_kind → ⊥) → (marks_ok b ≡ true) exactly_when ZeroBytes b 20 24
unfolding zero_between all_to
plain_stand b t =
    let zero = zero_bytes b marks_server_word spare_from in (
      λ e. zero.0 (eq-eqb (word b marks_server_word) 0 ((marks_of_other b t).0 e)),
      λ z.
          (marks_of_other b t).1
          (zero_at b marks_server_word spare_from marks_server_word (omega arith) (omega arith) (zero.1 z)),
    )

-- What bytes 20-23 are, whatever the kind is.
pub record MarksStand (b : List ℕ) (n : ℕ) : Type 0 where
  pub plain : (u16_at b 0 ≡ 2 → ⊥) → ZeroBytes b 20 23
  pub marked : u16_at b 0 ≡ 2 → u16_at b 20 < 2 ^ n
  pub served : u16_at b 0 ≡ 2 → nth b 22 ≤ 1
  pub last : nth b 23 ≡ 0

marks_stand : (b : List ℕ) → Bytes b → (marks_ok b ≡ true) exactly_when MarksStand b (task_count b)
marks_stand b h =
    let k = low_bytes b kind_place_word h in
    elim (ℕ_discrete (kind_in b) extended_kind) [
      | yes t ↦ let two = extended_stand b h t in (
        λ e. record {
          plain = λ n. absurd (n (sym k ∙ t));
          marked = λ _. (two.0 e).0;
          served = λ _. (two.0 e).1.0;
          last = (two.0 e).1.1;
        },
        λ z. two.1 (z.marked (sym k ∙ t), (z.served (sym k ∙ t), z.last)),
      )
      | no t ↦ let other = plain_stand b t in (
        λ e. record {
          plain = λ n i f u. other.0 e i f (omega arith);
          marked = λ q. absurd (t (k ∙ q));
          served = λ q. absurd (t (k ∙ q));
          last = other.0 e 23 (omega arith) (omega arith);
        },
        λ z. other.1 (λ i f u. elim (dec_lt i 23) [
          | yes m ↦ z.plain (λ q. t (k ∙ q)) i f m
          | no m ↦ let e : i ≡ 23 = omega arith in rw e z.last
        ]),
      )
    ]

-- The bytes that must be zero: the words past the tasks are the entries past them and the bytes past the entries.
zeros_stand : (b : List ℕ) → Bytes b → task_count b ≤ most_tasks
    → (zeros_ok b ≡ true) exactly_when ZerosStand b (task_count b)
zeros_stand b h few =
    let marks = marks_stand b h in
    let spare = zero_bytes b spare_from spare_to in
    let past = zero_bytes b (unused_from (task_count b)) check_word in (
      λ e.
          let l = and_left (marks_ok b && zero_between b spare_from spare_to) _ e in
          let m = marks.0 (and_left (marks_ok b) _ l) in
          let s = spare.0 (and_right (marks_ok b) _ l) in
          let z = past.0 (and_right (marks_ok b && zero_between b spare_from spare_to) _ e) in
          record {
            plain = m.plain;
            marked = m.marked;
            served = m.served;
            spare = λ i l u. elim (dec_lt i 24) [
              | yes q ↦ let e : i ≡ 23 = omega arith in rw e m.last
              | no q ↦ s i (omega arith) u
            ];
            past_tasks = λ i l u. z i (omega arith) (omega arith);
            past_entries = λ i l u. z i (omega arith) (omega arith);
          },
      λ z.
          and_true
          (and_true
          (marks.1 record {
            plain = z.plain;
            marked = z.marked;
            served = z.served;
            last = z.spare 23 (omega arith) (omega arith);
          })
          (spare.1 (λ i l u. z.spare i (omega arith) u)))
          (past.1 (λ i l u. elim (dec_lt i 224) [
            | yes q ↦ z.past_tasks i (omega arith) q
            | no q ↦ z.past_entries i (omega arith) u
          ])),
    )

-- The sum of all words is that of the words before the check, and the check.
pub sum_with_check : (b : List ℕ)
    → wrapped (word b) block_words ≡ (sum_to (λ k. u32_at b (4 * k)) check_word + u32_at b (4 * check_word)) % word_wrap
unfolding word
sum_with_check b = rw (sum_last (word b) check_word) refl

-- What the definitions of reading say of bytes, line by line.
pub in_bytes : (b : List ℕ) → Bytes b → InBytes b
in_bytes b h = record {
  kind = low_bytes b kind_place_word h;
  place = high_bytes b kind_place_word h;
  id = word_bytes b id_word;
  capacity = word_bytes b capacity_word;
  period = word_bytes b period_word;
  tasks = low_bytes b tasks_charge_word h;
  charge = high_bytes b tasks_charge_word h;
  marks = low_bytes b marks_server_word h;
  server = omega (arith, high_bytes b marks_server_word h, h 22);
  run = λ i l. entry_bytes b run_word 32 i l (omega arith);
  every = λ i l. entry_bytes b every_word 36 i l (omega arith);
  deadline = λ i l. entry_bytes b deadline_word 40 i l (omega arith);
  zeros = zeros_stand b h;
  check = (
    λ e. sym (sum_with_check b) ∙ eqb-true _ _ e,
    λ e. eq-eqb _ _ (sum_with_check b ∙ e),
  );
}
