-- The test of 5 fails exactly when document 01's cause holds: a byte that must be zero is not, a mark is past the
-- tasks, or the server is none. Assumes nothing.
use mathlib.Core.Path.{◌≡◌, refl, sym}
use mathlib.Core.Logic.{◌⊎◌, ◌≢◌, inl, inr, ⊎_elim}
use mathlib.Core.Bool.{Bool, true, false, false≢true}
use mathlib.Core.List.{List}
use Prim.Native.Nat.{ℕ, ◌+◌, ◌*◌, ◌-◌, ◌/◌, ◌^◌, ◌≤◌, ◌<◌}
use native.Mathlib.Decide.{dec_lt, ℕ_discrete}
use native.Mathlib.Omega.{arith}
use lib.Dec.{eqb}
use borrow.Author.Tests.{eqb-false}
use Rattle.lists.specs.Exactly.{◌exactly_when◌}
use Rattle.lists.specs.Places.{nth}
use Rattle.words.specs.Word.{word}
use Rattle.block.specs.Layout.{extended_kind, deferrable_server, marks_server_word, spare_from, spare_to, unused_from, check_word}
use Rattle.block.specs.Reading.{kind_in, task_count, marks_in, server_half, zero_between, marks_ok, zeros_ok}
use Rattle.planfile_laws.specs.Causes.{MustBeZero, MarkPast, WrongServer, WrongZero}
use Rattle.lists.proofs.All.{all_false}
use Rattle.block.proofs.Reading.{marks_of_two, marks_of_other}
use Rattle.block.proofs.Table.{word_bytes, byte_of, zero_bytes}
use Rattle.planfile_laws.proofs.Causes.{both_fail}
use Rattle.planfile_laws.proofs.Marks.{past_exactly}

-- A word that is not zero has a byte that is not.
some_byte : (b : List ℕ) (q : ℕ) → (word b q ≡ 0 → ⊥) → (i : ℕ) × (((4 * q ≤ i) × (i < 4 * q + 4)) × (nth b i ≡ 0 → ⊥))
some_byte b q d =
    elim (dec_lt 0 (nth b (4 * q))) [
      | yes h ↦ (4 * q, ((omega arith, omega arith), λ e. omega arith))
      | no h ↦ elim (dec_lt 0 (nth b (4 * q + 1))) [
        | yes i ↦ (4 * q + 1, ((omega arith, omega arith), λ e. omega arith))
        | no i ↦ elim (dec_lt 0 (nth b (4 * q + 2))) [
          | yes j ↦ (4 * q + 2, ((omega arith, omega arith), λ e. omega arith))
          | no j ↦ elim (dec_lt 0 (nth b (4 * q + 3))) [
            | yes k ↦ (4 * q + 3, ((omega arith, omega arith), λ e. omega arith))
            | no k ↦ absurd (d (omega (arith, word_bytes b q)))
          ]
        ]
      ]
    ]

-- A byte of the words from one on, up to another, is not zero.
byte_between : List ℕ → (from to : ℕ) → Type 0
byte_between b from to = (i : ℕ) × (((4 * from ≤ i) × (i < 4 * to)) × (nth b i ≡ 0 → ⊥))

between_some : (b : List ℕ) (from to : ℕ) → zero_between b from to ≡ false → byte_between b from to
unfolding zero_between byte_between
between_some b from to e =
    let o = all_false (λ k. eqb (word b (from + k)) 0) (to - from) e in
    let l : o.0 < to - from = o.1 in
    let s = some_byte b (from + o.0) (eqb-false (word b (from + o.0)) 0 o.2) in
    (s.0, ((omega (arith, s.1.0.0), omega (arith, s.1.0.1)), s.1.1))

between_none : (b : List ℕ) (from to : ℕ) (t : Bool) → zero_between b from to ≡ t → byte_between b from to → t ≡ false
unfolding byte_between
between_none b from to false e o = refl
between_none b from to true e o = absurd (o.1.1 ((zero_bytes b from to).0 e o.0 o.1.0.0 o.1.0.1))

between_fails : (b : List ℕ) (from to : ℕ) → (zero_between b from to ≡ false) exactly_when byte_between b from to
between_fails b from to = (between_some b from to, between_none b from to (zero_between b from to) refl)

-- A test fails exactly when what it says does not hold.
fails_when_not : (t : Bool) {A : Type 0} → (t ≡ true) exactly_when A → (t ≡ false) exactly_when (A → ⊥)
fails_when_not true p = (λ e. absurd (false≢true (sym e)), λ n. absurd (n (p.0 refl)))
fails_when_not false p = (λ e a. false≢true (p.1 a), λ n. refl)

-- What must not stand in bytes 20-23: a byte that must be zero, or in kind 2 a mark past the tasks or another server.
abbrev WrongMarks : List ℕ → Type 0
WrongMarks b =
    ((i : ℕ) × ((((kind_in b ≢ extended_kind) × ((20 ≤ i) × (i < 23))) ⊎ (i ≡ 23)) × (nth b i ≢ 0)))
    ⊎ (MarkPast b ⊎ WrongServer b)

-- In kind 2: a mark past the tasks, or another server, which one with a byte 23 that is not zero is too.
extended_fails : (b : List ℕ) → kind_in b ≡ extended_kind → (marks_ok b ≡ false) exactly_when WrongMarks b
extended_fails b k =
    let f = fails_when_not (marks_ok b) (marks_of_two b k) in
    let past = past_exactly (marks_in b) (task_count b) in (
      λ e.
          elim (dec_lt (marks_in b) (2 ^ task_count b)) [
            | yes l ↦ elim (dec_lt deferrable_server (server_half b)) [
              | yes m ↦ inr (inr (k, m))
              | no m ↦ absurd (f.0 e (l, omega arith))
            ]
            | no l ↦ inr (inl (k, past.0 (omega arith)))
          ],
      λ h.
          f.1 (λ l.
          ⊎_elim
          (λ o. ⊎_elim (λ a. a.0 k) (λ c. o.1.1 (rw c (beside b l.1))) o.1.0)
          (λ x. ⊎_elim (λ m. omega (arith, l.0, past.1 m.1)) (λ s. omega (arith, l.1, s.1)) x)
          h),
    )
  where
    beside : (b : List ℕ) → server_half b ≤ deferrable_server → nth b 23 ≡ 0
    beside b l = omega (arith, word_bytes b marks_server_word, l)

-- In another kind: any byte there.
plain_fails : (b : List ℕ) → (kind_in b ≡ extended_kind → ⊥) → (marks_ok b ≡ false) exactly_when WrongMarks b
plain_fails b n =
    let f = fails_when_not (marks_ok b) (marks_of_other b n) in (
      λ e.
          let o = some_byte b marks_server_word (f.0 e) in
          elim (dec_lt o.0 23) [
            | yes l ↦ inl (o.0, (inl (n, (o.1.0.0, l)), o.1.1))
            | no l ↦ inl (o.0, (inr (omega (arith, o.1.0.1)), o.1.1))
          ],
      λ h.
          f.1 (λ z.
          ⊎_elim
          (λ o.
          o.1.1 (zero b z o.0
          (⊎_elim (λ a. a.1.0) (λ c. omega arith) o.1.0)
          (⊎_elim (λ a. omega (arith, a.1.1)) (λ c. omega arith) o.1.0)))
          (λ x. ⊎_elim (λ m. n m.0) (λ s. n s.0) x)
          h),
    )
  where
    zero : (b : List ℕ) → word b marks_server_word ≡ 0 → (i : ℕ) → 20 ≤ i → i < 24 → nth b i ≡ 0
    zero b z i l h = let q : i / 4 ≡ marks_server_word = omega arith in byte_of b i (rw q z)

-- Either way.
marks_fail : (b : List ℕ) → (marks_ok b ≡ false) exactly_when WrongMarks b
marks_fail b = elim (ℕ_discrete (kind_in b) extended_kind) [ yes k ↦ extended_fails b k | no n ↦ plain_fails b n ]

-- 5: the bytes that must be zero, the marks, and the server.
pub zeros_fail : (b : List ℕ) → (zeros_ok b ≡ false) exactly_when WrongZero b
unfolding byte_between
zeros_fail b =
    let m =
    both_fail (marks_ok b) (zero_between b spare_from spare_to) (marks_fail b) (between_fails b spare_from spare_to) in
    let w =
    both_fail _ (zero_between b (unused_from (task_count b)) check_word) m
    (between_fails b (unused_from (task_count b)) check_word) in (
      λ e. ⊎_elim (λ x. ⊎_elim from_marks from_spare x) from_unused (w.0 e),
      λ h. w.1 (⊎_elim to_tests (λ p. inl (inl (inr p))) h),
    )
  where
    from_marks : WrongMarks b → WrongZero b
    from_marks h =
        ⊎_elim
        (λ o. inl (o.0, (⊎_elim (λ a. inl a) (λ c. inr (inl (omega arith, omega arith))) o.1.0, o.1.1)))
        (λ p. inr p)
        h

    from_spare : byte_between b spare_from spare_to → WrongZero b
    from_spare o = inl (o.0, (inr (inl (omega (arith, o.1.0.0), omega (arith, o.1.0.1))), o.1.1))

    from_unused : byte_between b (unused_from (task_count b)) check_word → WrongZero b
    from_unused o = inl (o.0, (inr (inr (omega (arith, o.1.0.0), omega (arith, o.1.0.1))), o.1.1))

    to_tests : (i : ℕ) × (MustBeZero (kind_in b) (task_count b) i × (nth b i ≢ 0))
        → (WrongMarks b ⊎ byte_between b spare_from spare_to) ⊎ byte_between b (unused_from (task_count b)) check_word
    to_tests o =
        ⊎_elim
        (λ a. inl (inl (inl (o.0, (inl a, o.1.1)))))
        (λ x.
        ⊎_elim
        (λ c. elim (dec_lt o.0 24) [
          | yes l ↦ inl (inl (inl (o.0, (inr (omega (arith, c.0)), o.1.1))))
          | no l ↦ inl (inr (o.0, ((omega arith, omega (arith, c.1)), o.1.1)))
        ])
        (λ c. inr (o.0, ((omega (arith, c.0), omega (arith, c.1)), o.1.1)))
        x)
        o.1.0
