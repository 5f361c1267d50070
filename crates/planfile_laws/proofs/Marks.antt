-- Kind, marks and server of a block, as they are written and as they are read. Assumes nothing.
use mathlib.Core.Path.{◌≡◌, refl, sym, ◌∙◌}
use mathlib.Core.Logic.{◌⊎◌, inl, inr, ⊎_elim}
use mathlib.Core.Bool.{Bool, true, false, false≢true, ◌||◌, or-true}
use mathlib.Core.List.{List}
use Prim.Native.Nat.{ℕ, zero, suc, ◌+◌, ◌/◌, ◌%◌, ◌^◌, ◌≤◌, ◌<◌}
use native.Mathlib.Decide.{dec_lt, ℕ_discrete}
use native.Mathlib.Nat.{pow-zero, one-le-pow, two-pow-succ, pow-le-pow_right, div-eq_of_lt, div-eq_of_lt-le}
use native.Mathlib.Omega.{arith}
use lib.Dec.{leb, eqb}
use borrow.Author.Tests.{eq-eqb, eqb-true, le-leb, lt-leb, leb-true}
use Rattle.lists.specs.Choice.{pick}
use Rattle.plan.specs.Marks.{marked, live_marks}
use Rattle.plan.specs.Ranges.{most_tasks}
use Rattle.plan.specs.Server.{says_deferrable}
use Rattle.words.specs.Word.{word}
use Rattle.block.specs.Layout.{plain_kind, extended_kind, deferrable_server, marks_server_word, byte_wrap, halves}
use Rattle.block.specs.Reading.{kind_in, task_count, marks_in, server_half, server_in, guest_of, kind_ok, marks_ok}
use Rattle.blockwriter.specs.Writing.{server_of, server_for, kind_for}
use Rattle.lists.specs.Exactly.{◌exactly_when◌}
use Rattle.lists.proofs.All.{and_left, and_right}
use Rattle.plan.proofs.MarksLaws.{marks_fit}
use Rattle.block.proofs.Reading.{marks_of_two, marks_of_other}
use Rattle.blockwriter.proofs.Writing.{half_fits}

-- A server's number that is written is one of two.
pub server_most : (deferrable : ℕ) → server_of deferrable ≤ deferrable_server
server_most deferrable = by (says_deferrable deferrable)
  where
    by : (t : Bool) → pick t deferrable_server 0 ≤ deferrable_server
    by true = omega arith
    by false = omega arith

-- A kind is at most 2.
pub kind_most : (marks server : ℕ) → kind_for marks server ≤ extended_kind
kind_most marks server = by (leb 1 marks || leb 1 server)
  where
    by : (t : Bool) → pick t extended_kind plain_kind ≤ extended_kind
    by true = omega arith
    by false = omega arith

-- Marks or a Deferrable Server are written in kind 2.
kind_extended : (marks server : ℕ) → 1 ≤ marks + server → kind_for marks server ≡ extended_kind
kind_extended marks server h =
    elim (dec_lt marks 1) [
      | yes l ↦ rw (lt-leb 1 marks l, le-leb 1 server (omega arith)) refl
      | no l ↦ rw (le-leb 1 marks (omega arith)) refl
    ]

-- Neither is written in kind 1.
kind_plain : (marks server : ℕ) → marks + server ≡ 0 → kind_for marks server ≡ plain_kind
kind_plain marks server e = rw (lt-leb 1 marks (omega arith), lt-leb 1 server (omega arith)) refl

-- A block has the kind, the marks and the server that are written.
pub record Opened (b : List ℕ) (marks server : ℕ) : Type 0 where
  pub kind : kind_in b ≡ kind_for marks server
  pub at : word b marks_server_word ≡ halves marks server
  pub few : task_count b ≤ most_tasks
  pub below : marks < 2 ^ task_count b
  pub last : server ≤ deferrable_server

module _ (b : List ℕ) (marks server : ℕ) (o : Opened b marks server) where
  -- It says these marks.
  pub marks_there : marks_in b ≡ marks
  marks_there = omega (arith, o.at, half_fits marks (task_count b) o.few o.below)

  -- It has this server, and zero in byte 23.
  half_there : server_half b ≡ server
  half_there = omega (arith, o.at, half_fits marks (task_count b) o.few o.below)

  pub server_there : server_in b ≡ server
  server_there = rw half_there (within_byte server o.last)
    where
      within_byte : (server : ℕ) → server ≤ deferrable_server → server % byte_wrap ≡ server
      within_byte server h = omega arith

  -- Marks or a Deferrable Server pass in kind 2.
  one_passes : 1 ≤ marks + server → (leb 1 (marks_in b) || eqb (server_in b) deferrable_server) ≡ true
  one_passes h =
      elim (dec_lt marks 1) [
        | yes l ↦
            let e : server ≡ deferrable_server = omega (arith, o.last) in
            rw (eq-eqb (server_in b) deferrable_server (server_there ∙ e)) (or-true (leb 1 (marks_in b)))
        | no l ↦ rw (le-leb 1 (marks_in b) (omega (arith, marks_there))) refl
      ]

  -- The kind passes.
  pub kind_passes : kind_ok b ≡ true
  kind_passes =
      elim (dec_lt (marks + server) 1) [
        | yes h ↦ rw (eq-eqb (kind_in b) plain_kind (o.kind ∙ kind_plain marks server (omega arith))) refl
        | no h ↦
            let k : kind_in b ≡ extended_kind = o.kind ∙ kind_extended marks server (omega arith) in
            rw k (one_passes (omega arith))
      ]

  -- The marks and the server pass.
  pub marks_pass : marks_ok b ≡ true
  marks_pass =
      elim (dec_lt (marks + server) 1) [
        | yes h ↦
            let k : kind_in b ≡ plain_kind = o.kind ∙ kind_plain marks server (omega arith) in
            (marks_of_other b (λ e. omega (arith, k, e))).1 (omega (arith, o.at))
        | no h ↦
            (marks_of_two b (o.kind ∙ kind_extended marks server (omega arith))).1
            (rw marks_there o.below, rw half_there o.last)
      ]

-- One of two tests passes.
or_says : (t u : Bool) → (t || u) ≡ true → (t ≡ true) ⊎ (u ≡ true)
or_says true u e = inl refl
or_says false u e = inr e

-- A kind that passes is 1, or 2 with marks or a Deferrable Server.
kind_says : (b : List ℕ) → kind_ok b ≡ true
    → (kind_in b ≡ plain_kind) ⊎ ((kind_in b ≡ extended_kind) × (1 ≤ marks_in b + server_in b))
kind_says b e =
    ⊎_elim
    (λ p. inl (eqb-true (kind_in b) plain_kind p))
    (λ q.
    let two = eqb-true (kind_in b) extended_kind (and_left (eqb (kind_in b) extended_kind) _ q) in
    inr (
      two,
      ⊎_elim
          (λ m. omega (arith, leb-true 1 (marks_in b) m))
          (λ s. omega (arith, eqb-true (server_in b) deferrable_server s))
          (or_says (leb 1 (marks_in b)) _ (and_right (eqb (kind_in b) extended_kind) _ q)),
    ))
    (or_says (eqb (kind_in b) plain_kind) _ e)

-- A server's number that a block can have is written as it is.
server_same : (server : ℕ) → server ≤ deferrable_server → server_of server ≡ server
server_same server h =
    elim (dec_lt server 1) [
      | yes l ↦ let e : server ≡ 0 = omega arith in rw e refl
      | no l ↦ let e : server ≡ deferrable_server = omega arith in rw e refl
    ]

-- A block whose marks and server pass.
module _ (b : List ℕ) (marks : marks_ok b ≡ true) where
  -- No mark is past its tasks, and its server is one of two.
  pub marks_say : (marks_in b < 2 ^ task_count b) × (server_half b ≤ deferrable_server)
  marks_say =
      elim (ℕ_discrete (kind_in b) extended_kind) [
        | yes t ↦ (marks_of_two b t).0 marks
        | no t ↦
            let z = (marks_of_other b t).0 marks in
            (omega (arith, z, one-le-pow (task_count b) 2 (omega arith)), omega (arith, z))
      ]

  -- The marks and the server that are written again.
  pub marks_again : live_marks (guest_of b) ≡ marks_in b
  marks_again = marks_fit (marks_in b) (task_count b) marks_say.0

  server_again : server_for (guest_of b) ≡ server_half b
  server_again =
      let e : server_in b ≡ server_half b = omega (arith, marks_say.1) in
      rw e (server_same (server_half b) marks_say.1)

  -- What is written again as their word stands there.
  pub word_again : halves (live_marks (guest_of b)) (server_for (guest_of b)) ≡ word b marks_server_word
  word_again = omega (arith, marks_again, server_again)

  -- So does what is written again as its kind, if that passes too.
  pub kind_again : kind_ok b ≡ true → kind_for (live_marks (guest_of b)) (server_for (guest_of b)) ≡ kind_in b
  kind_again kind =
      ⊎_elim
      (λ (k : kind_in b ≡ plain_kind).
      let z = (marks_of_other b (λ e. omega (arith, k, e))).0 marks in
      kind_plain (live_marks (guest_of b)) (server_for (guest_of b)) (omega (arith, z, marks_again, server_again)) ∙ sym k)
      (λ (k : (kind_in b ≡ extended_kind) × (1 ≤ marks_in b + server_in b)).
      kind_extended (live_marks (guest_of b)) (server_for (guest_of b)) (omega (arith, k.1, marks_again, server_again))
      ∙ sym k.0)
      (kind_says b kind)

-- A number is below its own power of two.
below_power : (n : ℕ) → n < 2 ^ n
below_power zero = omega (arith, pow-zero 2)
below_power (suc n) = omega (arith, below_power n, two-pow-succ n)

-- The topmost bit of a number, down from where it has none.
top_bit : (d n m : ℕ) → 2 ^ n ≤ m → m < 2 ^ (d + n) → (i : ℕ) × ((n ≤ i) × (marked m i ≡ true))
unfolding marked
top_bit zero n m l h = let e : 0 + n ≡ n = omega arith in absurd (omega (arith, l, rw e at h))
top_bit (suc d) n m l h =
    elim (dec_lt m (2 ^ (d + n))) [
      | yes q ↦ top_bit d n m l q
      | no q ↦
          let e : suc d + n ≡ suc (d + n) = omega arith in
          let u : m < 2 ^ (d + n) + 2 ^ (d + n) = rw (← two-pow-succ (d + n)) (rw e at h) in
          let one : m / 2 ^ (d + n) ≡ 1 = div-eq_of_lt-le {k = 1} (2 ^ (d + n)) (omega arith) (omega (arith, u)) in
          (d + n, (omega arith, rw one refl))
    ]

-- Marks reach past n tasks exactly when one of them is set there.
pub past_exactly : (m n : ℕ) → (2 ^ n ≤ m) exactly_when ((i : ℕ) × ((n ≤ i) × (marked m i ≡ true)))
unfolding marked
past_exactly m n = (
  λ l.
      let p : 2 ^ m ≤ 2 ^ (m + n) = pow-le-pow_right (omega arith) (omega arith) in
      top_bit m n m l (omega (arith, below_power m, p)),
  λ o.
      elim (dec_lt m (2 ^ n)) [
        | yes q ↦
            let p : 2 ^ n ≤ 2 ^ o.0 = pow-le-pow_right (omega arith) o.1.0 in
            let z : m / 2 ^ o.0 ≡ 0 = div-eq_of_lt (omega (arith, q, p)) in
            absurd (false≢true (rw z at o.1.1))
        | no q ↦ omega arith
      ],
)
