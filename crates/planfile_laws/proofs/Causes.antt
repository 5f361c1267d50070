-- Each test of plan files but that of zero bytes fails exactly when document 01's cause holds. Assumes nothing.
use mathlib.Core.Path.{◌≡◌, refl, sym, ap}
use mathlib.Core.Logic.{◌⊎◌, ◌≢◌, inl, inr, ⊎_elim}
use mathlib.Core.Bool.{Bool, true, false, false≢true, not, ◌&&◌, ◌||◌, and-true}
use mathlib.Core.List.{List}
use Prim.Native.Nat.{ℕ, ◌%◌, ◌<◌}
use native.Mathlib.Decide.{ℕ_discrete}
use native.Mathlib.Omega.{arith}
use lib.Dec.{eqb, leb}
use borrow.Author.Tests.{lt-leb, leb-false, eq-eqb, ne_eqb, eqb-true, eqb-false, not-true, not-false}
use Rattle.lists.specs.All.{all_to}
use Rattle.words.specs.Word.{word}
use Rattle.words.specs.Wrap.{wrapped}
use Rattle.plan.specs.declared.Guest.{Guest}
use Rattle.plan.specs.Records.{run_of, every_of, deadline_of}
use Rattle.plan.specs.Marks.{is_bound}
use Rattle.plan.specs.Ranges.{most_tasks, longest, within, head_ok, guest_ok, task_ok, start_ok, tasks_ok}
use Rattle.plan.specs.Server.{is_deferrable, is_periodic}
use Rattle.plan.specs.Order.{new_id}
use Rattle.lists.specs.Exactly.{◌exactly_when◌}
use Rattle.block.specs.Layout.{block_size, block_words, plain_kind, extended_kind, deferrable_server}
use Rattle.block.specs.Reading.{kind_in, place_in, marks_in, server_in, sums_to_zero, kind_ok, own_place}
use Rattle.blockfile.specs.File.{most_bytes, size_ok}
use Rattle.planfile_laws.specs.Causes.{Outside, WrongLength, WrongSum, WrongKind, WrongOpening, WrongHead, Seen, WrongGuest, TaskOutside, NoMultiple, WrongTask}
use Rattle.lists.proofs.All.{all_false, all_fails}

-- One of two tests fails.
pub both_fail : (a b : Bool) {A B : Type 0} → (a ≡ false) exactly_when A → (b ≡ false) exactly_when B
    → ((a && b) ≡ false) exactly_when (A ⊎ B)
both_fail true b p q = (
  λ e. inr (q.0 e),
  λ h. ⊎_elim (λ x. absurd (false≢true (sym (p.1 x)))) (λ y. q.1 y) h,
)
both_fail false b p q = (λ e. inl (p.0 refl), λ h. refl)

-- One of the first n tests fails.
pub some_fails : (f : ℕ → Bool) (n : ℕ) (A : ℕ → Type 0) → ((i : ℕ) → (f i ≡ false) exactly_when A i)
    → (all_to f n ≡ false) exactly_when ((i : ℕ) × ((i < n) × A i))
some_fails f n A h = (
  λ e. let o = all_false f n e in (o.0, (o.1, (h o.0).0 o.2)),
  λ o. sym (all_fails f n o.0 o.1.0 ((h o.0).1 o.1.1)),
)

-- A number is below another.
pub leb_fails : (a b : ℕ) → (leb a b ≡ false) exactly_when (b < a)
leb_fails a b = (leb-false a b, lt-leb a b)

-- Two numbers differ.
eqb_fails : (a b : ℕ) → (eqb a b ≡ false) exactly_when (a ≡ b → ⊥)
eqb_fails a b = (eqb-false a b, ne_eqb a b)

-- A number is outside a range.
pub within_fails : (low high x : ℕ) → (within low high x ≡ false) exactly_when Outside low high x
within_fails low high x = both_fail (leb low x) (leb x high) (leb_fails low x) (leb_fails x high)

-- 1: the length.
pub length_fails : (n : ℕ) → (size_ok n ≡ false) exactly_when WrongLength n
length_fails n =
    let w =
    both_fail (within 1 most_bytes n) (eqb (n % block_size) 0) (within_fails 1 most_bytes n)
    (eqb_fails (n % block_size) 0) in (
      λ e.
          ⊎_elim (λ o. ⊎_elim (λ l. inl (omega arith)) (λ l. inr (inr l)) o) (λ d. inr (inl d)) (w.0 e),
      λ h.
          w.1 (⊎_elim (λ e. inl (inl (omega arith))) (λ o. ⊎_elim (λ d. inr d) (λ l. inl (inr l)) o) h),
    )

-- 2: the sum.
pub sum_fails : (b : List ℕ) → (sums_to_zero b ≡ false) exactly_when WrongSum b
sum_fails b = eqb_fails (wrapped (word b) block_words) 0

-- Neither marks nor a Deferrable Server.
opened_fails : (marks server : ℕ)
    → ((leb 1 marks || eqb server deferrable_server) ≡ false)
    exactly_when ((marks ≡ 0) × (server ≢ deferrable_server))
opened_fails marks server = (
  by (leb 1 marks) refl,
  λ h. rw (lt-leb 1 marks (omega (arith, h.0)), ne_eqb server deferrable_server h.1) refl,
)
  where
    by : (t : Bool) → leb 1 marks ≡ t → (t || eqb server deferrable_server) ≡ false
        → (marks ≡ 0) × (server ≢ deferrable_server)
    by true p e = absurd (false≢true (sym e))
    by false p e = (omega (arith, leb-false 1 marks p), eqb-false server deferrable_server e)

-- 3: the kind, by what it is.
pub kind_fails : (b : List ℕ) → (kind_ok b ≡ false) exactly_when WrongKind b
kind_fails b =
    elim (ℕ_discrete (kind_in b) plain_kind) [
      | yes k ↦ rw (eq-eqb (kind_in b) plain_kind k) (
        λ e. absurd (false≢true (sym e)),
        λ h. absurd (⊎_elim (λ n. n.0 k) (λ t. omega (arith, k, t.0)) h),
      )
      | no n ↦ elim (ℕ_discrete (kind_in b) extended_kind) [
        | yes k ↦ rw k (
          λ e. inr (refl, (opened_fails (marks_in b) (server_in b)).0 e),
          λ h. (opened_fails (marks_in b) (server_in b)).1 (⊎_elim (λ n. absurd (n.1 refl)) (λ t. t.1) h),
        )
        | no m ↦ rw (ne_eqb (kind_in b) plain_kind n, ne_eqb (kind_in b) extended_kind m) (λ e. inl (n, m), λ h. refl)
      ]
    ]

-- 3: kind and, where it counts, place.
pub opening_fails : (placed : Bool) (b : List ℕ) (place : ℕ)
    → ((kind_ok b && (not placed || own_place b place)) ≡ false) exactly_when WrongOpening placed b place
opening_fails true b place =
    both_fail (kind_ok b) (own_place b place) (kind_fails b) (eqb_fails (place_in b) place)
opening_fails false b place = rw (and-true (kind_ok b)) (kind_fails b)

-- 4: the guest's own numbers.
pub head_fails : (g : Guest) → (guest_ok g ≡ false) exactly_when WrongHead g
unfolding head_ok
head_fails g =
    let a = both_fail (leb 1 g.id) _ (leb_fails 1 g.id) (within_fails 1 g.period g.capacity) in
    let b = both_fail _ _ a (within_fails 1 longest g.period) in
    let c = both_fail _ _ b (within_fails 1 most_tasks g.tasks) in (
      λ e.
          ⊎_elim
          (λ x. ⊎_elim (λ y. ⊎_elim (λ z. inl (omega arith)) (λ z. inr (inl z)) y) (λ y. inr (inr (inl y))) x)
          (λ x. inr (inr (inr x)))
          (c.0 e),
      λ h.
          c.1
          (⊎_elim
          (λ z. inl (inl (inl (omega arith))))
          (λ x. ⊎_elim (λ z. inl (inl (inr z))) (λ y. ⊎_elim (λ z. inl (inr z)) (λ z. inr z) y) x)
          h),
    )

-- 4: the ids of earlier places.
pub id_fails : (id : ℕ → ℕ) (k : ℕ) → (new_id id k ≡ false) exactly_when Seen id k
unfolding new_id
id_fails id k = some_fails (λ j. not (eqb (id j) (id k))) k (λ j. id j ≡ id k) (λ j. same j)
  where
    same : (j : ℕ) → (not (eqb (id j) (id k)) ≡ false) exactly_when (id j ≡ id k)
    same j = (λ e. eqb-true (id j) (id k) (not-false (eqb (id j) (id k)) e), λ e. rw (eq-eqb (id j) (id k) e) refl)

-- 4: both.
pub guest_fails : (g : Guest) (id : ℕ → ℕ) (k : ℕ)
    → ((guest_ok g && new_id id k) ≡ false) exactly_when WrongGuest g id k
guest_fails g id k = both_fail (guest_ok g) (new_id id k) (head_fails g) (id_fails id k)

-- A task's numbers.
task_fails :
    (run every deadline : ℕ)
    → (task_ok run every deadline ≡ false)
    exactly_when TaskOutside run every deadline
unfolding task_ok
task_fails run every deadline =
    let a = both_fail _ _ (within_fails 1 longest run) (within_fails 1 longest every) in
    let b = both_fail _ _ a (within_fails 1 every deadline) in (
      λ e. ⊎_elim (λ x. ⊎_elim (λ y. inl y) (λ y. inr (inl y)) x) (λ x. inr (inr x)) (b.0 e),
      λ h. b.1 (⊎_elim (λ x. inl (inl x)) (λ x. ⊎_elim (λ y. inl (inr y)) (λ y. inr y) x) h),
    )

-- The multiple of a bound task.
start_fails : (bound : Bool) (period every : ℕ)
    → (start_ok bound period every ≡ false) exactly_when ((bound ≡ true) × (every % period ≢ 0))
unfolding start_ok
start_fails true period every = (
  λ e. (refl, eqb-false (every % period) 0 e),
  λ h. ne_eqb (every % period) 0 h.1,
)
start_fails false period every = (λ e. absurd (false≢true (sym e)), λ h. absurd (false≢true h.0))

-- 6: the tasks.
pub tasks_fail : (g : Guest) → (tasks_ok g ≡ false) exactly_when WrongTask g
unfolding tasks_ok
tasks_fail g =
    let a =
    some_fails
    (λ i. task_ok (run_of g i) (every_of g i) (deadline_of g i)) g.tasks
    (λ i. TaskOutside (run_of g i) (every_of g i) (deadline_of g i))
    (λ i. task_fails (run_of g i) (every_of g i) (deadline_of g i)) in
    let b =
    some_fails
    (λ i. start_ok (is_bound g i) g.period (every_of g i)) g.tasks (NoMultiple g)
    (λ i. start_fails (is_bound g i) g.period (every_of g i)) in
    let w = both_fail _ _ a b in (
      λ e.
          ⊎_elim (λ o. (o.0, (o.1.0, inl o.1.1))) (λ o. (o.0, (o.1.0, inr o.1.1))) (w.0 e),
      λ o.
          w.1 (⊎_elim (λ x. inl (o.0, (o.1.0, x))) (λ x. inr (o.0, (o.1.0, x))) o.1.1),
    )

-- 23: the server.
pub periodic_fails : (g : Guest) → (is_periodic g ≡ false) exactly_when (is_deferrable g ≡ true)
periodic_fails g = (λ e. ap not e, λ e. not-true (is_periodic g) e)
