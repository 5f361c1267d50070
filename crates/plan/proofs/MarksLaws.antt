-- What the marks of tasks say. Assumes nothing.
use mathlib.Core.Path.{◌≡◌, refl, sym, ap, ◌∙◌}
use mathlib.Core.Bool.{true, false}
use Prim.Native.Nat.{ℕ, ◌*◌, ◌/◌, ◌%◌, ◌^◌, ◌≤◌, ◌<◌}
use native.Mathlib.Nat.{zero-div, zero-mod, one-le-pow, pow-le-pow_right, mod-lt, mod-eq_of_lt}
use native.Mathlib.Omega.{arith}
use lib.Dec.{eqb}
use Rattle.std.specs.Int.{bit_at}
use Rattle.std.proofs.lemmas.Nat.{div-add-mod'}
use Rattle.std.proofs.lemmas.Nat.Bits.{bit_at_cat_low}
use Rattle.std.proofs.lemmas.Bool.Decides.{nat_tests}
use Rattle.lists.specs.All.{all_to}
use Rattle.lists.specs.Exactly.{◌exactly_when◌}
use Rattle.plan.specs.declared.Guest.{Guest}
use Rattle.plan.specs.Marks.{marked, is_bound, may_start, marks_of}
use Rattle.plan.specs.Ranges.{most_tasks, start_ok}
use Rattle.lists.proofs.All.{all_by}

-- no bit of 0 is set
pub unmarked : (i : ℕ) → marked 0 i ≡ false
unfolding marked
unmarked i = rw (zero-div (2 ^ i)) refl

-- without marks no task is asked for a multiple
pub starts_unmarked : (marks period : ℕ) (every : ℕ → ℕ) (n : ℕ) → marks ≡ 0
    → true ≡ all_to (λ i. start_ok (marked marks i) period (every i)) n
unfolding start_ok
starts_unmarked marks period every n e = sym (all_by _ n (λ i l. rw (e, unmarked i) refl))

-- the marks of the first n tasks have the bits of all the marks there
pub marks_same : (marks n i : ℕ) → i < n → marked (marks_of marks n) i ≡ marked marks i
unfolding marked marks_of
marks_same marks n i h =
    ap (λ (x : ℕ). eqb x 1)
    (sym (bit_at_cat_low (marks / 2 ^ n) n (marks % 2 ^ n) i h) ∙ ap (λ (x : ℕ). bit_at x i) (div-add-mod' marks (2 ^ n)))

-- 1 moved up by as many places as there can be tasks is that power of two, in 32 bits
pub moved_up_lem : (n : ℕ) → n ≤ most_tasks → 1 * 2 ^ n % 4294967296 ≡ 2 ^ n
moved_up_lem n h =
    let l : 2 ^ n ≤ 2 ^ 16 = pow-le-pow_right (omega arith) h in
    let e : 1 * 2 ^ n ≡ 2 ^ n = omega arith in
    rw e (mod-eq_of_lt (omega (arith, l)))

-- 0 has no marks
pub marks_none : (marks n : ℕ) → marks ≡ 0 → 0 ≡ marks_of marks n
unfolding marks_of
marks_none marks n e = rw e (sym (zero-mod (2 ^ n)))

-- no mark is past the first n tasks
pub marks_below : (marks n : ℕ) → marks_of marks n < 2 ^ n
unfolding marks_of
marks_below marks n = mod-lt marks (one-le-pow n 2 (omega arith))

-- marks of which none is past the first n tasks are theirs
pub marks_fit : (marks n : ℕ) → marks < 2 ^ n → marks_of marks n ≡ marks
unfolding marks_of
marks_fit marks n h = mod-eq_of_lt h

-- ---- where a task may start
-- a task may start that, if it is bound, has its guest at position 0
pub starts_here : (g : Guest) (position i : ℕ) → (is_bound g i ≡ true → position ≡ 0) → may_start g position i ≡ true
unfolding may_start
starts_here g position i h = grind (arith, nat_tests)

-- a bound task that may start has its guest at position 0
pub bound_starts : (g : Guest) (position i : ℕ) → may_start g position i ≡ true → is_bound g i ≡ true → position ≡ 0
unfolding may_start
bound_starts g position i e b = grind (arith, nat_tests)

-- a task may not start exactly where it is bound and its guest past position 0
pub may_not_start :
    (g : Guest) (position i : ℕ)
    → (may_start g position i ≡ false) exactly_when ((is_bound g i ≡ true) × (0 < position))
unfolding may_start
may_not_start g position i = (λ e. grind (arith, nat_tests), λ h. grind (arith, nat_tests))
