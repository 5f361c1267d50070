-- How the code comes to a row's test. Assumes nothing.
use mathlib.Core.Path.{◌≡◌, refl, sym, ◌∙◌}
use mathlib.Core.Bool.{Bool, true, false, ◌&&◌}
use Prim.Native.Nat.{ℕ, ◌^◌, zero, suc, ◌≤◌, ◌<◌}
use native.Mathlib.Omega.{arith}
use lib.Dec.{leb, eqb}
use borrow.Author.Tests.{lt-leb, ne_eqb}
use Rattle.lists.specs.Choice.{pick}
use Rattle.lists.specs.All.{all_to}
use Rattle.plan.specs.declared.Guest.{Guest}
use Rattle.plan.specs.Records.{run_of, every_of, deadline_of}
use Rattle.plan.specs.Ranges.{tasks_ok, task_ok, start_ok, longest}
use Rattle.plan.specs.Charge.{charged_run}
use Rattle.plan.specs.Marks.{marked}
use Rattle.lists.proofs.All.{and_left, all_at}
use Rattle.plan.proofs.Charge.{charged_most}
use Rattle.plan.proofs.RangesLaws.{task_says_lem, head_says}

-- A bound of 0 is a test for 0.
pub leb_zero : (x : ℕ) → leb x 0 ≡ eqb x 0
leb_zero zero = refl
leb_zero (suc x) = lt-leb (suc x) 0 (omega arith) ∙ sym (ne_eqb (suc x) 0 (λ e. omega arith))

-- The charged run that the code takes as a bound is small.
pub charged_small : (used : Bool) (run charge : ℕ) → (used ≡ true → run ≤ longest) → charge < 2 ^ 16 → {x : ℕ}
    → x ≡ pick used run 0
    → charged_run x charge < 2 ^ 32
charged_small true run charge h c {x} e = charged_most x charge (omega (arith, h refl)) c
charged_small false run charge h c {x} e = charged_most x charge (omega arith) c

-- The runs of tasks in their ranges are small.
pub runs_small : (g : Guest) → tasks_ok g ≡ true → (t : ℕ) → t < g.tasks → run_of g t ≤ longest
unfolding tasks_ok
runs_small g e t h =
    (task_says_lem (run_of g t) (every_of g t) (deadline_of g t)
    (all_at _ g.tasks t h (and_left (all_to _ g.tasks) _ e))
    ).run_short

-- The test of a record's tasks, as the code makes it.
pub tasks_are : (g : Guest) → tasks_ok g
    ≡ (all_to (λ i. task_ok (run_of g i) (every_of g i) (deadline_of g i)) g.tasks
    && all_to (λ i. start_ok (marked g.marks i) g.period (every_of g i)) g.tasks)
unfolding tasks_ok
tasks_are g = refl

-- A record's test.
pub ruleset record_ok = (runs_small, tasks_are, head_says)
