-- The barred tasks are those that may not be released where their guest stands; the column of them, guest by guest.
-- Assumes nothing.
use mathlib.Core.Path.{◌≡◌}
use mathlib.Core.Bool.{not, or-true, or-false}
use Prim.Native.Nat.{ℕ, zero, suc}
use native.Mathlib.Omega.{arith}
use borrow.Author.Tests.{lt-ltb, ne_eqb}
use Rattle.plan.specs.declared.Guest.{Guest}
use Rattle.plan.specs.Marks.{marked, is_bound, may_start}
use Rattle.jobs.specs.Barred.{barred_by}
use Rattle.plan.proofs.MarksLaws.{unmarked}

-- A task may be released where its guest stands if it is not one of the barred, and not else.
pub barred_is : (g : Guest) (position i : ℕ) → may_start g position i ≡ not (marked (barred_by g.marks position) i)
unfolding may_start
barred_is g zero i = rw (unmarked i) (or-true (not (is_bound g i)))
barred_is g (suc p) i =
    rw (ne_eqb (suc p) 0 (λ z. omega arith), lt-ltb 0 (suc p) (omega arith)) (or-false (not (is_bound g i)))
