-- The column of the tasks' gaps. Assumes nothing.
use mathlib.Core.Path.{◌≡◌, refl, sym, ◌∙◌, ap}
use mathlib.Core.Bool.{Bool, false}
use Prim.Native.Nat.{ℕ, ◌≤◌, ◌<◌}
use native.Mathlib.Omega.{arith}
use lib.ListN.{replicate, get_or-replicate}
use Rattle.equation.specs.System.{gap_for}
use Rattle.plan.specs.Filled.{Filled}
use Rattle.plan.specs.Marks.{marked}
use Rattle.plan.specs.Ranges.{most_tasks}
use Rattle.plan.proofs.MarksLaws.{unmarked}

-- without marks each of the gaps is the guest's
pub gaps_unmarked : (marks gap n : ℕ) → n ≤ most_tasks → marks < 1
    → Filled (replicate 16 gap) (λ i. gap_for (marked marks i) gap) n
unfolding gap_for
gaps_unmarked marks gap n few h = record {
  long = refl;
  holds = λ i l. (
      let e : marks ≡ 0 = omega arith in
      let free : marked marks i ≡ false = ap (λ (m : ℕ). marked m i) e ∙ unmarked i in
      get_or-replicate 16 i gap 0 (omega arith) ∙ sym (ap (λ (b : Bool). gap_for b gap) free));
}
