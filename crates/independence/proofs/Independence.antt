-- Independence: from the fresh starts of two plans that are the same for a guest, each view is that of its own asks
-- alone. Assumes nothing.
use mathlib.Core.Path.{◌≡◌, refl, sym, ap, ◌∙◌}
use mathlib.Core.List.{List}
use Prim.Native.Nat.{ℕ}
use Rattle.plan.specs.declared.Plan.{Plan}
use Rattle.history.specs.Calls.{Call, start, CanStart}
use Rattle.verdict_laws.specs.Guests.{There}
use Rattle.independence.specs.View.{view}
use Rattle.independence.specs.Own.{Ask, own, as_calls, only}
use Rattle.independence.specs.NoRuns.{NoRuns}
use Rattle.independence.specs.SameFor.{SameFor}
use Rattle.independence.proofs.Fresh.{alike_start}
use Rattle.independence.proofs.View.{view_own}

-- A plan that can be started is the same as itself for each of its guests.
pub same_itself : {id k : ℕ} {p : Plan} → There p id k → CanStart p → SameFor id k p p
same_itself T can = record {
  here = T;
  there = T;
  starts = can;
  other_starts = can;
  same = refl;
  capacities = λ j l. refl;
  periods = λ j l. refl;
}

-- Two histories that ask the same for the guest show it the same.
pub independence :
    (id k : ℕ) (p q : Plan)
    → SameFor id k p q
    → (cs ds : List Call)
    → NoRuns cs
    → NoRuns ds
    → own id cs ≡ own id ds
    → view id cs (start p) ≡ view id ds (start q)
independence id k p q S cs ds r s same =
    view_own S cs (start p) (start q) (alike_start S) r
    ∙ ap (λ (asked : List Ask). view id (as_calls id asked) (start q)) same
    ∙ sym (view_own itself ds (start q) (start q) (alike_start itself) s)
  where
    itself : SameFor id k q q
    itself = same_itself S.there S.other_starts

-- Taking all other guests' releases away changes nothing that the guest can tell.
pub alone :
    (id k : ℕ) (p : Plan)
    → There p id k
    → CanStart p
    → (cs : List Call)
    → NoRuns cs
    → view id (only id cs) (start p) ≡ view id cs (start p)
alone id k p T can cs r =
    sym (view_own (same_itself T can) cs (start p) (start p) (alike_start (same_itself T can)) r)
