-- A guest's place, as the code finds it in the column of ids. Assumes nothing.
use mathlib.Core.Path.{◌≡◌, refl}
use mathlib.Core.List.{List}
use Prim.Native.Nat.{ℕ, ◌≤◌}
use native.Mathlib.Omega.{arith}
use lib.Dec.{eqb}
use Rattle.lists.specs.Places.{nth}
use Rattle.lists.specs.Search.{first_from}
use Rattle.plan.specs.declared.Plan.{Plan}
use Rattle.plan.specs.Records.{guest_at}
use Rattle.plan.specs.Ranges.{most_guests}
use Rattle.plan.specs.Filled.{Filled}
use Rattle.plan.specs.Place.{place_of}
use Rattle.lists.proofs.Search.{first_ext}

-- the place that is found in the column is the guest's in the plan
pub place_is : (p : Plan) (ids : List ℕ) (id : ℕ) → p.count ≤ most_guests
    → Filled ids (λ j. (guest_at p.guests j).id) most_guests
    → first_from (λ k. eqb (nth ids k) id) p.count 0 ≡ place_of p id
unfolding place_of
place_is p ids id h f = first_ext _ _ p.count 0 (λ z l. rw (f.holds z (omega arith)) refl)
