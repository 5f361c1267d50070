-- What the first guest and the first task hold that a search found. Assumes nothing.
use mathlib.Core.Path.{◌≡◌}
use mathlib.Core.Bool.{true}
use mathlib.Core.List.{List}
use Prim.Native.Nat.{ℕ, ◌≤◌, ◌<◌}
use native.Mathlib.Omega.{arith}
use borrow.Author.Tests.{ltb-true}
use Rattle.lists.specs.Places.{nth}
use Rattle.lists.specs.Search.{first_from}
use Rattle.arrays.specs.Place.{place_at}
use Rattle.arrays.specs.Parts.{has_left, has_run}
use Rattle.lists.proofs.Search.{first_found}

-- The guest that was found has capacity left.
pub has_left_lem : (left : List ℕ) (n k : ℕ) → k ≡ first_from (has_left left) n 0 → k < n → 1 ≤ nth left k
has_left_lem left n k e h =
    let p : has_left left k ≡ true = rw e (first_found (has_left left) n 0 (omega arith)) in
    omega (arith, ltb-true 0 (nth left k) p)

-- The task that was found has run left.
pub has_run_lem : (rest : List ℕ) (k n t : ℕ) → t ≡ first_from (has_run rest k) n 0 → t < n → 1 ≤ nth rest (place_at k t)
has_run_lem rest k n t e h =
    let p : has_run rest k t ≡ true = rw e (first_found (has_run rest k) n 0 (omega arith)) in
    omega (arith, ltb-true 0 (nth rest (place_at k t)) p)
