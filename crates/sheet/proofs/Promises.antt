-- What the promise permits is one outcome. Assumes nothing.
use mathlib.Core.Path.{◌≡◌}
use mathlib.Core.List.{List}
use Prim.Native.Nat.{ℕ}
use Rattle.dispatcher.specs.declared.Dispatcher.{Dispatcher}
use Rattle.dispatcher.specs.declared.Released.{Released}
use Rattle.sheet.specs.Promises.{Sheets}
use Rattle.plan.proofs.Promises.{one_outcome}

-- release_all: the outcome and every answer place.
pub sheets_once :
    (d : Dispatcher) (pairs before : List ℕ) (r s : Released) (after later : List ℕ)
    → Sheets d pairs before r after
    → Sheets d pairs before s later
    → (r ≡ s) × (after ≡ later)
sheets_once d pairs before r s after later a b = (one_outcome a.0 b.0, one_outcome a.1 b.1)
