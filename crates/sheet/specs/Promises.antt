-- What the crate's entry promises: the whole outcome, on refusals too.
use Rattle.std.specs.Prelude.{◌≡◌, List, ℕ, length}
use Rattle.dispatcher.specs.declared.Dispatcher.{Dispatcher}
use Rattle.dispatcher.specs.declared.Released.{Released}
use Rattle.sheet.specs.Sheet.{sheet, answered}

-- release_all: the refusal, or number 0, the next state, and every answer place.
abbrev pub Sheets : Dispatcher → (pairs before : List ℕ) → Released → (after : List ℕ) → Type 0
Sheets d pairs before r after = (r ≡ sheet d pairs (length before)) × (after ≡ answered d pairs before)
