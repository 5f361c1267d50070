-- A sheet written out as its single releases.
use Rattle.std.specs.Prelude.{◌≡◌, List, [], ◌∷◌, ◌++◌, ℕ, ◌<◌, length, take}
use Rattle.lists.specs.Places.{nth}
use Rattle.dispatcher.specs.declared.Dispatcher.{Dispatcher}
use Rattle.sheet.specs.Sheet.{pair_guest, pair_task, state_after, sheet}
use Rattle.history.specs.Calls.{Call, releasing, Takes}

-- The releases that the pairs ask for, one call each, in order.
unfoldable pub releases : (pairs : List ℕ) → List Call
releases [] = []
releases (pair ∷ pairs) = releasing (pair_guest pair) (pair_task pair) ∷ releases pairs

-- A history, and then the pairs before pair i: what has happened when pair i is released.
abbrev pub up_to_pair : List Call → (pairs : List ℕ) (i : ℕ) → List Call
up_to_pair cs pairs i = cs ++ releases (take i pairs)

-- In the state d a sheet is called and not refused whole, and its pair i, from 0, is a release of the task.
pub record PairOf (d : Dispatcher) (pairs : List ℕ) (room i : ℕ) (guest task : ℕ) : Type 0 where
  pub whole : (sheet d pairs room).refusal.number ≡ 0
  pub there : i < length pairs
  pub names_guest : pair_guest (nth pairs i) ≡ guest
  pub names_task : pair_task (nth pairs i) ≡ task

-- Of the pairs before pair i, none that is a release of the task is taken.
abbrev pub NotBefore : Dispatcher → (pairs : List ℕ) (i : ℕ) (guest task : ℕ) → Type 0
NotBefore d pairs i guest task =
    (j : ℕ) → j < i → Takes (pair_guest (nth pairs j)) (pair_task (nth pairs j)) (state_after d pairs j) guest task → ⊥
