-- The check of a state over lent arrays, guest by guest, and the columns that it reads on its way.
-- Inner: no promise of an entry names this.
use Rattle.std.specs.Prelude.{◌≡◌, Bool, true, false, ◌&&◌, List, ℕ, ltb, Option, Some, None}
use Rattle.lists.specs.Choice.{pick}
use Rattle.lists.specs.Places.{nth}
use Rattle.lists.specs.All.{all_to}
use Rattle.plan.specs.declared.Columns.{Columns}
use Rattle.plan.specs.declared.Plan.{Plan}
use Rattle.plan.specs.Records.{guest_at}
use Rattle.plan.specs.Ranges.{most_guests, within}
use Rattle.plan.specs.Order.{new_id}
use Rattle.plan.specs.Filled.{ColumnsOf}
use Rattle.refusals.specs.Rows.{guest_is_ok, row_is_blank}

-- guest k of the plan: its id is new, and it is in its ranges
abbrev pub goes : Plan → (left position rest wait age : List ℕ) → ℕ → Bool
goes p left position rest wait age k =
    new_id (λ j. (guest_at p.guests j).id) k
    && guest_is_ok (guest_at p.guests k) k (nth left k) (nth position k) rest wait age

-- whether row k, if past the n guests, is blank
abbrev pub past_ok : (n : ℕ) (left position rest wait age : List ℕ) → ℕ → Bool
past_ok n left position rest wait age k =
    pick (ltb k n) true (row_is_blank k (nth left k) (nth position k) rest wait age)

-- whether the check passes: 1 to 8 guests, each of which goes, and blank rows past them
unfoldable pub passes : Plan → (left position rest wait age : List ℕ) → Bool
passes p left position rest wait age =
    within 1 most_guests p.count
    && (all_to (goes p left position rest wait age) p.count
    && all_to (past_ok p.count left position rest wait age) most_guests)

-- a check that passes gives the columns of the plan's guests
pub record Passed (p : Plan) (left position rest wait age : List ℕ) (c : Columns) : Type 0 where
  pub okay : passes p left position rest wait age ≡ true
  pub columns : ColumnsOf p.guests p.count c

-- the outcome of the check
abbrev pub Examined : Plan → (left position rest wait age : List ℕ) → Option Columns → Type 0
Examined p left position rest wait age None = passes p left position rest wait age ≡ false
Examined p left position rest wait age (Some c) = Passed p left position rest wait age c
