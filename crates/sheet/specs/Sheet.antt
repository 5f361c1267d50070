-- A sheet of releases: many pairs of a guest id and a task number, released one by one in order. Whole refusals: 14,
-- 15, 12.
use Rattle.std.specs.Prelude.{List, [], ◌∷◌, ◌++◌, ℕ, zero, suc, ◌/◌, ◌%◌, leb, ltb, length, drop}
use Rattle.lists.specs.Choice.{pick}
use Rattle.lists.specs.Places.{nth}
use Rattle.lists.specs.Table.{table}
use Rattle.lists.specs.Refusals.{refusal, ◌or_refuse◌}
use Rattle.plan.specs.First.{refused, fine}
use Rattle.dispatcher.specs.declared.Dispatcher.{Dispatcher}
use Rattle.dispatcher.specs.declared.Released.{Released}
use Rattle.dispatcher.specs.Valid.{state_ok}
use Rattle.dispatcher.specs.Release.{release}

-- The most pairs on a sheet.
abbrev pub most_pairs : ℕ
most_pairs = 256

-- A pair is one 64-bit number: the guest id times this, plus the task number.
abbrev pub pair_base : ℕ
pair_base = 65536

-- A guest id has 32 bits, so it is below this.
abbrev pub id_bound : ℕ
id_bound = 4294967296

-- The guest id that a pair names; a part beyond 32 bits names no guest, as id 0 does.
abbrev pub pair_guest : (pair : ℕ) → ℕ
pair_guest pair = pick (ltb (pair / pair_base) id_bound) (pair / pair_base) 0

-- The task number that a pair names.
abbrev pub pair_task : (pair : ℕ) → ℕ
pair_task pair = pair % pair_base

-- A pair released.
abbrev pub pair_released : Dispatcher → (pair : ℕ) → Released
pair_released d pair = release d (pair_guest pair) (pair_task pair)

-- The state after the first n pairs.
unfoldable pub state_after : Dispatcher → (pairs : List ℕ) → ℕ → Dispatcher
state_after d pairs zero = d
state_after d pairs (suc n) = (pair_released (state_after d pairs n) (nth pairs n)).state

-- The answer to pair n, from 0, by the state that the pairs before it left: 0 for taken, or the refusal's number.
unfoldable pub answer_to : Dispatcher → (pairs : List ℕ) → ℕ → ℕ
answer_to d pairs n = (pair_released (state_after d pairs n) (nth pairs n)).refusal.number

-- The number that a sheet is refused by as a whole, with so many places for answers.
unfoldable pub sheet_number : Dispatcher → (pairs : List ℕ) → (room : ℕ) → ℕ
sheet_number d pairs room =
    refusal (
    state_ok d or_refuse 14
    ∷ leb (length pairs) most_pairs or_refuse 15
    ∷ leb (length pairs) room or_refuse 12
    ∷ [])

-- The state by that number: that after all pairs, or as it was.
unfoldable pub sheet_by : ℕ → Dispatcher → (pairs : List ℕ) → Released
sheet_by zero d pairs = record { refusal = fine; state = state_after d pairs (length pairs) }
sheet_by (suc n) d pairs = record { refusal = refused (suc n) 0; state = d }

-- A sheet.
unfoldable pub sheet : Dispatcher → (pairs : List ℕ) → (room : ℕ) → Released
sheet d pairs room = sheet_by (sheet_number d pairs room) d pairs

-- The lent answers by that number: one for each pair and what stood behind them, or what stood there.
unfoldable pub answered_by : ℕ → Dispatcher → (pairs before : List ℕ) → List ℕ
answered_by zero d pairs before = table (answer_to d pairs) (length pairs) ++ drop (length pairs) before
answered_by (suc n) d pairs before = before

-- The lent answers after a sheet.
unfoldable pub answered : Dispatcher → (pairs before : List ℕ) → List ℕ
answered d pairs before = answered_by (sheet_number d pairs (length before)) d pairs before
