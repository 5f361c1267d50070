-- What a block says, and the refusals of a block in their order.
use Rattle.std.specs.Prelude.{Bool, ◌&&◌, ◌||◌, List, [], ◌∷◌, ℕ, ◌+◌, ◌-◌, ◌%◌, ◌^◌, leb, ltb, eqb}
use Rattle.lists.specs.All.{all_to}
use Rattle.lists.specs.Choice.{pick}
use Rattle.lists.specs.Table.{table}
use Rattle.lists.specs.Refusals.{refusal, ◌or_refuse◌}
use Rattle.words.specs.Word.{word}
use Rattle.words.specs.Wrap.{wrapped}
use Rattle.plan.specs.declared.Guest.{Guest}
use Rattle.plan.specs.Ranges.{most_tasks, guest_ok, tasks_ok}
use Rattle.block.specs.Layout.{block_words, kind_place_word, plain_kind, extended_kind, deferrable_server, id_word, capacity_word, period_word, tasks_charge_word, marks_server_word, spare_from, spare_to, run_word, every_word, deadline_word, unused_from, check_word, byte_wrap, low_half, high_half}

-- The kind that a block says.
abbrev pub kind_in : List ℕ → ℕ
kind_in b = low_half (word b kind_place_word)

-- The place that a block says.
abbrev pub place_in : List ℕ → ℕ
place_in b = high_half (word b kind_place_word)

-- The guest's id that a block says.
abbrev pub id_in : List ℕ → ℕ
id_in b = word b id_word

-- The number of tasks that a block says.
abbrev pub task_count : List ℕ → ℕ
task_count b = low_half (word b tasks_charge_word)

-- The marks that a block says; one of kind 1 that is not refused says none.
abbrev pub marks_in : List ℕ → ℕ
marks_in b = low_half (word b marks_server_word)

-- Bytes 22-23 of a block, of which the second is zero in one that is not refused.
abbrev pub server_half : List ℕ → ℕ
server_half b = high_half (word b marks_server_word)

-- The server that a block says, byte 22; one of kind 1 that is not refused says 0.
abbrev pub server_in : List ℕ → ℕ
server_in b = server_half b % byte_wrap

-- One number of each of the 16 entries.
unfoldable pub column : List ℕ → (ℕ → ℕ) → List ℕ
column b at = table (λ i. word b (at i)) most_tasks

-- The record that a block says.
abbrev pub guest_of : List ℕ → Guest
guest_of b = record {
  id = id_in b;
  capacity = word b capacity_word;
  period = word b period_word;
  tasks = task_count b;
  charge = high_half (word b tasks_charge_word);
  marks = marks_in b;
  deferrable = server_in b;
  run = column b run_word;
  every = column b every_word;
  deadline = column b deadline_word;
}

-- Passes 2: the sum of the block's 128 words, modulo 4,294,967,296, is zero.
abbrev pub sums_to_zero : List ℕ → Bool
sums_to_zero b = eqb (wrapped (word b) block_words) 0

-- Passes 3: the kind is 1, or 2 with marks or a Deferrable Server.
abbrev pub kind_ok : List ℕ → Bool
kind_ok b =
    eqb (kind_in b) plain_kind
    || (eqb (kind_in b) extended_kind && (leb 1 (marks_in b) || eqb (server_in b) deferrable_server))

-- Passes 3 too, in a plan: the place is the block's own.
abbrev pub own_place : List ℕ → ℕ → Bool
own_place b place = eqb (place_in b) place

-- The words from one on, and before another, are zero.
unfoldable pub zero_between : List ℕ → (from to : ℕ) → Bool
zero_between b from to = all_to (λ k. eqb (word b (from + k)) 0) (to - from)

-- How many tasks a block can have marks for: all its tasks in kind 2, none in kind 1.
abbrev pub markable : List ℕ → ℕ
markable b = pick (eqb (kind_in b) extended_kind) (task_count b) 0

-- The largest number that bytes 22-23 can have: the Deferrable Server's in kind 2, 0 in kind 1.
abbrev pub last_server : List ℕ → ℕ
last_server b = pick (eqb (kind_in b) extended_kind) deferrable_server 0

-- Bytes 20-21 have no mark past these tasks, and bytes 22-23 are a server's.
unfoldable pub marks_ok : List ℕ → Bool
marks_ok b = ltb (marks_in b) (2 ^ markable b) && leb (server_half b) (last_server b)

-- Passes 5: the bytes that must be zero are, no mark is past the tasks, and byte 22 is a server's.
abbrev pub zeros_ok : List ℕ → Bool
zeros_ok b = marks_ok b && zero_between b spare_from spare_to && zero_between b (unused_from (task_count b)) check_word

-- The number that a block is refused by, 0 for none. It is told whether the place passes, which not every reader asks,
-- and whether the id is new.
unfoldable pub block_number : List ℕ → (placeOk new_id : Bool) → ℕ
block_number b placeOk new_id =
    refusal (
    sums_to_zero b or_refuse 2
    ∷ (kind_ok b && placeOk) or_refuse 3
    ∷ (guest_ok (guest_of b) && new_id) or_refuse 4
    ∷ zeros_ok b or_refuse 5
    ∷ tasks_ok (guest_of b) or_refuse 6
    ∷ [])
