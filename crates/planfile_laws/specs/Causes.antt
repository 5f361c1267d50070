-- The causes of the refusals of plan files, in the words that document 01 has for each number. The order in which
-- they are asked is in `Exact`.
use Rattle.std.specs.Prelude.{◌≡◌, ◌⊎◌, ◌≢◌, Bool, true, false, List, ℕ, ◌+◌, ◌*◌, ◌%◌, ◌≤◌, ◌<◌}
use Rattle.lists.specs.Places.{nth}
use Rattle.words.specs.Word.{word}
use Rattle.words.specs.Wrap.{wrapped}
use Rattle.plan.specs.declared.Guest.{Guest}
use Rattle.plan.specs.Records.{run_of, every_of, deadline_of}
use Rattle.plan.specs.Marks.{marked, is_bound}
use Rattle.plan.specs.Ranges.{most_tasks, longest}
use Rattle.block.specs.Layout.{block_size, block_words, plain_kind, extended_kind, deferrable_server}
use Rattle.block.specs.Reading.{kind_in, place_in, task_count, marks_in, server_half, server_in}
use Rattle.blockfile.specs.File.{most_bytes}

-- A number lies outside its range.
abbrev pub Outside : (low high x : ℕ) → Type 0
Outside low high x = (x < low) ⊎ (high < x)

-- 1: the plan's length is 0, not a multiple of 512, or above 4,096.
abbrev pub WrongLength : ℕ → Type 0
WrongLength n = (n ≡ 0) ⊎ ((n % block_size ≢ 0) ⊎ (most_bytes < n))

-- 2: the block's words do not sum to zero, modulo 4,294,967,296.
abbrev pub WrongSum : List ℕ → Type 0
WrongSum b = wrapped (word b) block_words ≢ 0

-- 3: the kind is neither 1 nor 2, or it is 2, the marks are zero, and byte 22 is not 1.
abbrev pub WrongKind : List ℕ → Type 0
WrongKind b =
    ((kind_in b ≢ plain_kind) × (kind_in b ≢ extended_kind))
    ⊎ ((kind_in b ≡ extended_kind) × ((marks_in b ≡ 0) × (server_in b ≢ deferrable_server)))

-- 3: the kind is wrong, or, where places count, the place is not the block's own.
abbrev pub WrongOpening : (placed : Bool) → List ℕ → (place : ℕ) → Type 0
WrongOpening true b place = WrongKind b ⊎ (place_in b ≢ place)
WrongOpening false b place = WrongKind b

-- 4: the id is 0, or capacity, period or number of tasks is outside its range.
abbrev pub WrongHead : Guest → Type 0
WrongHead g =
    (g.id ≡ 0) ⊎
    (Outside 1 g.period g.capacity ⊎ (Outside 1 longest g.period ⊎ Outside 1 most_tasks g.tasks))

-- 4: the id at place k was already seen at an earlier place.
abbrev pub Seen : (id : ℕ → ℕ) → ℕ → Type 0
Seen id k = (j : ℕ) × ((j < k) × (id j ≡ id k))

-- 4, in a plan: the guest's own numbers, or its id among those of earlier places.
abbrev pub WrongGuest : Guest → (id : ℕ → ℕ) → ℕ → Type 0
WrongGuest g id k = WrongHead g ⊎ Seen id k

-- Byte i of a block of this kind and n tasks must be zero: bytes 20-22 but in kind 2, bytes 23-31, the entries past the
-- number of tasks, and those up to the check.
abbrev pub MustBeZero : (kind n i : ℕ) → Type 0
MustBeZero kind n i =
    ((kind ≢ extended_kind) × ((20 ≤ i) × (i < 23))) ⊎
    (((23 ≤ i) × (i < 32)) ⊎ ((32 + 12 * n ≤ i) × (i < 508)))

-- A block of kind 2 has a mark, in bytes 20-21, past its tasks.
abbrev pub MarkPast : List ℕ → Type 0
MarkPast b =
    (kind_in b ≡ extended_kind) × ((i : ℕ) × ((task_count b ≤ i) × (marked (marks_in b) i ≡ true)))

-- A block of kind 2 has a number in bytes 22-23 that is no server's.
abbrev pub WrongServer : List ℕ → Type 0
WrongServer b = (kind_in b ≡ extended_kind) × (deferrable_server < server_half b)

-- 5: a byte that must be zero is not, a mark is past the tasks, or bytes 22-23 are no server's.
abbrev pub WrongZero : List ℕ → Type 0
WrongZero b =
    ((i : ℕ) × (MustBeZero (kind_in b) (task_count b) i × (nth b i ≢ 0))) ⊎ (MarkPast b ⊎ WrongServer b)

-- A task's run, period or deadline is outside its range.
abbrev pub TaskOutside : (run every deadline : ℕ) → Type 0
TaskOutside run every deadline = Outside 1 longest run ⊎ (Outside 1 longest every ⊎ Outside 1 every deadline)

-- A task is bound, and its period is not a multiple of its guest's.
abbrev pub NoMultiple : Guest → ℕ → Type 0
NoMultiple g i = (is_bound g i ≡ true) × (every_of g i % g.period ≢ 0)

-- 6: one of the guest's tasks has such a number, or is bound without such a multiple.
abbrev pub WrongTask : Guest → Type 0
WrongTask g =
    (i : ℕ)
    ×
    ((i < g.tasks) × (TaskOutside (run_of g i) (every_of g i) (deadline_of g i) ⊎ NoMultiple g i))
