-- The refusals of a log block against a plan, by which it is passed over: 2, 3, 18, 5, 7, 8, 19.
use Rattle.std.specs.Prelude.{Bool, List, [], ◌∷◌, ◌++◌, ℕ, ltb}
use Rattle.lists.specs.All.{all_to}
use Rattle.lists.specs.Refusals.{Test, refusal, ◌or_refuse◌}
use Rattle.plan.specs.declared.Plan.{Plan}
use Rattle.plan.specs.Place.{has_guest, has_task}
use Rattle.logblock.specs.Reading.{jobs_in, entry_in, own_tests}
use Rattle.statement.specs.Lines.{most_blocks}

-- Passes 7: each entry names a guest of the plan.
abbrev pub guests_there : Plan → (block : List ℕ) → Bool
guests_there p b = all_to (λ i. has_guest p (entry_in b i).guest) (jobs_in b)

-- Passes 8: each entry names a task of its guest.
abbrev pub tasks_there : Plan → (block : List ℕ) → Bool
tasks_there p b = all_to (λ i. has_task p (entry_in b i).guest (entry_in b i).task) (jobs_in b)

-- What is asked of a block against the plan, and against how many blocks are counted before it.
abbrev pub plan_tests : Plan → (blocks : ℕ) → (block : List ℕ) → List Test
plan_tests p blocks b =
    guests_there p b or_refuse 7
    ∷ tasks_there p b or_refuse 8
    ∷ ltb blocks most_blocks or_refuse 19
    ∷ []

-- The number that a block is passed over by, 0 where it is taken: its own tests come first.
unfoldable pub block_number : Plan → (blocks : ℕ) → (block : List ℕ) → ℕ
block_number p blocks b = refusal (own_tests b ++ plan_tests p blocks b)
