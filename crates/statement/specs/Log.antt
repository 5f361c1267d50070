-- A log, block by block: the statement after each, and which blocks are passed over.
use Rattle.std.specs.Prelude.{List, ℕ, zero, suc, ltb}
use Rattle.lists.specs.Choice.{pick}
use Rattle.lists.specs.Sum.{sum_to}
use Rattle.plan.specs.declared.Plan.{Plan}
use Rattle.plan.specs.declared.Refusal.{Refusal}
use Rattle.plan.specs.First.{first_refused}
use Rattle.blockfile.specs.File.{block_at}
use Rattle.statement.specs.declared.Statement.{Statement}
use Rattle.statement.specs.Counting.{block_counted}
use Rattle.statement.specs.Block.{block_number}

-- The statement after a block, by the number that it is passed over by: only a taken block counts.
unfoldable pub taken_by : (number : ℕ) → Plan → (block : List ℕ) → Statement → Statement
taken_by zero p b s = block_counted p b s
taken_by (suc number) p b s = s

-- The statement after a block.
abbrev pub after_block : Plan → (block : List ℕ) → Statement → Statement
after_block p b s = taken_by (block_number p s.blocks b) p b s

-- The statement after the first n blocks of a log.
unfoldable pub after_blocks : Plan → (log : List ℕ) → ℕ → Statement → Statement
after_blocks p log zero s = s
after_blocks p log (suc n) s = after_block p (block_at log n) (after_blocks p log n s)

-- The number that block k of a log is passed over by, 0 where it is taken.
unfoldable pub passed_by : Plan → (log : List ℕ) → Statement → ℕ → ℕ
passed_by p log s k = block_number p (after_blocks p log k s).blocks (block_at log k)

-- How many of the first n blocks are passed over.
abbrev pub passed_in : Plan → (log : List ℕ) → Statement → ℕ → ℕ
passed_in p log s n = sum_to (λ k. pick (ltb 0 (passed_by p log s k)) 1 0) n

-- Of the first n blocks the first one that is passed over: its number, and its position in the log; both 0 if none is.
abbrev pub first_passed : Plan → (log : List ℕ) → Statement → ℕ → Refusal
first_passed p log s n = first_refused (passed_by p log s) n 0
