-- What a taken block says of its entries. Assumes nothing.
use mathlib.Core.Path.{◌≡◌}
use mathlib.Core.Bool.{true}
use mathlib.Core.List.{List}
use Prim.Native.Nat.{ℕ, ◌<◌}
use Rattle.plan.specs.declared.Plan.{Plan}
use Rattle.plan.specs.Place.{has_guest, has_task}
use Rattle.logblock.specs.declared.Entry.{Entry}
use Rattle.logblock.specs.Reading.{jobs_in, entry_in}
use Rattle.statement.specs.Block.{block_number}
use Rattle.lists.proofs.All.{all_at}
use Rattle.statement.proofs.Block.{taken_says}

-- An entry names a task of the plan.
pub record Named (p : Plan) (e : Entry) : Type 0 where
  pub guest : has_guest p e.guest ≡ true
  pub task : has_task p e.guest e.task ≡ true

-- Each entry of a taken block does.
pub each_named : (p : Plan) (blocks : ℕ) (b : List ℕ) → block_number p blocks b ≡ 0
    → (i : ℕ) → i < jobs_in b → Named p (entry_in b i)
each_named p blocks b e i l =
    let T = taken_says p blocks b e in
    record {
      guest = all_at (λ j. has_guest p (entry_in b j).guest) (jobs_in b) i l T.guests;
      task = all_at (λ j. has_task p (entry_in b j).guest (entry_in b j).task) (jobs_in b) i l T.tasks;
    }
