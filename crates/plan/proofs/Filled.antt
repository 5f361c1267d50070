-- How a loop fills a column, and the columns of a plan. Assumes nothing.
use mathlib.Core.Path.{◌≡◌, refl, ◌∙◌}
use mathlib.Core.List.{List}
use Prim.Native.Nat.{ℕ, ◌+◌, ◌<◌}
use native.Mathlib.Omega.{arith}
use Rattle.std.proofs.lemmas.Grind.{common_steps}
use lib.ListN.{set, replicate, length-set}
use Rattle.plan.specs.declared.Columns.{Columns}
use Rattle.plan.specs.declared.Guest.{Guest}
use Rattle.plan.specs.Records.{guest_at}
use Rattle.plan.specs.Filled.{Filled, ColumnsOf}

-- a loop starts: nothing is written yet
pub filled_none : (f : ℕ → ℕ) → Filled (replicate 16 0) f 0
filled_none f = record { long = refl; holds = λ z h. absurd (omega arith) }

-- a loop's turn: one place more is written
pub filled_next : (f : ℕ → ℕ) {r : List ℕ} (k : ℕ) → k < 16 → Filled r f k → Filled (set r k (f k)) f (k + 1)
filled_next f {r} k l c = record {
  long = length-set r k (f k) ∙ c.long;
  holds = λ z h. grind (arith, common_steps, c.holds z);
}

-- a loop's turn: one guest's numbers more are written
pub columns_next : {gs : List Guest} {c : Columns} (k : ℕ) → k < 16 → ColumnsOf gs k c
    → ColumnsOf gs (k + 1) (record {
      ids = set c.ids k (guest_at gs k).id;
      capacities = set c.capacities k (guest_at gs k).capacity;
      periods = set c.periods k (guest_at gs k).period;
      tasks = set c.tasks k (guest_at gs k).tasks;
      deferrable = set c.deferrable k (guest_at gs k).deferrable;
    })
columns_next k l f = record {
  ids = filled_next _ k l f.ids;
  capacities = filled_next _ k l f.capacities;
  periods = filled_next _ k l f.periods;
  tasks = filled_next _ k l f.tasks;
  deferrable = filled_next _ k l f.deferrable;
}

-- the same of a guest that was read into a record
pub columns_read : {gs : List Guest} {c : Columns} (k : ℕ) → k < 16 → (g : Guest) → g ≡ guest_at gs k → ColumnsOf gs k c
    → ColumnsOf gs (k + 1) (record {
      ids = set c.ids k g.id;
      capacities = set c.capacities k g.capacity;
      periods = set c.periods k g.period;
      tasks = set c.tasks k g.tasks;
      deferrable = set c.deferrable k g.deferrable;
    })
columns_read k l g e f = rw e (columns_next k l f)
