-- Columns: one number of each guest, or of each task of a guest, in an array of 16.
-- Inner: no promise of an entry names this.
use Rattle.std.specs.Prelude.{◌≡◌, List, ℕ, ◌<◌, length}
use Rattle.lists.specs.Places.{nth}
use Rattle.plan.specs.declared.Guest.{Guest}
use Rattle.plan.specs.declared.Columns.{Columns}
use Rattle.plan.specs.Records.{guest_at}

-- an array of 16 that holds f 0 to f (n - 1)
pub record Filled (r : List ℕ) (f : ℕ → ℕ) (n : ℕ) : Type 0 where
  pub long : length r ≡ 16
  pub holds : (k : ℕ) → k < n → nth r k ≡ f k

-- the columns of the first n guests
pub record ColumnsOf (gs : List Guest) (n : ℕ) (r : Columns) : Type 0 where
  pub ids : Filled r.ids (λ k. (guest_at gs k).id) n
  pub capacities : Filled r.capacities (λ k. (guest_at gs k).capacity) n
  pub periods : Filled r.periods (λ k. (guest_at gs k).period) n
  pub tasks : Filled r.tasks (λ k. (guest_at gs k).tasks) n
  pub deferrable : Filled r.deferrable (λ k. (guest_at gs k).deferrable) n
