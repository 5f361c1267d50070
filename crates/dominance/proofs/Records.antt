-- A guest that is there stays there when the guests of its plan are made Periodic. Assumes nothing.
use mathlib.Core.Path.{◌∙◌, ap}
use Prim.Native.Nat.{ℕ}
use Rattle.plan.specs.Periodic.{converted}
use Rattle.plan.specs.declared.Plan.{Plan}
use Rattle.plan.specs.declared.Refusal.{Refusal}
use Rattle.verdict_laws.specs.Guests.{There}
use Rattle.plan.proofs.Converted.{same_id, same_refusal}

-- Its records are in order, and it has its place and its id.
pub there_stays : (p : Plan) (id k : ℕ) → There p id k → There (converted p) id k
unfolding converted
there_stays p id k t = record {
  order = ap (λ (r : Refusal). r.number) (same_refusal p) ∙ t.order;
  place = t.place;
  named = same_id p k ∙ t.named;
}
