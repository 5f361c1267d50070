-- A plan with another guest at a place: those above take and fit as they did, and that guest is judged under them.
-- Assumes nothing.
use mathlib.Core.Path.{◌≡◌, refl, sym, ◌∙◌, ap, fun_ext}
use mathlib.Core.Bool.{Bool, ◌&&◌}
use Prim.Native.Nat.{ℕ, ◌≤◌, ◌<◌}
use native.Mathlib.Omega.{arith}
use lib.ListN.{length}
use Rattle.lists.specs.All.{all_to}
use Rattle.plan.specs.Placed.{with_guest}
use Rattle.plan.specs.declared.Guest.{Guest}
use Rattle.plan.specs.declared.Plan.{Plan}
use Rattle.response.specs.Interference.{jitter, interference}
use Rattle.response.specs.Guest.{guest_response, fitted, fitted_to}
use Rattle.response.specs.Met.{all_met}
use Rattle.response.specs.Columns.{accepted_under}
use Rattle.lists.proofs.All.{and_assoc, all_ext}
use Rattle.rounding.proofs.Asked.{asked_same}
use Rattle.plan.proofs.Placed.{placed_there, placed_other}
use Rattle.response.proofs.ColumnsLaws.{accepted_is}

module _ (p : Plan) (k : ℕ) (g : Guest) where
  -- Those above take what they took.
  pub placed_take : (j : ℕ) → j ≤ k → interference (with_guest p k g) j ≡ interference p j
  unfolding interference
  placed_take j l =
      fun_ext (λ v.
      asked_same _ _ _ _ _ _ j v
      (λ i m. ap (λ (g : Guest). g.capacity) (placed_other p k g i (λ e. omega arith)))
      (λ i m. ap (λ (g : Guest). g.period) (placed_other p k g i (λ e. omega arith)))
      (λ i m. ap jitter (placed_other p k g i (λ e. omega arith))))

  -- They are fitted where they were.
  placed_fits : (j : ℕ) → j < k → fitted (with_guest p k g) j ≡ fitted p j
  unfolding fitted guest_response
  placed_fits j l = rw (placed_take j (omega arith), placed_other p k g j (λ e. omega arith)) refl

  -- The guest and all above are fitted and its tasks met where those above are fitted and it is accepted under them.
  pub placed_works : k < length p.guests
      → (fitted_to (with_guest p k g) k && all_met (with_guest p k g) k)
      ≡ (all_to (fitted p) k && accepted_under (interference p k) g)
  unfolding fitted_to all_to
  placed_works here =
      let q = with_guest p k g in
      and_assoc (all_to (fitted q) k) (fitted q k) (all_met q k)
      ∙ ap (λ (b : Bool). b && (fitted q k && all_met q k)) (all_ext _ _ k placed_fits)
      ∙ ap (λ (b : Bool). all_to (fitted p) k && b)
      (sym (accepted_is q k) ∙ rw (placed_take k (omega arith), placed_there p k g here) refl)
