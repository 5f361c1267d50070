-- A refusal that came as an outcome is told as it is. Assumes nothing.
use Rattle.std.proofs.Common.{◌≡◌, ℕ, zero, suc, refl, ap}
use Rattle.plan.specs.declared.Refusal.{Refusal}
use Rattle.plan.specs.First.{fine, refused, refused_or, unless_refused}
use Rattle.coreshare.specs.Told.{refusal_told}

by : (n k : ℕ) → (n ≡ 0 → k ≡ 0) → refusal_told (refused_or n k tt) ≡ refused n k
by zero k h = rw (h refl) refl
by (suc n) k h = refl

-- The refusal told is the one that there was.
pub refused_back : (r : Refusal) → (r.number ≡ 0 → r ≡ fine) → refusal_told (unless_refused r tt) ≡ r
refused_back r h = by r.number r.place (λ e. ap (λ (x : Refusal). x.place) (h e))
