-- What the promise permits is one outcome. Assumes nothing.
use mathlib.Core.Path.{◌≡◌, ap}
use mathlib.Core.List.{List, []}
use Prim.Native.Nat.{ℕ, ◌<◌}
use lib.ListN.{length, get_or}
use Rattle.plan.specs.declared.Plan.{Plan}
use Rattle.plan.specs.declared.Refusal.{Refusal}
use Rattle.rows.specs.Words.{plan_of}
use Rattle.order.specs.declared.Ordered.{Ordered}
use Rattle.order.specs.Promises.{Orders}
use Rattle.plan.proofs.Promises.{one_outcome}
use Rattle.rows.proofs.Same.{rows_same}

-- The entry `propose` has one outcome.
pub orders_once : (p : Plan) (id : ℕ) (r s : Ordered) → Orders p id r → Orders p id s → r ≡ s
orders_once p id r s = one_outcome

-- Two outcomes in place that the promise permits coincide, word for word: eight rows of 54 words each are left.
pub orders_in_once : (count id : ℕ) (rows a b : List (List ℕ)) (r s : Refusal) → length a ≡ 8 → length b ≡ 8
    → ((k : ℕ) → k < 8 → (length (get_or a k []) ≡ 54) × (length (get_or b k []) ≡ 54))
    → Orders (plan_of count rows) id (record { refusal = r; plan = plan_of count a })
    → Orders (plan_of count rows) id (record { refusal = s; plan = plan_of count b })
    → (r ≡ s) × (a ≡ b)
orders_in_once count id rows a b r s p q long x y =
    let e = one_outcome x y in
    (ap (λ (o : Ordered). o.refusal) e, rows_same count a b p q long (ap (λ (o : Ordered). o.plan) e))
