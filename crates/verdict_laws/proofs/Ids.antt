-- In records in order an id stands for one guest. Assumes nothing.
use mathlib.Core.Path.{◌≡◌, sym, ap, ◌∙◌}
use mathlib.Core.Bool.{true, false≢true, not}
use Prim.Native.Nat.{ℕ, ◌<◌}
use native.Mathlib.Decide.{dec_lt}
use native.Mathlib.Omega.{arith}
use lib.Dec.{eqb}
use borrow.Author.Tests.{eq-eqb, eqb-true}
use Rattle.plan.specs.declared.Plan.{Plan}
use Rattle.plan.specs.Records.{guest_at}
use Rattle.plan.specs.Order.{new_id}
use Rattle.plan.specs.Place.{place_of}
use Rattle.lists.proofs.All.{all_at}
use Rattle.lists.proofs.Search.{first_found}
use Rattle.plan.proofs.Order.{PlanIn}

-- the id of guest k
abbrev pub id_of : Plan → ℕ → ℕ
id_of p k = (guest_at p.guests k).id

-- a test that fails where equals are compared
not_equal : (x y : ℕ) → not (eqb x y) ≡ true → x ≡ y → ⊥
not_equal x y e q = false≢true (sym (ap not (eq-eqb x y q)) ∙ e)

-- a guest that is found by an id has it
pub found_id : (p : Plan) (id k : ℕ) → place_of p id ≡ k → k < p.count → id_of p k ≡ id
unfolding place_of
found_id p id k e h =
    eqb-true (id_of p k) id (rw (← e) (first_found (λ j. eqb (id_of p j) id) p.count 0 (omega arith)))

module _ (p : Plan) (P : PlanIn p) where
  -- an earlier guest has another id
  id_new : (j k : ℕ) → j < k → k < p.count → id_of p j ≡ id_of p k → ⊥
  unfolding new_id
  id_new j k l h = not_equal (id_of p j) (id_of p k) (all_at (λ i. not (eqb (id_of p i) (id_of p k))) k j l (P.new k h))

  -- guests of one id are one
  pub id_one : (j k : ℕ) → j < p.count → k < p.count → id_of p j ≡ id_of p k → j ≡ k
  id_one j k a b e =
      elim (dec_lt j k) [
        | yes l ↦ absurd (id_new j k l b e)
        | no l ↦
            elim (dec_lt k j) [
              | yes m ↦ absurd (id_new k j m a (sym e))
              | no m ↦ omega arith
            ]
      ]
