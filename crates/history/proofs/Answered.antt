-- Whom the answer of a tick names. Assumes nothing.
use mathlib.Core.Path.{◌≡◌, refl, ap, ◌∙◌}
use Prim.Native.Nat.{ℕ, ◌<◌}
use native.Mathlib.Decide.{dec_lt}
use native.Mathlib.Omega.{arith}
use lib.Dec.{eqb}
use borrow.Author.Tests.{eq-eqb, ne_eqb}
use Rattle.dispatcher.specs.declared.Dispatcher.{Dispatcher}
use Rattle.dispatcher.specs.State.{guest_in, rest_at}
use Rattle.dispatcher.specs.Tick.{holder, worker}
use Rattle.dispatcher.specs.Answer.{holder_id, answer}
use Rattle.history.specs.Share.{bit, names}
use Rattle.plan.proofs.Order.{PlanIn}
use Rattle.verdict_laws.proofs.Ids.{id_of, id_one}
use Rattle.dispatcher_laws.proofs.Answer.{answer_nobody, answer_idled, answer_worked, answer_finished}

module _ (d : Dispatcher) where
  -- The answer names the guest that has the tick.
  names_by : (id : ℕ) → holder d < d.plan.count → names id (answer d) ≡ bit (eqb (holder_id d) id)
  unfolding names
  names_by id h =
      elim (dec_lt (worker d) (guest_in d (holder d)).tasks) [
        | no n ↦ rw (answer_idled d h (omega arith)) refl
        | yes l ↦
            elim (dec_lt 1 (rest_at d (holder d) (worker d))) [
              | yes m ↦ rw (answer_worked d h l m) refl
              | no m ↦ rw (answer_finished d h l (omega arith)) refl
            ]
      ]

  -- Where guest g has the tick, the answer names it.
  pub names_mine : (g : ℕ) → g < d.plan.count → holder d ≡ g → names (id_of d.plan g) (answer d) ≡ 1
  unfolding bit
  names_mine g h e =
      names_by (id_of d.plan g) (rw e h)
      ∙ ap bit (eq-eqb (holder_id d) (id_of d.plan g) (ap (λ (k : ℕ). id_of d.plan k) e))

  -- Where another guest has the tick, or nobody, the answer does not name guest g.
  pub names_else :
      (g : ℕ) → PlanIn d.plan → g < d.plan.count → (holder d ≡ g → ⊥) → names (id_of d.plan g) (answer d) ≡ 0
  unfolding bit names
  names_else g P h n =
      elim (dec_lt (holder d) d.plan.count) [
        | yes l ↦
            names_by (id_of d.plan g) l
            ∙ ap bit (ne_eqb (holder_id d) (id_of d.plan g) (λ e. n (id_one d.plan P (holder d) g l h e)))
        | no l ↦ rw (answer_nobody d (omega arith)) refl
      ]
