-- Worked choices.
use Rattle.std.specs.Prelude.{◌≡◌, [], ◌∷◌}
use Rattle.choice.specs.Capacities.{answering, least_capacities}
use Rattle.worked.specs.Plans.{guest, plan_of, nine, A, plan_B, plan_G}

-- What choices come to.
pub record WorkedChoices : Type 0 where
  -- Plan A is accepted with the capacities 1 and 6, where 2 and 8 are bought: less above leaves more below, and guest 9
  -- by itself needs 7.
  pub least_of_A : least_capacities A ≡ answering (plan_of (guest 7 1 5 0 (1 ∷ []) (20 ∷ []) (20 ∷ []) ∷ nine 6 ∷ [])) 0 0
  -- No choice of capacities serves the task 4/6/6 of the guest at place 1.
  pub none_for_B : least_capacities (plan_B 3) ≡ answering (plan_B 3) 11 1
  -- A Deferrable guest is refused.
  pub none_of_old : least_capacities (plan_G 50 0) ≡ answering (plan_G 50 0) 23 0
