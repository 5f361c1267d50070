-- Worked orders: what is proposed for plans of document 01 and for two more.
use Rattle.std.specs.Prelude.{◌≡◌, [], ◌∷◌, Ok}
use Rattle.plan.specs.declared.Plan.{Plan}
use Rattle.verdict.specs.Verdict.{task_verdict}
use Rattle.verdict.specs.declared.TaskVerdict.TheVariants.{Met, Unmet}
use Rattle.worked.specs.Plans.{guest, plan_of, top, A, A35, plan_B, plan_E, plan_G}
use Rattle.order.specs.Proposed.{answering, proposed}

-- Plan A with guest 9's two tasks exchanged.
abbrev pub exchanged : Plan
exchanged = plan_of (top ∷ guest 9 8 20 0 (8 ∷ 10 ∷ []) (100 ∷ 50 ∷ []) (100 ∷ 50 ∷ []) ∷ [])

-- A guest that has every tick, with tasks 1/30/20, 2/25/20 and 1/10/10 (run/period/deadline), and with the last first.
abbrev pub equals : Plan
equals = plan_of (guest 7 10 10 0 (1 ∷ 2 ∷ 1 ∷ []) (30 ∷ 25 ∷ 10 ∷ []) (20 ∷ 20 ∷ 10 ∷ []) ∷ [])

abbrev pub equals_ordered : Plan
equals_ordered = plan_of (guest 7 10 10 0 (1 ∷ 1 ∷ 2 ∷ []) (10 ∷ 30 ∷ 25 ∷ []) (10 ∷ 20 ∷ 20 ∷ []) ∷ [])

-- What is proposed.
pub record WorkedOrders : Type 0 where
  -- As handed in the second task is unmet; what is proposed is plan A, where both are met.
  pub handed_in : task_verdict exchanged 9 2 ≡ Ok Unmet
  pub exchanged_back : proposed exchanged 9 ≡ answering A 0 0
  pub first : task_verdict (proposed exchanged 9).plan 9 1 ≡ Ok (Met 36)
  pub second : task_verdict (proposed exchanged 9).plan 9 2 ≡ Ok (Met 80)
  -- Equals stay as handed in, whatever their periods are.
  pub equals_kept : proposed equals 7 ≡ answering equals_ordered 0 0
  -- No order works where a deadline is one tick too short, for an unfit guest, and for one under it.
  pub too_short : proposed A35 9 ≡ answering A35 22 0
  pub unfit : proposed (plan_B 4) 9 ≡ answering (plan_B 4) 22 0
  pub below_unfit : proposed (plan_B 4) 11 ≡ answering (plan_B 4) 22 0
  -- A Deferrable guest, one with a bound task, and one that is not there.
  pub deferrable : proposed (plan_G 50 0) 9 ≡ answering (plan_G 50 0) 21 0
  pub bound : proposed (plan_E 1) 9 ≡ answering (plan_E 1) 21 0
  pub not_there : proposed A 8 ≡ answering A 7 0
