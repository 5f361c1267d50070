-- Worked conversions: plan A with both guests Deferrable, before and after they are made Periodic.
use Rattle.std.specs.Prelude.{◌≡◌, [], ◌∷◌, Ok}
use Rattle.plan.specs.Periodic.{converted}
use Rattle.plan.specs.declared.Plan.{Plan}
use Rattle.verdict.specs.Verdict.{guest_verdict, task_verdict, acceptance}
use Rattle.verdict.specs.declared.Acceptance.TheVariants.{Accepted, NotAccepted}
use Rattle.verdict.specs.declared.GuestVerdict.TheVariants.{Fitted}
use Rattle.verdict.specs.declared.TaskVerdict.TheVariants.{Met, UnmetAt}
use Rattle.worked.specs.Plans.{any_guest, plan_of, top, nine, plan_G}

-- Plan A with both guests Deferrable.
abbrev pub deferring : Plan
deferring = plan_G 50 0

-- The same with a deadline of 37, one tick too short, for guest 9's first task.
abbrev pub tight : Plan
tight =
    plan_of
    (any_guest 7 2 5 0 0 1 (1 ∷ []) (20 ∷ []) (20 ∷ [])
    ∷ any_guest 9 8 20 0 0 1 (10 ∷ 8 ∷ []) (50 ∷ 100 ∷ []) (37 ∷ 100 ∷ [])
    ∷ [])

-- What conversions come to.
pub record WorkedConversions : Type 0 where
  -- The numbers are kept: it is plan A.
  pub numbers_kept : converted deferring ≡ plan_of (top ∷ nine 8 ∷ [])
  -- Guest 9 and its two tasks, each with a smaller response.
  pub guest_before : guest_verdict deferring 9 ≡ Ok (Fitted 16)
  pub guest_after : guest_verdict (converted deferring) 9 ≡ Ok (Fitted 14)
  pub first_before : task_verdict deferring 9 1 ≡ Ok (Met 38)
  pub first_after : task_verdict (converted deferring) 9 1 ≡ Ok (Met 36)
  pub second_before : task_verdict deferring 9 2 ≡ Ok (Met 82)
  pub second_after : task_verdict (converted deferring) 9 2 ≡ Ok (Met 80)
  -- A task that was unmet can be met after, and a plan that was not accepted be accepted.
  pub unmet_before : task_verdict tight 9 1 ≡ Ok (UnmetAt 38)
  pub met_after : task_verdict (converted tight) 9 1 ≡ Ok (Met 36)
  pub not_before : acceptance tight ≡ Ok NotAccepted
  pub accepted_after : acceptance (converted tight) ≡ Ok Accepted
