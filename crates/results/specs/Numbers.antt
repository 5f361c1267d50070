-- Document 01's starred numbers and those of later requests, one list with a single statement.
use Rattle.std.specs.Prelude.{◌≡◌, [], ◌∷◌, pos, negsuc, Ok, Err}
use Rattle.worked.specs.Plans.{plan_of, top, nine, plan_A, A, A35, plan_B, plan_C, plan_D, plan_E, plan_F, plan_G}
use Rattle.plan.specs.First.{refused}
use Rattle.plan.specs.Periodic.{converted}
use Rattle.blockwriter.specs.Writing.{block_of}
use Rattle.planfile_laws.specs.File.{file_of}
use Rattle.amendment.specs.Pair.{in_plan, in_sheet, pair_refusal}
use Rattle.amendment.specs.Finder.{pair_place}
use Rattle.amendment.specs.Verdict.{pair_task_verdict, pair_smallest}
use Rattle.response.specs.Task.{task_right}
use Rattle.verdict.specs.declared.GuestVerdict.TheVariants.{Fitted, Unfit}
use Rattle.verdict.specs.declared.TaskVerdict.TheVariants.{Met, UnmetAt, Unmet, Unjudged}
use Rattle.verdict.specs.declared.Acceptance.TheVariants.{Accepted}
use Rattle.verdict.specs.Verdict.{guest_verdict, task_verdict, acceptance}
use Rattle.capacity.specs.Capacity.{with_capacity}
use Rattle.capacity.specs.Answer.{smallest_capacity}
use Rattle.capacity.specs.Tries.{tests_of}
use Rattle.dispatcher.specs.declared.Answer.TheVariants.{Finished}
use Rattle.dispatcher.specs.Fresh.{idle, fresh}
use Rattle.dispatcher.specs.Release.{release}
use Rattle.dispatcher.specs.Entries.{tick, run}
use Rattle.sheet.specs.Sheet.{answered}
use Rattle.statement.specs.Lines.{empty}
use Rattle.statement.specs.Call.{stated}
use Rattle.statement_laws.specs.Taken.{statement_after}
use Rattle.order_laws.specs.Worked.{WorkedOrders}
use Rattle.choice_laws.specs.Worked.{WorkedChoices}
use Rattle.statement_laws.specs.Worked.{logged, told, log, figures}
use Rattle.history.specs.Calls.{running, start, play, released, times}

-- The list, case by case.
pub record Numbers : Type 0 where
  -- 1: The guests' responses; under an unfit guest nothing is judged.
  pub alone : guest_verdict (plan_of (top ∷ [])) 7 ≡ Ok (Fitted 2)
  pub second : guest_verdict A 9 ≡ Ok (Fitted 14)
  pub tight : guest_verdict (plan_B 3) 9 ≡ Ok (Fitted 5)
  pub unfit : guest_verdict (plan_B 4) 9 ≡ Ok Unfit
  pub unfit_own : task_verdict (plan_B 4) 9 1 ≡ Ok Unjudged
  pub unfit_below : task_verdict (plan_B 4) 11 1 ≡ Ok Unjudged
  pub unfit_below_that : task_verdict (plan_B 4) 12 1 ≡ Ok Unjudged
  -- 2: Plan A, with the deadlines that are one tick too short.
  pub first_task : task_verdict A 9 1 ≡ Ok (Met 36)
  pub first_late : task_verdict A35 9 1 ≡ Ok (UnmetAt 36)
  pub second_task : task_verdict A 9 2 ≡ Ok (Met 80)
  pub second_late : task_verdict (plan_A 0 50 79) 9 2 ≡ Ok (UnmetAt 80)
  pub top_task : task_verdict A 7 1 ≡ Ok (Met 4)
  pub accepted : acceptance A ≡ Ok Accepted
  -- 3: The right side falls from 28 to 23, past the least solution 20.
  pub falling : task_verdict (plan_C 31) 9 2 ≡ Ok (Met 30)
  pub falling_late : task_verdict (plan_C 29) 9 2 ≡ Ok (UnmetAt 30)
  pub right_20 : task_right (plan_C 31) 1 1 20 ≡ 20
  pub right_21 : task_right (plan_C 31) 1 1 21 ≡ 28
  pub right_22 : task_right (plan_C 31) 1 1 22 ≡ 23
  -- 4: A charge of 1 in guest 9, for both switches.
  pub charged : task_verdict (plan_A 1 50 100) 9 1 ≡ Ok (Met 40)
  -- 5: The smallest capacity of guest 9, its tasks there, and its second task at the capacity below.
  pub smallest : smallest_capacity A 9 ≡ Ok 7
  pub eight_tests : tests_of A 1 ≡ 8
  pub first_at_7 : task_verdict (with_capacity A 1 7) 9 1 ≡ Ok (Met 38)
  pub second_at_7 : task_verdict (with_capacity A 1 7) 9 2 ≡ Ok (Met 86)
  pub second_at_6 : task_verdict (with_capacity A 1 6) 9 2 ≡ Ok Unmet
  -- 6: No capacity works.
  pub none_works : smallest_capacity (plan_B 3) 9 ≡ Err (refused 11 0)
  -- 7: The first gap is past the period, so no response is quoted. Released at tick 0, the task is refused by 10 at
  -- tick 10.
  pub gap_past_period : task_verdict plan_D 7 1 ≡ Ok Unmet
  pub gap_taken : (release (start plan_D) 7 1).refusal.number ≡ 0
  pub gap_again : (release (play (times 10) (released plan_D 7 1 [])) 7 1).refusal.number ≡ 10
  -- 8: In plan A guest 9's first task is released before tick 0, or before tick 14 instead, and then again after 49
  -- ticks or after 50.
  pub released_at_0 : (run (released A 9 1 []) 50).answer ≡ Finished 9 1 24 (pos 26)
  pub released_at_14 : (run (released A 9 1 (running 14 ∷ [])) 50).answer ≡ Finished 9 1 30 (pos 20)
  pub again_after_49 : (release (play (times 49) (released A 9 1 (running 14 ∷ []))) 9 1).refusal.number ≡ 9
  pub again_after_50 : (release (play (times 50) (released A 9 1 (running 14 ∷ []))) 9 1).refusal.number ≡ 0
  -- P5: A sheet on plan A, fresh: guest 9's two tasks, its second again, guest 8, which is not there, and a guest
  -- part beyond 32 bits, with a place to spare.
  pub sheet_answers :
      answered (start A) (589826 ∷ 589825 ∷ 589826 ∷ 524289 ∷ 281474977300481 ∷ []) (5 ∷ 5 ∷ 5 ∷ 5 ∷ 5 ∷ 5 ∷ [])
      ≡ 0 ∷ 0 ∷ 9 ∷ 7 ∷ 7 ∷ 5 ∷ []
  -- P6: Plan A with a sheet of one block, guest 9 with capacity 7 at its place: its tasks, the one above and the
  -- capacity that is smallest still; where the blocks stand that count; and the block at a place that is not its
  -- guest's.
  pub amended_first : pair_task_verdict (file_of A) (block_of (nine 7) 1) 9 1 ≡ Ok (Met 38)
  pub amended_second : pair_task_verdict (file_of A) (block_of (nine 7) 1) 9 2 ≡ Ok (Met 86)
  pub amended_above : pair_task_verdict (file_of A) (block_of (nine 7) 1) 7 1 ≡ Ok (Met 4)
  pub amended_smallest : pair_smallest (file_of A) (block_of (nine 7) 1) 9 ≡ Ok 7
  pub amended_there : pair_place (file_of A) (block_of (nine 7) 1) 9 ≡ in_sheet 0 0
  pub amended_not_there : pair_place (file_of A) (block_of (nine 7) 1) 7 ≡ in_plan 0 0
  pub amended_misplaced : pair_refusal (file_of A) (block_of (nine 7) 0) ≡ in_sheet 16 0
  -- P8: Plan A with guest 9's first task 10/60/60, its two tasks: none bound, the first bound, the second, and both.
  pub unbound_first : task_verdict (plan_E 0) 9 1 ≡ Ok (Met 36)
  pub unbound_second : task_verdict (plan_E 0) 9 2 ≡ Ok (Met 56)
  pub first_bound_first : task_verdict (plan_E 1) 9 1 ≡ Ok (Met 24)
  pub first_bound_second : task_verdict (plan_E 1) 9 2 ≡ Ok (Met 56)
  pub second_bound_first : task_verdict (plan_E 2) 9 1 ≡ Ok (Met 36)
  pub second_bound_second : task_verdict (plan_E 2) 9 2 ≡ Ok (Met 44)
  pub both_bound_first : task_verdict (plan_E 3) 9 1 ≡ Ok (Met 24)
  pub both_bound_second : task_verdict (plan_E 3) 9 2 ≡ Ok (Met 44)
  -- The first task bound: taken at position 0, and refused by 17 one tick later, also while it waits.
  pub bound_taken : (release (start (plan_E 1)) 9 1).refusal.number ≡ 0
  pub bound_away : (release (play (times 1) (start (plan_E 1))) 9 1).refusal.number ≡ 17
  pub bound_away_waiting : (release (play (times 1) (released (plan_E 1) 9 1 [])) 9 1).refusal.number ≡ 17
  pub bound_early : (release (released (plan_E 1) 9 1 []) 9 1).refusal.number ≡ 9
  -- An unbound task above a bound one loads it with its own J: without that 3 would be quoted here, and a run of the
  -- bound task takes 5 ticks if it is released together with the second job of the one above.
  pub unbound_above : task_verdict plan_F 7 2 ≡ Ok Unmet
  -- P9: Plan A with both guests Deferrable: guest 9 and its tasks, then with its first task 10/60/60: none bound, the
  -- first bound, the second, and both.
  pub deferrable_second : guest_verdict (plan_G 50 0) 9 ≡ Ok (Fitted 16)
  pub deferrable_first_task : task_verdict (plan_G 50 0) 9 1 ≡ Ok (Met 38)
  pub deferrable_second_task : task_verdict (plan_G 50 0) 9 2 ≡ Ok (Met 82)
  pub deferrable_unbound_first : task_verdict (plan_G 60 0) 9 1 ≡ Ok (Met 38)
  pub deferrable_unbound_second : task_verdict (plan_G 60 0) 9 2 ≡ Ok (Met 58)
  pub deferrable_first_bound_first : task_verdict (plan_G 60 1) 9 1 ≡ Ok (Met 26)
  pub deferrable_first_bound_second : task_verdict (plan_G 60 1) 9 2 ≡ Ok (Met 58)
  pub deferrable_second_bound_first : task_verdict (plan_G 60 2) 9 1 ≡ Ok (Met 38)
  pub deferrable_second_bound_second : task_verdict (plan_G 60 2) 9 2 ≡ Ok (Met 46)
  pub deferrable_both_bound_first : task_verdict (plan_G 60 3) 9 1 ≡ Ok (Met 26)
  pub deferrable_both_bound_second : task_verdict (plan_G 60 3) 9 2 ≡ Ok (Met 46)
  -- P13: such a plan is not started, a state that holds it is refused, and converted it has plan A's responses.
  pub deferrable_start : (fresh (plan_G 50 0)).refusal ≡ refused 23 0
  pub deferrable_state : (tick (idle (plan_G 50 0))).refusal ≡ refused 14 0
  pub converted_second : guest_verdict (converted (plan_G 50 0)) 9 ≡ Ok (Fitted 14)
  pub converted_first_task : task_verdict (converted (plan_G 50 0)) 9 1 ≡ Ok (Met 36)
  pub converted_second_task : task_verdict (converted (plan_G 50 0)) 9 2 ≡ Ok (Met 80)
  -- P10: The two finishes of case 8, logged: 2 jobs, the longest age 30, none late, margins 26 and 20. Then five jobs of
  -- guest 9, with a block of zeros behind them, which is passed over at position 1 by 3: of its first task one is late
  -- by a tick, of its second one by 60.
  pub told_line : figures (statement_after (file_of A) (logged told ∷ []) empty) 16 ≡ (2 ∷ 30 ∷ 0 ∷ [], pos 46)
  pub first_line : figures (statement_after (file_of A) (log ∷ []) empty) 16 ≡ (3 ∷ 51 ∷ 1 ∷ [], pos 45)
  pub second_line : figures (statement_after (file_of A) (log ∷ []) empty) 17 ≡ (2 ∷ 160 ∷ 1 ∷ [], negsuc 59)
  pub second_passed :
      (stated empty (file_of A) log).passed
      ∷ (stated empty (file_of A) log).position
      ∷ (stated empty (file_of A) log).number
      ∷ []
      ≡ 1 ∷ 1 ∷ 3 ∷ []
  -- P12: What is proposed: plan A with guest 9's tasks exchanged, equal deadlines, and what is refused.
  pub orders : WorkedOrders
  -- After P14: What is chosen: the least capacities of plan A, and what is refused.
  pub choices : WorkedChoices
