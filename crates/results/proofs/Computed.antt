-- All that is shown by computing, with the one list of definitions that are computed with. Inner: other files of this
-- crate cite its parts.
use mathlib.Core.Path.{◌≡◌, refl}
use mathlib.Core.Bool.{true, false, false≢true}
use mathlib.Core.List.{[], ◌∷◌}
use native.Mathlib.Omega.{arith}
use lib.IntN.{negsuc}
use Rattle.lists.specs.All.{all_to}
use Rattle.lists.specs.Refusals.{unless, refusal}
use Rattle.lists.specs.Search.{least, first_from}
use Rattle.lists.specs.Sum.{sum_to}
use Rattle.rounding.specs.Up.{up}
use Rattle.rounding.specs.Asked.{asked}
use Rattle.equation.specs.Solve.{solve}
use Rattle.equation.specs.Guest.{guest_side, guest_under}
use Rattle.equation.specs.System.{gap_for, load, right_at, right, response_of, task_under}
use Rattle.plan.specs.Charge.{charged_run}
use Rattle.plan.specs.Marks.{marked, may_start}
use Rattle.plan.specs.First.{or_else, first_refused, refused_by}
use Rattle.plan.specs.Order.{new_id, number_of, guest_number, counted_by, plan_refusal, records_then}
use Rattle.plan.specs.Placed.{with_guest}
use Rattle.plan.specs.Place.{place_of, has_guest, has_task}
use Rattle.plan.specs.Periodic.{all_periodic, start_refusal, converted}
use Rattle.plan.specs.Ranges.{head_ok, task_ok, start_ok, tasks_ok}
use Rattle.margins.specs.Margin.{margin_of}
use Rattle.response.specs.Interference.{jitter, interference}
use Rattle.response.specs.Guest.{guest_response, fitted, fitted_to}
use Rattle.response.specs.Task.{gap, task_right, response_to, limit, task_response}
use Rattle.response.specs.Met.{met, all_met, accepted}
use Rattle.verdict.specs.Verdict.{guest_verdict, quoted_by, task_says, task_verdict, accept_says, acceptance}
use Rattle.capacity.specs.Capacity.{works, smallest}
use Rattle.capacity.specs.Answer.{smallest_capacity}
use Rattle.capacity.specs.Search.{smallest_of, next_try, lo_after, hi_after}
use Rattle.capacity.specs.Tries.{tries_in, tests_in, tests_of}
use Rattle.dispatcher.specs.Valid.{tasks_in, guest_in_range, task_in_range, row_ok, state_ok}
use Rattle.dispatcher.specs.Fresh.{idle, started_by, fresh}
use Rattle.dispatcher.specs.Release.{taken, release_number, released_by, release}
use Rattle.dispatcher.specs.Tick.{less_at, refilled, holder, is_held, left_after, worker, is_worked, rest_after, age_after, wait_after, position_after, next}
use Rattle.dispatcher.specs.Answer.{answer_by, answer, finishes}
use Rattle.dispatcher.specs.Run.{run_from, run_for}
use Rattle.dispatcher.specs.Entries.{ticked_by, tick, ran_by, run}
use Rattle.sheet.specs.Sheet.{state_after, answer_to, sheet_number, sheet_by, sheet, answered_by, answered}
use Rattle.lists.specs.Table.{table}
use Rattle.lists.specs.Places.{up_to}
use Rattle.results.specs.Numbers.{Numbers}
use Rattle.history.specs.Calls.{running, start, after, play, times, CanStart}
use Rattle.history.specs.Named.{bound_by, every_by}
use Rattle.verdict_laws.specs.Guests.{There}
use Rattle.worked.specs.Plans.{A, A35, plan_B, plan_D, plan_E}
use Rattle.amendment_laws.proofs.Worked.{answers_7}
use Rattle.history.proofs.Times.{early_again, due_again}
use Rattle.order_laws.proofs.Worked as orders
use Rattle.choice_laws.proofs.Worked as choices
use Rattle.statement_laws.proofs.Worked as logs
use Rattle.amendment_laws.proofs.Worked as pairs

-- The list of starred numbers, where guests stand in document 01's plans, their first releases, and a margin.
pub record Computed : Type 0 where
  -- The starred numbers.
  pub numbers : Numbers
  -- Guest 9 of plan A stands at place 1, and so with its first deadline at 35; guest 7 stands above it.
  pub there_A : There A 9 1
  pub there_A35 : There A35 9 1
  pub place_A : place_of A 9 ≡ 1
  pub place_A35 : place_of A35 9 ≡ 1
  pub place_top : place_of A 7 ≡ 0
  -- The guest 4/6 under 2/5, and the last guest of that plan.
  pub there_unfit : There (plan_B 4) 9 1
  pub there_below : There (plan_B 4) 12 3
  -- The guest of period 6 with a task that no capacity serves.
  pub there_none : There (plan_B 3) 9 1
  -- The guest 1/1000 of case 7.
  pub there_gap : There plan_D 7 0
  pub place_gap : place_of plan_D 7 ≡ 0
  -- These plans can be started.
  pub can_A : CanStart A
  pub can_A35 : CanStart A35
  pub can_E : CanStart (plan_E 1)
  pub can_gap : CanStart plan_D
  -- Guest 9's tasks of plan A are not bound, nor is the task of case 7; with the first mark the first task is.
  pub unbound_A : bound_by A 9 2 ≡ false
  pub unbound_gap : bound_by plan_D 7 1 ≡ false
  pub bound_E : bound_by (plan_E 1) 9 1 ≡ true
  pub there_E : There (plan_E 1) 9 1
  pub place_E : place_of (plan_E 1) 9 ≡ 1
  pub every_E : every_by (plan_E 1) 9 1 ≡ 60
  -- Released at the start, a task of these guests is taken.
  pub taken_A : (release (play [] (start A)) 9 2).refusal.number ≡ 0
  pub taken_E : (release (play [] (start (plan_E 1))) 9 1).refusal.number ≡ 0
  pub taken_gap : (release (play [] (start plan_D)) 7 1).refusal.number ≡ 0
  pub taken_A35 : (release (play [] (start A35)) 9 1).refusal.number ≡ 0
  -- The margin of a job that is one tick late.
  pub late_margin : margin_of 35 36 ≡ negsuc 0

-- Each part is computed by the definitions; what case 8 has after 49 and 50 ticks follows from the promises, without
-- 99 ticks computed.
pub computed : Computed
unfolding marked may_start start_ok gap_for all_to unless refusal least first_from sum_to up asked solve guest_side guest_under load right_at right
    response_of task_under charged_run or_else first_refused new_id number_of guest_number counted_by plan_refusal all_periodic start_refusal converted place_of
    head_ok task_ok tasks_ok jitter interference guest_response fitted fitted_to gap task_right response_to limit
    task_response has_guest has_task records_then refused_by guest_verdict quoted_by task_says task_verdict met all_met
    accepted accept_says acceptance with_guest works smallest smallest_capacity next_try lo_after hi_after smallest_of tries_in tests_in tests_of up_to tasks_in guest_in_range
    task_in_range row_ok state_ok idle started_by fresh taken release_number released_by release less_at refilled holder
    is_held left_after worker is_worked rest_after age_after wait_after position_after next margin_of answer_by answer
    finishes run_from run_for ran_by run ticked_by tick after play times table state_after answer_to sheet_number
    sheet_by sheet answered_by answered
computed = record {
  numbers = record {
    alone = refl;
    second = refl;
    tight = refl;
    unfit = refl;
    unfit_own = refl;
    unfit_below = refl;
    unfit_below_that = refl;
    first_task = refl;
    first_late = refl;
    second_task = refl;
    second_late = refl;
    top_task = refl;
    accepted = refl;
    falling = refl;
    falling_late = refl;
    right_20 = refl;
    right_21 = refl;
    right_22 = refl;
    charged = refl;
    smallest = refl;
    eight_tests = refl;
    first_at_7 = refl;
    second_at_7 = refl;
    second_at_6 = refl;
    none_works = refl;
    gap_past_period = refl;
    gap_taken = refl;
    gap_again = refl;
    released_at_0 = refl;
    released_at_14 = refl;
    again_after_49 = early_again A 9 1 refl (running 14 ∷ []) refl 49 (omega arith) (λ b. absurd (false≢true b));
    again_after_50 = due_again A 9 1 36 refl refl (running 14 ∷ []) refl 50 (omega arith) (λ b. absurd (false≢true b));
    sheet_answers = refl;
    amended_first = answers_7.task 9 1;
    amended_second = answers_7.task 9 2;
    amended_above = answers_7.task 7 1;
    amended_smallest = answers_7.capacity 9;
    amended_there = (pairs.computed).nine_there;
    amended_not_there = (pairs.computed).seven_there;
    amended_misplaced = (pairs.computed).misplaced;
    unbound_first = refl;
    unbound_second = refl;
    first_bound_first = refl;
    first_bound_second = refl;
    second_bound_first = refl;
    second_bound_second = refl;
    both_bound_first = refl;
    both_bound_second = refl;
    bound_taken = refl;
    bound_away = refl;
    bound_away_waiting = refl;
    bound_early = refl;
    unbound_above = refl;
    deferrable_second = refl;
    deferrable_first_task = refl;
    deferrable_second_task = refl;
    deferrable_unbound_first = refl;
    deferrable_unbound_second = refl;
    deferrable_first_bound_first = refl;
    deferrable_first_bound_second = refl;
    deferrable_second_bound_first = refl;
    deferrable_second_bound_second = refl;
    deferrable_both_bound_first = refl;
    deferrable_both_bound_second = refl;
    deferrable_start = refl;
    deferrable_state = refl;
    converted_second = refl;
    converted_first_task = refl;
    converted_second_task = refl;
    told_line = logs.told_line;
    first_line = logs.first_line;
    second_line = logs.second_line;
    second_passed = logs.second_passed;
    orders = orders.worked;
    choices = choices.worked;
  };
  there_A = record { order = refl; place = omega arith; named = refl };
  there_A35 = record { order = refl; place = omega arith; named = refl };
  place_A = refl;
  place_A35 = refl;
  place_top = refl;
  there_unfit = record { order = refl; place = omega arith; named = refl };
  there_below = record { order = refl; place = omega arith; named = refl };
  there_none = record { order = refl; place = omega arith; named = refl };
  there_gap = record { order = refl; place = omega arith; named = refl };
  place_gap = refl;
  can_A = refl;
  can_A35 = refl;
  can_E = refl;
  can_gap = refl;
  unbound_A = refl;
  unbound_gap = refl;
  bound_E = refl;
  there_E = record { order = refl; place = omega arith; named = refl };
  place_E = refl;
  every_E = refl;
  taken_A = refl;
  taken_E = refl;
  taken_gap = refl;
  taken_A35 = refl;
  late_margin = refl;
}
