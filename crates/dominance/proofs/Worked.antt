-- The definitions compute each of the worked conversions. Assumes nothing.
use mathlib.Core.Path.{refl}
use Rattle.lists.specs.All.{all_to}
use Rattle.lists.specs.Refusals.{unless, refusal}
use Rattle.lists.specs.Search.{least, first_from}
use Rattle.lists.specs.Sum.{sum_to}
use Rattle.rounding.specs.Asked.{asked}
use Rattle.rounding.specs.Up.{up}
use Rattle.equation.specs.Guest.{guest_side, guest_under}
use Rattle.equation.specs.Solve.{solve}
use Rattle.equation.specs.System.{gap_for, load, right_at, right, response_of, task_under}
use Rattle.plan.specs.Charge.{charged_run}
use Rattle.plan.specs.First.{or_else, first_refused}
use Rattle.plan.specs.Marks.{marked}
use Rattle.plan.specs.Order.{new_id, number_of, guest_number, counted_by, plan_refusal, records_then}
use Rattle.plan.specs.Periodic.{converted}
use Rattle.plan.specs.Place.{place_of, has_guest, has_task}
use Rattle.plan.specs.Ranges.{head_ok, task_ok, start_ok, tasks_ok}
use Rattle.response.specs.Guest.{guest_response, fitted, fitted_to}
use Rattle.response.specs.Interference.{jitter, interference}
use Rattle.response.specs.Met.{met, all_met, accepted}
use Rattle.response.specs.Task.{gap, response_to, limit, task_response}
use Rattle.verdict.specs.Verdict.{guest_verdict, quoted_by, task_says, task_verdict, accept_says, acceptance}
use Rattle.dominance.specs.Worked.{WorkedConversions}

-- The single statement.
pub worked : WorkedConversions
unfolding all_to unless refusal least first_from sum_to up asked solve guest_side guest_under gap_for load right_at right
    response_of task_under charged_run or_else first_refused marked new_id number_of guest_number counted_by
    plan_refusal records_then converted place_of has_guest has_task head_ok task_ok start_ok tasks_ok jitter interference
    guest_response fitted fitted_to gap response_to limit task_response met all_met accepted guest_verdict quoted_by task_says
    task_verdict accept_says acceptance
worked = record {
  numbers_kept = refl;
  guest_before = refl;
  guest_after = refl;
  first_before = refl;
  first_after = refl;
  second_before = refl;
  second_after = refl;
  unmet_before = refl;
  met_after = refl;
  not_before = refl;
  accepted_after = refl;
}
