-- The definitions compute each of the worked orders. Assumes nothing.
use mathlib.Core.Path.{refl}
use Rattle.lists.specs.All.{all_to}
use Rattle.lists.specs.Places.{up_to}
use Rattle.lists.specs.Refusals.{unless, refusal}
use Rattle.lists.specs.Search.{least, first_from}
use Rattle.lists.specs.Sum.{sum_to}
use Rattle.rounding.specs.Up.{up}
use Rattle.rounding.specs.Asked.{asked}
use Rattle.equation.specs.Solve.{solve}
use Rattle.equation.specs.Guest.{guest_side, guest_under}
use Rattle.equation.specs.System.{gap_for, load, right_at, right, response_of, task_under}
use Rattle.plan.specs.Charge.{charged_run}
use Rattle.plan.specs.First.{or_else, first_refused, refused_by}
use Rattle.plan.specs.Marks.{marked}
use Rattle.plan.specs.Order.{new_id, number_of, guest_number, counted_by, plan_refusal, records_then}
use Rattle.plan.specs.Place.{place_of, has_guest, has_task}
use Rattle.plan.specs.Placed.{with_guest}
use Rattle.plan.specs.Ranges.{head_ok, task_ok, start_ok, tasks_ok}
use Rattle.response.specs.Interference.{jitter, interference}
use Rattle.response.specs.Guest.{guest_response, fitted, fitted_to}
use Rattle.response.specs.Task.{gap, response_to, limit, task_response}
use Rattle.response.specs.Met.{met, all_met}
use Rattle.verdict.specs.Verdict.{quoted_by, task_says, task_verdict}
use Rattle.order.specs.Proposed.{may_reorder, order_works, proposed}
use Rattle.order.specs.Reordered.{in_order}
use Rattle.order.specs.Sorting.{inserted, sorted}
use Rattle.order_laws.specs.Worked.{WorkedOrders}

-- The single statement.
pub worked : WorkedOrders
unfolding all_to up_to unless refusal least first_from sum_to up asked solve guest_side guest_under gap_for load right_at right
    response_of task_under charged_run or_else first_refused refused_by marked new_id number_of guest_number counted_by
    plan_refusal records_then place_of has_guest has_task with_guest head_ok task_ok start_ok tasks_ok jitter interference
    guest_response fitted fitted_to gap response_to limit task_response met all_met quoted_by task_says task_verdict
    may_reorder order_works proposed in_order inserted sorted
worked = record {
  handed_in = refl;
  exchanged_back = refl;
  first = refl;
  second = refl;
  equals_kept = refl;
  too_short = refl;
  unfit = refl;
  below_unfit = refl;
  deferrable = refl;
  bound = refl;
  not_there = refl;
}
