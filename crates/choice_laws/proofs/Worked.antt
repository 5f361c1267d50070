-- The definitions compute each of the worked choices. Assumes nothing.
use mathlib.Core.Path.{refl}
use Rattle.lists.specs.All.{all_to}
use Rattle.lists.specs.Refusals.{unless, refusal}
use Rattle.lists.specs.Search.{least, first_from}
use Rattle.lists.specs.Sum.{sum_to}
use Rattle.rounding.specs.Asked.{asked}
use Rattle.rounding.specs.Up.{up}
use Rattle.equation.specs.Guest.{guest_side, guest_under}
use Rattle.equation.specs.Solve.{solve}
use Rattle.equation.specs.System.{gap_for, load, right_at, right, response_of, task_under}
use Rattle.plan.specs.Charge.{charged_run}
use Rattle.plan.specs.First.{or_else, first_refused, refused_by}
use Rattle.plan.specs.Marks.{marked}
use Rattle.plan.specs.Order.{new_id, number_of, guest_number, counted_by, plan_refusal, records_then}
use Rattle.plan.specs.Periodic.{all_periodic}
use Rattle.plan.specs.Placed.{with_guest}
use Rattle.plan.specs.Ranges.{head_ok, task_ok, start_ok, tasks_ok}
use Rattle.response.specs.Guest.{guest_response, fitted, fitted_to}
use Rattle.response.specs.Interference.{jitter, interference}
use Rattle.response.specs.Met.{met, all_met}
use Rattle.response.specs.Task.{gap, response_to}
use Rattle.capacity.specs.Capacity.{works, smallest}
use Rattle.choice.specs.Capacities.{chosen_from, least_capacities}
use Rattle.choice_laws.specs.Worked.{WorkedChoices}

-- The single statement.
pub worked : WorkedChoices
unfolding all_to unless refusal least first_from sum_to up asked solve guest_side guest_under gap_for load right_at right response_of
    task_under charged_run or_else first_refused refused_by marked new_id number_of guest_number counted_by plan_refusal
    records_then all_periodic with_guest head_ok task_ok start_ok tasks_ok jitter interference guest_response fitted fitted_to
    gap response_to met all_met works smallest chosen_from least_capacities
worked = record { least_of_A = refl; none_for_B = refl; none_of_old = refl }
