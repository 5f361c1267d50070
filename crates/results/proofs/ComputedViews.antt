-- Guest 9's views by computing, with the list of definitions that are computed with. Inner: `PlanAViews` cites its
-- parts.
use mathlib.Core.Path.{◌≡◌, refl}
use native.Mathlib.Omega.{arith}
use Rattle.lists.specs.All.{all_to}
use Rattle.lists.specs.Places.{up_to}
use Rattle.lists.specs.Refusals.{unless, refusal}
use Rattle.lists.specs.Search.{first_from}
use Rattle.plan.specs.Charge.{charged_run}
use Rattle.plan.specs.First.{or_else, first_refused}
use Rattle.plan.specs.Order.{new_id, number_of, guest_number, counted_by, plan_refusal, records_then}
use Rattle.plan.specs.Marks.{marked, may_start}
use Rattle.plan.specs.Place.{place_of, has_guest, has_task}
use Rattle.plan.specs.Ranges.{head_ok, task_ok, start_ok, tasks_ok}
use Rattle.margins.specs.Margin.{margin_of}
use Rattle.dispatcher.specs.Valid.{tasks_in, guest_in_range, task_in_range, row_ok, state_ok}
use Rattle.dispatcher.specs.Fresh.{idle, started_by, fresh}
use Rattle.dispatcher.specs.Release.{taken, release_number, released_by, release}
use Rattle.dispatcher.specs.Tick.{less_at, refilled, holder, is_held, left_after, worker, is_worked, rest_after, age_after, wait_after, position_after, next}
use Rattle.dispatcher.specs.Answer.{answer_by, answer, finishes}
use Rattle.dispatcher.specs.Run.{run_from, run_for}
use Rattle.dispatcher.specs.Entries.{ticked_by, tick, ran_by, run}
use Rattle.sheet.specs.Sheet.{sheet_number, sheet_by, sheet}
use Rattle.history.specs.Calls.{after, times, singles, listed}
use Rattle.independence.specs.NoRuns.{NoRuns}
use Rattle.independence.specs.Own.{own_if, asks_pairs, asks_sheet, asks, own}
use Rattle.independence.specs.SameFor.{SameFor}
use Rattle.independence.specs.View.{told, told_all, answered_if, sees_pairs, sees_sheet, sees, view}
use Rattle.worked.specs.Plans.{A}
use Rattle.results.specs.Views.{Views, crowded, before, quiet, pressed, beset, sheeted}
use Rattle.plan.specs.Periodic.{all_periodic, start_refusal}

-- The views, that the crowded plan is the same for guest 9, and that its histories have no run and ask the same for it.
pub record ComputedViews : Type 0 where
  pub views : Views
  pub same_crowded : SameFor 9 1 A crowded
  pub singly_quiet : NoRuns quiet
  pub singly_pressed : NoRuns pressed
  pub singly_beset : NoRuns beset
  pub singly_sheeted : NoRuns sheeted
  pub asked_pressed : own 9 pressed ≡ own 9 quiet
  pub asked_beset : own 9 beset ≡ own 9 quiet
  pub asked_sheeted : own 9 sheeted ≡ own 9 quiet

-- Each part is computed by the definitions.
pub computed : ComputedViews
unfolding marked may_start start_ok up_to all_to unless refusal first_from charged_run or_else first_refused new_id number_of guest_number
    counted_by plan_refusal records_then all_periodic start_refusal place_of has_guest has_task head_ok task_ok tasks_ok tasks_in guest_in_range task_in_range
    row_ok state_ok idle started_by fresh taken release_number released_by release less_at refilled holder is_held
    left_after worker is_worked rest_after age_after wait_after position_after next margin_of answer_by answer
    finishes run_from run_for ticked_by tick ran_by run sheet_number sheet_by sheet after times singles listed
    NoRuns own_if asks_pairs asks_sheet asks own told told_all answered_if sees_pairs sees_sheet sees view before
computed = record {
  views = record {
    unreleased = refl;
    over_2 = refl;
    over_3 = refl;
    every_5 = refl;
    every_4 = refl;
    own_8 = refl;
    own_1 = refl;
    sooner = refl;
    later = refl;
    on_a_sheet = refl;
    refused_whole = refl;
    same_run = refl;
    stopped = refl;
    not_stopped = refl;
  };
  same_crowded = record {
    here = record { order = refl; place = omega arith; named = refl };
    there = record { order = refl; place = omega arith; named = refl };
    starts = refl;
    other_starts = refl;
    same = refl;
    capacities = λ j l. (let z : j ≡ 0 = omega arith in rw z refl);
    periods = λ j l. (let z : j ≡ 0 = omega arith in rw z refl);
  };
  singly_quiet = tt;
  singly_pressed = tt;
  singly_beset = tt;
  singly_sheeted = tt;
  asked_pressed = refl;
  asked_beset = refl;
  asked_sheeted = refl;
}
