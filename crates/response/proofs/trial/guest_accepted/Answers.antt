-- `response::trial::guest_accepted` meets its contract: the guest's response is tested, then its tasks. Assumes nothing.
use mathlib.Core.Path.{sym, ◌∙◌}
use native.Mathlib.Omega.{arith}
use Rattle.response.specs.Columns.{above_of, accepted_in, system_at}
use Rattle.lists.proofs.All.{and_false_left}
use Rattle.response.proofs.ColumnsLaws.{test_is, tasks_accept}
use Rattle.response.proofs.MetLaws.{met_tests, fit_accepts}
use Rattle.response.proofs.ReadyLaws.{guest_ready, seated_above, seated_range, seated_server}
use Rattle.response.proofs.trial.guest_accepted.Goals as goal

pub guest_response-f-requires : goal.guest_response-f-requires
guest_response-f-requires c = (seated_above _ _ _ c.requires, seated_server _ _ _ c.requires)

pub returns-then-is_none : goal.returns-then-is_none
unfolding accepted_in
returns-then-is_none c =
    sym (and_false_left _ (test_is c.guest_response-f.ensures c.is_none.ensures c.if-is_none.true))

pub first_unmet-requires : goal.first_unmet-requires
first_unmet-requires c =
    let range = seated_range _ _ _ c.requires c.tasks_of-tasks.ensures c.gaps_of-late.ensures in
    record {
      above_in = (seated_above _ _ _ c.requires, omega arith);
      by_index =
          guest_ready (above_of _ _) _ _ _ _ range
          (test_is c.guest_response-f.ensures c.is_none.ensures c.if-is_none.false);
      each_short = (range.gaps, range.tasks);
    }

pub returns : goal.returns
returns c =
    let fits = test_is c.guest_response-f.ensures c.is_none.ensures c.if-is_none.false in
    met_tests _ _ _ _ c.first_unmet.ensures
    ∙ fit_accepts (system_at _ _ _ _ c.tasks_of-tasks.result c.gaps_of-late.result) _ _ fits
    ∙ tasks_accept (above_of _ _) c.args.g.now c.tasks_of-tasks.ensures c.gaps_of-late.ensures
