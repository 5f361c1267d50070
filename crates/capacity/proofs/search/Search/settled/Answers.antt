-- `capacity::search::Search::settled` meets its contract: the tasks passed are settled at c, which is fitted. Assumes
-- nothing.
use mathlib.Core.Path.{sym, ◌∙◌}
use native.Mathlib.Omega.{arith}
use Rattle.response.specs.Columns.{above_of}
use Rattle.capacity.specs.Search.{fits_at}
use Rattle.response.proofs.ColumnsLaws.{test_is}
use Rattle.response.proofs.GuestLaws.{take_grows}
use Rattle.response.proofs.ReadyLaws.{filled_gaps}
use Rattle.capacity.proofs.Staged.{settled_none}
use Rattle.capacity.proofs.SearchLaws.{none_works, search_passed, search_past, task_settled, task_nowhere, all_settled}
use Rattle.capacity.proofs.search.Search.settled.Goals as goal

pub returns-then-is_none : goal.returns-then-is_none
unfolding fits_at
returns-then-is_none c =
    none_works (above_of _ _) (take_grows _ _) _ _ _ _ _ _
    (test_is c.guest_response.ensures c.is_none.ensures c.if-is_none.true)

pub loop-i-init : goal.loop-i-init
unfolding fits_at
loop-i-init c = (
  omega arith,
  settled_none _ _ _ c.requires.some (test_is c.guest_response.ensures c.is_none.ensures c.if-is_none.false),
)

pub first_unmet-i-requires-clause-by_index : goal.first_unmet-i-requires-clause-by_index
unfolding fits_at
first_unmet-i-requires-clause-by_index c =
    let here = c.loop-i.invariant.1 in
    λ j h. record { some = here.low; within = here.high; fits = here.fits; runs = c.requires.tasks.runs j h }

pub first_unmet-i-requires-clause-each_short : goal.first_unmet-i-requires-clause-each_short
first_unmet-i-requires-clause-each_short c =
    (filled_gaps _ _ _ _ c.requires.short c.gaps_of-late.ensures, c.requires.tasks)

pub returns-then-self-i : goal.returns-then-self-i
returns-then-self-i c =
    all_settled (above_of _ _) _ _ _ _ _ _ _ _ (omega (arith, c.first_unmet-i.ensures.high)) c.requires.many
    (search_passed c.args.self.now c.loop-i.invariant.1 c.gaps_of-late.ensures c.first_unmet-i.ensures)

pub returns-in_err-c : goal.returns-in_err-c
returns-in_err-c c =
    let passed = search_passed c.args.self.now c.loop-i.invariant.1 c.gaps_of-late.ensures c.first_unmet-i.ensures in
    let past = search_past c.args.self.now c.loop-i.invariant.1 c.gaps_of-late.ensures c.first_unmet-i.ensures
    (omega (arith, c.if-self-i.false)) in
    c.from_residual.ensures
    ∙ task_nowhere (above_of _ _) _ _ _ _ _ _ _ passed (c.in_err-c.ensures ∙ sym past) _
    (omega (arith, c.if-self-i.false))

pub loop-i-preserved : goal.loop-i-preserved
loop-i-preserved c =
    let passed = search_passed c.args.self.now c.loop-i.invariant.1 c.gaps_of-late.ensures c.first_unmet-i.ensures in
    let past = search_past c.args.self.now c.loop-i.invariant.1 c.gaps_of-late.ensures c.first_unmet-i.ensures
    (omega (arith, c.if-self-i.false)) in (
      omega arith,
      task_settled (above_of _ _) _ _ _ _ _ _ _ passed (c.in_ok-c.ensures ∙ sym past) (take_grows _ _)
          (λ j l. c.requires.tasks.runs j (omega arith)),
    )
