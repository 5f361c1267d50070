-- `amendment::find` meets its contract: the block at the place that was found, in the sheet or in the plan. Assumes
-- nothing.
use mathlib.Core.Path.{◌∙◌}
use Rattle.amendment.proofs.Finder.{found_none, found_in_sheet, found_in_plan, found_within}
use Rattle.amendment.proofs.find.Goals as goal

pub returns-then-r-gt0 : goal.returns-then-r-gt0
returns-then-r-gt0 c =
    let a = c.args in
    found_none a.plan.now a.sheet.now a.id _ c.find_place-r.ensures c.if-r-gt0.true

pub block_at-requires : goal.block_at-requires
block_at-requires c =
    let a = c.args in
    (found_within a.plan.now a.sheet.now a.id _ c.find_place-r.ensures
    c.if-r-gt0.false
    ).0 c.if-r-gt0-2.true

pub returns-then-r-gt0-2 : goal.returns-then-r-gt0-2
returns-then-r-gt0-2 c =
    let a = c.args in
    c.block_at.ensures
    ∙ found_in_sheet a.plan.now a.sheet.now a.id _ c.find_place-r.ensures c.if-r-gt0.false
    c.if-r-gt0-2.true

pub block_at-requires-2 : goal.block_at-requires-2
block_at-requires-2 c =
    let a = c.args in
    (found_within a.plan.now a.sheet.now a.id _ c.find_place-r.ensures c.if-r-gt0.false).1
    c.if-r-gt0-2.false

pub returns : goal.returns
returns c =
    let a = c.args in
    c.block_at-2.ensures
    ∙ found_in_plan a.plan.now a.sheet.now a.id _ c.find_place-r.ensures c.if-r-gt0.false
    c.if-r-gt0-2.false
