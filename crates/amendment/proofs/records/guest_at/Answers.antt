-- `amendment::records::guest_at` meets its contract, by whether the sheet has a block for the guest. Assumes nothing.
use mathlib.Core.Path.{sym, ap, ◌∙◌}
use Rattle.block.specs.Reading.{guest_of}
use Rattle.blockfile.specs.File.{id_at, first_with}
use Rattle.blockfile.proofs.File.{found_at}
use Rattle.amendment.proofs.Amended.{from_sheet, from_plan}
use Rattle.amendment.proofs.records.guest_at.Goals as goal

pub guest_at-requires : goal.guest_at-requires
guest_at-requires c =
    let a = c.args in
    (found_at a.sheet.now (id_at a.plan.now a.k) _
    (sym (c.first_with.ensures ∙ ap (first_with a.sheet.now) c.id_at.ensures) ∙ c.in-Some.is)).0

pub returns-in-Some : goal.returns-in-Some
returns-in-Some c =
    let a = c.args in
    c.guest_at.ensures
    ∙ ap guest_of
    (from_sheet a.plan.now a.sheet.now a.k _
    (sym (c.first_with.ensures ∙ ap (first_with a.sheet.now) c.id_at.ensures) ∙ c.in-Some.is))

pub returns-in-None : goal.returns-in-None
returns-in-None c =
    let a = c.args in
    c.guest_at-in-None.ensures
    ∙ ap guest_of
    (from_plan a.plan.now a.sheet.now a.k
    (sym (c.first_with.ensures ∙ ap (first_with a.sheet.now) c.id_at.ensures) ∙ c.in-None.is))
