-- `order::trying::settle` meets its contract: the seat's refusal, then the tests of 21 and 22, one after the other.
-- Assumes nothing.
use Rattle.std.proofs.lemmas.Result.{err_from_is_err_and}
use mathlib.Core.Path.{sym, ◌∙◌}
use Rattle.plan.specs.Placed.{with_guest}
use Rattle.plan.proofs.LookUp.{look_few}
use Rattle.response.proofs.SeatLaws.{sits_seated, sits_in}
use Rattle.order.proofs.Proposed.{tried_is, settled_refused, settled_21, settled_22, settled_0}
use Rattle.order.proofs.Reordered.{reordered_seated}
use Rattle.order.proofs.SortingLaws.{sorted_below}
use Rattle.order.proofs.trying.settle.Goals as goal

pub returns-in_err-seat : goal.returns-in_err-seat
returns-in_err-seat g c =
    let e = err_from_is_err_and c.from_residual.result c.from_residual.ensures.1 in
    rw (e.1, e.2) (settled_refused _ _ c.in_err-seat.ensures)

pub guest-g-requires : goal.guest-g-requires
guest-g-requires g c = look_few _ _ c.in_ok-seat.ensures.looks

pub may_reorder-requires : goal.may_reorder-requires
may_reorder-requires g c = rw c.guest-g.ensures (sits_in c.in_ok-seat.ensures).head.few

pub returns-then-not-may_reorder : goal.returns-then-not-may_reorder
returns-then-not-may_reorder g c =
    settled_21 _ _ c.in_ok-seat.ensures.looks
    (rw c.guest-g.ensures at (sym c.may_reorder.ensures ∙ c.if-not-may_reorder.true))

pub by_deadline-h-requires : goal.by_deadline-h-requires
by_deadline-h-requires g c = rw c.guest-g.ensures (sits_in c.in_ok-seat.ensures).head.few

pub works-requires : goal.works-requires
works-requires g c =
    let t = c.in_ok-seat.ensures in
    rw (c.by_deadline-h.ensures, c.guest-g.ensures)
    (reordered_seated _ (sits_in t) _ (sorted_below _ _) (sits_seated t))

pub returns-then-not-works : goal.returns-then-not-works
returns-then-not-works g c =
    let t = c.in_ok-seat.ensures in
    let may = rw c.guest-g.ensures at (sym c.may_reorder.ensures ∙ c.if-not-may_reorder.false) in
    let works = rw (c.by_deadline-h.ensures, c.guest-g.ensures) at c.works.ensures in
    settled_22 _ _ t.looks may (tried_is _ _ t.looks t.servers works ∙ c.if-not-works.true)

pub returns : goal.returns
unfolding with_guest
returns g c =
    let t = c.in_ok-seat.ensures in
    let may = rw c.guest-g.ensures at (sym c.may_reorder.ensures ∙ c.if-not-may_reorder.false) in
    let works = rw (c.by_deadline-h.ensures, c.guest-g.ensures) at c.works.ensures in (
      look_few _ _ t.looks,
      rw (c.by_deadline-h.ensures, c.guest-g.ensures)
          (settled_0 _ _ t.looks may (tried_is _ _ t.looks t.servers works ∙ c.if-not-works.false)),
    )
