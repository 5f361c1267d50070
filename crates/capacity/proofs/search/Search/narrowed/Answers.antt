-- `capacity::search::Search::narrowed` meets its contract: what the two tests say is one of the three turns of the
-- search. Assumes nothing.
use Rattle.std.specs.Prelude.{is_some}
use mathlib.Core.Path.{sym, ap, ◌∙◌}
use native.Mathlib.Omega.{arith}
use Rattle.lists.specs.Places.{nth}
use Rattle.response.specs.Columns.{above_of}
use Rattle.capacity.specs.Search.{fits_at}
use Rattle.response.proofs.ReadyLaws.{filled_gaps}
use Rattle.capacity.proofs.SearchLaws.{meets_tried, search_halving}
use Rattle.capacity.proofs.Narrowing.{turn_left, turn_right, turn_here, known_here}
use Rattle.capacity.proofs.search.Search.narrowed.Goals as goal

pub fits-requires-clause-known : goal.fits-requires-clause-known
fits-requires-clause-known c = λ b e.
    let known = c.requires.known b e in (omega (arith, known.0, c.next_try-c.ensures.1), known.1)

pub returns-then-not-fits : goal.returns-then-not-fits
returns-then-not-fits c =
    let a = c.args in (
      turn_left _ _ (search_halving a.self.now a.i c.requires.within) _ a.left _ c.requires.bounds.0
          c.next_try-c.ensures (sym c.fits.ensures ∙ c.if-not-fits.true),
      λ b e. (let known = c.requires.known b e in (omega (arith, known.0, c.next_try-c.ensures.1), known.1)),
    )

pub task_response-response-requires-clause-ready : goal.task_response-response-requires-clause-ready
unfolding fits_at
task_response-response-requires-clause-ready c = record {
  some = omega arith;
  within = omega arith;
  fits = sym c.fits.ensures ∙ c.if-not-fits.false;
  runs = c.requires.within.0.tasks.runs _ c.requires.within.1;
}

pub task_response-response-requires-clause-most_le_longest :
    goal.task_response-response-requires-clause-most_le_longest
task_response-response-requires-clause-most_le_longest c =
    let s = c.requires.within.0 in
    let short = filled_gaps _ _ _ _ s.short c.gaps_of-late.ensures in (
      s.tasks.deadlines _ c.requires.within.1,
      (λ j l. short j (omega arith), λ j l. s.tasks.periods j (omega arith)),
    )

pub returns-then-is_some : goal.returns-then-is_some
returns-then-is_some c =
    let a = c.args in
    let t = a.self.now.tasks.now in
    let fits = sym c.fits.ensures ∙ c.if-not-fits.false in (
      turn_here _ _ (search_halving a.self.now a.i c.requires.within) _ a.left _ c.requires.bounds.0
          c.next_try-c.ensures
          (meets_tried (above_of _ _) _ _ _ t.run t.every (nth t.deadline) _ a.i fits c.gaps_of-late.ensures
          (omega arith) (ap is_some (sym c.task_response-response.ensures) ∙ sym c.is_some.ensures ∙ c.if-is_some.true)),
      known_here _ _ fits,
    )

pub returns : goal.returns
returns c =
    let a = c.args in
    let t = a.self.now.tasks.now in
    let fits = sym c.fits.ensures ∙ c.if-not-fits.false in (
      turn_right _ _ (search_halving a.self.now a.i c.requires.within) _ a.left _ c.requires.bounds.0
          c.next_try-c.ensures (
            fits,
            meets_tried (above_of _ _) _ _ _ t.run t.every (nth t.deadline) _ a.i fits c.gaps_of-late.ensures (omega arith)
                (ap is_some (sym c.task_response-response.ensures) ∙ sym c.is_some.ensures ∙ c.if-is_some.false),
          ),
      c.requires.known,
    )
