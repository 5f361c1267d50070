-- The margin is told as it is, since deadline and age are small.
use Rattle.margins.proofs.Margin.{margin_kept}
use Rattle.dispatcher.proofs.Answers.{tell_finished}
use Rattle.dispatcher.proofs.answering.finished.Goals as goal

pub returns : goal.returns
returns g c =
    let m = c.requires in
    let e = c.guest-g.ensures in
    λ d t. rw e (tell_finished t _ (margin_kept _ _ _ m.deadline m.ages (rw e at c.margin_of.ensures)))
