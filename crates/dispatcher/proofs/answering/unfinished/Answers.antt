-- By who had the tick.
use Rattle.dispatcher.proofs.Answers.{says_nobody, says_idle, says_works}
use Rattle.dispatcher.proofs.answering.unfinished.Goals as goal

pub returns-then-n-turn : goal.returns-then-n-turn
returns-then-n-turn c = λ d s. says_nobody s c.if-n-turn.true

pub returns-then-turn-lt1 : goal.returns-then-turn-lt1
returns-then-turn-lt1 c = λ d s. says_idle s c.if-n-turn.false c.if-turn-lt1.true

pub returns : goal.returns
returns c = λ d s. says_works s c.if-n-turn.false c.if-turn-lt1.false
