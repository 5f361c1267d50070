-- `amendment::smallest_capacity` meets its contract: the pair's refusal, or the amended plan's answer. Assumes nothing.
use Rattle.std.proofs.Common.{◌≡◌, Err, ◌∙◌, rules}
use Rattle.capacity.specs.Answer.{smallest_capacity}
use Rattle.amendment.specs.Verdict.{refusing_answer}
use Rattle.amendment.proofs.Verdict.{check_refuses, check_sizes, check_answers}
use Rattle.amendment.proofs.smallest_capacity.Goals as goal

pub returns-in_err-check_for_answer : goal.returns-in_err-check_for_answer
returns-in_err-check_for_answer c =
    let q : c.from_residual.result ≡ Err c.in_err-check_for_answer.field-0.0 = search rules in
    q
    ∙ check_refuses c.args.plan.now c.args.sheet.now (λ p. smallest_capacity p c.args.id)
    c.in_err-check_for_answer.ensures

pub amended-requires : goal.amended-requires
amended-requires c = check_sizes c.args.plan.now c.args.sheet.now c.in_ok-check_for_answer.ensures

pub returns : goal.returns
returns c =
    c.smallest_capacity.ensures
    ∙ check_answers refusing_answer c.args.plan.now c.args.sheet.now (λ p. smallest_capacity p c.args.id)
    c.in_ok-check_for_answer.ensures c.amended.ensures
