-- `verdict::guest_verdict` meets its promise: the guest at its seat. Assumes nothing.
use mathlib.Core.List.{[]}
use native.Mathlib.Omega.{arith}
use Rattle.std.proofs.lemmas.Result.{err_from_is_err_and}
use Rattle.verdict.specs.Verdict.{guest_verdict}
use Rattle.response.proofs.SeatLaws.{sits_servers}
use Rattle.verdict.proofs.Verdict.{look_ends, guest_judged}
use Rattle.verdict.proofs.guest_verdict.Goals as goal

pub returns-in_err-place : goal.returns-in_err-place
unfolding guest_verdict
returns-in_err-place g c =
    let e = err_from_is_err_and c.from_residual.result c.from_residual.ensures.1 in
    rw (e.1, e.2) (look_ends _ _ c.in_err-place.ensures [] _)

pub response_at-requires : goal.response_at-requires
response_at-requires g c =
    let s = sits_servers c.in_ok-place.ensures in (
      (omega (arith, s.place), (λ j h. (s.ranged j (omega arith)).short, λ j h. s.late j (omega arith))),
      s.ranged _ (omega arith),
    )

pub returns : goal.returns
returns g c =
    let t = c.in_ok-place.ensures in
    guest_judged _ _ t.looks t.servers c.response_at.ensures c.guest_says.ensures
