-- Two searches whose tests agree up to place k find the same place there, or both find none up to k. Assumes nothing.
use mathlib.Core.Path.{◌≡◌, sym, ◌∙◌}
use mathlib.Core.Bool.{Bool, false≢true}
use Prim.Native.Nat.{ℕ, ◌≤◌, ◌<◌}
use native.Mathlib.Omega.{arith}
use Rattle.lists.specs.Search.{first_from}
use Rattle.lists.proofs.Search.{first_found, first_before}

-- What the one finds up to place k, the other finds.
pub first_agree :
    (f g : ℕ → Bool) (n m k : ℕ)
    → k < n
    → k < m
    → ((z : ℕ) → z ≤ k → f z ≡ g z)
    → first_from f n 0 ≤ k
    → first_from g m 0 ≡ first_from f n 0
first_agree f g n m k in_f in_g same h =
    let no-later : ¬ (first_from f n 0 < first_from g m 0) =
    λ l. false≢true
    (sym (first_before g m 0 (first_from f n 0) (omega arith) l)
    ∙ sym (same (first_from f n 0) h)
    ∙ first_found f n 0 (omega arith)) in
    let no-sooner : ¬ (first_from g m 0 < first_from f n 0) =
    λ l. false≢true
    (sym (first_before f n 0 (first_from g m 0) (omega arith) l)
    ∙ same (first_from g m 0) (omega arith)
    ∙ first_found g m 0 (omega arith)) in
    omega arith
