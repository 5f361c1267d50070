-- The slice's search is the search over its places.
use Rattle.std.specs.Prelude.{nat_lt}
use Rattle.std.proofs.Common.{◌+◌, ◌-◌, ◌*◌, ◌<◌, take, drop, refl, arith, length-take, length-drop, get_or-take, get_or-drop}
use Rattle.arrays.specs.Parts.{has_run}
use Rattle.arrays.proofs.Found.{found_first}
use Rattle.arrays.proofs.jobs.worker.Goals as goal

pub returns : goal.returns
returns c =
    let a = c.args in
    let base = a.k * 16 in
    let row = take (base + a.n - base) (drop base a.rest.now) in
    rw (c.unwrap_or.ensures, c.first_filled.ensures)
    (found_first (nat_lt 0) (has_run a.rest.now a.k) row a.n (simp (length-take, length-drop) (omega arith))
    (λ t h. let inside : t < base + a.n - base = omega arith in rw (get_or-take, get_or-drop) refl))
