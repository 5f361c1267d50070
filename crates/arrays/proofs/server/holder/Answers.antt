-- The slice's search is the search over its places.
use Rattle.std.specs.Prelude.{nat_lt}
use Rattle.std.proofs.Common.{take, rules, refl, get_or-take}
use Rattle.arrays.specs.Parts.{has_left}
use Rattle.arrays.proofs.Found.{found_first}
use Rattle.arrays.proofs.server.holder.Goals as goal

pub returns : goal.returns
returns c =
    let left = c.args.left.now in
    rw (c.unwrap_or.ensures, c.first_filled.ensures)
    (found_first (nat_lt 0) (has_left left) (take c.args.n left) c.args.n (search rules) (λ k h. rw get_or-take refl))
