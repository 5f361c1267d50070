-- `conversion::converter::put_periodic` meets its contract: the block's record, made Periodic, is what is put in.
-- Assumes nothing.
use mathlib.Core.Path.{refl, ap}
use native.Mathlib.Omega.{arith}
use Rattle.plan.specs.declared.Guest.{Guest}
use Rattle.conversion.proofs.Converting.{periodic_put}
use Rattle.conversion.proofs.converter.put_periodic.Goals as goal

pub put_block-requires : goal.put_block-requires
put_block-requires c =
    let t = ap (λ (g : Guest). g.tasks) c.guest_at-guest.ensures in
    (c.requires.1.1, (omega (arith, c.requires.0.0), (omega (arith, t, c.requires.1.0), refl)))

pub returns : goal.returns
returns c =
    periodic_put _ _ _ c.args.k c.guest_at-guest.result c.guest_at-guest.ensures
    c.put_block.ensures
