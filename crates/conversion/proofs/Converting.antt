-- How the code comes to a converted block. Assumes nothing.
use mathlib.Core.Path.{◌≡◌, ap, ◌∙◌}
use mathlib.Core.List.{List, ◌++◌}
use Prim.Native.Nat.{ℕ}
use Rattle.plan.specs.declared.Guest.{Guest}
use Rattle.plan.specs.Server.{as_periodic}
use Rattle.block.specs.Reading.{guest_of}
use Rattle.blockwriter.specs.Writing.{block_of}
use Rattle.conversion.specs.Converting.{converted_block}

-- The block's record, made Periodic, is put in at its place.
pub periodic_put : (b t x : List ℕ) (place : ℕ) (g : Guest) → g ≡ guest_of b → x ≡ block_of (as_periodic g) place ++ t
    → x ≡ converted_block b place ++ t
unfolding converted_block
periodic_put b t x place g e h = h ∙ ap (λ (y : Guest). block_of (as_periodic y) place ++ t) e
