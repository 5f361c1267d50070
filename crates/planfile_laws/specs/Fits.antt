-- Numbers that fit their types, as every value of the code does.
use Rattle.std.specs.Prelude.{ℕ, ◌<◌}
use Rattle.words.specs.Word.{word_wrap}
use Rattle.words.specs.Bytes.{Below}
use Rattle.block.specs.Layout.{half_wrap}
use Rattle.plan.specs.declared.Guest.{Guest}
use Rattle.plan.specs.declared.Plan.{Plan}
use Rattle.plan.specs.Records.{guest_at}

-- A guest's numbers are u32, its charge u16.
pub record GuestInTypes (g : Guest) : Type 0 where
  pub id : g.id < word_wrap
  pub capacity : g.capacity < word_wrap
  pub period : g.period < word_wrap
  pub charge : g.charge < half_wrap
  pub run : Below word_wrap g.run
  pub every : Below word_wrap g.every
  pub deadline : Below word_wrap g.deadline

-- The numbers of a plan's guests fit their types.
abbrev pub PlanInTypes : Plan → Type 0
PlanInTypes p = (k : ℕ) → k < p.count → GuestInTypes (guest_at p.guests k)
