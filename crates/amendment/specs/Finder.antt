-- A guest's block in a pair, found by the guest's id: the sheet's if it has one, otherwise the plan's.
use Rattle.std.specs.Prelude.{List, [], ℕ, zero, suc, Option, Some, None}
use Rattle.plan.specs.First.{refused_by}
use Rattle.blockfile.specs.File.{block_at, first_with}
use Rattle.amendment.specs.declared.Located.{Located}
use Rattle.amendment.specs.Pair.{in_plan, in_sheet, pair_refusal}

-- What the searches found in the sheet and in the plan: 0 and the place in the first that has the guest, or refusal 7.
unfoldable pub standing : (sheet plan : Option ℕ) → Located
standing (Some j) f = in_sheet 0 j
standing None (Some k) = in_plan 0 k
standing None None = in_plan 7 0

-- A pair's refusal as it is, or what comes after where its number is 0.
unfoldable pub located_or : Located → Located → Located
located_or r after =
    refused_by (λ number place. record { number = number; place = place; sheet = r.sheet }) r.number r.place after

-- The finder's companion: the pair's refusal, then 7, then where the found block stands.
unfoldable pub pair_place : (plan sheet : List ℕ) → (id : ℕ) → Located
pair_place plan sheet id = located_or (pair_refusal plan sheet) (standing (first_with sheet id) (first_with plan id))

-- The block at a place of the plan or of the sheet; nothing on a refusal.
unfoldable pub part_in : (number in_sheet place : ℕ) → (plan sheet : List ℕ) → List ℕ
part_in zero zero place plan sheet = block_at plan place
part_in zero (suc one) place plan sheet = block_at sheet place
part_in (suc n) which place plan sheet = []

-- The finder: the guest's 512 bytes.
unfoldable pub pair_found : (plan sheet : List ℕ) → (id : ℕ) → List ℕ
pair_found plan sheet id =
    let at = pair_place plan sheet id in
    part_in at.number at.sheet at.place plan sheet
