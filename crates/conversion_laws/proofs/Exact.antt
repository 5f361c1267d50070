-- When each refusal of the converter is given, and what it leaves in the output. Assumes nothing.
use mathlib.Core.Path.{◌≡◌, sym, ap}
use mathlib.Core.Bool.{true}
use mathlib.Core.List.{List, ◌++◌}
use Prim.Native.Nat.{ℕ, ◌≤◌, ◌<◌}
use native.Mathlib.Decide.{dec_lt}
use native.Mathlib.Omega.{arith}
use lib.ListN.{length, drop}
use Rattle.lists.specs.Exactly.{◌exactly_when◌}
use Rattle.plan.specs.declared.Refusal.{Refusal}
use Rattle.plan.specs.First.{refused, fine}
use Rattle.blockfile.specs.File.{file_refusal}
use Rattle.conversion.specs.Converting.{converted_bytes}
use Rattle.conversion.specs.Outcome.{convert_refusal, converted_out}
use Rattle.planfile_laws.proofs.Exact.{most}
use Rattle.conversion.proofs.Outcome.{reading_refused, twelve, none, convert_in, out_refused, out_written}

module _ (s : List ℕ) (room : ℕ) where
  -- The reading order comes first, with its place.
  pub reading_first : 0 < (file_refusal s).number → convert_refusal s room ≡ file_refusal s
  reading_first h = sym (reading_refused s room h)

  -- 12: the bytes read as a plan, and the output is shorter than it.
  pub twelve_exactly : ((convert_refusal s room).number ≡ 12)
      exactly_when (((file_refusal s).number ≡ 0) × (room < length s))
  twelve_exactly = (
    λ e.
        elim (dec_lt 0 (file_refusal s).number) [
          | yes h ↦
              absurd
              (let q = ap (λ (r : Refusal). r.number) (reading_first h) in omega (arith, e, q, most true s))
          | no h ↦ elim (dec_lt room (length s)) [
            | yes l ↦ (omega arith, l)
            | no l ↦
                absurd
                (let q = ap (λ (r : Refusal). r.number) (none s room (omega arith) (omega arith)) in
                omega (arith, e, q))
          ]
        ],
    λ h. sym (ap (λ (r : Refusal). r.number) (twelve s room (omega (arith, h.0)) h.1)),
  )

  -- 12 comes with place 0.
  pub twelve_place : (convert_refusal s room).number ≡ 12 → convert_refusal s room ≡ refused 12 0
  twelve_place e = let h = twelve_exactly.0 e in sym (twelve s room (omega (arith, h.0)) h.1)

  -- No refusal: the bytes read as a plan, and the output has room for it.
  pub none_exactly : (convert_refusal s room ≡ fine) exactly_when (((file_refusal s).number ≡ 0) × (length s ≤ room))
  none_exactly = (
    λ e. convert_in s room (ap (λ (r : Refusal). r.number) e),
    λ h. sym (none s room (omega (arith, h.0)) h.1),
  )

-- A refusal leaves every lent byte as it was.
pub refused_leaves : (s before : List ℕ) → 0 < (convert_refusal s (length before)).number → converted_out s before ≡ before
refused_leaves s before h = sym (out_refused s before (convert_refusal s (length before)).number h)

-- Without a refusal the plan converted stands there, and past the plan what stood there.
pub output_is : (s before : List ℕ) → (convert_refusal s (length before)).number ≡ 0
    → converted_out s before ≡ converted_bytes s ++ drop (length s) before
output_is s before e = sym (out_written s before (convert_refusal s (length before)).number e)
