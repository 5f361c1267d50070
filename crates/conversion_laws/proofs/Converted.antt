-- A plan's records converted: what is read back of them is what is read back of the plan, converted. Assumes nothing.
use mathlib.Core.Path.{◌≡◌, refl, sym, ap, ◌∙◌}
use mathlib.Core.List.{List, [], ◌∷◌, ◌++◌, map, map-append}
use Prim.Native.Nat.{ℕ, zero, suc}
use lib.ListN.{drop, replicate}
use Rattle.lists.specs.Table.{table}
use Rattle.plan.specs.declared.Guest.{Guest}
use Rattle.plan.specs.declared.Plan.{Plan}
use Rattle.plan.specs.Records.{guest_at, blank}
use Rattle.plan.specs.Ranges.{most_guests}
use Rattle.plan.specs.Server.{as_periodic}
use Rattle.plan.specs.Periodic.{converted}
use Rattle.planfile_laws.specs.File.{cleared_guest, cleared}
use Rattle.planfile_laws.specs.Fits.{GuestInTypes, PlanInTypes}
use Rattle.lists.proofs.Table.{table_ext}
use Rattle.plan.proofs.Converted.{converted_at}

-- The numbers that fit their types still do.
guest_fits : (g : Guest) → GuestInTypes g → GuestInTypes (as_periodic g)
guest_fits g f = record {
  id = f.id;
  capacity = f.capacity;
  period = f.period;
  charge = f.charge;
  run = f.run;
  every = f.every;
  deadline = f.deadline;
}

-- A table mapped is the table of the mapped values.
map_table : {A B : Type 0} (f : A → B) (g : ℕ → A) (n : ℕ) → map f (table g n) ≡ table (λ k. f (g k)) n
unfolding table
map_table f g zero = refl
map_table f g (suc n) =
    map-append f (table g n) (g n ∷ []) ∙ ap (λ l. l ++ (f (g n) ∷ [])) (map_table f g n)

-- What is left of a list mapped is what is left, mapped.
map_drop : {A B : Type 0} (f : A → B) (n : ℕ) (l : List A) → map f (drop n l) ≡ drop n (map f l)
map_drop f zero l = refl
map_drop f (suc n) [] = refl
map_drop f (suc n) (x ∷ l) = map_drop f n l

module _ (p : Plan) where
  -- Its numbers fit their types where the plan's do.
  pub converted_fits : PlanInTypes p → PlanInTypes (converted p)
  unfolding converted
  converted_fits f k l = rw (converted_at p k) (guest_fits (guest_at p.guests k) (f k l))

  -- Zeros past its guests and tasks stand where they do in the plan.
  guests_cleared : (cleared (converted p)).guests ≡ map as_periodic (cleared p).guests
  unfolding cleared converted
  guests_cleared =
      ap (λ (gs : List Guest). gs ++ drop p.count (replicate most_guests blank))
      (table_ext _ _ p.count (λ k l. ap (λ (g : Guest). cleared_guest g) (converted_at p k))
      ∙ sym (map_table as_periodic (λ k. cleared_guest (guest_at p.guests k)) p.count))
      ∙ ap (λ (gs : List Guest). map as_periodic (table (λ k. cleared_guest (guest_at p.guests k)) p.count) ++ gs)
      (sym (map_drop as_periodic p.count (replicate most_guests blank)))
      ∙ sym (map-append as_periodic (table (λ k. cleared_guest (guest_at p.guests k)) p.count)
      (drop p.count (replicate most_guests blank)))

  pub cleared_converted : cleared (converted p) ≡ converted (cleared p)
  unfolding cleared converted
  cleared_converted = ap (λ (gs : List Guest). record { count = p.count; guests = gs }) guests_cleared
