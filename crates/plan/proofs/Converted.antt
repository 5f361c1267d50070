-- The records of a plan whose guests are made Periodic: refused as the plan's are, each guest at its place and Periodic.
-- Assumes nothing.
use mathlib.Core.Path.{◌≡◌, refl, sym, ◌∙◌, ap, fun_ext}
use mathlib.Core.Bool.{Bool, true, false}
use Prim.Native.Nat.{ℕ, ◌<◌}
use lib.Dec.{eqb}
use lib.ListN.{get_or-map}
use borrow.Author.Tests.{eqb-true}
use Rattle.lists.specs.Search.{first_from}
use Rattle.plan.specs.declared.Guest.{Guest}
use Rattle.plan.specs.declared.Plan.{Plan}
use Rattle.plan.specs.Records.{absent, guest_at}
use Rattle.plan.specs.Ranges.{tasks_ok}
use Rattle.plan.specs.Server.{is_periodic, as_periodic}
use Rattle.plan.specs.First.{first_refused}
use Rattle.plan.specs.Order.{number_of, guest_number, counted_by, plan_refusal}
use Rattle.plan.specs.Place.{place_of}
use Rattle.plan.specs.Periodic.{all_periodic, converted}
use Rattle.plan.proofs.PeriodicLaws.{periodic_at, periodic_by}

module _ (p : Plan) where
  -- Each guest is the plan's, made Periodic.
  pub converted_at : (k : ℕ) → guest_at (converted p).guests k ≡ as_periodic (guest_at p.guests k)
  unfolding converted
  converted_at k = get_or-map as_periodic p.guests k absent

  -- Each guest is Periodic.
  pub all_converted : all_periodic (converted p) ≡ true
  all_converted = periodic_by (converted p) (λ k l. ap (λ (g : Guest). is_periodic g) (converted_at k))

  -- Each id stands where it stood.
  pub same_id : (k : ℕ) → (guest_at (converted p).guests k).id ≡ (guest_at p.guests k).id
  same_id k = ap (λ (g : Guest). g.id) (converted_at k)

  -- Each guest is refused by the number that it was refused by: no test looks at the server.
  same_number : (k : ℕ) → guest_number (converted p).guests k ≡ guest_number p.guests k
  unfolding guest_number number_of tasks_ok
  same_number k = rw (fun_ext same_id, converted_at k) refl

  -- So the first refusal is the same, whether or not the count is in its range.
  same_counted : (b : Bool) → counted_by b (converted p) ≡ counted_by b p
  unfolding counted_by converted
  same_counted true = ap (λ (number : ℕ → ℕ). first_refused number p.count 0) (fun_ext same_number)
  same_counted false = refl

  -- The records' refusal is the same.
  pub same_refusal : plan_refusal (converted p) ≡ plan_refusal p
  unfolding plan_refusal converted
  same_refusal = same_counted _

  -- Each id has the same place.
  pub same_place : (id : ℕ) → place_of (converted p) id ≡ place_of p id
  unfolding place_of converted
  same_place id = ap (λ (ids : ℕ → ℕ). first_from (λ k. eqb (ids k) id) p.count 0) (fun_ext same_id)

-- A Periodic guest made Periodic is itself.
pub as_own : (g : Guest) → is_periodic g ≡ true → as_periodic g ≡ g
as_own g e =
    ap
    (λ (number : ℕ). record {
      id = g.id;
      capacity = g.capacity;
      period = g.period;
      tasks = g.tasks;
      charge = g.charge;
      marks = g.marks;
      deferrable = number;
      run = g.run;
      every = g.every;
      deadline = g.deadline;
    })
    (sym (eqb-true g.deferrable 0 e))

-- In a plan of Periodic guests each guest is as it was.
pub periodic_same : (p : Plan) → all_periodic p ≡ true → (k : ℕ) → k < p.count
    → guest_at (converted p).guests k ≡ guest_at p.guests k
periodic_same p e k h =
    converted_at p k
    ∙ as_own (guest_at p.guests k) (periodic_at p e k h)
