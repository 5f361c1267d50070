-- How a release's tests come to its refusals and to what it sets. Assumes nothing.
use mathlib.Core.Path.{◌≡◌, refl, ◌∙◌}
use mathlib.Core.Bool.{Bool, true, false}
use mathlib.Core.List.{List, ◌∷◌}
use Rattle.std.specs.Prelude.{Result, Ok, Err}
use Prim.Native.Nat.{ℕ, ◌^◌, ◌<◌}
use native.Mathlib.Omega.{arith}
use lib.Dec.{eqb, ltb}
use borrow.Author.Tests.{lt-ltb}
use Rattle.lists.specs.Choice.{pick}
use Rattle.lists.specs.Places.{nth}
use Rattle.lists.specs.Refusals.{Test, refusal, unless, ◌or_refuse◌}
use Rattle.lists.specs.Search.{first_from}
use Rattle.plan.specs.declared.Guest.{Guest}
use Rattle.plan.specs.declared.Plan.{Plan}
use Rattle.plan.specs.declared.Columns.{Columns}
use Rattle.plan.specs.Records.{guest_at, run_of}
use Rattle.plan.specs.Ranges.{tasks_ok}
use Rattle.plan.specs.Charge.{charged}
use Rattle.plan.specs.Place.{place_of, has_guest, has_task}
use Rattle.plan.specs.Filled.{ColumnsOf}
use Rattle.refusals.specs.declared.Aim.{Aim}
use Rattle.refusals.specs.Check.{passes}
use Rattle.refusals.specs.Aims.{take_number, AimsAt, aim_number, Aims}
use Rattle.lists.proofs.Refusals.{none_left, go_on}
use Rattle.lists.proofs.Search.{first_ext}
use Rattle.plan.proofs.Charge.{charged_most}
use Rattle.plan.proofs.RangesLaws.{head_says}
use Rattle.refusals.proofs.Check.{few_guests}
use Rattle.refusals.proofs.Rows.{runs_small}

-- A test of an order chooses between its number and what comes after it.
pub test_chooses : (b : Bool) (n : ℕ) (ts : List Test) → refusal (b or_refuse n ∷ ts) ≡ pick b (refusal ts) n
unfolding refusal unless
test_chooses true n ts = refl
test_chooses false n ts = refl

-- Where the state is in its ranges and the guest is there, at place k, its own refusals are the release's.
module _ (p : Plan) (left position rest wait age : List ℕ) (id task : ℕ)
    (s : passes p left position rest wait age ≡ true) {k : ℕ} (q : k ≡ place_of p id) (h : k < p.count) where
  own : aim_number p left position rest wait age id task
      ≡ take_number (guest_at p.guests k) k task (nth position k) rest wait
  unfolding aim_number has_guest has_task
  own = go_on 14 _ s ∙ go_on 7 _ (rw (← q) (lt-ltb k p.count h)) ∙ rw (← q) refl

  pub aims_on : (r : Result Aim ℕ) → AimsAt (guest_at p.guests k) k task (nth position k) rest wait r
      → Aims p left position rest wait age id task r
  aims_on (Ok a) f = record { taken = own ∙ f.0; takes = rw (← q) f.1 }
  aims_on (Err n) f = (own ∙ f.0, f.1)

-- A guest is there by its place.
pub guest_there : (p : Plan) (id : ℕ) → has_guest p id ≡ ltb (place_of p id) p.count
unfolding has_guest
guest_there p id = refl

-- The place in the column of ids is the plan's.
pub place_in : {p : Plan} {c : Columns} (id : ℕ) {k : ℕ} → ColumnsOf p.guests p.count c
    → k ≡ first_from (λ j. eqb (nth c.ids j) id) p.count 0
    → k ≡ place_of p id
unfolding place_of
place_in {p} id c e = e ∙ first_ext _ _ p.count 0 (λ z l. rw (c.ids.holds z (omega arith)) refl)

-- The charged run of a task in its ranges fits.
pub charged_fits : (g : Guest) (i : ℕ) → tasks_ok g ≡ true → i < g.tasks → g.charge < 2 ^ 16 → charged g i < 2 ^ 32
charged_fits g i e h c = charged_most (run_of g i) g.charge (runs_small g e i h) c

-- The tests of an order, one after the other.
pub ruleset tests = (test_chooses, none_left)

-- The refusals of a release that is for a guest in its ranges.
pub ruleset in_order = (tests, head_says, charged_fits)

-- The refusals of a release by an id.
pub ruleset by_id = (test_chooses, guest_there, few_guests, place_in)
