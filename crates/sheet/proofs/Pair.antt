-- How the code comes to the outcome of one release, in a state that is in its ranges. Assumes nothing.
use mathlib.Core.Path.{◌≡◌, refl, sym, ◌∙◌}
use mathlib.Core.Bool.{true, not}
use mathlib.Core.List.{List, [], ◌∷◌}
use Prim.Native.Nat.{ℕ, ◌-◌, ◌≤◌, ◌<◌}
use Rattle.std.specs.Prelude.{Ok, Err}
use native.Mathlib.Decide.{dec_lt}
use native.Mathlib.Omega.{arith}
use lib.Dec.{eqb}
use lib.ListN.{set}
use borrow.Author.Tests.{ltb-true, lt-ltb, le-ltb, leb-true}
use Rattle.lists.specs.Places.{nth}
use Rattle.lists.specs.Refusals.{refusal, ◌or_refuse◌}
use Rattle.plan.specs.declared.Plan.{Plan}
use Rattle.plan.specs.Place.{place_of, has_number, has_guest, has_task}
use Rattle.plan.specs.Records.{guest_at}
use Rattle.plan.specs.Marks.{marked, may_start}
use Rattle.arrays.specs.Place.{place_at}
use Rattle.refusals.specs.Check.{passes}
use Rattle.refusals.specs.Aims.{aim_number}
use Rattle.dispatcher.specs.InPlace.{released_in}
use Rattle.dispatcher.specs.Valid.{state_ok}
use Rattle.dispatcher.specs.Lent.{state_of}
use Rattle.dispatcher.specs.Release.{release}
use Rattle.sheet.specs.Lent.{SheetColumns, place_in, lent_number, Aimed}
use Rattle.lists.proofs.All.{and_left, and_right}
use Rattle.lists.proofs.Refusals.{go_on, stop, passed}
use Rattle.lists.proofs.Search.{first_ext}
use Rattle.jobs.proofs.Barred.{barred_is}
use Rattle.dispatcher.proofs.LentCheck.{passes_is}
use Rattle.dispatcher.proofs.Release.{release_refused, release_taken}

module _ (p : Plan) (left position rest wait age usage : List ℕ) {n : ℕ}
    {ids tasks barred runs periods : List ℕ} (S : SheetColumns p n position ids tasks barred runs periods)
    (ok : state_ok (state_of p left position rest wait age usage) ≡ true) (id task : ℕ) where
  -- The state passes the check.
  passing : passes p left position rest wait age ≡ true
  passing = passes_is (state_of p left position rest wait age usage) ∙ ok

  -- The place in the column of ids is the plan's.
  place_here : place_in n ids id ≡ place_of p id
  unfolding place_of
  place_here = rw S.count (first_ext _ _ n 0 (λ z l. rw (S.id z (omega arith)) refl))

  -- The guest's own refusals, by the columns.
  own : (k : ℕ) → k < n
      → refusal (has_number (guest_at p.guests k).tasks task or_refuse 8
      ∷ may_start (guest_at p.guests k) (nth position k) (task - 1) or_refuse 17
      ∷ eqb (nth wait (place_at k (task - 1))) 0 or_refuse 9
      ∷ eqb (nth rest (place_at k (task - 1))) 0 or_refuse 10
      ∷ [])
      ≡ refusal (has_number (nth tasks k) task or_refuse 8
      ∷ not (marked (nth barred k) (task - 1)) or_refuse 17
      ∷ eqb (nth wait (place_at k (task - 1))) 0 or_refuse 9
      ∷ eqb (nth rest (place_at k (task - 1))) 0 or_refuse 10
      ∷ [])
  own k l = rw (S.many k l, S.bars k l, barred_is (guest_at p.guests k) (nth position k) (task - 1)) refl

  -- The release's refusals, by the columns.
  number_is : aim_number p left position rest wait age id task ≡ lent_number n ids tasks barred rest wait id task
  unfolding aim_number has_guest has_task lent_number
  number_is =
      let k = place_in n ids id in
      go_on 14 _ passing
      ∙ rw (← place_here, S.count)
      (elim (dec_lt k n) [
        | yes l ↦ go_on 7 _ (lt-ltb k n l) ∙ own k l ∙ sym (go_on 7 _ (lt-ltb k n l))
        | no g ↦ stop 7 _ (le-ltb k n (omega arith)) ∙ sym (stop 7 _ (le-ltb k n (omega arith)))
      ])

  -- A release that a number refuses leaves the state as it was.
  pub told_refused : {x : ℕ} → Aimed n ids tasks barred rest wait id task (Err x)
      → released_in (Err x) (state_of p left position rest wait age usage)
      ≡ release (state_of p left position rest wait age usage) id task
  told_refused {x} a = release_refused (state_of p left position rest wait age usage) _ _ x (number_is ∙ a.0, a.1)

  -- A release that no number refuses has a guest and a task.
  there : lent_number n ids tasks barred rest wait id task ≡ 0
      → (place_in n ids id < n) × ((1 ≤ task) × (task ≤ nth tasks (place_in n ids id)))
  unfolding lent_number
  there e =
      let k = place_in n ids id in
      let a = passed _ 7 _ (omega arith) e in
      let b = (passed _ 8 _ (omega arith) a.1).0 in
      (ltb-true k n a.0, (leb-true 1 task (and_left _ _ b), leb-true task (nth tasks k) (and_right _ _ b)))

  -- A release that no number refuses is taken.
  pub told_taken : {at : ℕ} → Aimed n ids tasks barred rest wait id task (Ok at)
      → released_in (Ok tt)
      (state_of p left position (set rest at (nth runs at)) (set wait at (nth periods at)) (set age at 0) usage)
      ≡ release (state_of p left position rest wait age usage) id task
  told_taken {at} a =
      let k = place_in n ids id in
      let t = there a.0 in
      let h : k < p.count = omega (arith, S.count, t.0) in
      let i : task - 1 < (guest_at p.guests k).tasks = omega (arith, S.many k t.0, t.1.0, t.1.1) in
      release_taken (state_of p left position rest wait age usage) _ _
      (record { at = at; run = nth runs at; every = nth periods at })
      (record {
        taken = number_is ∙ a.0;
        takes = rw (← place_here)
            (record {
              place = a.1.0;
              inside = a.1.1;
              run = rw a.1.0 (S.jobs.run k (task - 1) h i);
              period = rw a.1.0 (S.jobs.period k (task - 1) h i);
            });
      })
