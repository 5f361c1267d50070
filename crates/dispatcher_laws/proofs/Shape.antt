-- A state keeps its shape over ticks and releases. Assumes nothing.
use mathlib.Core.Path.{◌≡◌, ap, ◌∙◌}
use Prim.Native.Nat.{ℕ}
use native.Mathlib.Decide.{dec_lt}
use native.Mathlib.Omega.{arith}
use lib.ListN.{length, length-set}
use Rattle.dispatcher.specs.declared.Dispatcher.{Dispatcher}
use Rattle.arrays.specs.Place.{place_at}
use Rattle.dispatcher.specs.State.{guest_in}
use Rattle.dispatcher.specs.Tick.{refilled, holder, worker, age_after, wait_after, position_after, next}
use Rattle.dispatcher.specs.Release.{taken}
use Rattle.lists.proofs.Places.{up_to_length}
use Rattle.windows.proofs.GuestTick.{moved_inside}
use Rattle.dispatcher_laws.proofs.GuestTick.{refilled_long, guest_moved}
use Rattle.dispatcher_laws.proofs.Seen.{Shaped}
use Rattle.dispatcher_laws.proofs.Tick.{left_hit, left_miss, rest_hit, rest_idle, rest_miss}

module _ (d : Dispatcher) (H : Shaped d) where
  -- The capacities are as many after a tick as before.
  left_long : length (next d).left ≡ 8
  left_long =
      elim (dec_lt (holder d) d.plan.count) [
        | yes h ↦ ap length (left_hit d h) ∙ length-set (refilled d) (holder d) _ ∙ refilled_long d ∙ H.left_long
        | no n ↦ ap length (left_miss d (omega arith)) ∙ refilled_long d ∙ H.left_long
      ]

  -- The runs left are as many after a tick as before.
  rest_long : length (next d).rest ≡ 128
  rest_long =
      elim (dec_lt (holder d) d.plan.count) [
        | no n ↦ ap length (rest_miss d (omega arith)) ∙ H.rest_long
        | yes h ↦
            elim (dec_lt (worker d) (guest_in d (holder d)).tasks) [
              | yes l ↦ ap length (rest_hit d h l) ∙ length-set d.rest (place_at (holder d) (worker d)) _ ∙ H.rest_long
              | no n ↦ ap length (rest_idle d (omega arith)) ∙ H.rest_long
            ]
      ]

  -- A state keeps its shape over a tick.
  pub shaped_next : Shaped (next d)
  unfolding next position_after wait_after age_after
  shaped_next = record {
    few = H.few;
    tasks = H.tasks;
    places = λ k h. moved_inside (guest_moved d H k h k (omega arith));
    left_long = left_long;
    position_long = up_to_length _ d.plan.count d.position ∙ H.position_long;
    rest_long = rest_long;
    wait_long = up_to_length _ 128 d.wait ∙ H.wait_long;
    age_long = up_to_length _ 128 d.age ∙ H.age_long;
  }

  -- A state keeps its shape over a taken release.
  pub shaped_taken : (k t : ℕ) → Shaped (taken d k t)
  unfolding taken
  shaped_taken k t = record {
    few = H.few;
    tasks = H.tasks;
    places = H.places;
    left_long = H.left_long;
    position_long = H.position_long;
    rest_long = length-set d.rest (place_at k t) _ ∙ H.rest_long;
    wait_long = length-set d.wait (place_at k t) _ ∙ H.wait_long;
    age_long = length-set d.age (place_at k t) _ ∙ H.age_long;
  }
