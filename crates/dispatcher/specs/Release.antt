-- Release by guest id and task number from 1: 14, 7, 8, 17, 9, 10.
use Rattle.std.specs.Prelude.{[], ◌∷◌, ℕ, zero, suc, ◌-◌, set, eqb}
use Rattle.lists.specs.Places.{nth}
use Rattle.lists.specs.Refusals.{refusal, ◌or_refuse◌}
use Rattle.plan.specs.Records.{every_of}
use Rattle.plan.specs.Charge.{charged}
use Rattle.plan.specs.First.{refused, fine}
use Rattle.plan.specs.Marks.{may_start}
use Rattle.plan.specs.Place.{place_of, has_guest, has_task}
use Rattle.dispatcher.specs.declared.Dispatcher.{Dispatcher}
use Rattle.dispatcher.specs.declared.Released.{Released}
use Rattle.arrays.specs.Place.{place_at}
use Rattle.dispatcher.specs.State.{guest_in, rest_at, wait_at}
use Rattle.dispatcher.specs.Valid.{state_ok}

-- a taken release of task t of guest k: run left is the charged run, wait the task's period, age 0
unfoldable pub taken : Dispatcher → ℕ → ℕ → Dispatcher
taken d k t =
    record {
      plan = d.plan;
      left = d.left;
      position = d.position;
      rest = set d.rest (place_at k t) (charged (guest_in d k) t);
      wait = set d.wait (place_at k t) (every_of (guest_in d k) t);
      age = set d.age (place_at k t) 0;
      usage = d.usage;
    }

-- the number that a release is refused by
unfoldable pub release_number : Dispatcher → ℕ → ℕ → ℕ
release_number d id task =
    let k = place_of d.plan id in
    refusal (
    state_ok d or_refuse 14
    ∷ has_guest d.plan id or_refuse 7
    ∷ has_task d.plan id task or_refuse 8
    ∷ may_start (guest_in d k) (nth d.position k) (task - 1) or_refuse 17
    ∷ eqb (wait_at d k (task - 1)) 0 or_refuse 9
    ∷ eqb (rest_at d k (task - 1)) 0 or_refuse 10
    ∷ [])

-- the outcome by that number: taken, or the state as it was
unfoldable pub released_by : ℕ → Dispatcher → ℕ → ℕ → Released
released_by zero d k t = record { refusal = fine; state = taken d k t }
released_by (suc n) d k t = record { refusal = refused (suc n) 0; state = d }

-- a release
unfoldable pub release : Dispatcher → ℕ → ℕ → Released
release d id task = released_by (release_number d id task) d (place_of d.plan id) (task - 1)
