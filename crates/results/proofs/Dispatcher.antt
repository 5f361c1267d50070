-- The dispatcher over histories of calls, for any plan that can be started: its states are never refused, a run is its single
-- ticks, wait and age mean what they say, 17, 9 and 10 have exactly their causes, and the numbers beside the state say
-- where the ticks went and are looked at by nothing else.
use mathlib.Core.Path.{◌≡◌, sym, ◌∙◌}
use mathlib.Core.Bool.{true, false, false≢true}
use mathlib.Core.List.{List}
use Prim.Native.Nat.{ℕ, ◌+◌, ◌-◌, ◌*◌, ◌%◌, ◌≤◌, ◌<◌, min}
use Rattle.lists.specs.Places.{nth}
use Rattle.lists.specs.Sum.{sum_to}
use Rattle.arrays.specs.Usage.{wrap, nobodys}
use Rattle.plan.specs.Records.{guest_at}
use Rattle.plan.specs.declared.Plan.{Plan}
use Rattle.lists.specs.Exactly.{◌exactly_when◌}
use Rattle.verdict_laws.specs.Tasks.{TaskThere}
use Rattle.dispatcher.specs.declared.Dispatcher.{Dispatcher}
use Rattle.dispatcher.specs.Release.{release}
use Rattle.dispatcher.specs.Valid.{state_ok}
use Rattle.dispatcher_laws.specs.Usage.{with_usage}
use Rattle.history.specs.Calls.{Call, start, after, play, released, ticks_in, answers, call_number, NoneTaken, CanStart}
use Rattle.history.specs.Named.{bound_by, position_by, every_by, rest_by, wait_by, age_by, StartsHere}
use Rattle.history.specs.Runs.{RunIs}
use Rattle.history.specs.Settings.{SameOutcome, Step, handled, calls_in}
use Rattle.history.specs.Usage.{Accounts}
use Rattle.history.proofs.Again as again
use Rattle.history.proofs.Clocks as clocks
use Rattle.history.proofs.Positions as positions
use Rattle.history.proofs.Settings as settings
use Rattle.history.proofs.Stays as stays
use Rattle.history.proofs.Sure as sure
use Rattle.history.proofs.Usage as usage

-- A state that is not refused stays so over every call.
pub never_spoiled : (c : Call) (d : Dispatcher) → state_ok d ≡ true → state_ok (after c d) ≡ true
never_spoiled = stays.stays

-- From a fresh start that was not refused, 14 is never given.
pub never_14 :
    (p : Plan)
    → CanStart p
    → (cs : List Call) (c : Call)
    → call_number c (play cs (start p)) ≡ 14
    → ⊥
never_14 = stays.never_14

-- Each guest's periods follow one another from the fresh start on: k whole ones and r ticks bring it to position r.
pub position_means :
    (p : Plan) → CanStart p
    → (g : ℕ) → g < p.count
    → (cs : List Call) (k r : ℕ)
    → r < (guest_at p.guests g).period
    → ticks_in cs (start p) ≡ k * (guest_at p.guests g).period + r
    → nth (play cs (start p)).position g ≡ r
position_means p can g h = sure.position_is p g h can

-- A run's count, state and answer are those of that many single ticks; it stops after the first finish, never before,
-- or when the number is used up.
pub run_is_ticks : (n : ℕ) (d : Dispatcher) → state_ok d ≡ true → n ≤ 1000000 → RunIs n d
run_is_ticks = stays.run_is_ticks

-- After the calls cs a release of the task is taken; in the calls ds since then none of it is.
module _ (p : Plan) (can : CanStart p) (id number : ℕ) (cs : List Call)
    (taken : (release (play cs (start p)) id number).refusal.number ≡ 0) (ds : List Call)
    (none : NoneTaken id number ds (released p id number cs)) where
  -- The wait is what is left of the period since the last taken release.
  pub wait_means :
      wait_by p id number (play ds (released p id number cs))
      ≡ every_by p id number - ticks_in ds (released p id number cs)
  wait_means = clocks.wait_since p can id number cs taken ds none

  -- The age of an unfinished job counts the ticks since its release, up to 1,000,000.
  pub age_means :
      0 < rest_by p id number (play ds (released p id number cs))
      → age_by p id number (play ds (released p id number cs)) ≡ min (ticks_in ds (released p id number cs)) 1000000
  age_means = clocks.age_since p can id number cs taken ds none

  -- A further release is refused by 9 exactly while the task may start and fewer ticks than its period were done since
  -- the last.
  pub nine_exactly :
      ((release (play ds (released p id number cs)) id number).refusal.number ≡ 9)
      exactly_when (StartsHere p id number (play ds (released p id number cs))
      × (ticks_in ds (released p id number cs) < every_by p id number))
  nine_exactly = again.nine_exactly p can id number cs taken ds none

  -- A further release is refused by 10 exactly when the task may start, the period has passed and the last job is
  -- unfinished.
  pub ten_exactly :
      ((release (play ds (released p id number cs)) id number).refusal.number ≡ 10)
      exactly_when (StartsHere p id number (play ds (released p id number cs))
      × ((every_by p id number ≤ ticks_in ds (released p id number cs))
      × (0 < rest_by p id number (play ds (released p id number cs)))))
  ten_exactly = again.ten_exactly p can id number cs taken ds none

  -- A further release is taken exactly when the task may start, the period has passed and the last job is finished.
  pub taken_exactly :
      ((release (play ds (released p id number cs)) id number).refusal.number ≡ 0)
      exactly_when (StartsHere p id number (play ds (released p id number cs))
      × ((every_by p id number ≤ ticks_in ds (released p id number cs))
      × (rest_by p id number (play ds (released p id number cs)) ≡ 0)))
  taken_exactly = again.taken_exactly p can id number cs taken ds none

-- A release of a task that is there is refused by 17 exactly if the task is bound and its guest's position is not 0.
pub seventeen_exactly :
    (p : Plan) (id number : ℕ)
    → TaskThere p id number
    → CanStart p
    → (cs : List Call)
    → ((release (play cs (start p)) id number).refusal.number ≡ 17)
    exactly_when ((bound_by p id number ≡ true) × (0 < position_by p id (play cs (start p))))
seventeen_exactly = again.seventeen_exactly

-- The period of a bound task is a multiple of its guest's, so when it has passed since a taken release, once or several
-- times, the guest stands at position 0 again.
pub back_at_0 :
    (p : Plan)
    → CanStart p
    → (id number : ℕ) (cs : List Call)
    → (release (play cs (start p)) id number).refusal.number ≡ 0
    → (ds : List Call)
    → bound_by p id number ≡ true
    → (m : ℕ)
    → ticks_in ds (released p id number cs) ≡ m * every_by p id number
    → position_by p id (play ds (released p id number cs)) ≡ 0
back_at_0 = positions.back_at_0

-- A task that is not bound may start anywhere.
pub unbound_here : (p : Plan) (id number : ℕ) (d : Dispatcher) → bound_by p id number ≡ false → StartsHere p id number d
unbound_here p id number d e b = absurd (false≢true (sym e ∙ b))

-- Before any release of it is taken a task has no wait and no run left.
pub before_any :
    (p : Plan) (id number : ℕ)
    → TaskThere p id number
    → CanStart p
    → (cs : List Call)
    → NoneTaken id number cs (start p)
    → (wait_by p id number (play cs (start p)) ≡ 0) × (rest_by p id number (play cs (start p)) ≡ 0)
before_any p id number t can cs none =
    let n = clocks.before_any p can id number t.there.place t.in_guest t.from_1 cs none in
    (n.due, n.free)

-- The first release of a task that is there is taken, where it may start.
pub first_release_taken :
    (p : Plan) (id number : ℕ)
    → TaskThere p id number
    → CanStart p
    → (cs : List Call)
    → NoneTaken id number cs (start p)
    → StartsHere p id number (play cs (start p))
    → (release (play cs (start p)) id number).refusal.number ≡ 0
first_release_taken = again.first_taken

-- Where the ticks went: after any history each number beside the state is the count of such ticks, modulo 2 to the 64.
pub usage_counts :
    (p : Plan)
    → CanStart p
    → (cs : List Call)
    → Accounts p (answers cs (start p)) (play cs (start p)).usage
usage_counts = usage.usage_counts

-- All guests' ticks and nobody's are the ticks done, modulo 2 to the 64.
pub usage_adds_up :
    (p : Plan)
    → CanStart p
    → (cs : List Call)
    → (sum_to (nth (play cs (start p)).usage) p.count + nth (play cs (start p)).usage nobodys) % wrap
    ≡ ticks_in cs (start p) % wrap
usage_adds_up = usage.usage_adds_up

-- Nothing else looks at the numbers beside the state: with any other numbers there a call has the same answer, number
-- and ticks, and leaves the same state but for these numbers.
pub usage_unseen : (c : Call) (d : Dispatcher) (u : List ℕ) → SameOutcome c (with_usage d u) d
usage_unseen = settings.usage_unseen

-- A host that sets these numbers between any two calls, to 0 or to anything, keeps every promise: each call comes to
-- what it would have without that.
pub settings_unseen : (ss : List Step) (d : Dispatcher) (c : Call) → SameOutcome c (handled ss d) (play (calls_in ss) d)
settings_unseen = settings.settings_unseen
