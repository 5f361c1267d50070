-- A release of a task after those before it: when it is refused by 17, by 9, by 10, and when it is taken. Strategy: the
-- number goes by where the guest stands, the wait and the run left, and the wait is what is left of the period since the
-- last taken release. Assumes nothing.
use mathlib.Core.Path.{◌≡◌}
use mathlib.Core.Bool.{true}
use mathlib.Core.List.{List}
use mathlib.Core.Logic.{◌⊎◌, inl, inr}
use Prim.Native.Nat.{ℕ, ◌-◌, ◌≤◌, ◌<◌}
use native.Mathlib.Decide.{dec_lt, ℕ_discrete}
use native.Mathlib.Omega.{arith}
use Rattle.lists.specs.Exactly.{◌exactly_when◌}
use Rattle.plan.specs.declared.Plan.{Plan}
use Rattle.dispatcher.specs.declared.Dispatcher.{Dispatcher}
use Rattle.dispatcher.specs.Release.{release}
use Rattle.verdict_laws.specs.Tasks.{TaskThere}
use Rattle.history.specs.Calls.{Call, releasing, start, play, released, ticks_in, NoneTaken, CanStart}
use Rattle.history.specs.Named.{bound_by, position_by, every_by, rest_by, wait_by, StartsHere}
use Rattle.dispatcher_laws.proofs.Sound.{Sound, free_task, guest_in_lem, task_in}
use Rattle.history.proofs.Causes.{Again}
use Rattle.history.proofs.ByState.{away, waiting, unfinished, accepted, not_17, here_or_away}
use Rattle.history.proofs.Play.{sound_after, sound_play}
use Rattle.history.proofs.Clocks.{sound_reached, id_is, wait_since, before_any}
use Rattle.plan.proofs.PeriodicLaws.{starts_in_order}

-- Causes that shut each other out and leave nothing out are exact: first where the task may not start.
exact_away : {H A : Type 0} (n period m left : ℕ) → (H → A → ⊥) → A → n ≡ 17 → Again H A n period m left
exact_away n period m left shut a e = record {
  seventeen = (λ q. a, λ q. e);
  nine = (λ q. absurd (omega arith), λ q. absurd (shut q.0 a));
  ten = (λ q. absurd (omega arith), λ q. absurd (shut q.0 a));
  none = (λ q. absurd (omega arith), λ q. absurd (shut q.0 a));
}

-- Causes are exact where the task may start.
exact_here :
    {H A : Type 0} (n period m left : ℕ)
    → (H → A → ⊥)
    → H
    → (m < period → n ≡ 9)
    → (period ≤ m → 0 < left → n ≡ 10)
    → (period ≤ m → left ≡ 0 → n ≡ 0)
    → Again H A n period m left
exact_here n period m left shut x a b c =
    elim (dec_lt m period) [
      | yes l ↦ (let e = a l in record {
        seventeen = (λ q. absurd (omega arith), λ q. absurd (shut x q));
        nine = (λ q. (x, l), λ q. e);
        ten = (λ q. absurd (omega arith), λ q. absurd (omega (arith, q.1.0)));
        none = (λ q. absurd (omega arith), λ q. absurd (omega (arith, q.1.0)));
      })
      | no l ↦
          (let h : period ≤ m = omega arith in
          elim (ℕ_discrete left 0) [
            | yes r ↦ (let e = c h r in record {
              seventeen = (λ q. absurd (omega arith), λ q. absurd (shut x q));
              nine = (λ q. absurd (omega arith), λ q. absurd (omega (arith, q.1)));
              ten = (λ q. absurd (omega arith), λ q. absurd (omega (arith, q.1.1)));
              none = (λ q. (x, (h, r)), λ q. e);
            })
            | no r ↦ (let s : 0 < left = omega arith in let e = b h s in record {
              seventeen = (λ q. absurd (omega arith), λ q. absurd (shut x q));
              nine = (λ q. absurd (omega arith), λ q. absurd (omega (arith, q.1)));
              ten = (λ q. (x, (h, s)), λ q. e);
              none = (λ q. absurd (omega arith), λ q. absurd (omega (arith, q.1.1)));
            })
          ])
    ]

module _ (p : Plan) (can : CanStart p) (id number : ℕ) (cs : List Call)
    (taken-it : (release (play cs (start p)) id number).refusal.number ≡ 0) (ds : List Call)
    (none : NoneTaken id number ds (released p id number cs)) where
  -- A task whose release was taken is there.
  there : TaskThere p id number
  there =
      let D = sound_reached p can cs in
      record {
        there = record {
          order = starts_in_order p can;
          place = guest_in_lem p (play cs (start p)) D id number taken-it;
          named = id_is p (play cs (start p)) D id number taken-it;
        };
        from_1 = (free_task p (play cs (start p)) D id number taken-it).number;
        in_guest = task_in p (play cs (start p)) D id number taken-it;
      }

  -- A further release is refused by 17, by 9, by 10 or taken, each for its own cause.
  again :
      Again (StartsHere p id number (play ds (released p id number cs)))
      ((bound_by p id number ≡ true) × (0 < position_by p id (play ds (released p id number cs))))
      (release (play ds (released p id number cs)) id number).refusal.number (every_by p id number)
      (ticks_in ds (released p id number cs)) (rest_by p id number (play ds (released p id number cs)))
  again = by (here_or_away p id number d)
    where
      d : Dispatcher
      d = play ds (released p id number cs)

      D : Sound p d
      D = sound_play ds (released p id number cs)
          (sound_after (releasing id number) (play cs (start p)) (sound_reached p can cs))

      n : ℕ
      n = (release d id number).refusal.number

      W : wait_by p id number d ≡ every_by p id number - ticks_in ds (released p id number cs)
      W = wait_since p can id number cs taken-it ds none

      shut : StartsHere p id number d → (bound_by p id number ≡ true) × (0 < position_by p id d) → ⊥
      shut h a = omega (arith, h a.0, a.1)

      by : StartsHere p id number d ⊎ ((bound_by p id number ≡ true) × (0 < position_by p id d))
          → Again (StartsHere p id number d) ((bound_by p id number ≡ true) × (0 < position_by p id d)) n
          (every_by p id number) (ticks_in ds (released p id number cs)) (rest_by p id number d)
      by (inl h) =
          exact_here n (every_by p id number) (ticks_in ds (released p id number cs)) (rest_by p id number d) shut h
          (λ l. waiting p id number there d D h (omega (arith, W)))
          (λ l r. unfinished p id number there d D h (omega (arith, W)) r)
          (λ l r. accepted p id number there d D h (omega (arith, W)) r)
      by (inr a) =
          exact_away n (every_by p id number) (ticks_in ds (released p id number cs)) (rest_by p id number d) shut a
          (away p id number there d D a.0 a.1)

  -- It is refused by 9 exactly if the task may start and fewer ticks than its period were done since the last taken
  -- release.
  pub nine_exactly :
      ((release (play ds (released p id number cs)) id number).refusal.number ≡ 9)
      exactly_when (StartsHere p id number (play ds (released p id number cs))
      × (ticks_in ds (released p id number cs) < every_by p id number))
  nine_exactly = again.nine

  -- It is refused by 10 exactly if the task may start, its period has passed since, and the job is unfinished.
  pub ten_exactly :
      ((release (play ds (released p id number cs)) id number).refusal.number ≡ 10)
      exactly_when (StartsHere p id number (play ds (released p id number cs))
      × ((every_by p id number ≤ ticks_in ds (released p id number cs))
      × (0 < rest_by p id number (play ds (released p id number cs)))))
  ten_exactly = again.ten

  -- It is taken exactly if the task may start, its period has passed since, and the job is finished.
  pub taken_exactly :
      ((release (play ds (released p id number cs)) id number).refusal.number ≡ 0)
      exactly_when (StartsHere p id number (play ds (released p id number cs))
      × ((every_by p id number ≤ ticks_in ds (released p id number cs))
      × (rest_by p id number (play ds (released p id number cs)) ≡ 0)))
  taken_exactly = again.none

-- Where none was taken before, a release of a task that is there is taken if it may start.
pub first_taken :
    (p : Plan) (id number : ℕ)
    → TaskThere p id number
    → CanStart p
    → (cs : List Call)
    → NoneTaken id number cs (start p)
    → StartsHere p id number (play cs (start p))
    → (release (play cs (start p)) id number).refusal.number ≡ 0
first_taken p id number T can cs none here =
    let N = before_any p can id number T.there.place T.in_guest T.from_1 cs none in
    accepted p id number T (play cs (start p)) (sound_reached p can cs) here N.due N.free

-- A release of a task that is there is refused by 17 exactly if the task is bound and its guest past position 0.
pub seventeen_exactly :
    (p : Plan) (id number : ℕ)
    → TaskThere p id number
    → CanStart p
    → (cs : List Call)
    → ((release (play cs (start p)) id number).refusal.number ≡ 17)
    exactly_when ((bound_by p id number ≡ true) × (0 < position_by p id (play cs (start p))))
seventeen_exactly p id number T can cs = (
  λ e. by (here_or_away p id number (play cs (start p))) e,
  λ a. away p id number T (play cs (start p)) D a.0 a.1,
)
  where
    D : Sound p (play cs (start p))
    D = sound_reached p can cs

    by : StartsHere p id number (play cs (start p))
        ⊎ ((bound_by p id number ≡ true) × (0 < position_by p id (play cs (start p))))
        → (release (play cs (start p)) id number).refusal.number ≡ 17
        → (bound_by p id number ≡ true) × (0 < position_by p id (play cs (start p)))
    by (inr a) e = a
    by (inl h) e = absurd (not_17 p id number T (play cs (start p)) D h e)
