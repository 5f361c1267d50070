-- Demand 3 for guests: in each of its periods that has ended, a fitted guest has had exactly its capacity of ticks.
-- Assumes nothing.
use mathlib.Core.Path.{◌≡◌, sym, ap, subst, ◌∙◌}
use mathlib.Core.List.{List, [], ◌∷◌, ◌++◌}
use Prim.Native.Nat.{ℕ, suc, ◌+◌, ◌*◌, ◌≤◌, ◌<◌}
use native.Mathlib.Nat.{mul-le-mul_right}
use native.Mathlib.Decide.{dec_lt}
use native.Mathlib.Omega.{arith}
use lib.ListN.{length, length-append}
use Rattle.std.specs.Prelude.{Ok}
use Rattle.plan.specs.declared.Plan.{Plan}
use Rattle.plan.specs.Place.{place_of}
use Rattle.dispatcher.specs.declared.Dispatcher.{Dispatcher}
use Rattle.dispatcher.specs.declared.Answer.{Answer}
use Rattle.dispatcher.specs.Tick.{next}
use Rattle.dispatcher.specs.Answer.{answer}
use Rattle.dispatcher.specs.Release.{taken}
use Rattle.verdict.specs.declared.GuestVerdict.TheVariants.{Fitted}
use Rattle.verdict.specs.Verdict.{guest_verdict}
use Rattle.verdict_laws.specs.Guests.{GuestSolves}
use Rattle.windows.specs.GuestTick.{Moved}
use Rattle.windows.specs.GuestTick.Moved.{on, over}
use Rattle.history.specs.Calls.{Call, start, play, ticks_in, answers, CanStart}
use Rattle.history.specs.Named.{guest_by}
use Rattle.history.specs.Share.{share}
use Rattle.plan.proofs.Order.{plan_in}
use Rattle.history.proofs.Play.{Any, any, play_keeps, answers_length}
use Rattle.verdict_laws.proofs.Ids.{id_of}
use Rattle.history.proofs.Capacity.{Shares, shares_next, shares_taken, shares_idle}
use Rattle.verdict_laws.proofs.Kept.{fitted_of}
use Rattle.verdict_laws.proofs.Guests.{fitted_means}
use Rattle.history.proofs.Clocks.{sound_start, sound_reached}
use Rattle.dispatcher_laws.proofs.Fresh.{fresh_idle, idle_position}
use Rattle.dispatcher_laws.proofs.GuestTick.{guest_moved}
use Rattle.dispatcher_laws.proofs.Seen.{cap_of, per_of, pos_at, left_at, held_at}
use Rattle.dispatcher_laws.proofs.Sound.{Sound}
use Rattle.plan.proofs.PeriodicLaws.{starts_in_order, starts_periodic}

-- Whole periods and a rest come to a number in one way.
pub parts_one : (T q k u r : ℕ) → u < T → r < T → q * T + u ≡ k * T + r → (q ≡ k) × (u ≡ r)
parts_one T q k u r hu hr e =
    elim (dec_lt q k) [
      | yes l ↦ absurd (omega (arith, mul-le-mul_right {m = suc q} {n = k} T l))
      | no l ↦
          elim (dec_lt k q) [
            | yes m ↦ absurd (omega (arith, mul-le-mul_right {m = suc k} {n = q} T m))
            | no m ↦ (let z : q ≡ k = omega arith in (z, omega (arith, ap (λ (n : ℕ). n * T) z)))
          ]
    ]

module _ (p : Plan) (can : CanStart p) (g x : ℕ) (in_plan : g < p.count) (G : GuestSolves p g x)
    (cs : List Call) where
  -- The shares stand at the end of a history.
  shares : Shares p g x (answers cs (start p)) (play cs (start p))
  shares =
      let P = plan_in p (starts_in_order p can) in
      let F = fitted_of p P (starts_periodic p can) in_plan G in
      (play_keeps p (Shares p g x) Any (shares_next p P g x in_plan F)
      (λ L d id task k t D a f S. shares_taken p P g x in_plan F L d k t S) cs [] (start p) (any cs (start p))
      record { sound = sound_start p can; holds = rw (fresh_idle p can) (shares_idle p P g x in_plan F) }
      ).holds

  -- A period of the guest that has ended has had the whole capacity.
  shared :
      (k : ℕ) → suc k * per_of p g ≤ ticks_in cs (start p)
      → share (id_of p g) (answers cs (start p)) (k * per_of p g) (per_of p g) ≡ cap_of p g
  shared k h =
      elim (dec_lt k shares.q) [
        | yes l ↦ shares.past k l
        | no l ↦
            (let D = sound_reached p can cs in
            let inside : pos_at (play cs (start p)) g < per_of p g =
            subst (λ (z : Plan). pos_at (play cs (start p)) g < per_of z g) D.plan
            (D.shaped.places g (rw D.plan in_plan)) in
            absurd (omega (
              arith,
              shares.time,
              answers_length cs (start p) (sound_start p can),
              mul-le-mul_right {m = shares.q} {n = k} (per_of p g) (omega arith),
            )))
      ]

-- Sure of its capacity: of the ticks of its k-th period, from 0, a fitted guest has had exactly its capacity,
-- whatever was called.
pub sure_of_capacity :
    (p : Plan) (id x : ℕ)
    → guest_verdict p id ≡ Ok (Fitted x)
    → CanStart p
    → (cs : List Call) (k : ℕ)
    → suc k * (guest_by p id).period ≤ ticks_in cs (start p)
    → share id (answers cs (start p)) (k * (guest_by p id).period) (guest_by p id).period ≡ (guest_by p id).capacity
sure_of_capacity p id x e can cs k h =
    let (t, r) = fitted_means p id x e in
    subst (λ (z : ℕ). share z (answers cs (start p)) (k * (guest_by p id).period) (guest_by p id).period
    ≡ (guest_by p id).capacity)
    t.named (shared p can (place_of p id) x t.place r.fits cs k h)

-- After the answers L: q periods of guest g have ended, and its position counts the ticks of the one under way.
record Timed (p : Plan) (g : ℕ) (L : List Answer) (d : Dispatcher) : Type 0 where
  q : ℕ
  time : length L ≡ q * per_of p g + pos_at d g

module _ (p : Plan) (g : ℕ) (in_plan : g < p.count) where
  -- A guest's move keeps time.
  timed_by :
      (L : List Answer) (a : Answer) (d d' : Dispatcher) {c l h : ℕ}
      → Timed p g L d
      → Moved c (per_of p g) (pos_at d g) l (pos_at d' g) h
      → Timed p g (L ++ (a ∷ [])) d'
  timed_by L a d d' S (on u v z) = record { q = S.q; time = simp length-append (omega (arith, S.time)) }
  timed_by L a d d' S (over u v z) = record { q = suc S.q; time = simp length-append (omega (arith, S.time)) }

  -- Time is kept over a tick.
  timed_next :
      (L : List Answer) (d : Dispatcher) → Sound p d → Timed p g L d → Timed p g (L ++ (answer d ∷ [])) (next d)
  timed_next L d D S =
      timed_by L (answer d) d (next d) S
      (subst (λ (z : Plan). Moved (cap_of z g) (per_of z g) (pos_at d g) (left_at (next d) g) (pos_at (next d) g)
      (held_at (next d) g)) D.plan
      (guest_moved d D.shaped g (rw D.plan in_plan) g (omega arith)))

  -- Time is kept over a taken release.
  timed_taken : (L : List Answer) (d : Dispatcher) (k t : ℕ) → Timed p g L d → Timed p g L (taken d k t)
  unfolding taken
  timed_taken L d k t S = record { q = S.q; time = S.time }

  -- A guest's periods follow one another from the fresh start on: k whole ones and r ticks more bring it to position r.
  pub position_is :
      CanStart p
      → (cs : List Call) (k r : ℕ)
      → r < per_of p g
      → ticks_in cs (start p) ≡ k * per_of p g + r
      → pos_at (play cs (start p)) g ≡ r
  position_is can cs k r h e =
      let P = plan_in p (starts_in_order p can) in
      let D = sound_reached p can cs in
      let S = (play_keeps p (Timed p g) Any timed_next (λ L d id task k t D a f S. timed_taken L d k t S) cs [] (start p)
      (any cs (start p))
      record {
        sound = sound_start p can;
        holds = rw (fresh_idle p can) record {
          q = 0;
          time = omega (arith, idle_position p g (omega (arith, P.few)));
        };
      }
      ).holds in
      (parts_one (per_of p g) S.q k (pos_at (play cs (start p)) g) r
      (subst (λ (z : Plan). pos_at (play cs (start p)) g < per_of z g) D.plan
      (D.shaped.places g (rw D.plan in_plan))) h
      (sym S.time ∙ answers_length cs (start p) (sound_start p can) ∙ e)
      ).1
