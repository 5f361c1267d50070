-- Sure of its capacity: in each of its periods that has ended, a fitted guest has had exactly its capacity of ticks.
-- Strategy: since its period began, the ticks that the guest had and what it still holds make up its capacity; at the
-- period's end it holds nothing, by the guest part of the windows. Assumes nothing.
use mathlib.Core.Path.{◌≡◌, sym, ap, subst, ◌∙◌}
use mathlib.Core.Logic.{⊎_elim}
use mathlib.Core.List.{List, [], ◌∷◌, ◌++◌}
use Prim.Native.Nat.{ℕ, suc, ◌+◌, ◌*◌, ◌<◌}
use native.Mathlib.Nat.{mul-le-mul_right, eq-or-lt_of_le}
use native.Mathlib.Decide.{ℕ_discrete}
use native.Mathlib.Omega.{arith}
use lib.ListN.{length, length-append}
use Rattle.plan.specs.declared.Plan.{Plan}
use Rattle.dispatcher.specs.declared.Dispatcher.{Dispatcher}
use Rattle.dispatcher.specs.declared.Answer.{Answer}
use Rattle.dispatcher.specs.Tick.{holder, next}
use Rattle.dispatcher.specs.Answer.{answer}
use Rattle.dispatcher.specs.Release.{taken}
use Rattle.dispatcher.specs.Fresh.{idle}
use Rattle.windows.specs.GuestTick.{Moved, GuestTick, GuestFits}
use Rattle.windows.specs.GuestTick.Moved.{on, over}
use Rattle.windows.specs.Supply.{Supply}
use Rattle.history.specs.Share.{names, share}
use Rattle.plan.proofs.Order.{PlanIn}
use Rattle.windows.proofs.Supply.{supply_tick, used_up, supply_fresh}
use Rattle.verdict_laws.proofs.Ids.{id_of}
use Rattle.history.proofs.Answered.{names_mine, names_else}
use Rattle.history.proofs.Share.{count_none, count_old, count_next}
use Rattle.dispatcher_laws.proofs.Fresh.{idle_position, idle_held}
use Rattle.dispatcher_laws.proofs.GuestTick.{guest_tick}
use Rattle.dispatcher_laws.proofs.Seen.{cap_of, per_of, pos_at, left_at, held_at}
use Rattle.dispatcher_laws.proofs.Sound.{Sound}

-- After the answers L: q periods have ended, each with the whole capacity; in the one under way, what was had and
-- what is held make it up.
pub record Shares (p : Plan) (g x : ℕ) (L : List Answer) (d : Dispatcher) : Type 0 where
  pub supply : Supply (cap_of p) (per_of p) g x (held_at d) (pos_at d)
  pub q : ℕ
  pub time : length L ≡ q * per_of p g + pos_at d g
  pub now : share (id_of p g) L (q * per_of p g) (pos_at d g) + held_at d g ≡ cap_of p g
  pub past : (k : ℕ) → k < q → share (id_of p g) L (k * per_of p g) (per_of p g) ≡ cap_of p g

-- The numbers alone: u is the share so far, a what the tick adds.
module _ (p : Plan) (g x : ℕ) (L : List Answer) (a : Answer) (d : Dispatcher) (S : Shares p g x L d) (l : ℕ)
    (had : l + names (id_of p g) a ≡ held_at d g) where
  -- What was had with this tick and what is left make up the capacity.
  with_this : share (id_of p g) (L ++ (a ∷ [])) (S.q * per_of p g) (suc (pos_at d g)) + l ≡ cap_of p g
  with_this = omega (arith, count_next (names (id_of p g)) L a (S.q * per_of p g) (pos_at d g) S.time, S.now)

  -- There is one answer more.
  longer : length (L ++ (a ∷ [])) ≡ S.q * per_of p g + suc (pos_at d g)
  longer = simp length-append (omega (arith, S.time))

  -- Periods that have ended stand.
  stood : (k : ℕ) → k < S.q → share (id_of p g) (L ++ (a ∷ [])) (k * per_of p g) (per_of p g) ≡ cap_of p g
  stood k h =
      count_old (names (id_of p g)) L (a ∷ []) (k * per_of p g) (per_of p g)
      (omega (arith, S.time, mul-le-mul_right {m = suc k} {n = S.q} (per_of p g) h))
      ∙ S.past k h

  -- The guest moves on in its period, or ends it with nothing left.
  moved_on :
      (d' : Dispatcher)
      → Supply (cap_of p) (per_of p) g x (held_at d') (pos_at d')
      → (pos_at d g + 1 ≡ per_of p g → l ≡ 0)
      → Moved (cap_of p g) (per_of p g) (pos_at d g) l (pos_at d' g) (held_at d' g)
      → Shares p g x (L ++ (a ∷ [])) d'
  moved_on d' Y drained (on u v z) =
      let e : pos_at d' g ≡ suc (pos_at d g) = omega arith in
      record {
        supply = Y;
        q = S.q;
        time = rw e longer;
        now = omega (arith, with_this, ap (λ (n : ℕ). share (id_of p g) (L ++ (a ∷ [])) (S.q * per_of p g) n) e);
        past = stood;
      }
  moved_on d' Y drained (over u v z) =
      let e : suc (pos_at d g) ≡ per_of p g = omega arith in
      let whole : share (id_of p g) (L ++ (a ∷ [])) (S.q * per_of p g) (per_of p g) ≡ cap_of p g =
      omega (arith, with_this, drained u, ap (λ (n : ℕ). share (id_of p g) (L ++ (a ∷ [])) (S.q * per_of p g) n) e) in
      record {
        supply = Y;
        q = suc S.q;
        time = omega (arith, longer);
        now =
            omega (
              arith,
              count_none (names (id_of p g)) (L ++ (a ∷ [])) (suc S.q * per_of p g),
              ap (λ (n : ℕ). share (id_of p g) (L ++ (a ∷ [])) (suc S.q * per_of p g) n) v,
            );
        past =
            λ k h. ⊎_elim (λ (j : k ≡ S.q). rw j whole) (λ (j : k < S.q). stood k j)
            (eq-or-lt_of_le {n = k} {m = S.q} (omega arith));
      }

module _ (p : Plan) (P : PlanIn p) (g x : ℕ) (in_plan : g < p.count) (F : GuestFits (cap_of p) (per_of p) g x) where
  -- The shares stand over a tick.
  pub shares_next :
      (L : List Answer) (d : Dispatcher) → Sound p d → Shares p g x L d → Shares p g x (L ++ (answer d ∷ [])) (next d)
  shares_next L d D S =
      moved_on p g x L (answer d) d S (left_at (next d) g) had (next d)
      (supply_tick (cap_of p) (per_of p) g x (holder d) (held_at d) (pos_at d) (left_at (next d)) (held_at (next d))
      (pos_at (next d)) F S.supply t)
      (used_up (cap_of p) (per_of p) g x (holder d) (held_at d) (pos_at d) (left_at (next d)) (held_at (next d))
      (pos_at (next d)) F S.supply t)
      (t.moved g (omega arith))
    where
      inside : g < d.plan.count
      inside = rw D.plan in_plan

      t :
          GuestTick (cap_of p) (per_of p) g (holder d) (held_at d) (pos_at d) (left_at (next d)) (held_at (next d))
          (pos_at (next d))
      t =
          subst
          (λ (z : Plan). GuestTick (cap_of z) (per_of z) g (holder d) (held_at d) (pos_at d) (left_at (next d))
          (held_at (next d)) (pos_at (next d)))
          D.plan (guest_tick d D.shaped g inside)

      named : {n : ℕ} → names (id_of d.plan g) (answer d) ≡ n → names (id_of p g) (answer d) ≡ n
      named {n} e = subst (λ (z : Plan). names (id_of z g) (answer d) ≡ n) D.plan e

      had : left_at (next d) g + names (id_of p g) (answer d) ≡ held_at d g
      had =
          elim (ℕ_discrete (holder d) g) [
            | yes e ↦
                (let m = named (names_mine d g inside e) in
                let b : left_at (next d) g + 1 ≡ held_at d g = rw e at (t.served.took (omega arith)) in
                omega arith)
            | no n ↦
                (let m = named (names_else d g (rw D.plan P) inside n) in
                omega (arith, t.served.same g (omega arith) (λ z. n (sym z))))
          ]

  -- The shares stand over a taken release.
  pub shares_taken : (L : List Answer) (d : Dispatcher) (k t : ℕ) → Shares p g x L d → Shares p g x L (taken d k t)
  unfolding taken
  shares_taken L d k t S = record { supply = S.supply; q = S.q; time = S.time; now = S.now; past = S.past }

  -- The shares stand at the fresh start.
  pub shares_idle : Shares p g x [] (idle p)
  shares_idle = record {
    supply =
        supply_fresh (cap_of p) (per_of p) g x (held_at (idle p)) (pos_at (idle p)) F
        (λ k h. idle_held p k (omega (arith, P.few)))
        (λ k h. idle_position p k (omega (arith, P.few)));
    q = 0;
    time = omega (arith, idle_position p g (omega (arith, P.few)));
    now =
        omega (
          arith,
          idle_held p g (omega (arith, P.few)),
          count_none (names (id_of p g)) [] (0 * per_of p g),
          ap (λ (n : ℕ). share (id_of p g) [] (0 * per_of p g) n) (idle_position p g (omega (arith, P.few))),
        );
    past = λ k h. absurd (omega arith);
  }
