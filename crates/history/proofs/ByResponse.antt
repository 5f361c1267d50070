-- What a guest's response means when it runs: in each of its periods a fitted guest has had its capacity by the x-th
-- tick. Strategy: while the guest holds something, its position is below x, by the guest part of the windows; so at
-- position x it holds nothing. Assumes nothing.
use mathlib.Core.Path.{◌≡◌, sym, ap, subst, ◌∙◌}
use mathlib.Core.List.{List, [], ◌∷◌, ◌++◌}
use Prim.Native.Nat.{ℕ, suc, ◌+◌, ◌*◌, ◌≤◌, ◌<◌}
use native.Mathlib.Decide.{dec_le, dec_lt}
use native.Mathlib.Omega.{arith}
use lib.ListN.{length, length-append}
use Rattle.std.specs.Prelude.{Ok}
use Rattle.plan.specs.declared.Plan.{Plan}
use Rattle.plan.specs.Place.{place_of}
use Rattle.dispatcher.specs.declared.Dispatcher.{Dispatcher}
use Rattle.dispatcher.specs.declared.Answer.{Answer}
use Rattle.dispatcher.specs.Tick.{next}
use Rattle.dispatcher.specs.Answer.{answer}
use Rattle.dispatcher.specs.Release.{taken}
use Rattle.verdict.specs.Verdict.{guest_verdict}
use Rattle.verdict_laws.specs.Guests.{GuestSolves}
use Rattle.windows.specs.GuestTick.{GuestFits}
use Rattle.history.specs.Calls.{Call, start, ticks_in, answers, CanStart}
use Rattle.history.specs.Named.{guest_by}
use Rattle.history.specs.Share.{names, share}
use Rattle.plan.proofs.Order.{PlanIn, plan_in}
use Rattle.dispatcher_laws.proofs.Seen.{cap_of, per_of, pos_at, held_at}
use Rattle.dispatcher_laws.proofs.Sound.{Sound, sound_next}
use Rattle.dispatcher_laws.proofs.Fresh.{fresh_idle}
use Rattle.history.proofs.Play.{Any, any, play_keeps, answers_length}
use Rattle.verdict_laws.proofs.Ids.{id_of}
use Rattle.verdict_laws.proofs.Guests.{fitted_means}
use Rattle.history.proofs.Share.{count_old}
use Rattle.history.proofs.ByX.{ByX}
use Rattle.history.proofs.Capacity.{Shares, shares_next, shares_taken, shares_idle}
use Rattle.verdict_laws.proofs.Kept.{fitted_of}
use Rattle.history.proofs.Clocks.{sound_start}
use Rattle.history.proofs.Sure.{parts_one}
use Rattle.plan.proofs.PeriodicLaws.{starts_in_order, starts_periodic}
use Rattle.verdict.specs.declared.GuestVerdict.TheVariants as guest

module _ (p : Plan) (P : PlanIn p) (g x : ℕ) (in_plan : g < p.count) (F : GuestFits (cap_of p) (per_of p) g x) where
  -- At the end of the x-th tick of its k-th period, from 0, the guest has had its capacity.
  at_x :
      (L : List Answer) (d : Dispatcher)
      → Sound p d
      → Shares p g x L d
      → (k : ℕ)
      → length L ≡ k * per_of p g + x
      → share (id_of p g) L (k * per_of p g) x ≡ cap_of p g
  at_x L d D S k e =
      elim (dec_lt x (per_of p g)) [
        | yes l ↦
            (let (a, b) = parts_one (per_of p g) S.q k (pos_at d g) x inside l (sym S.time ∙ e) in
            let none : held_at d g ≡ 0 = elim (dec_lt 0 (held_at d g)) [
              | yes h ↦ absurd (omega (arith, S.supply.owed h, S.supply.within))
              | no n ↦ omega arith
            ] in
            let here : share (id_of p g) L (S.q * per_of p g) (pos_at d g) ≡ share (id_of p g) L (k * per_of p g) x =
            ap (λ (z : ℕ). share (id_of p g) L (z * per_of p g) (pos_at d g)) a
            ∙ ap (λ (z : ℕ). share (id_of p g) L (k * per_of p g) z) b in
            omega (arith, S.now))
        | no l ↦
            (let whole : x ≡ per_of p g = omega (arith, F.inside) in
            let (a, b) = parts_one (per_of p g) S.q (suc k) (pos_at d g) 0 inside (omega arith)
            (omega (arith, S.time)) in
            ap (share (id_of p g) L (k * per_of p g)) whole ∙ S.past k (omega arith))
      ]
    where
      inside : pos_at d g < per_of p g
      inside = subst (λ (z : Plan). pos_at d g < per_of z g) D.plan (D.shaped.places g (rw D.plan in_plan))

  -- This stands over a tick.
  by_x_next : (L : List Answer) (d : Dispatcher) → Sound p d → ByX p g x L d → ByX p g x (L ++ (answer d ∷ [])) (next d)
  by_x_next L d D H = record {
    shares = S;
    had = λ k h.
        elim (dec_le (k * per_of p g + x) (length L)) [
          | yes l ↦ count_old (names (id_of p g)) L (answer d ∷ []) (k * per_of p g) x l ∙ H.had k (omega arith)
          | no n ↦ at_x (L ++ (answer d ∷ [])) (next d) (sound_next d D) S k (omega (arith, longer))
        ];
  }
    where
      S : Shares p g x (L ++ (answer d ∷ [])) (next d)
      S = shares_next p P g x in_plan F L d D H.shares

      longer : length (L ++ (answer d ∷ [])) ≡ suc (length L)
      longer = simp length-append (omega arith)

  -- This stands over a taken release.
  by_x_taken : (L : List Answer) (d : Dispatcher) (k t : ℕ) → ByX p g x L d → ByX p g x L (taken d k t)
  by_x_taken L d k t H = record { shares = shares_taken p P g x in_plan F L d k t H.shares; had = H.had }

-- After a history each period whose x-th tick is done has had its capacity by then.
had_by :
    (p : Plan) (can : CanStart p) (g x : ℕ) (in_plan : g < p.count) (G : GuestSolves p g x)
    (cs : List Call) (k : ℕ)
    → k * per_of p g + x ≤ ticks_in cs (start p)
    → share (id_of p g) (answers cs (start p)) (k * per_of p g) x ≡ cap_of p g
had_by p can g x in_plan G cs k h =
    let P = plan_in p (starts_in_order p can) in
    let F = fitted_of p P (starts_periodic p can) in_plan G in
    (play_keeps p (ByX p g x) Any (by_x_next p P g x in_plan F)
    (λ L d id task k t D a f H. by_x_taken p P g x in_plan F L d k t H) cs [] (start p) (any cs (start p))
    record {
      sound = sound_start p can;
      holds = record {
        shares = rw (fresh_idle p can) (shares_idle p P g x in_plan F);
        had = λ k h. absurd (omega (arith, G.low));
      };
    }
    ).holds.had k (omega (arith, answers_length cs (start p) (sound_start p can)))

-- In every period that it begins, from 0 on, a fitted guest has had its capacity by the x-th tick of it, x its
-- response.
pub had_by_response :
    (p : Plan) (id x : ℕ)
    → guest_verdict p id ≡ Ok (guest.Fitted x)
    → CanStart p
    → (cs : List Call) (k : ℕ)
    → k * (guest_by p id).period + x ≤ ticks_in cs (start p)
    → share id (answers cs (start p)) (k * (guest_by p id).period) x ≡ (guest_by p id).capacity
had_by_response p id x e can cs k h =
    let (t, r) = fitted_means p id x e in
    subst (λ (z : ℕ). share z (answers cs (start p)) (k * (guest_by p id).period) x ≡ (guest_by p id).capacity) t.named
    (had_by p can (place_of p id) x t.place r.fits cs k h)
