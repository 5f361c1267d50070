-- The least capacities are accepted, and the least of all choices: those above take no more than in any other choice, so
-- that what works there for a guest works here. Assumes nothing.
use Rattle.std.specs.Prelude.{Option, Some, None, Ok}
use mathlib.Core.Path.{◌≡◌, refl, sym, ◌∙◌, ap, subst}
use mathlib.Core.Bool.{true, false, false≢true}
use Prim.Native.Nat.{ℕ, zero, suc, ◌+◌, ◌≤◌, ◌<◌}
use native.Mathlib.Decide.{dec_lt}
use native.Mathlib.Nat.{mul-le-mul_left}
use native.Mathlib.Omega.{arith}
use Rattle.lists.specs.All.{all_to}
use Rattle.rounding.specs.Asked.{asked}
use Rattle.plan.specs.Order.{plan_refusal}
use Rattle.plan.specs.Periodic.{start_refusal}
use Rattle.plan.specs.Ranges.{most_guests}
use Rattle.plan.specs.Records.{guest_at, absent}
use Rattle.plan.specs.Server.{is_deferrable}
use Rattle.plan.specs.declared.Guest.{Guest}
use Rattle.plan.specs.declared.Plan.{Plan}
use Rattle.response.specs.Columns.{accepted_under}
use Rattle.response.specs.Guest.{fitted}
use Rattle.response.specs.Interference.{jitter, interference}
use Rattle.response.specs.Met.{all_met, accepted}
use Rattle.verdict.specs.Verdict.{acceptance}
use Rattle.verdict.specs.declared.Acceptance.TheVariants.{Accepted}
use Rattle.capacity.specs.Capacity.{at_capacity, with_capacity, works, smallest}
use Rattle.choice.specs.Capacities.{answering, chosen_from, least_capacities}
use Rattle.choice.specs.declared.Chosen.{Chosen}
use Rattle.choice_laws.specs.Capacities.{with_capacities, Chooses, LeastOfAll, NoChoice}
use Rattle.verdict_laws.specs.Acceptances.{AllGood}
use Rattle.lists.proofs.All.{and_left, and_right, and_true, all_at}
use Rattle.lists.proofs.Search.{Says, least_says}
use Rattle.lists.proofs.Sum.{sum_le}
use Rattle.lists.proofs.Table.{table_at}
use Rattle.rounding.proofs.Asked.{asked_same}
use Rattle.plan.proofs.First.{number_refuses, number_passes}
use Rattle.plan.proofs.Order.{plan_in}
use Rattle.plan.proofs.PeriodicLaws.{starts_in_order, starts_periodic, none_deferrable}
use Rattle.plan.proofs.Placed.{in_list, placed_there, placed_other}
use Rattle.response.proofs.ColumnsLaws.{interference_grows, accepted_is}
use Rattle.verdict_laws.proofs.Acceptances.{acceptance_means, accepted_order, good_accepted, accepted_good, acceptance_only}
use Rattle.capacity.proofs.Capacity.{works_split}
use Rattle.choice_laws.proofs.Less.{accepted_less}
use Rattle.choice_laws.proofs.Stages.{Stage, stage_first, stage_last, least_of, stage_next, chosen_stage}

-- costs that are no more ask no more
asked_cheaper : (cost cost' every late : ℕ → ℕ) (n v : ℕ) → ((j : ℕ) → j < n → cost j ≤ cost' j)
    → asked cost every late n v ≤ asked cost' every late n v
unfolding asked
asked_cheaper cost cost' every late n v h = sum_le _ _ n (λ j l. mul-le-mul_left _ (h j l))

-- a Periodic guest puts nothing off
no_jitter : (g : Guest) → is_deferrable g ≡ false → jitter g ≡ 0
unfolding jitter
no_jitter g b = rw b refl

-- what may not be started is refused as a start is
pub not_started : (p : Plan) → 0 < (start_refusal p).number
    → least_capacities p ≡ answering p (start_refusal p).number (start_refusal p).place
unfolding least_capacities start_refusal
not_started p h =
    sym (number_refuses (answering p) (start_refusal p).number (start_refusal p).place (chosen_from p p p.count 0) h)

-- a plan that may be started
module _ (p : Plan) (ok : (start_refusal p).number ≡ 0) where
  order : (plan_refusal p).number ≡ 0
  order = starts_in_order p ok

  few : p.count ≤ most_guests
  few = (plan_in p order).few

  -- the answer is that of the choice guest by guest
  answer_is : least_capacities p ≡ chosen_from p p p.count 0
  unfolding least_capacities start_refusal
  answer_is = sym (number_passes (answering p) (start_refusal p).number (start_refusal p).place _ (omega arith))

  -- a choice that is not refused is accepted, and nothing but capacities is changed
  pub chooses : (least_capacities p).refusal.number ≡ 0 → Chooses p
  chooses z =
      let y : (chosen_from p p p.count 0).refusal.number ≡ 0 = rw answer_is at z in
      let s : Stage p (least_capacities p).plan p.count =
      subst (λ (r : Chosen). Stage p r.plan p.count) (sym answer_is)
      (chosen_stage p p.count 0 p (stage_first p order) (omega arith) y) in
      record {
        accepts = sym (acceptance_only _ s.order (Ok Accepted) (accepted_good _ (stage_last p _ s)));
        others = s.others;
      }

  -- another choice, at which the plan is accepted
  module _ (c : ℕ → ℕ) (e : acceptance (with_capacities p c) ≡ Ok Accepted) where
    abbrev P : Plan
    P = with_capacities p c

    -- its guests
    guest_of_lem : (j : ℕ) → j < most_guests → guest_at P.guests j ≡ at_capacity (guest_at p.guests j) (c j)
    unfolding with_capacities
    guest_of_lem j h = table_at (λ k. at_capacity (guest_at p.guests k) (c k)) absent most_guests j h

    -- as many as before
    same_count : P.count ≡ p.count
    unfolding with_capacities
    same_count = refl

    -- its records are in order
    order_there : (plan_refusal P).number ≡ 0
    order_there = accepted_order P e

    -- each of its guests is accepted under those above
    accepted_there : (k : ℕ) → k < p.count → accepted_under (interference P k) (guest_at P.guests k) ≡ true
    unfolding accepted
    accepted_there k h =
        let good : AllGood P = rw e at (acceptance_means P order_there) in
        let a = good_accepted P good in
        accepted_is P k
        ∙ and_true (all_at (fitted P) P.count k (omega (arith, same_count)) (and_left (all_to (fitted P) P.count) _ a))
        (all_at (all_met P) P.count k (omega (arith, same_count)) (and_right (all_to (fitted P) P.count) _ a))

    -- a guest of a stage at which none so far has more than there
    module _ (q : Plan) (k : ℕ) (s : Stage p q k) (h : k < p.count)
        (less : (j : ℕ) → j < k → (guest_at q.guests j).capacity ≤ c j) where
      -- those above take no more from any window
      takes_less : (v : ℕ) → interference q k v ≤ interference P k v
      unfolding interference
      takes_less v =
          let capacity : (j : ℕ) → j < k → (guest_at q.guests j).capacity ≤ (guest_at P.guests j).capacity =
          λ j l. (let w = ap (λ (g : Guest). g.capacity) (guest_of_lem j (omega (arith, few))) in omega (arith, less j l)) in
          let cheaper = asked_cheaper (λ j. (guest_at q.guests j).capacity) (λ j. (guest_at P.guests j).capacity)
          (λ j. (guest_at q.guests j).period) (λ j. jitter (guest_at q.guests j)) k v capacity in
          omega (
            arith,
            cheaper,
            asked_same (λ j. (guest_at P.guests j).capacity) (λ j. (guest_at q.guests j).period)
                (λ j. jitter (guest_at q.guests j)) (λ j. (guest_at P.guests j).capacity) (λ j. (guest_at P.guests j).period)
                (λ j. jitter (guest_at P.guests j)) k v (λ j l. refl) (λ j l. same_period j l) (λ j l. same_jitter j l),
          )
        where
          same_period : (j : ℕ) → j < k → (guest_at q.guests j).period ≡ (guest_at P.guests j).period
          same_period j l =
              ap (λ (g : Guest). g.period) (s.others j) ∙ sym (ap (λ (g : Guest). g.period) (guest_of_lem j (omega (arith, few))))

          periodic : (j : ℕ) → j < k → is_deferrable (guest_at p.guests j) ≡ false
          periodic j l = none_deferrable p (starts_periodic p ok) j (omega arith)

          same_jitter : (j : ℕ) → j < k → jitter (guest_at q.guests j) ≡ jitter (guest_at P.guests j)
          same_jitter j l =
              no_jitter _ (ap is_deferrable (s.others j) ∙ periodic j l)
              ∙ sym (no_jitter _ (ap is_deferrable (guest_of_lem j (omega (arith, few))) ∙ periodic j l))

      -- what is given to the guest there is enough here
      enough : works q k (c k) ≡ true
      enough =
          let here = in_list q (plan_in q s.order) k (omega (arith, s.many)) in
          let same : at_capacity (guest_at q.guests k) (c k) ≡ guest_at P.guests k =
          ap (λ (g : Guest). at_capacity g (c k)) (s.others k) ∙ sym (guest_of_lem k (omega (arith, few))) in
          works_split q k here (c k)
          ∙ and_true s.fits
          (ap (accepted_under (interference q k)) same
          ∙ accepted_less (interference P k) (interference q k) (interference_grows q k) takes_less (guest_at P.guests k)
          ((plan_in P order_there).guests k (omega (arith, same_count))) (accepted_there k h))

      -- and it is in its range
      low : 1 ≤ c k
      low =
          let w = ap (λ (g : Guest). g.capacity) (guest_of_lem k (omega (arith, few))) in
          omega (arith, ((plan_in P order_there).guests k (omega (arith, same_count))).head.some)

      high : c k ≤ (guest_at q.guests k).period
      high =
          let w = ap (λ (g : Guest). g.capacity) (guest_of_lem k (omega (arith, few))) in
          let t = ap (λ (g : Guest). g.period) (guest_of_lem k (omega (arith, few))) in
          let u = ap (λ (g : Guest). g.period) (s.others k) in
          omega (arith, ((plan_in P order_there).guests k (omega (arith, same_count))).head.fits)

      -- so the search finds a capacity
      not_none : smallest q k ≡ None → ⊥
      unfolding smallest
      not_none r =
          let o : Says (works q k) (guest_at q.guests k).period 1 None =
          rw r at (least_says (works q k) (guest_at q.guests k).period 1) in
          false≢true (sym (o.never (c k) low (omega (arith, high))) ∙ enough)

    -- No guest has more than there, guest by guest.
    all_less : (m k : ℕ) (q : Plan) → Stage p q k → k + m ≡ p.count
        → ((j : ℕ) → j < k → (guest_at q.guests j).capacity ≤ c j)
        → ((chosen_from p q m k).refusal.number ≡ 0)
        × ((j : ℕ) → j < p.count → (guest_at (chosen_from p q m k).plan.guests j).capacity ≤ c j)
    unfolding chosen_from
    all_less zero k q s n less = (refl, λ j l. less j (omega arith))
    all_less (suc m) k q s n less =
        go (smallest q k) refl (λ a t l. all_less m (suc k) (with_capacity q k a) t (omega arith) l)
      where
        next : Option ℕ → Chosen
        next f = elim f [ Some a ↦ chosen_from p (with_capacity q k a) m (suc k) | None ↦ answering p 11 k ]

        Good : Chosen → Type 0
        Good r = (r.refusal.number ≡ 0) × ((j : ℕ) → j < p.count → (guest_at r.plan.guests j).capacity ≤ c j)

        go : (f : Option ℕ) → smallest q k ≡ f
            → ((a : ℕ) → Stage p (with_capacity q k a) (suc k)
            → ((j : ℕ) → j < suc k → (guest_at (with_capacity q k a).guests j).capacity ≤ c j)
            → Good (chosen_from p (with_capacity q k a) m (suc k)))
            → Good (next f)
        go None r rec = absurd (not_none q k s (omega arith) less r)
        go (Some a) r rec =
            let L = least_of q k a r in
            let t = stage_next p q k s (omega arith) a L in
            rec a t (λ j l.
            elim (dec_lt j k) [
              | yes b ↦
                  (let w = ap (λ (g : Guest). g.capacity) (placed_other q k (at_capacity (guest_at q.guests k) a) j (λ z. omega arith)) in
                  omega (arith, less j b))
              | no b ↦
                  (let z : j ≡ k = omega arith in
                  let here = in_list q (plan_in q s.order) k (omega (arith, s.many)) in
                  let w = ap (λ (g : Guest). g.capacity) (placed_there q k (at_capacity (guest_at q.guests k) a) here) in
                  rw z (omega (arith, w, L.first (c k) (low q k s (omega arith) less) (enough q k s (omega arith) less))))
            ])

  -- in any choice at which the plan is accepted no guest has less
  pub least_of_all : LeastOfAll p
  least_of_all c e =
      subst (λ (r : Chosen). (r.refusal.number ≡ 0)
      × ((k : ℕ) → k < p.count → (guest_at r.plan.guests k).capacity ≤ c k))
      (sym answer_is)
      (all_less c e p.count 0 p (stage_first p order) (omega arith) (λ j l. absurd (omega arith)))

  -- where one is refused none is accepted
  pub no_choice : 0 < (least_capacities p).refusal.number → NoChoice p
  no_choice h c e = let (z, l) = least_of_all c e in omega (arith, z)
