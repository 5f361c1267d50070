-- The answer for the smallest capacity has its meaning and is the only one that has it. Assumes nothing.
use Rattle.std.specs.Prelude.{Option, Some, None, is_some, Result, Ok, Err}
use mathlib.Core.Path.{◌≡◌, refl, sym, ◌∙◌, ap}
use mathlib.Core.Bool.{true, false≢true}
use mathlib.Core.List.{[], ◌∷◌}
use Prim.Native.Nat.{ℕ, ◌≤◌, ◌<◌}
use native.Mathlib.Omega.{arith}
use Rattle.lists.specs.Refusals.{◌or_refuse◌}
use Rattle.plan.specs.First.{or_else, refused, unless_refused}
use Rattle.plan.specs.Order.{records_then}
use Rattle.plan.specs.Records.{guest_at}
use Rattle.plan.specs.declared.Plan.{Plan}
use Rattle.response.specs.Guest.{fitted_to}
use Rattle.plan.specs.Place.{has_guest}
use Rattle.plan.specs.declared.Refusal.{Refusal}
use Rattle.response.specs.Window.{ticks_of}
use Rattle.capacity.specs.Capacity.{with_capacity, works, smallest}
use Rattle.capacity.specs.Answer.{capacity_says, smallest_capacity}
use Rattle.verdict_laws.specs.Guests.{There}
use Rattle.verdict_laws.specs.Capacities.{CapacityWorks, CapacityMeans}
use Rattle.lists.proofs.All.{and_left, and_right, and_true}
use Rattle.lists.proofs.Search.{Says, least_says}
use Rattle.lists.proofs.Refusals.{none_left, go_on, stop}
use Rattle.verdict_laws.proofs.Guests.{answered, there_place, there_has, fitted_all, all_fitted}
use Rattle.verdict_laws.proofs.Tasks.{met_in_time, in_time_met}

-- the answer is that of the search
pub capacity_answer_is : (p : Plan) (id k : ℕ) → There p id k → smallest_capacity p id ≡ capacity_says (smallest p k)
unfolding smallest_capacity records_then or_else
capacity_answer_is p id k t = rw (there_place p id k t) (go (smallest p k))
  where
    go : (f : Option ℕ)
        → unless_refused (records_then p (has_guest p id or_refuse 7 ∷ is_some f or_refuse 11 ∷ [])) (ticks_of f)
        ≡ capacity_says f
    go None = rw (t.order, go_on 7 (is_some {T = ℕ} None or_refuse 11 ∷ []) (there_has p id k t) ∙ stop 11 [] refl) refl
    go (Some c) =
        answered p (has_guest p id or_refuse 7 ∷ is_some (Some c) or_refuse 11 ∷ []) c t.order
        (go_on 7 (is_some (Some c) or_refuse 11 ∷ []) (there_has p id k t) ∙ go_on 11 [] refl ∙ none_left)

-- a capacity that passes the test works
works_good : (p : Plan) (k c : ℕ) → 1 ≤ c → c ≤ (guest_at p.guests k).period → works p k c ≡ true → CapacityWorks p k c
unfolding works
works_good p k c low high e = record {
  low = low;
  high = high;
  fitted = fitted_all (with_capacity p k c) k (and_left (fitted_to (with_capacity p k c) k) _ e);
  met = met_in_time (with_capacity p k c) k (and_right (fitted_to (with_capacity p k c) k) _ e);
}

-- a capacity that works passes the test
good_works : (p : Plan) (k c : ℕ) → CapacityWorks p k c → works p k c ≡ true
unfolding works
good_works p k c g =
    and_true (all_fitted (with_capacity p k c) k g.fitted) (in_time_met (with_capacity p k c) k g.met)

-- what the search says is what the answer means
search_means : (p : Plan) (k : ℕ) (f : Option ℕ) → Says (works p k) (guest_at p.guests k).period 1 f
    → CapacityMeans p k (capacity_says f)
search_means p k None o = record {
  number = refl;
  nowhere = refl;
  none = λ c g. false≢true (sym (o.never c g.low (omega (arith, g.high))) ∙ good_works p k c g);
}
search_means p k (Some c) o = record {
  works = works_good p k c o.low (omega (arith, o.high)) o.holds;
  least = λ z l g. false≢true (sym (o.first z g.low l) ∙ good_works p k z g);
}

-- the answer has its meaning
pub capacity_answer_means : (p : Plan) (id k : ℕ) → There p id k → CapacityMeans p k (smallest_capacity p id)
unfolding smallest
capacity_answer_means p id k t =
    rw (capacity_answer_is p id k t)
    (search_means p k (smallest p k) (least_says (works p k) (guest_at p.guests k).period 1))

-- two answers that mean the same are one
capacity_means_one : (p : Plan) (k : ℕ) (v u : Result ℕ Refusal) → CapacityMeans p k v → CapacityMeans p k u → v ≡ u
capacity_means_one p k (Err r) (Err s) a b =
    ap (λ (n : ℕ). Err (refused n r.place)) (a.number ∙ sym b.number)
    ∙ ap (λ (n : ℕ). Err (refused s.number n)) (a.nowhere ∙ sym b.nowhere)
capacity_means_one p k (Err r) (Ok d) a b = absurd (a.none d b.works)
capacity_means_one p k (Ok c) (Err r) a b = absurd (b.none c a.works)
capacity_means_one p k (Ok c) (Ok d) a b =
    let h : ¬ (c < d) = λ l. b.least c l a.works in
    let g : ¬ (d < c) = λ l. a.least d l b.works in
    ap Ok (let e : c ≡ d = omega arith in e)

-- no other answer has that meaning
pub capacity_answer_only : (p : Plan) (id k : ℕ) → There p id k → (v : Result ℕ Refusal) → CapacityMeans p k v
    → v ≡ smallest_capacity p id
capacity_answer_only p id k t v a = capacity_means_one p k v (smallest_capacity p id) a (capacity_answer_means p id k t)
