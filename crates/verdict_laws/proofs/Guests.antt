-- A guest's verdict has its meaning and is the only one that has it: the search's answer is the least solution.
-- Assumes nothing.
use Rattle.std.specs.Prelude.{Option, Some, None, Result, Ok, Err}
use mathlib.Core.Path.{◌≡◌, refl, sym, ◌∙◌, ap}
use mathlib.Core.Bool.{true, false≢true}
use mathlib.Core.List.{List, [], ◌∷◌}
use Prim.Native.Nat.{ℕ, suc, ◌≤◌, ◌<◌}
use native.Mathlib.Omega.{arith}
use lib.Dec.{eqb}
use borrow.Author.Tests.{eq-eqb, lt-ltb, ltb-true}
use Rattle.lists.specs.Refusals.{Test, refusal, ◌or_refuse◌}
use Rattle.plan.specs.First.{or_else, unless_refused}
use Rattle.plan.specs.Order.{plan_refusal, records_then}
use Rattle.plan.specs.Place.{place_of, has_guest}
use Rattle.plan.specs.Records.{guest_at}
use Rattle.plan.specs.declared.Plan.{Plan}
use Rattle.plan.specs.declared.Refusal.{Refusal}
use Rattle.equation.specs.Guest.{guest_under}
use Rattle.response.specs.Guest.{guest_right, guest_response, fitted, fitted_to}
use Rattle.verdict.specs.Verdict.{guest_says, guest_verdict}
use Rattle.verdict.specs.declared.GuestVerdict.{GuestVerdict}
use Rattle.verdict.specs.declared.GuestVerdict.TheVariants.{Fitted, Unfit}
use Rattle.verdict_laws.specs.Guests.{There, GuestSolves, Responds, AllFit, GuestMeans}
use Rattle.lists.proofs.All.{all_at, all_by}
use Rattle.lists.proofs.Search.{at_of, is_at_lem, first_before}
use Rattle.equation.proofs.Solve.{Solved, Answers, solve_answers, solve_by}
use Rattle.plan.proofs.Order.{plan_in, records_none}
use Rattle.lists.proofs.Refusals.{none_left, go_on, passed}
use Rattle.plan.proofs.First.{ok_says}
use Rattle.verdict_laws.proofs.Ids.{id_of, found_id, id_one}

-- where nothing refuses, what is asked for is answered
pub answered : {A : Type 0} (p : Plan) (tests : List Test) (v : A) → (plan_refusal p).number ≡ 0 → refusal tests ≡ 0
    → unless_refused (records_then p tests) v ≡ Ok v
unfolding records_then or_else
answered p tests v o t = rw (o, t) refl

-- an answer that is no refusal is what was asked for, and nothing refused it
pub asked_for : {A : Type 0} (p : Plan) (tests : List Test) {v a : A} → unless_refused (records_then p tests) v ≡ Ok a
    → ((plan_refusal p).number ≡ 0) × ((refusal tests ≡ 0) × (v ≡ a))
asked_for p tests e =
    let s = ok_says (records_then p tests) (sym e) in
    let o = records_none p tests s.0 in
    (o.0, (o.1, sym s.1))

-- the search finds the id at its place, since an id stands for one guest
pub there_place : (p : Plan) (id k : ℕ) → There p id k → place_of p id ≡ k
unfolding place_of
there_place p id k t =
    let passed : ¬ (k < place_of p id) =
    λ l. false≢true (sym (first_before (λ j. eqb (id_of p j) id) p.count 0 k (omega arith) l)
    ∙ eq-eqb _ _ t.named) in
    let found : place_of p id < p.count = omega (arith, t.place) in
    id_one p (plan_in p t.order) (place_of p id) k found t.place
    (found_id p id (place_of p id) refl found ∙ sym t.named)

-- a guest that is there is not refused by 7
pub there_has : (p : Plan) (id k : ℕ) → There p id k → has_guest p id ≡ true
unfolding has_guest
there_has p id k t = lt-ltb (place_of p id) p.count (omega (arith, there_place p id k t, t.place))

-- a guest that is not refused by 7 is there
pub has_there : (p : Plan) (id : ℕ) → (plan_refusal p).number ≡ 0 → has_guest p id ≡ true → There p id (place_of p id)
unfolding has_guest
has_there p id ok h =
    let place = ltb-true (place_of p id) p.count h in
    record { order = ok; place = place; named = found_id p id (place_of p id) refl place }

-- the verdict is that of the response
pub guest_verdict_is : (p : Plan) (id k : ℕ) → There p id k → guest_verdict p id ≡ Ok (guest_says (guest_response p k))
unfolding guest_verdict
guest_verdict_is p id k t =
    answered p (has_guest p id or_refuse 7 ∷ []) _ t.order (go_on 7 [] (there_has p id k t) ∙ none_left)
    ∙ ap (λ (j : ℕ). Ok (guest_says (guest_response p j))) (there_place p id k t)

-- a response means the least solution, none that there is no solution
response_means : (p : Plan) (k : ℕ) (f : Option ℕ) → Answers (guest_right p k) (guest_at p.guests k).period f
    → GuestMeans p k (Ok (guest_says f))
response_means p k None a = λ x s. a x s.low s.high s.solves
response_means p k (Some x) a = record {
  fits = record { low = a.low; high = a.high; solves = a.sol };
  least = λ z l s. (let h : x ≤ z = a.under z s.low s.solves in omega arith);
}

-- the verdict has its meaning
pub guest_verdict_means : (p : Plan) (id k : ℕ) → There p id k → GuestMeans p k (guest_verdict p id)
unfolding guest_response guest_under guest_right
guest_verdict_means p id k t =
    rw (guest_verdict_is p id k t)
    (response_means p k (guest_response p k) (solve_answers (guest_right p k) (guest_at p.guests k).period))

-- two least solutions are one
responds_one : (p : Plan) (k x y : ℕ) → Responds p k x → Responds p k y → x ≡ y
responds_one p k x y a b =
    let h : ¬ (x < y) = λ l. b.least x l a.fits in
    let g : ¬ (y < x) = λ l. a.least y l b.fits in
    omega arith

-- two verdicts that mean the same are one
guest_means_one : (p : Plan) (k : ℕ) (v u : Result GuestVerdict Refusal) → GuestMeans p k v → GuestMeans p k u → v ≡ u
guest_means_one p k (Err r) u a b = absurd a
guest_means_one p k (Ok (Fitted x)) (Err r) a b = absurd b
guest_means_one p k (Ok (Fitted x)) (Ok (Fitted y)) a b = ap (λ (x : ℕ). Ok (Fitted x)) (responds_one p k x y a b)
guest_means_one p k (Ok (Fitted x)) (Ok Unfit) a b = absurd (b x a.fits)
guest_means_one p k (Ok Unfit) (Err r) a b = absurd b
guest_means_one p k (Ok Unfit) (Ok (Fitted y)) a b = absurd (a y b.fits)
guest_means_one p k (Ok Unfit) (Ok Unfit) a b = refl

-- no other verdict has that meaning
pub guest_verdict_only : (p : Plan) (id k : ℕ) → There p id k → (v : Result GuestVerdict Refusal) → GuestMeans p k v
    → v ≡ guest_verdict p id
guest_verdict_only p id k t v a = guest_means_one p k v (guest_verdict p id) a (guest_verdict_means p id k t)

-- a guest that is fitted has a solution
pub fitted_fits : (p : Plan) (j : ℕ) → fitted p j ≡ true → (x : ℕ) × GuestSolves p j x
unfolding fitted guest_response guest_under guest_right
fitted_fits p j e =
    let x = at_of (guest_response p j) e in
    let s : Solved (guest_right p j) (guest_at p.guests j).period x.0 =
    rw x.1 at (solve_answers (guest_right p j) (guest_at p.guests j).period) in
    (x.0, record { low = s.low; high = s.high; solves = s.sol })

-- a guest that has a solution is fitted
pub fits_fitted : (p : Plan) (j x : ℕ) → GuestSolves p j x → fitted p j ≡ true
unfolding fitted guest_response guest_under guest_right
fits_fitted p j x s =
    is_at_lem (solve_by (guest_right p j) (guest_at p.guests j).period x s.low s.high s.solves).1

-- where the guests down to place k are fitted each has a solution
pub fitted_all : (p : Plan) (k : ℕ) → fitted_to p k ≡ true → AllFit p k
unfolding fitted_to
fitted_all p k e j l = fitted_fits p j (all_at (fitted p) (suc k) j (omega arith) e)

-- where the guests down to place k have solutions all are fitted
pub all_fitted : (p : Plan) (k : ℕ) → AllFit p k → fitted_to p k ≡ true
unfolding fitted_to
all_fitted p k a = all_by (fitted p) (suc k) (λ j l. (let x = a j (omega arith) in fits_fitted p j x.0 x.1))

-- fitted x is no refusal: the guest is there, and x its response
pub fitted_means : (p : Plan) (id x : ℕ) → guest_verdict p id ≡ Ok (Fitted x)
    → There p id (place_of p id) × Responds p (place_of p id) x
unfolding guest_verdict
fitted_means p id x e =
    let r = asked_for p (has_guest p id or_refuse 7 ∷ []) e in
    let t = has_there p id r.0 (passed (has_guest p id) 7 [] (omega arith) r.1.0).0 in
    (t, rw e at (guest_verdict_means p id (place_of p id) t))
