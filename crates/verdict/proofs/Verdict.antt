-- How the code comes to a verdict: the way in, the test of 8, then the equations. Assumes nothing.
use Rattle.std.specs.Prelude.{Option, Ok, Err}
use mathlib.Core.Path.{◌≡◌, refl, ◌∙◌, ap}
use mathlib.Core.Bool.{Bool, true, false}
use mathlib.Core.List.{List, [], ◌∷◌}
use Prim.Native.Nat.{ℕ, ◌+◌, ◌-◌}
use native.Mathlib.Omega.{arith}
use Rattle.lists.specs.All.{all_to}
use Rattle.lists.specs.Places.{nth}
use Rattle.lists.specs.Refusals.{Test, refusal, ◌or_refuse◌}
use Rattle.plan.specs.First.{refused, or_else, unless_refused}
use Rattle.plan.specs.Order.{plan_refusal, records_then}
use Rattle.equation.specs.Guest.{guest_under}
use Rattle.equation.specs.System.{task_under}
use Rattle.plan.specs.Records.{guest_at, deadline_of}
use Rattle.plan.specs.Place.{place_of, has_guest, has_number, has_task}
use Rattle.plan.specs.LookUp.{LooksUp}
use Rattle.plan.specs.Promises.{Checks}
use Rattle.plan.specs.Ranges.{most_guests}
use Rattle.plan.specs.declared.Plan.{Plan}
use Rattle.plan.specs.declared.Refusal.{Refusal}
use Rattle.response.specs.declared.servers.Servers.{Servers}
use Rattle.verdict.specs.declared.GuestVerdict.{GuestVerdict}
use Rattle.verdict.specs.declared.TaskVerdict.{TaskVerdict}
use Rattle.verdict.specs.declared.TaskVerdict.TheVariants.{Unjudged}
use Rattle.response.specs.Guest.{guest_response, fitted_to}
use Rattle.response.specs.Task.{system_of, response_to, limit, task_response}
use Rattle.verdict.specs.Verdict.{guest_says, guest_verdict, task_says, task_verdict, accept_says, acceptance}
use Rattle.response.specs.Columns.{ServersOf, above_of, fitted_of, accepted_under}
use Rattle.lists.proofs.Refusals.{none_left, go_on, stop, passed}
use Rattle.plan.proofs.First.{ok_says, err_says, ok_unless, err_unless}
use Rattle.plan.proofs.LookUp.{look_few, look_place}
use Rattle.plan.proofs.Order.{plan_in, records_first, records_none}
use Rattle.response.proofs.ColumnsLaws.{servers_take, servers_respond, servers_fit_to, servers_accept}

-- a task under an unfit guest is unjudged
pub says_unjudged : {b : Bool} (deadline : ℕ) (f : Option ℕ) → b ≡ false → Unjudged ≡ task_says b deadline f
unfolding task_says
says_unjudged deadline f e = rw e refl

-- a task under fitted guests has the verdict of its response
pub says_judged : {b : Bool} (deadline : ℕ) {f a : Option ℕ} {v : TaskVerdict} → b ≡ true
    → v ≡ task_says true deadline f
    → f ≡ a → v ≡ task_says b deadline a
says_judged deadline e q t = rw (e, ← t) q

-- a refusal by the records' order ends what is asked of a plan
pub check_ends : {A : Type 0} (p : Plan) {r : Refusal} → Checks p (Err r) → (v : A)
    → Err r ≡ unless_refused (plan_refusal p) v
check_ends p e v =
    let s = err_says (plan_refusal p) tt e in err_unless (plan_refusal p) v s.0 (rw s.0 s.1)

-- a refusal of the way in ends what is asked of a guest, whatever is tested after 7
pub look_ends : {A : Type 0} (p : Plan) (id : ℕ) {r : Refusal} → LooksUp p id (Err r) → (ts : List Test) (v : A)
    → Err r ≡ unless_refused (records_then p (has_guest p id or_refuse 7 ∷ ts)) v
look_ends p id l ts v =
    let s = err_says (records_then p (has_guest p id or_refuse 7 ∷ [])) (place_of p id) l in
    err_unless (records_then p (has_guest p id or_refuse 7 ∷ ts)) v
    (s.0 ∙ records_first p (has_guest p id) 7 ts s.1) (rw s.0 s.1)

-- a guest that the way in found
module _ (p : Plan) (id : ℕ) {k : ℕ} (l : LooksUp p id (Ok k)) where
  abbrev here : List Test
  here = has_guest p id or_refuse 7 ∷ []

  -- the tests after 7 decide
  pub tests_left : (ts : List Test) → records_then p (has_guest p id or_refuse 7 ∷ ts) ≡ refused (refusal ts) 0
  unfolding records_then or_else
  tests_left ts =
      let o = records_none p here (ok_says (records_then p here) l).0 in
      rw (o.0, go_on 7 ts (passed (has_guest p id) 7 [] (omega arith) o.1).0) refl

  -- the test of 8 in the guest's record is the plan's
  task_there : (number : ℕ) {b : Bool} → b ≡ has_number (guest_at p.guests k).tasks number → has_task p id number ≡ b
  unfolding has_task
  task_there number e = rw (e, ← look_place p id l) refl

  -- a task that is not there is refused by 8
  pub task_missing : (number : ℕ) {b : Bool} → b ≡ has_number (guest_at p.guests k).tasks number → b ≡ false
      → Err (refused 8 0) ≡ task_verdict p id number
  unfolding task_verdict
  task_missing number e f =
      rw (tests_left (has_task p id number or_refuse 8 ∷ []), stop 8 [] (task_there number e ∙ f)) refl

  -- off the plan's servers
  module _ {s : Servers} (f : ServersOf p.guests most_guests s) where
    -- the verdict of the guest
    pub guest_judged : {x : Option ℕ} {v : GuestVerdict}
        → x ≡ guest_under (above_of s k) (nth s.capacities k) (nth s.periods k)
        → v ≡ guest_says x
        → Ok v ≡ guest_verdict p id
    unfolding guest_verdict
    guest_judged e q =
        ap Ok
        (q ∙ ap guest_says (e ∙ servers_respond p f k (look_few p id l) ∙ ap (guest_response p) (look_place p id l)))
        ∙ ok_unless (records_then p here) _ (omega (arith, (ok_says (records_then p here) l).0))

    -- the verdict of the task
    pub task_judged : (number : ℕ) {b : Bool} {v : TaskVerdict}
        → b ≡ has_number (guest_at p.guests k).tasks number → b ≡ true
        → v
        ≡ task_says (all_to (fitted_of s) (k + 1)) (deadline_of (guest_at p.guests k) (number - 1))
        (task_under (system_of (above_of s k) (guest_at p.guests k)) (number - 1)
        (limit (guest_at p.guests k) (number - 1)))
        → Ok v ≡ task_verdict p id number
    unfolding task_verdict task_response response_to
    task_judged number e t q =
        let i = number - 1 in
        let g = guest_at p.guests k in
        rw (tests_left (has_task p id number or_refuse 8 ∷ []), go_on 8 [] (task_there number e ∙ t), none_left)
        (ap Ok
        (q
        ∙ ap (λ (b : Bool). task_says b (deadline_of g i) (task_under (system_of (above_of s k) g) i (limit g i)))
        (servers_fit_to p f k (look_few p id l))
        ∙ ap (λ (above : ℕ → ℕ).
        task_says (fitted_to p k) (deadline_of g i) (task_under (system_of above g) i (limit g i)))
        (servers_take p f k (omega (arith, look_few p id l)))
        ∙ ap (λ (j : ℕ). task_says (fitted_to p j) (deadline_of (guest_at p.guests j) i) (task_response p j i))
        (look_place p id l)))

-- the acceptance of records in order is that of the test of all guests
pub plan_accepted : (p : Plan) → Checks p (Ok tt) → {s : Servers} → ServersOf p.guests most_guests s → {b : Bool}
    → b ≡ all_to (λ k. accepted_under (above_of s k) (guest_at p.guests k)) p.count
    → Ok (accept_says b) ≡ acceptance p
unfolding acceptance
plan_accepted p o f e =
    let ok = (ok_says (plan_refusal p) o).0 in
    ap (λ (b : Bool). Ok (accept_says b)) (e ∙ servers_accept p f (plan_in p ok).few)
    ∙ ok_unless (plan_refusal p) _ (omega (arith, ok))
