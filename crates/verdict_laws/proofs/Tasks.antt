-- A task's verdict has its meaning and is the only one that has it. Assumes nothing.
use Rattle.std.specs.Prelude.{Option, Some, None, is_some, Result, Ok, Err}
use mathlib.Core.Path.{◌≡◌, refl, sym, ◌∙◌, ap, subst}
use mathlib.Core.Bool.{Bool, true, false, false≢true}
use mathlib.Core.List.{[], ◌∷◌}
use Prim.Native.Nat.{ℕ, suc, ◌+◌, ◌-◌, ◌≤◌, ◌<◌}
use native.Mathlib.Omega.{arith}
use lib.Dec.{leb}
use borrow.Author.Tests.{leb-true, leb-false}
use Rattle.lists.specs.Refusals.{◌or_refuse◌}
use Rattle.equation.specs.Solve.{solve}
use Rattle.plan.specs.Place.{place_of, has_guest, has_task}
use Rattle.equation.specs.System.{response_of, later, task_under}
use Rattle.plan.specs.Ranges.{within}
use Rattle.plan.specs.Records.{guest_at, deadline_of}
use Rattle.plan.specs.declared.Plan.{Plan}
use Rattle.plan.specs.declared.Refusal.{Refusal}
use Rattle.response.specs.Guest.{fitted, fitted_to}
use Rattle.response.specs.Task.{gap, task_right, response_to, limit, task_response}
use Rattle.response.specs.Met.{met, all_met}
use Rattle.verdict.specs.Verdict.{quoted_by, task_says, task_verdict}
use Rattle.verdict.specs.Quoted.{Quotes, Quoted}
use Rattle.verdict.specs.declared.TaskVerdict.{TaskVerdict}
use Rattle.verdict.specs.declared.TaskVerdict.TheVariants.{Met, UnmetAt, Unmet, Unjudged}
use Rattle.verdict_laws.specs.Guests.{There, AllFit}
use Rattle.verdict_laws.specs.Tasks.{TaskSolves, InTime, InPeriod, TaskQuoted, TaskMet, TaskUnmetAt, TaskUnmet, TaskUnjudged, TaskMeans, TaskThere, AllInTime}
use Rattle.lists.proofs.All.{all_at, all_by, all_false}
use Rattle.lists.proofs.Search.{is_at_lem}
use Rattle.equation.proofs.Solve.{Answers, solve_answers, solve_by}
use Rattle.lists.proofs.Refusals.{none_left, go_on, passed}
use Rattle.plan.proofs.RangesLaws.{within_says, within_right}
use Rattle.verdict_laws.proofs.Guests.{answered, asked_for, there_place, there_has, has_there, fits_fitted, fitted_all}

-- the verdict of task number i + 1 is that of task i's response
pub task_verdict_is :
    (p : Plan) (id k i : ℕ)
    → There p id k
    → i < (guest_at p.guests k).tasks
    → task_verdict p id (suc i)
    ≡ Ok (task_says (fitted_to p k) (deadline_of (guest_at p.guests k) i) (task_response p k i))
unfolding task_verdict has_task
task_verdict_is p id k i t h =
    let place = there_place p id k t in
    let has : within 1 (guest_at p.guests (place_of p id)).tasks (suc i) ≡ true =
    rw place (within_right (guest_at p.guests k).tasks (suc i) (omega arith) (omega arith)) in
    let number : suc i - 1 ≡ i = omega arith in
    let eight = go_on 8 [] has ∙ none_left in
    answered p (has_guest p id or_refuse 7 ∷ has_task p id (suc i) or_refuse 8 ∷ []) _ t.order
    (go_on 7 (has_task p id (suc i) or_refuse 8 ∷ []) (there_has p id k t) ∙ eight)
    ∙ rw (place, number) refl

-- under fitted guests a response means the least solution, met or unmet by the deadline, and none means that there is
-- no solution up to the period
response_means : (p : Plan) (k i : ℕ) → AllFit p k → (f : Option ℕ)
    → Answers (task_right p k i) (limit (guest_at p.guests k) i - gap (guest_at p.guests k) i) f
    → TaskMeans p k i
    (Ok (task_says true (deadline_of (guest_at p.guests k) i) (later (gap (guest_at p.guests k) i) f)))
unfolding task_says limit response_of
response_means p k i all None a = record { fitted = all; none = λ w s h. a w s.low (omega arith) s.solves }
response_means p k i all (Some w) a = by (leb r deadline) refl
  where
    r : ℕ
    r = w + gap (guest_at p.guests k) i

    deadline : ℕ
    deadline = deadline_of (guest_at p.guests k) i

    quoted : TaskQuoted p k i r
    quoted = record {
      fitted = all;
      w = w;
      solves = record { low = a.low; solves = a.sol };
      least = λ z l s. (let h : w ≤ z = a.under z s.low s.solves in omega arith);
      response = refl;
      in_period = unfold limit in omega (arith, a.low, a.high);
    }

    by : (b : Bool) → leb r deadline ≡ b → TaskMeans p k i (Ok (quoted_by b r))
    by true e = unfold quoted_by in record { quoted = quoted; in_time = omega (arith, leb-true r deadline e) }
    by false e = unfold quoted_by in record { quoted = quoted; late = omega (arith, leb-false r deadline e) }

-- under an unfit guest unjudged has its meaning
unjudged_means : (p : Plan) (k i deadline : ℕ) (f : Option ℕ) → fitted_to p k ≡ false
    → TaskMeans p k i (Ok (task_says false deadline f))
unfolding task_says fitted_to
unjudged_means p k i deadline f e =
    let x = all_false (fitted p) (suc k) e in
    record { j = x.0; above = omega (arith, x.1); unfit = λ y s. false≢true (sym x.2 ∙ fits_fitted p x.0 y s) }

-- the verdict has its meaning
pub task_verdict_means : (p : Plan) (id k i : ℕ) → There p id k → i < (guest_at p.guests k).tasks
    → TaskMeans p k i (task_verdict p id (suc i))
unfolding task_response response_to task_under task_right
task_verdict_means p id k i t h = rw (task_verdict_is p id k i t h) (go (fitted_to p k) refl)
  where
    room : ℕ
    room = limit (guest_at p.guests k) i - gap (guest_at p.guests k) i

    go : (b : Bool) → fitted_to p k ≡ b
        → TaskMeans p k i (Ok (task_says b (deadline_of (guest_at p.guests k) i) (task_response p k i)))
    go false e = unjudged_means p k i _ (task_response p k i) e
    go true e = response_means p k i (fitted_all p k e) (solve (task_right p k i) room)
        (solve_answers (task_right p k i) room)

-- a verdict that is no refusal is of a task that is there, and has its meaning
pub judged_means : (p : Plan) (id number : ℕ) {v : TaskVerdict} → task_verdict p id number ≡ Ok v
    → TaskThere p id number × TaskMeans p (place_of p id) (number - 1) (Ok v)
unfolding task_verdict has_task
judged_means p id number {v} e =
    let r = asked_for p (has_guest p id or_refuse 7 ∷ has_task p id number or_refuse 8 ∷ []) e in
    let seven = passed (has_guest p id) 7 _ (omega arith) r.1.0 in
    let eight = passed (has_task p id number) 8 [] (omega arith) seven.1 in
    let n = within_says 1 (guest_at p.guests (place_of p id)).tasks number eight.0 in
    let t = has_there p id r.0 seven.0 in
    let from_1 : number ≡ suc (number - 1) = omega (arith, n.0) in
    let in_guest : number - 1 < (guest_at p.guests (place_of p id)).tasks = omega (arith, n.0, n.1) in
    let is : task_verdict p id (suc (number - 1)) ≡ Ok v = subst (λ (m : ℕ). task_verdict p id m ≡ Ok v) from_1 e in (
      record { there = t; from_1 = from_1; in_guest = in_guest },
      rw is at (task_verdict_means p id (place_of p id) (number - 1) t in_guest),
    )

-- a verdict that quotes R means that R is quoted
pub quotes_mean : (p : Plan) (k i R : ℕ) (v : Result TaskVerdict Refusal) → Quotes v R → TaskMeans p k i v
    → TaskQuoted p k i R
quotes_mean p k i R (Err r) q a = absurd q
quotes_mean p k i R (Ok (Met r)) q a = rw (← q) a.quoted
quotes_mean p k i R (Ok (UnmetAt r)) q a = rw (← q) a.quoted
quotes_mean p k i R (Ok Unmet) q a = absurd q
quotes_mean p k i R (Ok Unjudged) q a = absurd q

-- a response that is quoted is that of a task that is there, under fitted guests
pub quoted_means : (p : Plan) (id number R : ℕ) → Quoted p id number R
    → TaskThere p id number × TaskQuoted p (place_of p id) (number - 1) R
quoted_means p id number R q = go (task_verdict p id number) refl q
  where
    go : (v : Result TaskVerdict Refusal) → task_verdict p id number ≡ v → Quotes v R
        → TaskThere p id number × TaskQuoted p (place_of p id) (number - 1) R
    go (Err r) e q = absurd q
    go (Ok v) e q =
        let (t, a) = judged_means p id number e in
        (t, quotes_mean p (place_of p id) (number - 1) R (Ok v) q a)

-- two responses by least solutions are one
quoted_one : (p : Plan) (k i r s : ℕ) → TaskQuoted p k i r → TaskQuoted p k i s → r ≡ s
quoted_one p k i r s a b =
    let h : ¬ (a.w < b.w) = λ l. b.least a.w l a.solves in
    let g : ¬ (b.w < a.w) = λ l. a.least b.w l b.solves in
    omega (arith, a.response, b.response)

-- met and unmet exclude each other
met_late : (p : Plan) (k i r s : ℕ) → TaskMet p k i r → TaskUnmetAt p k i s → ⊥
met_late p k i r s a b = omega (arith, quoted_one p k i r s a.quoted b.quoted, a.in_time, b.late)

-- quoted and not quoted exclude each other
quoted_unmet : (p : Plan) (k i r : ℕ) → TaskQuoted p k i r → TaskUnmet p k i → ⊥
quoted_unmet p k i r a b = b.none a.w a.solves (omega (arith, a.response, a.in_period))

-- judged and unjudged exclude each other
pub judged_unjudged : (p : Plan) (k : ℕ) → AllFit p k → TaskUnjudged p k → ⊥
judged_unjudged p k all b = let x = all b.j b.above in b.unfit x.0 x.1

-- two verdicts that mean the same are one
task_means_one : (p : Plan) (k i : ℕ) (v u : Result TaskVerdict Refusal) → TaskMeans p k i v → TaskMeans p k i u → v ≡ u
task_means_one p k i (Err o) u a b = absurd a
task_means_one p k i (Ok (Met r)) (Err o) a b = absurd b
task_means_one p k i (Ok (Met r)) (Ok (Met s)) a b = ap (λ (r : ℕ). Ok (Met r)) (quoted_one p k i r s a.quoted b.quoted)
task_means_one p k i (Ok (Met r)) (Ok (UnmetAt s)) a b = absurd (met_late p k i r s a b)
task_means_one p k i (Ok (Met r)) (Ok Unmet) a b = absurd (quoted_unmet p k i r a.quoted b)
task_means_one p k i (Ok (Met r)) (Ok Unjudged) a b = absurd (judged_unjudged p k a.quoted.fitted b)
task_means_one p k i (Ok (UnmetAt r)) (Err o) a b = absurd b
task_means_one p k i (Ok (UnmetAt r)) (Ok (Met s)) a b = absurd (met_late p k i s r b a)
task_means_one p k i (Ok (UnmetAt r)) (Ok (UnmetAt s)) a b =
    ap (λ (r : ℕ). Ok (UnmetAt r)) (quoted_one p k i r s a.quoted b.quoted)
task_means_one p k i (Ok (UnmetAt r)) (Ok Unmet) a b = absurd (quoted_unmet p k i r a.quoted b)
task_means_one p k i (Ok (UnmetAt r)) (Ok Unjudged) a b = absurd (judged_unjudged p k a.quoted.fitted b)
task_means_one p k i (Ok Unmet) (Err o) a b = absurd b
task_means_one p k i (Ok Unmet) (Ok (Met s)) a b = absurd (quoted_unmet p k i s b.quoted a)
task_means_one p k i (Ok Unmet) (Ok (UnmetAt s)) a b = absurd (quoted_unmet p k i s b.quoted a)
task_means_one p k i (Ok Unmet) (Ok Unmet) a b = refl
task_means_one p k i (Ok Unmet) (Ok Unjudged) a b = absurd (judged_unjudged p k a.fitted b)
task_means_one p k i (Ok Unjudged) (Err o) a b = absurd b
task_means_one p k i (Ok Unjudged) (Ok (Met s)) a b = absurd (judged_unjudged p k b.quoted.fitted a)
task_means_one p k i (Ok Unjudged) (Ok (UnmetAt s)) a b = absurd (judged_unjudged p k b.quoted.fitted a)
task_means_one p k i (Ok Unjudged) (Ok Unmet) a b = absurd (judged_unjudged p k b.fitted a)
task_means_one p k i (Ok Unjudged) (Ok Unjudged) a b = refl

-- no other verdict has that meaning
pub task_verdict_only : (p : Plan) (id k i : ℕ) → There p id k → i < (guest_at p.guests k).tasks
    → (v : Result TaskVerdict Refusal)
    → TaskMeans p k i v → v ≡ task_verdict p id (suc i)
task_verdict_only p id k i t h v a =
    task_means_one p k i v (task_verdict p id (suc i)) a (task_verdict_means p id k i t h)

-- under fitted guests a solution up to the period has a response that is quoted
pub quoted_where : (p : Plan) (id k i : ℕ) → There p id k → i < (guest_at p.guests k).tasks → AllFit p k → (w : ℕ)
    → TaskSolves p k i w → InPeriod p k i w
    → (R : ℕ) × Quoted p id (suc i) R
quoted_where p id k i t h all w s l = go (task_verdict p id (suc i)) (task_verdict_means p id k i t h)
  where
    go : (v : Result TaskVerdict Refusal) → TaskMeans p k i v → (R : ℕ) × Quotes v R
    go (Err r) a = absurd a
    go (Ok (Met r)) a = (r, refl)
    go (Ok (UnmetAt r)) a = (r, refl)
    go (Ok Unmet) a = absurd (a.none w s l)
    go (Ok Unjudged) a = absurd (judged_unjudged p k all a)

-- the tasks of a guest that passes the test have solutions in time
pub met_in_time : (p : Plan) (k : ℕ) → all_met p k ≡ true → AllInTime p k
unfolding all_met
met_in_time p k e i h =
    go (solve (task_right p k i) room) refl (solve_answers (task_right p k i) room)
    (all_at (met p k) (guest_at p.guests k).tasks i h e)
  where
    room : ℕ
    room = deadline_of (guest_at p.guests k) i - gap (guest_at p.guests k) i

    go : (f : Option ℕ) → solve (task_right p k i) room ≡ f → Answers (task_right p k i) room f → met p k i ≡ true
        → (w : ℕ) × TaskSolves p k i w × InTime p k i w
    go None q a m = unfold met response_to task_under task_right in
        absurd (false≢true (sym (ap (λ (f : Option ℕ). is_some (later (gap (guest_at p.guests k) i) f)) q) ∙ m))
    go (Some w) q a m = (w, record { low = a.low; solves = a.sol }, omega (arith, a.low, a.high))

-- a guest whose tasks have solutions in time passes the test
pub in_time_met : (p : Plan) (k : ℕ) → AllInTime p k → all_met p k ≡ true
unfolding all_met met response_to task_under task_right
in_time_met p k a = all_by (met p k) (guest_at p.guests k).tasks (λ i h. (
    let s = a i h in
    let g = guest_at p.guests k in
    let f = solve_by (task_right p k i) (deadline_of g i - gap g i) s.0 s.1.low (omega (arith, s.2))
    s.1.solves in
    is_at_lem (ap (later (gap g i)) f.1)))
