-- What the code reads off columns and records is what the definitions say of the plan. Assumes nothing.
use Rattle.std.specs.Prelude.{Option, is_some}
use mathlib.Core.Path.{◌≡◌, refl, sym, ◌∙◌, ap, fun_ext}
use mathlib.Core.Bool.{Bool, ◌&&◌, not}
use mathlib.Core.List.{List}
use Prim.Native.Nat.{ℕ, suc, ◌+◌, ◌-◌, ◌≤◌, ◌<◌}
use native.Mathlib.Numerals.{add-one}
use native.Mathlib.Omega.{arith}
use Rattle.lists.specs.All.{all_to}
use Rattle.lists.specs.Places.{nth}
use Rattle.equation.specs.Guest.{guest_under}
use Rattle.equation.specs.System.{System, gap_for}
use Rattle.plan.specs.Records.{guest_at}
use Rattle.plan.specs.Marks.{is_bound}
use Rattle.plan.specs.Filled.{Filled}
use Rattle.plan.specs.Ranges.{most_guests}
use Rattle.plan.specs.declared.Guest.{Guest}
use Rattle.plan.specs.declared.Plan.{Plan}
use Rattle.response.specs.declared.servers.Servers.{Servers}
use Rattle.response.specs.declared.tasks.Tasks.{Tasks}
use Rattle.response.specs.Interference.{interference}
use Rattle.response.specs.Guest.{guest_response, fitted, fitted_to}
use Rattle.response.specs.Task.{gap, system_of, response_to}
use Rattle.response.specs.Met.{met, all_met, accepted}
use Rattle.response.specs.Columns.{ServersOf, TasksOf, above_of, fitted_of, guests_take, fitted_at, column_system, met_under, fitted_in, accepted_in, accepted_under}
use Rattle.rounding.proofs.Asked.{asked_mono, asked_same}
use Rattle.equation.proofs.Alike.{SameTasks, task_alike}
use Rattle.equation.proofs.Rise.{Grows}
use Rattle.lists.proofs.All.{all_ext, all_and}

-- what the plan's guests above take grows with the window
pub interference_grows : (p : Plan) (k : ℕ) → Grows (interference p k)
unfolding interference
interference_grows p k a b h = asked_mono _ _ _ k h

-- a guest off the columns of its tasks and of their J is the guest, seen from its tasks
pub tasks_alike : (above : ℕ → ℕ) (g : Guest) {t : Tasks} {late : List ℕ} → TasksOf g t
    → Filled late (λ i. gap_for (is_bound g i) (g.period - g.capacity)) t.count
    → SameTasks (column_system above g.capacity g.period t.run t.every late) (system_of above g) t.count
unfolding gap
tasks_alike above g o l = record {
  capacity = refl;
  period = refl;
  above = refl;
  run = rw (← o.count) at o.runs.holds;
  every = λ j h. rw o.every refl;
  gap = l.holds;
}

-- the guests of two systems that are alike in their first n tasks are accepted alike
pub accepted_alike : (S S' : System) (deadline : ℕ → ℕ) (n : ℕ) → SameTasks S S' n
    → accepted_in S deadline n ≡ accepted_in S' deadline n
unfolding accepted_in met_under
accepted_alike S S' deadline n a =
    ap (λ (b : Bool). fitted_in S && b)
    (all_ext _ _ n (λ i h. ap is_some (task_alike S S' n i h a (deadline i))))
    ∙ rw (a.capacity, a.period, a.above) refl

-- the guest of such columns is accepted where the guest is
pub tasks_accept : (above : ℕ → ℕ) (g : Guest) {t : Tasks} {late : List ℕ} → TasksOf g t
    → Filled late (λ i. gap_for (is_bound g i) (g.period - g.capacity)) t.count
    → accepted_in (column_system above g.capacity g.period t.run t.every late) (nth t.deadline) t.count
    ≡ accepted_under above g
tasks_accept above g {t} o l =
    accepted_alike _ (system_of above g) (nth t.deadline) t.count (tasks_alike above g o l)
    ∙ rw (o.deadline, o.count) refl

-- what the code's test for no answer says of the answer
pub test_is : {f a : Option ℕ} {r b : Bool} → f ≡ a → is_some f ≡ not r → r ≡ b → is_some a ≡ not b
test_is e q t = ap is_some (sym e) ∙ q ∙ ap not t

-- a guest of a plan is accepted where it is fitted and all its tasks are met
pub accepted_is : (p : Plan) (k : ℕ)
    → accepted_under (interference p k) (guest_at p.guests k) ≡ (fitted p k && all_met p k)
unfolding accepted_in met_under fitted guest_response all_met met response_to
accepted_is p k = refl

-- the servers of a plan
module _ (p : Plan) {s : Servers} (f : ServersOf p.guests most_guests s) where
  -- they take what the plan's guests take
  pub servers_take : (k : ℕ) → k ≤ 8 → above_of s k ≡ interference p k
  unfolding guests_take interference
  servers_take k h =
      fun_ext (λ v. asked_same (nth s.capacities) (nth s.periods) (nth s.jitters) _ _ _ k v
      (λ j l. f.capacities.holds j (omega arith)) (λ j l. f.periods.holds j (omega arith))
      (λ j l. f.jitters.holds j (omega arith)))

  -- the response of the server at place k is that of the plan's guest
  pub servers_respond : (k : ℕ) → k < 8
      → guest_under (above_of s k) (nth s.capacities k) (nth s.periods k) ≡ guest_response p k
  unfolding guest_response
  servers_respond k h = rw (servers_take k (omega arith), f.capacities.holds k h, f.periods.holds k h) refl

  -- the first n servers are fitted where the plan's guests are
  pub servers_fit : (n : ℕ) → n ≤ 8 → all_to (fitted_of s) n ≡ all_to (fitted p) n
  unfolding fitted_at fitted
  servers_fit n h = all_ext _ _ n (λ j l. ap is_some (servers_respond j (omega arith)))

  -- the server at place k and all above are fitted where the plan's guests are
  pub servers_fit_to : (k : ℕ) → k < 8 → all_to (fitted_of s) (k + 1) ≡ fitted_to p k
  unfolding fitted_to
  servers_fit_to k h = rw add-one (servers_fit (suc k) (omega arith))

  -- they are accepted where the plan's guests and tasks are
  pub servers_accept : p.count ≤ 8
      → all_to (λ k. accepted_under (above_of s k) (guest_at p.guests k)) p.count ≡ accepted p
  unfolding accepted
  servers_accept h =
      all_ext _ (λ k. fitted p k && all_met p k) p.count (λ k l. rw (servers_take k (omega arith)) (accepted_is p k))
      ∙ all_and (fitted p) (all_met p) p.count
