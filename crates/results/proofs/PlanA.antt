-- The promises of Word and Dispatcher at plan A, where guest 9 has response 14 and its second task is quoted 80; at
-- plan A with a first deadline of 35, where its first task is unmet and quoted 36; and why the promises to a task
-- speak of quoted tasks alone.
use mathlib.Core.Path.{◌≡◌}
use mathlib.Core.List.{List, []}
use Prim.Native.Nat.{ℕ, suc, ◌+◌, ◌*◌, ◌≤◌, ◌<◌}
use native.Mathlib.Omega.{arith}
use lib.IntN.{negsuc}
use Rattle.margins.specs.Margin.{margin_of}
use Rattle.dispatcher.specs.Release.{release}
use Rattle.dispatcher.specs.State.{rest_at}
use Rattle.lists.specs.Exactly.{◌exactly_when◌}
use Rattle.verdict.specs.Quoted.{Quoted}
use Rattle.dispatcher_laws.specs.Usage.{with_usage}
use Rattle.history.specs.Calls.{Call, running, start, play, released, times, ticks_in, answers, NoneTaken}
use Rattle.history.specs.Finished.{FinishedBy}
use Rattle.history.specs.Named.{rest_by, age_by}
use Rattle.history.specs.Settings.{SameOutcome}
use Rattle.history.specs.Share.{share}
use Rattle.worked.specs.Plans.{A, A35, plan_D}
use Rattle.verdict.proofs.Quoted.{met_quoted, unmet_quoted}
use Rattle.results.proofs.Computed.{computed}
use Rattle.results.proofs.Numbers.{numbers}
use Rattle.results.proofs.Dispatcher.{nine_exactly, ten_exactly, unbound_here, usage_unseen}
use Rattle.results.proofs.Word.{sure_of_capacity, had_by_response, quoted_sure, younger, finished_by_R, first_taken}

-- A cause that holds needs no saying.
without : {A H B : Type 0} → H → A exactly_when (H × B) → A exactly_when B
without h N = (λ a. (N.0 a).1, λ b. N.1 (h, b))

-- The second task of guest 9 is met with 80, so it is quoted 80.
second_80 : Quoted A 9 2 80
second_80 = met_quoted A 9 2 80 numbers.second_task

-- With a deadline of 35 its first task is unmet with 36, so it is quoted 36.
first_36 : Quoted A35 9 1 36
first_36 = unmet_quoted A35 9 1 36 numbers.first_late

-- In each 20 ticks from the start on that are over, guest 9 has had 8.
pub guest_9_has_8 :
    (cs : List Call) (k : ℕ)
    → suc k * 20 ≤ ticks_in cs (start A)
    → share 9 (answers cs (start A)) (k * 20) 20 ≡ 8
guest_9_has_8 = rw computed.place_A at (sure_of_capacity A 9 14 numbers.second computed.can_A)

-- Guest 9 has had these 8 by the 14th tick of each 20, its response.
pub guest_9_by_14 :
    (cs : List Call) (k : ℕ)
    → k * 20 + 14 ≤ ticks_in cs (start A)
    → share 9 (answers cs (start A)) (k * 20) 14 ≡ 8
guest_9_by_14 = rw computed.place_A at (had_by_response A 9 14 numbers.second computed.can_A)

-- The second task of guest 9 being quoted, guest 7 above it is sure of 2 in each 5 ticks.
pub guest_7_has_2 :
    (cs : List Call) (k : ℕ)
    → suc k * 5 ≤ ticks_in cs (start A)
    → share 7 (answers cs (start A)) (k * 5) 5 ≡ 2
guest_7_has_2 =
    rw computed.place_top at
    (quoted_sure A 9 2 80 second_80 computed.can_A 7 (rw (computed.place_top, computed.place_A) (omega arith)))

-- In every history an unfinished job of guest 9's second task is younger than 80.
pub second_below_80 : (cs : List Call) → 0 < rest_by A 9 2 (play cs (start A)) → age_by A 9 2 (play cs (start A)) < 80
second_below_80 = younger A 9 2 80 second_80 computed.can_A

-- Whatever is called before, the first release of that task is taken.
pub second_taken : (cs : List Call) → NoneTaken 9 2 cs (start A) → (release (play cs (start A)) 9 2).refusal.number ≡ 0
second_taken cs none =
    first_taken A 9 2 80 second_80 computed.can_A cs none (unbound_here A 9 2 (play cs (start A)) computed.unbound_A)

-- Released at the start, it has been told finished after 80 ticks, however they are called for, 20 ticks or more
-- before its deadline.
pub second_finished :
    (ds : List Call)
    → 80 ≤ ticks_in ds (released A 9 2 [])
    → FinishedBy 80 100 9 2 ds (released A 9 2 [])
second_finished = rw computed.place_A at (finished_by_R A 9 2 80 second_80 computed.can_A [] computed.taken_A)

-- Released at the start, that task is refused by 9 exactly before 100 ticks are done.
pub second_nine :
    (ds : List Call)
    → NoneTaken 9 2 ds (released A 9 2 [])
    → ((release (play ds (released A 9 2 [])) 9 2).refusal.number ≡ 9)
    exactly_when (ticks_in ds (released A 9 2 []) < 100)
second_nine ds none =
    let N = nine_exactly A computed.can_A 9 2 [] computed.taken_A ds none in
    let here = unbound_here A 9 2 (play ds (released A 9 2 [])) computed.unbound_A in
    rw computed.place_A at (without here N)

-- With any numbers beside the state, a run of 50 ticks there has the same outcome but for them.
pub second_unseen : (u : List ℕ) → SameOutcome (running 50) (with_usage (released A 9 2 []) u) (released A 9 2 [])
second_unseen = usage_unseen (running 50) (released A 9 2 [])

-- Unmet 36: released at the start, the task has been told finished after 36 ticks.
pub late_finished :
    (ds : List Call)
    → 36 ≤ ticks_in ds (released A35 9 1 [])
    → FinishedBy 36 35 9 1 ds (released A35 9 1 [])
late_finished = rw computed.place_A35 at (finished_by_R A35 9 1 36 first_36 computed.can_A35 [] computed.taken_A35)

-- Its margin there is -1 or more: the deadline 35 less 36.
pub late_margin : margin_of 35 36 ≡ negsuc 0
late_margin = computed.late_margin

-- Case 7: a release of that task since the start is refused by 10 exactly when its period of 10 ticks has passed and
-- its job has run left.
pub case_7_ten :
    (ds : List Call)
    → NoneTaken 7 1 ds (released plan_D 7 1 [])
    → ((release (play ds (released plan_D 7 1 [])) 7 1).refusal.number ≡ 10)
    exactly_when ((10 ≤ ticks_in ds (released plan_D 7 1 [])) × (0 < rest_at (play ds (released plan_D 7 1 [])) 0 0))
case_7_ten ds none =
    let N = ten_exactly plan_D computed.can_gap 7 1 [] computed.taken_gap ds none in
    let here = unbound_here plan_D 7 1 (play ds (released plan_D 7 1 [])) computed.unbound_gap in
    rw computed.place_gap at (without here N)

-- The guest 1/1000 there is fitted, but its task is not quoted; released at tick 0, it is turned away at tick 10,
-- though its period has passed.
pub case_7_turned_away : (release (play (times 10) (released plan_D 7 1 [])) 7 1).refusal.number ≡ 10
case_7_turned_away = numbers.gap_again
