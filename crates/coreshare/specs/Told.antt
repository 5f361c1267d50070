-- What a host is told: a number and values for each case of an answer. Refusals have document 01's numbers, the other
-- cases numbers of their own.
use Rattle.std.specs.Prelude.{ℕ, pos, Result, Ok, Err}
use Rattle.plan.specs.declared.Refusal.{Refusal}
use Rattle.plan.specs.First.{fine}
use Rattle.verdict.specs.declared.GuestVerdict.{GuestVerdict}
use Rattle.verdict.specs.declared.TaskVerdict.{TaskVerdict}
use Rattle.verdict.specs.declared.Acceptance.{Acceptance}
use Rattle.dispatcher.specs.declared.Answer.{Answer}
use Rattle.dispatcher.specs.declared.Answer.TheVariants.{Silent, Nobody, Idled, Worked, Finished}
use Rattle.dispatcher.specs.declared.Ticked.{Ticked}
use Rattle.dispatcher.specs.declared.Ran.{Ran}
use Rattle.coreshare.specs.declared.Verdict.{Verdict}
use Rattle.coreshare.specs.declared.Told.{Told}
use Rattle.coreshare.specs.declared.Tick.{Tick}
use Rattle.coreshare.specs.declared.Run.{Run}
use Rattle.verdict.specs.declared.GuestVerdict.TheVariants as guest
use Rattle.verdict.specs.declared.TaskVerdict.TheVariants as task
use Rattle.verdict.specs.declared.Acceptance.TheVariants as plan

-- A refusal, or none, is told as number and place: those of none are 0.
abbrev pub refusal_told : Result Unit Refusal → Refusal
refusal_told (Ok u) = fine
refusal_told (Err r) = r

-- A refusal is told by its number, with its place.
abbrev pub refusing : (number place : ℕ) → Verdict
refusing number place = record { number = number; place = place; verdict = 0; ticks = 0 }

-- A verdict is told by its number, with its ticks.
abbrev pub saying : (verdict ticks : ℕ) → Verdict
saying verdict ticks = record { number = 0; place = 0; verdict = verdict; ticks = ticks }

-- A guest's verdict is 1 for fitted, with its response x, and 2 for unfit.
unfoldable pub guest_told : Result GuestVerdict Refusal → Verdict
guest_told (Err r) = refusing r.number r.place
guest_told (Ok (guest.Fitted x)) = saying 1 x
guest_told (Ok guest.Unfit) = saying 2 0

-- A task's verdict is 1 for met, with its response; 2 for unmet, with its response or with 0 where none is quoted,
-- since a response is at least 1; 3 for unjudged.
unfoldable pub task_told : Result TaskVerdict Refusal → Verdict
task_told (Err r) = refusing r.number r.place
task_told (Ok (task.Met r)) = saying 1 r
task_told (Ok (task.UnmetAt r)) = saying 2 r
task_told (Ok task.Unmet) = saying 2 0
task_told (Ok task.Unjudged) = saying 3 0

-- A plan's verdict is 1 for accepted and 2 for not accepted.
unfoldable pub plan_told : Result Acceptance Refusal → Verdict
plan_told (Err r) = refusing r.number r.place
plan_told (Ok plan.Accepted) = saying 1 0
plan_told (Ok plan.NotAccepted) = saying 2 0

-- The smallest capacity is 1 with the capacity in ticks; that there is none is a refusal, 11.
unfoldable pub capacity_told : Result ℕ Refusal → Verdict
capacity_told (Err r) = refusing r.number r.place
capacity_told (Ok c) = saying 1 c

-- A tick's answer is 0 for no answer, 1 if nobody had the tick, 2 if a guest idled it away, 3 if a task worked, and 4
-- if a job finished, with its age and margin.
unfoldable pub told : Answer → Told
told Silent = record { kind = 0; guest = 0; task = 0; age = 0; margin = pos 0 }
told Nobody = record { kind = 1; guest = 0; task = 0; age = 0; margin = pos 0 }
told (Idled g) = record { kind = 2; guest = g; task = 0; age = 0; margin = pos 0 }
told (Worked g t) = record { kind = 3; guest = g; task = t; age = 0; margin = pos 0 }
told (Finished g t a m) = record { kind = 4; guest = g; task = t; age = a; margin = m }

-- What a tick gives: the refusal, the answer told in numbers, and the next state.
unfoldable pub tick_told : Ticked → Tick
tick_told s = record { refusal = s.refusal; answer = told s.answer; state = s.state }

-- What a run gives: the refusal, how many ticks were done, the last answer told in numbers, and the next state.
unfoldable pub run_told : Ran → Run
run_told s = record { refusal = s.refusal; done = s.done; answer = told s.answer; state = s.state }
