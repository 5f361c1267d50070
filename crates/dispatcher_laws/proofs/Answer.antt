-- Laws of a tick's answer: what it is by who had the tick. Assumes nothing.
use mathlib.Core.Path.{◌≡◌, refl}
use Prim.Native.Nat.{ℕ, ◌+◌, ◌≤◌, ◌<◌}
use borrow.Author.Tests.{le-ltb, lt-ltb}
use Rattle.plan.specs.Records.{deadline_of}
use Rattle.margins.specs.Margin.{margin_of}
use Rattle.dispatcher.specs.declared.Dispatcher.{Dispatcher}
use Rattle.dispatcher.specs.declared.Answer.{Answer}
use Rattle.dispatcher.specs.declared.Answer.TheVariants.{Nobody, Idled, Worked, Finished}
use Rattle.dispatcher.specs.Answer.{holder_id, answer_by, answer}
use Rattle.dispatcher.specs.State.{guest_in, rest_at, age_at}
use Rattle.dispatcher.specs.Tick.{holder, worker, next}
use Rattle.dispatcher_laws.proofs.Tick.{is_held_lem, not_held, is_worked_lem, not_worked}

-- the answer that task t of guest k is finished by this tick
abbrev pub finished_by : Dispatcher → (k t : ℕ) → Answer
finished_by d k t =
    Finished (guest_in d k).id (t + 1) (age_at (next d) k t) (margin_of (deadline_of (guest_in d k) t) (age_at (next d) k t))

module _ (d : Dispatcher) where
  -- Where no guest holds capacity, the answer is that nobody has the tick.
  pub answer_nobody : d.plan.count ≤ holder d → answer d ≡ Nobody
  unfolding answer answer_by
  answer_nobody h = rw (not_held d h) refl

  -- Where no task of the guest has run left, the answer is that the guest idles the tick away.
  pub answer_idled : holder d < d.plan.count → (guest_in d (holder d)).tasks ≤ worker d → answer d ≡ Idled (holder_id d)
  unfolding answer answer_by
  answer_idled h l = rw (is_held_lem d h, not_worked d l) refl

  -- Where the task has more run left than this tick, the answer names guest and task.
  pub answer_worked :
      holder d < d.plan.count
      → worker d < (guest_in d (holder d)).tasks
      → 1 < rest_at d (holder d) (worker d)
      → answer d ≡ Worked (holder_id d) (worker d + 1)
  unfolding answer answer_by
  answer_worked h l m = rw (is_held_lem d h, is_worked_lem d h l, lt-ltb 1 (rest_at d (holder d) (worker d)) m) refl

  -- Where the tick is the last of the task's run, the answer is that the job is finished.
  pub answer_finished :
      holder d < d.plan.count
      → worker d < (guest_in d (holder d)).tasks
      → rest_at d (holder d) (worker d) ≤ 1
      → answer d ≡ finished_by d (holder d) (worker d)
  unfolding answer answer_by next
  answer_finished h l m = rw (is_held_lem d h, is_worked_lem d h l, le-ltb 1 (rest_at d (holder d) (worker d)) m) refl
