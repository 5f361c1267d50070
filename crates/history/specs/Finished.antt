-- A job that is finished by R, as the caller is told it.
use Rattle.std.specs.Prelude.{◌≡◌, List, ◌∷◌, ◌++◌, ℕ, ◌+◌, ◌≤◌, ℤ, ◌≤ℤ◌}
use Rattle.dispatcher.specs.declared.Dispatcher.{Dispatcher}
use Rattle.dispatcher.specs.declared.Answer.{Answer}
use Rattle.dispatcher.specs.declared.Answer.TheVariants.{Finished}
use Rattle.margins.specs.Margin.{margin_of}
use Rattle.history.specs.Calls.{Call, play, ticks_of, ticks_in, answer_of}

-- In the history ds from the state d one of the calls hands back the answer a; with its ticks n ticks are done.
pub record HandedBack (ds : List Call) (d : Dispatcher) (n : ℕ) (a : Answer) : Type 0 where
  pub before : List Call
  pub call : Call
  pub later : List Call
  pub split : ds ≡ before ++ (call ∷ later)
  pub done : ticks_in before d + ticks_of call (play before d) ≡ n
  pub says : answer_of call (play before d) ≡ a

-- In the history ds from the state d the task is told finished within R ticks: its age counts the ticks, and its
-- margin is the deadline less the age, so at least the deadline less R.
pub record FinishedBy (R deadline : ℕ) (guest task : ℕ) (ds : List Call) (d : Dispatcher) : Type 0 where
  pub age : ℕ
  pub margin : ℤ
  pub by_R : age ≤ R
  pub spare : margin ≡ margin_of deadline age
  pub least : margin_of deadline R ≤ℤ margin
  pub told : HandedBack ds d age (Finished guest task age margin)
