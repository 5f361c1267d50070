-- What a call in place gives, beside the state that it leaves, is what the call by value gives.
use Rattle.std.specs.Prelude.{ℕ, Result, Ok, Err}
use Rattle.plan.specs.declared.Refusal.{Refusal}
use Rattle.plan.specs.First.{refused, fine}
use Rattle.dispatcher.specs.declared.Answer.TheVariants.{Silent}
use Rattle.dispatcher.specs.declared.Dispatcher.{Dispatcher}
use Rattle.dispatcher.specs.declared.Ran.{Ran}
use Rattle.dispatcher.specs.declared.Released.{Released}
use Rattle.dispatcher.specs.declared.RunOutcome.{RunOutcome}

-- the refusal of a start, or none
abbrev pub refusal_of : Result Unit Refusal → Refusal
refusal_of (Ok u) = fine
refusal_of (Err r) = r

-- a release
abbrev pub released_in : Result Unit ℕ → (after : Dispatcher) → Released
released_in (Ok u) after = record { refusal = fine; state = after }
released_in (Err n) after = record { refusal = refused n 0; state = after }

-- a run: one that is refused does no tick
abbrev pub ran_in : Result RunOutcome ℕ → (after : Dispatcher) → Ran
ran_in (Ok r) after = record { refusal = fine; done = r.done; answer = r.answer; state = after }
ran_in (Err n) after = record { refusal = refused n 0; done = 0; answer = Silent; state = after }
