-- Entries that the dispatcher told: hosts that log what its calls hand back log such ones alone.
use Rattle.std.specs.Prelude.{◌≡◌, List, [], ◌∷◌, ℕ, ℤ, pos, ◌+ℤ◌}
use Rattle.lists.specs.Choice.{pick}
use Rattle.plan.specs.declared.Plan.{Plan}
use Rattle.dispatcher.specs.declared.Answer.TheVariants.{Finished}
use Rattle.logblock.specs.declared.Entry.{Entry}
use Rattle.history.specs.Calls.{Call, start, play, answer_of}
use Rattle.statement_laws.specs.Entries.{names}

-- An entry is what some call, after some history from the fresh start of the plan, handed back as finished.
pub record ToldFinish (p : Plan) (e : Entry) : Type 0 where
  pub before : List Call
  pub call : Call
  pub margin : ℤ
  pub told : answer_of call (play before (start p)) ≡ Finished e.guest e.task e.age margin

-- Each of these entries was told.
abbrev pub EachTold : Plan → List Entry → Type 0
EachTold p [] = Unit {0}
EachTold p (e ∷ es) = ToldFinish p e × EachTold p es

-- The sum of the margins that were told with the entries that name a task.
unfoldable pub told_margins : (p : Plan) → (guest task : ℕ) → (es : List Entry) → EachTold p es → ℤ
told_margins p guest task [] told = pos 0
told_margins p guest task (e ∷ es) told =
    pick (names guest task e) (told.0.margin +ℤ told_margins p guest task es told.1)
    (told_margins p guest task es told.1)
