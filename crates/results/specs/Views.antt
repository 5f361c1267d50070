-- What guest 9 of plan A can tell, written out: over 44 ticks beside a guest 7 that is never released, and then a few
-- views for each thing that does show when it is changed.
use Rattle.std.specs.Prelude.{◌≡◌, List, [], ◌∷◌, ◌++◌, ℕ, zero, suc, ◌+◌, ◌*◌, pos}
use Rattle.plan.specs.declared.Plan.{Plan}
use Rattle.sheet.specs.Sheet.{pair_base}
use Rattle.history.specs.Calls.{Call, releasing, ticking, running, sheeting, start, times}
use Rattle.independence.specs.Event.{Event, answered, elsewhere, idled, worked, finished}
use Rattle.independence.specs.Own.{own}
use Rattle.independence.specs.View.{view}
use Rattle.worked.specs.Plans.{A, guest, plan_of}

-- Plan A with this capacity and period of guest 7, and this capacity of guest 9.
abbrev pub plan_with : (capacity period below : ℕ) → Plan
plan_with capacity period below =
    plan_of
    (guest 7 capacity period 0 (1 ∷ []) (20 ∷ []) (20 ∷ [])
    ∷ guest 9 below 20 0 (10 ∷ 8 ∷ []) (50 ∷ 100 ∷ []) (50 ∷ 100 ∷ [])
    ∷ [])

-- Another plan around guest 9: above it a guest 8 with two tasks and a charge that cannot keep its deadlines, and a
-- guest 11 below it.
abbrev pub crowded : Plan
crowded =
    plan_of
    (guest 8 2 5 9 (40 ∷ 3 ∷ []) (50 ∷ 5 ∷ []) (41 ∷ 4 ∷ [])
    ∷ guest 9 8 20 0 (10 ∷ 8 ∷ []) (50 ∷ 100 ∷ []) (50 ∷ 100 ∷ [])
    ∷ guest 11 6 10 0 (5 ∷ []) (5 ∷ []) (5 ∷ [])
    ∷ [])

-- These calls before each of n ticks.
unfoldable pub before : List Call → ℕ → List Call
before cs zero = []
before cs (suc n) = cs ++ (ticking ∷ before cs n)

-- Guest 9's tasks are both released at the start, and the first of them again after 44 ticks; these calls come before
-- each of the ticks.
abbrev pub among : List Call → List Call
among cs = releasing 9 1 ∷ releasing 9 2 ∷ (before cs 44 ++ (releasing 9 1 ∷ []))

-- Nobody else is ever released.
abbrev pub quiet : List Call
quiet = among []

-- Guest 7's task is released at every chance.
abbrev pub pressed : List Call
pressed = among (releasing 7 1 ∷ [])

-- All tasks of the other guests of the crowded plan are released at every chance, and one of a guest that it does not
-- have.
abbrev pub beset : List Call
beset = among (releasing 8 1 ∷ releasing 8 2 ∷ releasing 11 1 ∷ releasing 12 1 ∷ [])

-- The pair of a sheet that is a release of this guest's task.
abbrev pub pair_of : (guest task : ℕ) → ℕ
pair_of guest task = guest * pair_base + task

-- Guest 9's releases come on sheets, among pairs of other guests. Before each of the ticks comes a sheet of a pair of
-- guest 9 with no place for an answer, which is refused whole.
abbrev pub sheeted : List Call
sheeted =
    sheeting (pair_of 7 1 ∷ pair_of 9 1 ∷ pair_of 12 1 ∷ pair_of 9 2 ∷ []) 4
    ∷ (before (sheeting (pair_of 9 1 ∷ []) 0 ∷ []) 44 ++ (sheeting (pair_of 9 1 ∷ pair_of 7 1 ∷ []) 9 ∷ []))

-- What guest 9 can tell in all these, five ticks to a line: the first task is finished at age 24, the second at age 44,
-- and the last release comes too early.
abbrev pub shown : List Event
shown =
    answered 1 0
    ∷ answered 2 0
    ∷ elsewhere ∷ elsewhere ∷ worked 1 ∷ worked 1 ∷ worked 1
    ∷ elsewhere ∷ elsewhere ∷ worked 1 ∷ worked 1 ∷ worked 1
    ∷ elsewhere ∷ elsewhere ∷ worked 1 ∷ worked 1 ∷ elsewhere
    ∷ elsewhere ∷ elsewhere ∷ elsewhere ∷ elsewhere ∷ elsewhere
    ∷ elsewhere ∷ elsewhere ∷ worked 1 ∷ finished 1 24 (pos 26) ∷ worked 2
    ∷ elsewhere ∷ elsewhere ∷ worked 2 ∷ worked 2 ∷ worked 2
    ∷ elsewhere ∷ elsewhere ∷ worked 2 ∷ worked 2 ∷ elsewhere
    ∷ elsewhere ∷ elsewhere ∷ elsewhere ∷ elsewhere ∷ elsewhere
    ∷ elsewhere ∷ elsewhere ∷ worked 2 ∷ finished 2 44 (pos 56)
    ∷ answered 1 9
    ∷ []

-- Guest 9's views that are computed, one list with a single statement.
pub record Views : Type 0 where
  -- Beside a guest 7 that is never released, over 44 ticks.
  pub unreleased : view 9 quiet (start A) ≡ shown
  -- Guest 7's capacity shows: with 3 instead of 2 it has the third tick too.
  pub over_2 : view 9 (times 3) (start (plan_with 2 5 8)) ≡ elsewhere ∷ elsewhere ∷ idled ∷ []
  pub over_3 : view 9 (times 3) (start (plan_with 3 5 8)) ≡ elsewhere ∷ elsewhere ∷ elsewhere ∷ []
  -- Guest 7's period shows: with 4 instead of 5 it has the fifth tick too.
  pub every_5 : view 9 (times 5) (start (plan_with 2 5 8)) ≡ elsewhere ∷ elsewhere ∷ idled ∷ idled ∷ idled ∷ []
  pub every_4 : view 9 (times 5) (start (plan_with 2 4 8)) ≡ elsewhere ∷ elsewhere ∷ idled ∷ idled ∷ elsewhere ∷ []
  -- Guest 9's own record shows: with capacity 1 instead of 8 the fourth tick is not its own.
  pub own_8 : view 9 (times 4) (start (plan_with 2 5 8)) ≡ elsewhere ∷ elsewhere ∷ idled ∷ idled ∷ []
  pub own_1 : view 9 (times 4) (start (plan_with 2 5 1)) ≡ elsewhere ∷ elsewhere ∷ idled ∷ elsewhere ∷ []
  -- When its own release comes shows: before the third tick or after it.
  pub sooner : view 9 (releasing 9 1 ∷ times 3) (start A) ≡ answered 1 0 ∷ elsewhere ∷ elsewhere ∷ worked 1 ∷ []
  pub later : view 9 (times 3 ++ (releasing 9 1 ∷ [])) (start A) ≡ elsewhere ∷ elsewhere ∷ idled ∷ answered 1 0 ∷ []
  -- On a sheet guest 9 can tell the answers of its own pairs: the first is taken, and the same again comes too early.
  pub on_a_sheet :
      view 9 (sheeting (pair_of 9 1 ∷ pair_of 7 1 ∷ pair_of 9 1 ∷ []) 3 ∷ []) (start A) ≡ answered 1 0 ∷ answered 1 9 ∷ []
  -- A sheet that is refused whole tells it nothing.
  pub refused_whole : view 9 (sheeting (pair_of 9 1 ∷ pair_of 7 1 ∷ pair_of 9 1 ∷ []) 2 ∷ []) (start A) ≡ []
  -- In a run another guest's release shows, though the same is asked for guest 9: the run stops at that guest's finish.
  pub same_run : own 9 (releasing 7 1 ∷ running 4 ∷ []) ≡ own 9 (running 4 ∷ [])
  pub stopped : view 9 (releasing 7 1 ∷ running 4 ∷ []) (start A) ≡ elsewhere ∷ []
  pub not_stopped : view 9 (running 4 ∷ []) (start A) ≡ elsewhere ∷ elsewhere ∷ idled ∷ idled ∷ []
