-- Which tasks may not be released where their guests stand. Inner: no promise of an entry names this.
use Rattle.std.specs.Prelude.{◌≡◌, Bool, true, List, ℕ, ◌<◌, ltb}
use Rattle.lists.specs.Choice.{pick}
use Rattle.lists.specs.Places.{nth}
use Rattle.plan.specs.declared.Plan.{Plan}
use Rattle.plan.specs.Records.{guest_at}
use Rattle.plan.specs.Filled.{Filled}

-- The marks of a guest's tasks that may not be released where it stands: none at position 0, else all.
abbrev pub barred_by : (marks position : ℕ) → ℕ
barred_by marks position = pick (ltb 0 position) marks 0

-- Where it is said to be clear, none of the first n guests bars a task.
abbrev pub Clear : Bool → (n : ℕ) → (barred : List ℕ) → Type 0
Clear isClear n barred = isClear ≡ true → (k : ℕ) → k < n → nth barred k ≡ 0

-- The column of what the first n guests of a plan bar, and whether it is clear.
pub record BarredTo (p : Plan) (position : List ℕ) (n : ℕ) (barred : List ℕ) (isClear : Bool) : Type 0 where
  pub column : Filled barred (λ k. barred_by (guest_at p.guests k).marks (nth position k)) n
  pub nothing : Clear isClear n barred
