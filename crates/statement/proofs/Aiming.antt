-- How the code comes to where the entries of a block are counted, entry by entry. Assumes nothing.
use mathlib.Core.Path.{◌≡◌, refl, sym, ◌∙◌}
use mathlib.Core.Bool.{Bool, true, false, ◌&&◌}
use mathlib.Core.List.{List, []}
use Prim.Native.Nat.{ℕ, ◌+◌, ◌<◌}
use native.Mathlib.Decide.{ℕ_discrete}
use native.Mathlib.Omega.{arith}
use lib.ListN.{length, set, length-set}
use lib.Seq.{get_or-set_same, get_or-set_other}
use Rattle.std.proofs.Common.{Result, Ok, Err}
use Rattle.lists.specs.All.{all_to}
use Rattle.lists.specs.Choice.{pick}
use Rattle.lists.specs.Places.{nth}
use Rattle.plan.specs.declared.Plan.{Plan}
use Rattle.plan.specs.Place.{has_guest, has_task}
use Rattle.logblock.specs.Reading.{entry_in}
use Rattle.statement.specs.Counting.{line_of}
use Rattle.statement.specs.Lent.{Aimed, aim_of, missing}
use Rattle.lists.proofs.All.{all_none, all_next, all_turn, all_fails, and_false_right}
use Rattle.lists.proofs.Refusals.{go_on, stop}

-- What the outcome for one entry says.
line_says :
    (g t : Bool) (l : ℕ) {line : ℕ}
    → ◌≡◌ {A = Result ℕ ℕ} (Ok line) (pick g (pick t (Ok l) (Err 8)) (Err 7))
    → (g ≡ true) × ((t ≡ true) × (line ≡ l))
line_says true true l e = (refl, (refl, cc))
line_says true false l e = absurd cc
line_says false t l e = absurd cc

task_says :
    (g t : Bool) (l : ℕ)
    → ◌≡◌ {A = Result ℕ ℕ} (Err 8) (pick g (pick t (Ok l) (Err 8)) (Err 7))
    → (g ≡ true) × (t ≡ false)
task_says true true l e = absurd cc
task_says true false l e = (refl, refl)
task_says false t l e = absurd cc

guest_says :
    (g t : Bool) (l : ℕ) {x : ℕ}
    → ◌≡◌ {A = Result ℕ ℕ} (Err x) (pick g (pick t (Ok l) (Err 8)) (Err 7))
    → (x ≡ 8 → ⊥)
    → (g ≡ false) × (x ≡ 7)
guest_says true true l e n = absurd cc
guest_says true false l e n = absurd (n cc)
guest_says false t l e n = (refl, cc)

module _ (p : Plan) (b : List ℕ) where
  -- The first n entries were looked at: each guest is there, and each task where no task was missed.
  pub record Aims (n : ℕ) (at : List ℕ) (named : Bool) : Type 0 where
    pub long : length at ≡ 41
    pub guests : all_to (λ j. has_guest p (entry_in b j).guest) n ≡ true
    pub tasks : named ≡ all_to (λ j. has_task p (entry_in b j).guest (entry_in b j).task) n
    pub lines : named ≡ true → (j : ℕ) → j < n → nth at j ≡ line_of p (entry_in b j)

  -- None is looked at yet.
  pub aims_none : (at : List ℕ) → length at ≡ 41 → Aims 0 at true
  aims_none at l =
      record { long = l; guests = all_none _; tasks = sym (all_none _); lines = λ e j h. absurd (omega arith) }

  module _ {n : ℕ} {at : List ℕ} {tasks : Bool} (A : Aims n at tasks) where
    -- One more has a line.
    pub aims_line :
        {line : ℕ} → n < 41 → Ok line ≡ aim_of p (entry_in b n) → Aims (n + 1) (set at n line) tasks
    aims_line {line} h e =
        let g = has_guest p (entry_in b n).guest in
        let t = has_task p (entry_in b n).guest (entry_in b n).task in
        let w = line_says g t _ e in
        record {
          long = length-set at n line ∙ A.long;
          guests = all_next _ n A.guests w.0;
          tasks = by_true tasks ∙ all_turn _ n tasks true A.tasks (sym w.1.0);
          lines = λ t j l.
              elim (ℕ_discrete j n) [
                | yes q ↦ rw q (get_or-set_same at n line 0 (omega (arith, A.long)) ∙ w.1.1)
                | no q ↦ get_or-set_other at n j line 0 q ∙ A.lines t j (omega arith)
              ];
        }
      where
        by_true : (t : Bool) → t ≡ (t && true)
        by_true true = refl
        by_true false = refl

    -- One more has no task.
    pub aims_no_task : Err 8 ≡ aim_of p (entry_in b n) → Aims (n + 1) at false
    aims_no_task e =
        let g = has_guest p (entry_in b n).guest in
        let t = has_task p (entry_in b n).guest (entry_in b n).task in
        let w = task_says g t _ e in
        record {
          long = A.long;
          guests = all_next _ n A.guests w.0;
          tasks = sym (and_false_right tasks refl) ∙ all_turn _ n tasks false A.tasks (sym w.1);
          lines = λ t. absurd cc;
        }

    -- One more has no guest.
    pub aims_no_guest :
        {m x : ℕ}
        → n < m
        → Err x ≡ aim_of p (entry_in b n)
        → (x ≡ 8 → ⊥)
        → (0 < x) × (x ≡ missing p b m)
    unfolding missing
    aims_no_guest {m} h e q =
        let g = has_guest p (entry_in b n).guest in
        let t = has_task p (entry_in b n).guest (entry_in b n).task in
        let w = guest_says g t _ e q in
        (omega (arith, w.1), w.1 ∙ sym (stop 7 _ (sym (all_fails _ m n h w.0))))

  -- All were: they have their lines, or a task is missing.
  pub aims_done : {n : ℕ} {at : List ℕ} → Aims n at true → Aimed p b n at
  aims_done A = record { guests = A.guests; tasks = sym A.tasks; lines = A.lines refl }

  pub aims_lack : {n : ℕ} {at : List ℕ} → Aims n at false → (0 < 8) × (8 ≡ missing p b n)
  unfolding missing
  aims_lack A = (omega arith, sym (go_on 7 _ A.guests ∙ stop 8 [] (sym A.tasks)))
