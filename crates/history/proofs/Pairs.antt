-- Demand 3 for the pairs of sheets: what holds of a single release after the pairs before it. Assumes nothing.
use mathlib.Core.Path.{◌≡◌, refl, sym, ap, ◌∙◌}
use mathlib.Core.List.{List, ◌∷◌, ◌++◌}
use Prim.Native.Nat.{ℕ, suc, ◌≤◌}
use native.Mathlib.Omega.{arith}
use lib.ListN.{take, drop}
use Rattle.lists.specs.Places.{nth}
use Rattle.plan.specs.declared.Plan.{Plan}
use Rattle.dispatcher.specs.declared.Dispatcher.{Dispatcher}
use Rattle.dispatcher.specs.Release.{release}
use Rattle.sheet.specs.Sheet.{pair_guest, pair_task, answer_to}
use Rattle.verdict.specs.Quoted.{Quoted}
use Rattle.history.specs.Calls.{CanStart, Call, releasing, sheeting, start, after, play, released, ticks_in, NoneTaken}
use Rattle.history.specs.Finished.{FinishedBy}
use Rattle.history.specs.Named.{every_by, deadline_by, StartsHere}
use Rattle.history.specs.Sheets.{releases, up_to_pair, PairOf, NotBefore}
use Rattle.history.proofs.FinishedBy.{finished_by_R}
use Rattle.history.proofs.Positions.{here_in_sheet}
use Rattle.history.proofs.Sheets.{play_append, sheet_is_releases, pair_is_release, around, ticks_append, releases_none, none_up_to, finished_later}
use Rattle.history.proofs.NeverTurnedAway as turned

-- The answer to a pair is the number of a single release after the pairs before it.
pub as_release :
    (d : Dispatcher) (cs : List Call) (pairs : List ℕ) (room i : ℕ) {id number : ℕ}
    → PairOf (play cs d) pairs room i id number
    → answer_to (play cs d) pairs i ≡ (release (play (up_to_pair cs pairs i) d) id number).refusal.number
as_release d cs pairs room i Q =
    rw (← Q.names_guest, ← Q.names_task) (pair_is_release d cs pairs i (omega (arith, Q.there)))

module _ (p : Plan) (cs : List Call) (pairs : List ℕ) (room i : ℕ) {id number : ℕ}
    (Q : PairOf (play cs (start p)) pairs room i id number) where
  -- After the pair come the releases of those behind it, and then the sheet is done.
  pub rest_done :
      after (sheeting pairs room) (play cs (start p))
      ≡ play (releases (drop (suc i) pairs)) (released p id number (up_to_pair cs pairs i))
  unfolding play
  rest_done =
      sheet_is_releases (play cs (start p)) pairs room Q.whole
      ∙ ap (λ (l : List Call). play l (play cs (start p))) (around pairs i Q.there)
      ∙ play_append (releases (take i pairs))
      (releasing (pair_guest (nth pairs i)) (pair_task (nth pairs i)) ∷ releases (drop (suc i) pairs)) (play cs (start p))
      ∙ rw (Q.names_guest, Q.names_task, play_append cs (releases (take i pairs)) (start p)) refl

module _ (p : Plan) (id number R : ℕ) (quoted : Quoted p id number R) (can : CanStart p) (cs : List Call)
    (pairs : List ℕ) (room i : ℕ) (Q : PairOf (play cs (start p)) pairs room i id number) where
  -- A pair that is taken is finished by the R-th tick after the sheet.
  pub pair_finished_by_R :
      answer_to (play cs (start p)) pairs i ≡ 0
      → (ds : List Call)
      → R ≤ ticks_in ds (after (sheeting pairs room) (play cs (start p)))
      → FinishedBy R (deadline_by p id number) id number ds (after (sheeting pairs room) (play cs (start p)))
  pair_finished_by_R taken ds h =
      let e = released p id number (up_to_pair cs pairs i) in
      let later = releases (drop (suc i) pairs) in
      let done = rest_done p cs pairs room i Q in
      let long : R ≤ ticks_in ds (play later e) = rw done at h in
      rw done
      (finished_later (drop (suc i) pairs) ds e
      (finished_by_R p id number R quoted can (up_to_pair cs pairs i) (sym (as_release (start p) cs pairs room i Q) ∙ taken)
      (later ++ ds)
      (omega (arith, ticks_append later ds e, releases_none (drop (suc i) pairs) e))))

  -- A pair is taken if no release of the task was taken before, in the history or in the sheet, where it may start.
  pub pair_first_taken :
      NoneTaken id number cs (start p)
      → StartsHere p id number (play cs (start p))
      → NotBefore (play cs (start p)) pairs i id number
      → answer_to (play cs (start p)) pairs i ≡ 0
  pair_first_taken none here not =
      as_release (start p) cs pairs room i Q
      ∙ turned.first_taken p id number R quoted can (up_to_pair cs pairs i)
      (none_up_to cs pairs i (start p) (omega (arith, Q.there)) none not)
      (here_in_sheet p id number cs pairs i (start p) here)

  -- A pair is never refused by 10.
  pub pair_never_10 : answer_to (play cs (start p)) pairs i ≡ 10 → ⊥
  pair_never_10 e =
      turned.never_10 p id number R quoted can (up_to_pair cs pairs i) (sym (as_release (start p) cs pairs room i Q) ∙ e)

module _ (p : Plan) (id number R : ℕ) (quoted : Quoted p id number R) (can : CanStart p) where
  -- A pair is taken if at least the task's period of ticks was done since the last release of it that was taken, and
  -- none was taken earlier in the sheet, where it may start.
  pub pair_next_taken :
      (cs : List Call)
      → (release (play cs (start p)) id number).refusal.number ≡ 0
      → (ds : List Call)
      → NoneTaken id number ds (released p id number cs)
      → every_by p id number ≤ ticks_in ds (released p id number cs)
      → StartsHere p id number (play ds (released p id number cs))
      → (pairs : List ℕ) (room i : ℕ)
      → PairOf (play ds (released p id number cs)) pairs room i id number
      → NotBefore (play ds (released p id number cs)) pairs i id number
      → answer_to (play ds (released p id number cs)) pairs i ≡ 0
  pair_next_taken cs taken ds none long here pairs room i Q not =
      let e = released p id number cs in
      as_release e ds pairs room i Q
      ∙ turned.next_taken p id number R quoted can cs taken (up_to_pair ds pairs i)
      (none_up_to ds pairs i e (omega (arith, Q.there)) none not)
      (omega (arith, ticks_append ds (releases (take i pairs)) e, releases_none (take i pairs) (play ds e)))
      (here_in_sheet p id number ds pairs i e here)
