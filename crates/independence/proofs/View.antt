-- A guest's view goes by its own asks alone: call by call, a sheet pair by pair, then over any history without runs.
-- Assumes nothing.
use mathlib.Core.Path.{◌≡◌, refl, sym, ap, ◌∙◌}
use mathlib.Core.Bool.{Bool, true, false, false≢true}
use mathlib.Core.List.{List, [], ◌∷◌, append-nil}
use Prim.Native.Nat.{ℕ}
use lib.Dec.{eqb}
use borrow.Author.Tests.{eqb-true, eq-eqb}
use Rattle.plan.specs.declared.Plan.{Plan}
use Rattle.dispatcher.specs.declared.Dispatcher.{Dispatcher}
use Rattle.dispatcher.specs.Release.{release}
use Rattle.sheet.specs.Sheet.{pair_guest, pair_task, pair_released}
use Rattle.history.specs.Calls.{Call, releasing, ticking, running, sheeting, after, play}
use Rattle.history.specs.Sheets.{releases}
use Rattle.independence.specs.Event.{answered}
use Rattle.independence.specs.View.{told, answered_if, sees_pairs, sees, view}
use Rattle.independence.specs.Own.{own_release, own_if, asks_pairs, sheet_fits, asks_sheet, asks, own, as_call, as_calls, only}
use Rattle.independence.specs.NoRuns.{NoRuns}
use Rattle.independence.specs.SameFor.{SameFor}
use Rattle.sheet.proofs.Entry.{sheet_same}
use Rattle.history.proofs.Sheets.{sheet_is_releases}
use Rattle.dispatcher_laws.proofs.Entries.{tick_answer, tick_state}
use Rattle.independence.proofs.Alike.{Alike, tasks_of}
use Rattle.independence.proofs.Followed.{Followed, followed_as, none_followed, then_followed}
use Rattle.independence.proofs.Tick.{alike_next}
use Rattle.independence.proofs.Told.{told_same}
use Rattle.independence.proofs.Sheet.{sheet_goes, sheet_stops, sees_each, sees_whole}
use Rattle.independence.proofs.Release.{same_answer, alike_own, alike_other}

-- The view of one call is what is seen of it.
view_one : (id : ℕ) (c : Call) (d : Dispatcher) → view id (c ∷ []) d ≡ sees id c d
unfolding view
view_one id c d = append-nil (sees id c d)

-- A guest is told the answer of its own release.
sees_own :
    (id task : ℕ) (d : Dispatcher)
    → sees id (releasing id task) d ≡ answered task (release d id task).refusal.number ∷ []
unfolding sees answered_if
sees_own id task d = rw (eq-eqb id id refl) refl

-- A release of its own is asked for.
asks_own : (id task : ℕ) → asks id (releasing id task) ≡ own_release task ∷ []
unfolding asks own_if
asks_own id task = rw (eq-eqb id id refl) refl

-- ---- one call
-- What the guest is shown of a call is followed by its own asks of it.
abbrev CallFollowed : (id k : ℕ) (p q : Plan) (c : Call) (d e : Dispatcher) → Type 0
CallFollowed id k p q c d e = Followed id k p q (sees id c d) (asks id c) (after c d) e

module _ {id k : ℕ} {p q : Plan} (S : SameFor id k p q) {d e : Dispatcher} (A : Alike k (tasks_of p k) p q d e) where
  -- A release of a task of its own.
  own_followed : (task : ℕ) → CallFollowed id k p q (releasing id task) d e
  unfolding after play as_calls as_call
  own_followed task = record {
    seen =
        rw (asks_own id task)
        (sees_own id task d
        ∙ ap (λ (n : ℕ). answered task n ∷ []) (same_answer S A task)
        ∙ sym (sees_own id task e)
        ∙ sym (view_one id (releasing id task) e));
    stays = rw (asks_own id task) (alike_own S A task);
  }

  -- A release of another guest's task.
  other_followed : (guest task : ℕ) → eqb guest id ≡ false → CallFollowed id k p q (releasing guest task) d e
  unfolding sees asks own_if answered_if after play as_calls view
  other_followed guest task x = record {
    seen = rw x refl;
    stays = rw x (alike_other S A guest task (λ z. false≢true (sym x ∙ eq-eqb guest id z)));
  }

  -- A release, by whether it is of a task of its own.
  release_followed : (guest task : ℕ) (b : Bool) → eqb guest id ≡ b → CallFollowed id k p q (releasing guest task) d e
  release_followed guest task true x = rw (eqb-true guest id x) (own_followed task)
  release_followed guest task false x = other_followed guest task x

  -- A tick.
  tick_followed : CallFollowed id k p q ticking d e
  unfolding sees asks after play as_calls as_call
  tick_followed = record {
    seen =
        ap (told id) (tick_answer d A.one.ok)
        ∙ told_same S A
        ∙ sym (ap (told id) (tick_answer e A.other.ok))
        ∙ sym (view_one id ticking e);
    stays = rw (tick_state d A.one.ok, tick_state e A.other.ok) (alike_next S A);
  }

-- ---- a sheet
-- What the guest is shown of the pairs, released one by one, is followed by its own pairs.
pairs_followed :
    {id k : ℕ} {p q : Plan} (S : SameFor id k p q) (pairs : List ℕ) (d e : Dispatcher)
    → Alike k (tasks_of p k) p q d e
    → Followed id k p q (sees_pairs id pairs d) (asks_pairs id pairs) (play (releases pairs) d) e
unfolding sees_pairs asks_pairs releases play sees asks after
pairs_followed S [] d e A = none_followed A
pairs_followed {id} S (pair ∷ pairs) d e A =
    let F = release_followed S A (pair_guest pair) (pair_task pair) (eqb (pair_guest pair) id) refl in
    then_followed F
    (pairs_followed S pairs (pair_released d pair).state
    (play (as_calls id (asks id (releasing (pair_guest pair) (pair_task pair)))) e) F.stays)

module _ {id k : ℕ} {p q : Plan} (S : SameFor id k p q) {d e : Dispatcher} (A : Alike k (tasks_of p k) p q d e) where
  -- A sheet, by whether it fits: its pairs one by one, or nothing.
  sheet_followed :
      (pairs : List ℕ) (room : ℕ) (b : Bool)
      → sheet_fits pairs room ≡ b
      → CallFollowed id k p q (sheeting pairs room) d e
  unfolding sees asks asks_sheet after
  sheet_followed pairs room true x =
      let z = sheet_goes d pairs room A.one.ok x in
      followed_as (sees_each id pairs d z) (ap (λ (fits : Bool). asks_sheet fits id pairs) x)
      (sheet_is_releases d pairs room z) (pairs_followed S pairs d e A)
  sheet_followed pairs room false x =
      let n = sheet_stops d pairs room A.one.ok x in
      followed_as (sees_whole id pairs d n) (ap (λ (fits : Bool). asks_sheet fits id pairs) x)
      (sheet_same d pairs room n) (none_followed A)

  -- ---- any history
  -- The first call of a history without runs, and that the others have none.
  followed : (c : Call) (cs : List Call) → NoRuns (c ∷ cs) → CallFollowed id k p q c d e × NoRuns cs
  unfolding NoRuns
  followed (releasing guest task) cs r = (release_followed S A guest task (eqb guest id) refl, r)
  followed ticking cs r = (tick_followed S A, r)
  followed (running n) cs r = absurd r
  followed (sheeting pairs room) cs r = (sheet_followed pairs room (sheet_fits pairs room) refl, r)

-- From states that are alike, what a history without runs shows the guest is followed by its own asks.
history_followed :
    {id k : ℕ} {p q : Plan} (S : SameFor id k p q) (cs : List Call) (d e : Dispatcher)
    → Alike k (tasks_of p k) p q d e
    → NoRuns cs
    → Followed id k p q (view id cs d) (own id cs) (play cs d) e
unfolding view own play
history_followed S [] d e A r = none_followed A
history_followed {id} S (c ∷ cs) d e A r =
    let F = followed S A c cs r in
    then_followed F.0 (history_followed S cs (after c d) (play (as_calls id (asks id c)) e) F.0.stays F.1)

-- A history without runs shows it what its own asks alone show it.
pub view_own :
    {id k : ℕ} {p q : Plan} (S : SameFor id k p q) (cs : List Call) (d e : Dispatcher)
    → Alike k (tasks_of p k) p q d e
    → NoRuns cs
    → view id cs d ≡ view id (only id cs) e
view_own S cs d e A r = (history_followed S cs d e A r).seen
