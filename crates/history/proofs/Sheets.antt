-- A sheet is its releases one by one, so that what holds of single releases holds of its pairs. Assumes nothing.
use mathlib.Core.Path.{◌≡◌, refl, sym, ap, ◌∙◌}
use mathlib.Core.List.{List, [], ◌∷◌, ◌++◌}
use Prim.Native.Nat.{ℕ, zero, suc, ◌+◌, ◌≤◌, ◌<◌}
use native.Mathlib.Omega.{arith}
use lib.IntN.{ℤ}
use lib.ListN.{length, take, drop}
use lib.Seq.{take-length}
use Rattle.lists.specs.Places.{nth}
use Rattle.dispatcher.specs.declared.Dispatcher.{Dispatcher}
use Rattle.dispatcher.specs.declared.Answer.TheVariants.{Silent, Finished}
use Rattle.dispatcher.specs.Release.{release}
use Rattle.sheet.specs.Sheet.{pair_guest, pair_task, pair_released, state_after, answer_to, sheet}
use Rattle.history.specs.Calls.{Call, releasing, sheeting, after, play, ticks_of, ticks_in, EachRelease, answer_of, Throughout, Takes, NoneTaken}
use Rattle.history.specs.Sheets.{releases, up_to_pair, NotBefore}
use Rattle.history.specs.Finished.{HandedBack, FinishedBy}
use Rattle.sheet.proofs.Entry.{Sheeted, whole, each, sheet_sheeted}

-- Histories one after the other.
pub play_append : (cs ds : List Call) (d : Dispatcher) → play (cs ++ ds) d ≡ play ds (play cs d)
unfolding play
play_append [] ds d = refl
play_append (c ∷ cs) ds d = play_append cs ds (after c d)

-- What holds throughout both holds throughout the two in a row.
pub throughout_append :
    (P : (guest task : ℕ) → Dispatcher → Type 0) (cs ds : List Call) (d : Dispatcher)
    → Throughout P cs d
    → Throughout P ds (play cs d)
    → Throughout P (cs ++ ds) d
unfolding Throughout play
throughout_append P [] ds d a b = b
throughout_append P (c ∷ cs) ds d a b = (a.0, throughout_append P cs ds (after c d) a.1 b)

-- The first pair, and then the others.
after_first :
    (pair : ℕ) (pairs : List ℕ) (d : Dispatcher) (n : ℕ)
    → state_after d (pair ∷ pairs) (suc n) ≡ state_after (pair_released d pair).state pairs n
unfolding state_after
after_first pair pairs d zero = refl
after_first pair pairs d (suc n) =
    ap (λ (e : Dispatcher). (pair_released e (nth pairs n)).state) (after_first pair pairs d n)

-- The state after the first n pairs is that after their releases.
pub after_pairs :
    (pairs : List ℕ) (d : Dispatcher) (n : ℕ)
    → n ≤ length pairs
    → state_after d pairs n ≡ play (releases (take n pairs)) d
unfolding state_after releases play after
after_pairs pairs d zero h = refl
after_pairs [] d (suc n) h = absurd (omega arith)
after_pairs (pair ∷ pairs) d (suc n) h =
    after_first pair pairs d n ∙ after_pairs pairs (pair_released d pair).state n (omega arith)

-- A sheet that is not refused whole is its releases one by one.
pub sheet_is_releases :
    (d : Dispatcher) (pairs : List ℕ) (room : ℕ)
    → (sheet d pairs room).refusal.number ≡ 0
    → after (sheeting pairs room) d ≡ play (releases pairs) d
unfolding after
sheet_is_releases d pairs room z = by (sheet_sheeted d pairs room)
  where
    by : Sheeted d pairs (sheet d pairs room) → (sheet d pairs room).state ≡ play (releases pairs) d
    by (whole n e) = absurd (n z)
    by (each n e) =
        e ∙ after_pairs pairs d (length pairs) (omega arith)
        ∙ ap (λ (l : List ℕ). play (releases l) d) (take-length pairs)

-- The answer to pair i is the number of a single release after the pairs before it.
pub pair_is_release :
    (d : Dispatcher) (cs : List Call) (pairs : List ℕ) (i : ℕ)
    → i ≤ length pairs
    → answer_to (play cs d) pairs i
    ≡ (release (play (up_to_pair cs pairs i) d) (pair_guest (nth pairs i)) (pair_task (nth pairs i))).refusal.number
unfolding answer_to
pair_is_release d cs pairs i h =
    ap (λ (e : Dispatcher). (pair_released e (nth pairs i)).refusal.number)
    (after_pairs pairs (play cs d) i h ∙ sym (play_append cs (releases (take i pairs)) d))

-- The releases of a sheet around pair i.
pub around :
    (pairs : List ℕ) (i : ℕ)
    → i < length pairs
    → releases pairs
    ≡ releases (take i pairs)
    ++ (releasing (pair_guest (nth pairs i)) (pair_task (nth pairs i)) ∷ releases (drop (suc i) pairs))
unfolding releases
around [] i h = absurd (omega arith)
around (pair ∷ pairs) zero h = refl
around (pair ∷ pairs) (suc i) h =
    ap (λ (l : List Call). releasing (pair_guest pair) (pair_task pair) ∷ l) (around pairs i (omega arith))

-- Ticks of histories one after the other.
pub ticks_append : (cs ds : List Call) (d : Dispatcher) → ticks_in (cs ++ ds) d ≡ ticks_in cs d + ticks_in ds (play cs d)
unfolding ticks_in play
ticks_append [] ds d = omega arith
ticks_append (c ∷ cs) ds d = omega (arith, ticks_append cs ds (after c d))

-- Releases do no tick.
pub releases_none : (pairs : List ℕ) (d : Dispatcher) → ticks_in (releases pairs) d ≡ 0
unfolding releases ticks_in ticks_of
releases_none [] d = refl
releases_none (pair ∷ pairs) d =
    omega (arith, releases_none pairs (after (releasing (pair_guest pair) (pair_task pair)) d))

-- What holds of each of the first n pairs holds throughout their releases.
pub throughout_pairs :
    (P : (guest task : ℕ) → Dispatcher → Type 0) (pairs : List ℕ) (n : ℕ) (d : Dispatcher)
    → n ≤ length pairs
    → ((j : ℕ) → j < n → P (pair_guest (nth pairs j)) (pair_task (nth pairs j)) (state_after d pairs j))
    → Throughout P (releases (take n pairs)) d
unfolding Throughout EachRelease releases state_after after
throughout_pairs P pairs zero d h f = tt
throughout_pairs P [] (suc n) d h f = absurd (omega arith)
throughout_pairs P (pair ∷ pairs) (suc n) d h f = (
  f 0 (omega arith),
  throughout_pairs P pairs n (pair_released d pair).state (omega arith)
      (λ j l. rw (← after_first pair pairs d j) (f (suc j) (omega arith))),
)

-- No release before pair i is taken.
pub none_up_to :
    (cs : List Call) (pairs : List ℕ) (i : ℕ) (d : Dispatcher) {guest task : ℕ}
    → i ≤ length pairs
    → NoneTaken guest task cs d
    → NotBefore (play cs d) pairs i guest task
    → NoneTaken guest task (up_to_pair cs pairs i) d
none_up_to cs pairs i d {guest} {task} h none not =
    throughout_append _ cs (releases (take i pairs)) d none
    (throughout_pairs (λ g t e. Takes g t e guest task → ⊥) pairs i (play cs d) h not)

-- A release answers nothing.
silent : (id task : ℕ) (d : Dispatcher) → answer_of (releasing id task) d ≡ Silent
unfolding answer_of
silent id task d = refl

-- A finish that is told in a release and then ds is told in ds.
told_next :
    (id task' : ℕ) (ds : List Call) (d : Dispatcher) (n guest task age : ℕ) (margin : ℤ) (before : List Call)
    (call : Call) (later : List Call)
    → releasing id task' ∷ ds ≡ before ++ (call ∷ later)
    → ticks_in before d + ticks_of call (play before d) ≡ n
    → answer_of call (play before d) ≡ Finished guest task age margin
    → HandedBack ds (after (releasing id task') d) n (Finished guest task age margin)
unfolding ticks_in play ticks_of
told_next id task' ds d n guest task age margin [] call later e done says =
    let q : releasing id task' ≡ call = cc in
    let z : ◌≡◌ {A = ℕ} 0 1 = cc (silent id task' d) in
    absurd (omega arith)
told_next id task' ds d n guest task age margin (c ∷ before) call later e done says =
    let q : c ≡ releasing id task' = cc in
    let r : ds ≡ before ++ (call ∷ later) = cc in
    let same : ticks_in (releasing id task' ∷ before) d + ticks_of call (play (releasing id task' ∷ before) d) ≡ n =
    rw q at done in
    record {
      before = before;
      call = call;
      later = later;
      split = r;
      done = omega (arith, same);
      says = rw q at says;
    }

-- A finish that is told in releases and then ds is told in ds.
told_later :
    (pairs : List ℕ) (ds : List Call) (d : Dispatcher) (n guest task age : ℕ) (margin : ℤ)
    → HandedBack (releases pairs ++ ds) d n (Finished guest task age margin)
    → HandedBack ds (play (releases pairs) d) n (Finished guest task age margin)
unfolding releases play
told_later [] ds d n guest task age margin T = T
told_later (pair ∷ pairs) ds d n guest task age margin T =
    told_later pairs ds (after (releasing (pair_guest pair) (pair_task pair)) d) n guest task age margin
    (told_next (pair_guest pair) (pair_task pair) (releases pairs ++ ds) d n guest task age margin T.before T.call
    T.later T.split T.done T.says)

-- The same of a task finished by R.
pub finished_later :
    (pairs : List ℕ) (ds : List Call) (d : Dispatcher) {R deadline guest task : ℕ}
    → FinishedBy R deadline guest task (releases pairs ++ ds) d
    → FinishedBy R deadline guest task ds (play (releases pairs) d)
finished_later pairs ds d {R} {deadline} {guest} {task} F = record {
  age = F.age;
  margin = F.margin;
  by_R = F.by_R;
  spare = F.spare;
  least = F.least;
  told = told_later pairs ds d F.age guest task F.age F.margin F.told;
}
