-- Histories, call by call: what a tick and a taken release keep, every history keeps. Assumes nothing.
use mathlib.Core.Path.{◌≡◌, refl, sym, ap, ◌∙◌}
use mathlib.Core.Bool.{true}
use mathlib.Core.List.{List, [], ◌∷◌, ◌++◌, append_assoc, append-nil}
use Prim.Native.Nat.{ℕ, zero, suc, ◌≤◌, ◌<◌}
use native.Mathlib.Omega.{arith}
use lib.ListN.{length, length-append}
use Rattle.plan.specs.declared.Plan.{Plan}
use Rattle.dispatcher.specs.declared.Dispatcher.{Dispatcher}
use Rattle.dispatcher.specs.declared.Answer.{Answer}
use Rattle.dispatcher.specs.Valid.{state_ok}
use Rattle.dispatcher.specs.Tick.{next}
use Rattle.dispatcher.specs.Answer.{answer}
use Rattle.dispatcher.specs.Run.{ticks}
use Rattle.dispatcher.specs.Release.{taken, release}
use Rattle.lists.specs.Places.{nth}
use Rattle.sheet.specs.Sheet.{pair_guest, pair_task, state_after, sheet}
use Rattle.history.specs.Calls.{Call, releasing, ticking, running, sheeting, after, play, singles, ticks_of, ticks_in, answers, EachRelease, Throughout}
use Rattle.sheet.proofs.Entry.{Sheeted, whole, each, sheet_sheeted}
use Rattle.history.proofs.Ticks.{tick_one, singles_next, singles_none, singles_length, run_state}
use Rattle.dispatcher_laws.proofs.Entries.{tick_state}
use Rattle.dispatcher_laws.proofs.Release.{Free, Took, release_took, kept, took}
use Rattle.dispatcher_laws.proofs.Sound.{Sound, sound_next, sound_taken}

-- A call of a tick is one tick of the rule.
pub ticking_done : (d : Dispatcher) → state_ok d ≡ true → after ticking d ≡ ticks (ticks_of ticking d) d
unfolding after ticks_of ticks
ticking_done d ok = tick_state d ok ∙ sym (ap (λ (n : ℕ). ticks n d) (tick_one d ok))

-- A run is the ticks that it reports.
pub running_done : (n : ℕ) (d : Dispatcher) → state_ok d ≡ true → after (running n) d ≡ ticks (ticks_of (running n) d) d
unfolding after ticks_of
running_done n d ok = run_state n d ok

-- A release does no tick.
releasing_none : (id task : ℕ) (d : Dispatcher) → singles (ticks_of (releasing id task) d) d ≡ []
unfolding ticks_of
releasing_none id task d = singles_none d

-- A sheet does no tick.
sheeting_none : (pairs : List ℕ) (room : ℕ) (d : Dispatcher) → singles (ticks_of (sheeting pairs room) d) d ≡ []
unfolding ticks_of
sheeting_none pairs room d = singles_none d

-- Something that goes by the answers so far and the state.
module _ (p : Plan) (I : List Answer → Dispatcher → Type 0) (Allowed : (id task : ℕ) → Dispatcher → Type 0)
    (on-tick : (L : List Answer) (d : Dispatcher) → Sound p d → I L d → I (L ++ (answer d ∷ [])) (next d))
    (on-taken :
    (L : List Answer) (d : Dispatcher) (id task k t : ℕ)
    → Sound p d
    → Allowed id task d
    → Free d id task k t
    → I L d
    → I L (taken d k t)) where
  -- It stands, in a state of the plan.
  pub record Stands (L : List Answer) (d : Dispatcher) : Type 0 where
    pub sound : Sound p d
    pub holds : I L d

  -- It stands over any number of ticks.
  ticks_keep : (m : ℕ) (L : List Answer) (d : Dispatcher) → Stands L d → Stands (L ++ singles m d) (ticks m d)
  unfolding ticks
  ticks_keep zero L d S = rw (singles_none d, append-nil L) S
  ticks_keep (suc m) L d S =
      rw (singles_next m d S.sound.ok, ← append_assoc L (answer d ∷ []) (singles m (next d)))
      (ticks_keep m (L ++ (answer d ∷ [])) (next d)
      (record { sound = sound_next d S.sound; holds = on-tick L d S.sound S.holds }))

  -- It stands over a release.
  took_keeps :
      (id task : ℕ) (L : List Answer) (d : Dispatcher)
      → Allowed id task d
      → Stands L d
      → Took d id task (release d id task)
      → Stands L (release d id task).state
  took_keeps id task L d a S (kept n e) = rw e S
  took_keeps id task L d a S (took k t F e) =
      rw e record {
        sound = sound_taken d id task k t S.sound F;
        holds = on-taken L d id task k t S.sound a F S.holds;
      }

  -- It stands over the first n pairs of a sheet.
  pairs_keep :
      (pairs : List ℕ) (L : List Answer) (d : Dispatcher)
      → ((i : ℕ) → i < length pairs → Allowed (pair_guest (nth pairs i)) (pair_task (nth pairs i)) (state_after d pairs i))
      → Stands L d
      → (n : ℕ)
      → n ≤ length pairs
      → Stands L (state_after d pairs n)
  unfolding state_after
  pairs_keep pairs L d a S zero h = S
  pairs_keep pairs L d a S (suc n) h =
      took_keeps (pair_guest (nth pairs n)) (pair_task (nth pairs n)) L (state_after d pairs n) (a n (omega arith))
      (pairs_keep pairs L d a S n (omega arith))
      (release_took (state_after d pairs n) (pair_guest (nth pairs n)) (pair_task (nth pairs n)))

  -- It stands over a sheet.
  sheet_keeps :
      (pairs : List ℕ) (room : ℕ) (L : List Answer) (d : Dispatcher)
      → EachRelease Allowed (sheeting pairs room) d
      → Stands L d
      → Sheeted d pairs (sheet d pairs room)
      → Stands L (sheet d pairs room).state
  unfolding EachRelease
  sheet_keeps pairs room L d a S (whole n e) = rw e S
  sheet_keeps pairs room L d a S (each n e) = rw e (pairs_keep pairs L d (a n) S (length pairs) (omega arith))

  -- It stands over any call.
  pub after_keeps :
      (c : Call) (L : List Answer) (d : Dispatcher)
      → EachRelease Allowed c d
      → Stands L d
      → Stands (L ++ singles (ticks_of c d) d) (after c d)
  unfolding after EachRelease
  after_keeps (releasing id task) L d a S =
      rw (releasing_none id task d, append-nil L) (took_keeps id task L d a S (release_took d id task))
  after_keeps ticking L d a S = rw (ticking_done d S.sound.ok) (ticks_keep (ticks_of ticking d) L d S)
  after_keeps (running n) L d a S = rw (running_done n d S.sound.ok) (ticks_keep (ticks_of (running n) d) L d S)
  after_keeps (sheeting pairs room) L d a S =
      rw (sheeting_none pairs room d, append-nil L) (sheet_keeps pairs room L d a S (sheet_sheeted d pairs room))

  -- It stands over any history.
  pub play_keeps :
      (cs : List Call) (L : List Answer) (d : Dispatcher)
      → Throughout Allowed cs d
      → Stands L d
      → Stands (L ++ answers cs d) (play cs d)
  unfolding play answers Throughout
  play_keeps [] L d a S = rw (append-nil L) S
  play_keeps (c ∷ cs) L d a S =
      rw (← append_assoc L (singles (ticks_of c d) d) (answers cs (after c d)))
      (play_keeps cs (L ++ singles (ticks_of c d) d) (after c d) a.1 (after_keeps c L d a.0 S))

-- Nothing is asked of the releases.
abbrev pub Any : (id task : ℕ) → Dispatcher → Type 0
Any id task d = Unit {0}

-- Where nothing is asked, any call will do.
pub any_call : (c : Call) (d : Dispatcher) → EachRelease Any c d
unfolding EachRelease
any_call (releasing id task) d = tt
any_call ticking d = tt
any_call (running n) d = tt
any_call (sheeting pairs room) d = λ e i h. tt

-- Where nothing is asked, any history will do.
pub any : (cs : List Call) (d : Dispatcher) → Throughout Any cs d
unfolding Throughout
any [] d = tt
any (c ∷ cs) d = (any_call c d, any cs (after c d))

-- A state of the plan stays one over any history.
pub sound_play : {p : Plan} (cs : List Call) (d : Dispatcher) → Sound p d → Sound p (play cs d)
sound_play {p} cs d D =
    (play_keeps p (λ L e. Unit {0}) Any (λ L e S u. tt) (λ L e id task k t S a F u. tt) cs [] d (any cs d)
    record { sound = D; holds = tt }
    ).sound

-- A state of the plan stays one over any call.
pub sound_after : {p : Plan} (c : Call) (d : Dispatcher) → Sound p d → Sound p (after c d)
unfolding play
sound_after c d D = sound_play (c ∷ []) d D

-- A call's answers are as many as its ticks.
pub answers_of : {p : Plan} (c : Call) (d : Dispatcher) → Sound p d → length (singles (ticks_of c d) d) ≡ ticks_of c d
answers_of c d D = singles_length (ticks_of c d) d D.ok

-- A history's answers are as many as its ticks.
pub answers_length : {p : Plan} (cs : List Call) (d : Dispatcher) → Sound p d → length (answers cs d) ≡ ticks_in cs d
unfolding answers ticks_in
answers_length [] d D = refl
answers_length (c ∷ cs) d D =
    simp length-append (omega (arith, answers_of c d D, answers_length cs (after c d) (sound_after c d D)))
