-- Every finish is told: a run stops at it, so the call in whose ticks it falls hands its answer back. Assumes nothing.
use mathlib.Core.Path.{◌≡◌, refl, sym, ap, ◌∙◌}
use mathlib.Core.Bool.{true, false≢true}
use mathlib.Core.List.{List, [], ◌∷◌, ◌++◌}
use Prim.Native.Nat.{ℕ, zero, suc, ◌+◌, ◌-◌, ◌<◌}
use native.Mathlib.Decide.{dec_lt, dec_le}
use native.Mathlib.Omega.{arith}
use lib.ListN.{length}
use lib.Seq.{get_or-append-add}
use Rattle.plan.specs.declared.Plan.{Plan}
use Rattle.dispatcher.specs.declared.Dispatcher.{Dispatcher}
use Rattle.dispatcher.specs.declared.Answer.TheVariants.{Silent}
use Rattle.dispatcher.specs.declared.Ran.{Ran}
use Rattle.dispatcher.specs.Valid.{state_ok}
use Rattle.dispatcher.specs.Answer.{finishes}
use Rattle.dispatcher.specs.Entries.{run, longest_run}
use Rattle.history.specs.Calls.{Call, releasing, ticking, running, sheeting, after, play, singles, ticks_of, ticks_in, answers, answer_of}
use Rattle.history.specs.Share.{answer_at}
use Rattle.history.specs.Finished.{HandedBack}
use Rattle.history.proofs.Ticks.{tick_one, singles_next, RunBy, run_by}
use Rattle.history.proofs.Play.{sound_after, answers_of}
use Rattle.history.proofs.Share.{answer_old}
use Rattle.dispatcher_laws.proofs.Entries.{tick_answer, run_13}
use Rattle.dispatcher_laws.proofs.Sound.{Sound}

-- A tick that finishes a job, among those of a call, is its last, and the call's answer.
pub finish_last :
    (c : Call) (d : Dispatcher) (m : ℕ)
    → state_ok d ≡ true
    → m < ticks_of c d
    → finishes (answer_at (singles (ticks_of c d) d) m) ≡ true
    → (ticks_of c d ≡ suc m) × (answer_of c d ≡ answer_at (singles (ticks_of c d) d) m)
unfolding ticks_of answer_of
finish_last (releasing id task) d m ok h e = absurd (omega arith)
finish_last (sheeting pairs room) d m ok h e = absurd (omega arith)
finish_last ticking d m ok h e =
    let one = tick_one d ok in
    let z : m ≡ 0 = omega arith in
    (omega arith, rw (one, z, singles_next 0 d ok) (tick_answer d ok))
finish_last (running n) d m ok h e =
    elim (dec_le n longest_run) [
      | no l ↦ absurd (omega (arith, ap (λ (r : Ran). r.done) (run_13 n d ok (omega arith))))
      | yes l ↦
          (let R = run_by n d ok l in
          elim (dec_lt (suc m) (run d n).done) [
            | yes b ↦ absurd (false≢true (sym (R.early m b) ∙ e))
            | no b ↦ (let q : (run d n).done ≡ suc m = omega arith in (q, R.last m q))
          ])
    ]

-- A tick that finishes a job, among those of a history, is told by a call.
pub finish_told :
    {p : Plan} (ds : List Call) (d : Dispatcher) (m : ℕ)
    → Sound p d
    → m < ticks_in ds d
    → finishes (answer_at (answers ds d) m) ≡ true
    → HandedBack ds d (suc m) (answer_at (answers ds d) m)
unfolding ticks_in answers play
finish_told [] d m D h e = absurd (omega arith)
finish_told (c ∷ cs) d m D h e =
    elim (dec_lt m (ticks_of c d)) [
      | yes l ↦
          (let old =
          answer_old (singles (ticks_of c d) d) (answers cs (after c d)) m (omega (arith, answers_of c d D)) in
          let r = finish_last c d m D.ok l (ap finishes (sym old) ∙ e) in
          record { before = []; call = c; later = cs; split = refl; done = omega (arith, r.0); says = r.1 ∙ sym old })
      | no l ↦
          (let n : ℕ = m - ticks_of c d in
          let same : answer_at (answers (c ∷ cs) d) m ≡ answer_at (answers cs (after c d)) (m - ticks_of c d) =
          ap (λ (k : ℕ). answer_at (singles (ticks_of c d) d ++ answers cs (after c d)) k)
          (let q : m ≡ length (singles (ticks_of c d) d) + (m - ticks_of c d) = omega (arith, answers_of c d D) in q)
          ∙ get_or-append-add (singles (ticks_of c d) d) (answers cs (after c d)) (m - ticks_of c d) Silent in
          let T =
          finish_told cs (after c d) (m - ticks_of c d) (sound_after c d D) (omega arith) (ap finishes (sym same) ∙ e) in
          record {
            before = c ∷ T.before;
            call = T.call;
            later = T.later;
            split = ap (λ (z : List Call). c ∷ z) T.split;
            done = omega (arith, T.done);
            says = T.says ∙ sym same;
          })
    ]

-- An answer handed back that says finished is the one of the call's last tick.
pub told_last :
    (c : Call) (d : Dispatcher)
    → state_ok d ≡ true
    → finishes (answer_of c d) ≡ true
    → (m : ℕ) × (m < ticks_of c d) × (answer_at (singles (ticks_of c d) d) m ≡ answer_of c d)
unfolding ticks_of answer_of finishes
told_last (releasing id task) d ok e = absurd (false≢true e)
told_last (sheeting pairs room) d ok e = absurd (false≢true e)
told_last ticking d ok e =
    let one = tick_one d ok in
    (0, omega arith, rw (one, singles_next 0 d ok) (sym (tick_answer d ok)))
told_last (running n) d ok e =
    elim (dec_le n longest_run) [
      | no l ↦ absurd (false≢true (sym (ap (λ (r : Ran). finishes r.answer) (run_13 n d ok (omega arith))) ∙ e))
      | yes l ↦ by (run_by n d ok l) (run d n).done refl
    ]
  where
    by :
        RunBy n d (run d n)
        → (k : ℕ)
        → (run d n).done ≡ k
        → (m : ℕ) × (m < (run d n).done) × (answer_at (singles (run d n).done d) m ≡ (run d n).answer)
    by R zero q = absurd (false≢true (sym (ap finishes (R.nothing q).1) ∙ e))
    by R (suc m) q = (m, omega arith, sym (R.last m q))
