-- A sheet pair by pair: the state and the answers after the first i pairs. Assumes nothing.
use mathlib.Core.Path.{◌≡◌, refl, ap, ◌∙◌}
use mathlib.Core.Bool.{true}
use mathlib.Core.List.{List, ◌++◌}
use Prim.Native.Nat.{ℕ, zero, suc, ◌+◌, ◌<◌}
use native.Mathlib.Numerals.{add-one}
use lib.ListN.{length, set, drop}
use Rattle.lists.specs.Places.{nth}
use Rattle.lists.specs.Table.{table}
use Rattle.dispatcher.specs.declared.Dispatcher.{Dispatcher}
use Rattle.dispatcher.specs.Valid.{state_ok}
use Rattle.sheet.specs.Sheet.{pair_guest, pair_task, pair_released, state_after, answer_to}
use Rattle.dispatcher.specs.declared.Released.{Released}
use Rattle.dispatcher.specs.InPlace.{released_in}
use Rattle.std.specs.Prelude.{Result, unwrap_or}
use Rattle.std.specs.Result.{result_err}
use Rattle.dispatcher.proofs.Release.{told_by_number}
use Rattle.lists.proofs.Table.{table_turn}
use Rattle.dispatcher_laws.proofs.Release.{release_took, ok_took}

-- A state in its ranges stays there over every pair, so that a sheet checks it once.
pub ok_after : (d : Dispatcher) (pairs : List ℕ) (n : ℕ) → state_ok d ≡ true → state_ok (state_after d pairs n) ≡ true
unfolding state_after
ok_after d pairs zero ok = ok
ok_after d pairs (suc n) ok =
    let e = state_after d pairs n in
    ok_took e (pair_guest (nth pairs n)) (pair_task (nth pairs n)) _ (ok_after d pairs n ok)
    (release_took e (pair_guest (nth pairs n)) (pair_task (nth pairs n)))

-- The first i pairs are released and answered.
pub record TakenTo (i : ℕ) (d after : Dispatcher) (pairs before answers : List ℕ) : Type 0 where
  pub state : after ≡ state_after d pairs i
  pub answer : answers ≡ table (answer_to d pairs) i ++ drop i before

-- None is yet.
pub taken_none : (d : Dispatcher) (pairs before : List ℕ) → TakenTo 0 d d pairs before before
unfolding state_after table
taken_none d pairs before = record { state = refl; answer = refl }

-- The state meanwhile is in its ranges.
pub ok_meanwhile :
    {i : ℕ} {d e : Dispatcher} {pairs before answers : List ℕ}
    → state_ok d ≡ true
    → TakenTo i d e pairs before answers
    → state_ok e ≡ true
ok_meanwhile {i} {d} {e} {pairs} ok T = rw T.state (ok_after d pairs i ok)

-- One pair more.
pub taken_next :
    {i : ℕ} {d e after : Dispatcher} {pairs before answers : List ℕ}
    → i < length before
    → TakenTo i d e pairs before answers
    → (r : Result Unit ℕ)
    → released_in r after ≡ pair_released e (nth pairs i)
    → TakenTo (i + 1) d after pairs before (set answers i (unwrap_or (result_err r) 0))
unfolding state_after answer_to
taken_next {i} {d} {e} {after} {pairs} {before} {answers} h T r P =
    let q = told_by_number r after P in
    record {
      state = rw add-one (ap (λ (z : Released). z.state) q
          ∙ ap (λ (s : Dispatcher). (pair_released s (nth pairs i)).state) T.state);
      answer =
          table_turn (answer_to d pairs) 0 i before answers _ h T.answer
          (ap (λ (z : Released). z.refusal.number) q
          ∙ ap (λ (s : Dispatcher). (pair_released s (nth pairs i)).refusal.number) T.state);
    }
