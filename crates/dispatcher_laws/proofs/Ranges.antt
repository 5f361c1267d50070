-- How a guest's two numbers and a task's three stay in their ranges. Assumes nothing.
use mathlib.Core.Path.{◌≡◌, refl}
use mathlib.Core.Bool.{Bool, true, false, ◌&&◌}
use Prim.Native.Nat.{ℕ, ◌≤◌, ◌<◌}
use native.Mathlib.Omega.{arith}
use lib.Dec.{leb, eqb}
use borrow.Author.Tests.{ltb-true, leb-true, eqb-true, lt-ltb, le-leb, eq-eqb}
use Rattle.lists.specs.Choice.{pick}
use Rattle.plan.specs.Ranges.{longest}
use Rattle.arrays.specs.Ranges.{server_ok, no_server, job_ok, no_job}
use Rattle.lists.proofs.All.{and_left, and_right, and_true}

-- A guest's two numbers stay in their ranges if they do for a guest, and stay 0 past the guests.
pub server_by :
    (b : Bool) (c t l p l' p' : ℕ)
    → (b ≡ true → l ≤ c → p < t → (l' ≤ c) × (p' < t))
    → (b ≡ false → l ≡ 0 → p ≡ 0 → (l' ≡ 0) × (p' ≡ 0))
    → pick b (server_ok c t l p) (no_server l p) ≡ true
    → pick b (server_ok c t l' p') (no_server l' p') ≡ true
server_by true c t l p l' p' in-it past e =
    let r = in-it refl (leb-true l c (and_left (leb l c) _ e)) (ltb-true p t (and_right (leb l c) _ e)) in
    and_true (le-leb l' c r.0) (lt-ltb p' t r.1)
server_by false c t l p l' p' in-it past e =
    let r = past refl (eqb-true l 0 (and_left (eqb l 0) _ e)) (eqb-true p 0 (and_right (eqb l 0) _ e)) in
    and_true (eq-eqb l' 0 r.0) (eq-eqb p' 0 r.1)

-- what a task's three numbers are within
pub record JobWithin (charged every rest wait age : ℕ) : Type 0 where
  pub work : rest ≤ charged
  pub due : wait ≤ every
  pub old : age ≤ longest

-- A task's three numbers stay in their ranges if they do for a task, and stay 0 past the tasks.
pub job_by :
    (b : Bool) (charged every r w a r' w' a' : ℕ)
    → (b ≡ true → JobWithin charged every r w a → JobWithin charged every r' w' a')
    → (b ≡ false → JobWithin 0 0 r w a → a ≡ 0 → JobWithin 0 0 r' w' 0 × (a' ≡ 0))
    → pick b (job_ok charged every r w a) (no_job r w a) ≡ true
    → pick b (job_ok charged every r' w' a') (no_job r' w' a') ≡ true
job_by true charged every r w a r' w' a' in-it past e =
    let p = and_left (leb r charged && leb w every) _ e in
    let s = in-it refl record {
      work = leb-true r charged (and_left (leb r charged) _ p);
      due = leb-true w every (and_right (leb r charged) _ p);
      old = leb-true a longest (and_right (leb r charged && leb w every) _ e);
    } in
    and_true (and_true (le-leb r' charged s.work) (le-leb w' every s.due)) (le-leb a' longest s.old)
job_by false charged every r w a r' w' a' in-it past e =
    let p = and_left (eqb r 0 && eqb w 0) _ e in
    let r0 : r ≡ 0 = eqb-true r 0 (and_left (eqb r 0) _ p) in
    let w0 : w ≡ 0 = eqb-true w 0 (and_right (eqb r 0) _ p) in
    let a0 : a ≡ 0 = eqb-true a 0 (and_right (eqb r 0 && eqb w 0) _ e) in
    let s = past refl record { work = omega arith; due = omega arith; old = omega arith } a0 in
    and_true (and_true (eq-eqb r' 0 (omega (arith, s.0.work))) (eq-eqb w' 0 (omega (arith, s.0.due)))) (eq-eqb a' 0 s.1)
