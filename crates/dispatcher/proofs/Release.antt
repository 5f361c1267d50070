-- How a release comes to its whole outcome. Assumes nothing.
use mathlib.Core.Path.{◌≡◌, refl}
use Prim.Native.Nat.{ℕ, zero, suc, ◌<◌}
use native.Mathlib.Omega.{arith}
use lib.ListN.{set}
use Rattle.std.specs.Prelude.{Result, Ok, Err, unwrap_or}
use Rattle.std.specs.Result.{result_err}
use Rattle.plan.specs.First.{refused, fine}
use Rattle.refusals.specs.declared.Aim.{Aim}
use Rattle.refusals.specs.Aims.{aim_number, Aims}
use Rattle.dispatcher.specs.declared.Dispatcher.{Dispatcher}
use Rattle.dispatcher.specs.declared.Released.{Released}
use Rattle.dispatcher.specs.InPlace.{released_in}
use Rattle.dispatcher.specs.Release.{taken, release_number, released_by, release}
use Rattle.dispatcher.proofs.LentCheck.{passes_is}

-- A release that has a number is refused by it.
refused_by_lem : (x : ℕ) (d : Dispatcher) (k t : ℕ) → 0 < x → ◌≡◌ {A = Released} (record { refusal = refused x 0; state = d }) (released_by x d k t)
unfolding released_by
refused_by_lem zero d k t h = absurd (omega arith)
refused_by_lem (suc n) d k t h = refl

-- The refusals over lent arrays are the release's.
aimed_number : (d : Dispatcher) (id task : ℕ) → aim_number d.plan d.left d.position d.rest d.wait d.age id task ≡ release_number d id task
unfolding aim_number release_number
aimed_number d id task = rw (passes_is d) refl

module _ (d : Dispatcher) (id task : ℕ) where
  -- A refused release has its whole outcome.
  pub release_refused : (n : ℕ) → Aims d.plan d.left d.position d.rest d.wait d.age id task (Err n)
      → ◌≡◌ {A = Released} (record { refusal = refused n 0; state = d }) (release d id task)
  unfolding release
  release_refused n e = rw (← aimed_number d id task, e.0) (refused_by_lem n d _ _ e.1)

  -- A taken release has its whole outcome.
  pub release_taken : (a : Aim) → Aims d.plan d.left d.position d.rest d.wait d.age id task (Ok a)
      → ◌≡◌ {A = Released}
      (record {
        refusal = fine;
        state = record {
          plan = d.plan;
          left = d.left;
          position = d.position;
          rest = set d.rest a.at a.run;
          wait = set d.wait a.at a.every;
          age = set d.age a.at 0;
          usage = d.usage;
        };
      })
      (release d id task)
  unfolding release released_by taken
  release_taken a e = rw (e.takes.place, e.takes.run, e.takes.period, ← aimed_number d id task, e.taken) refl

-- The outcome of a release in place, told by its number, which is 0 where nothing refuses it.
pub told_by_number : (r : Result Unit ℕ) (d : Dispatcher) {s : Released} → released_in r d ≡ s
    → ◌≡◌ {A = Released} (record { refusal = refused (unwrap_or (result_err r) 0) 0; state = d }) s
told_by_number (Ok u) d e = e
told_by_number (Err n) d e = e
