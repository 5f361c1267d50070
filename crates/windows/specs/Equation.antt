-- The equations as the windows have them, over columns of numbers: capacity and period of each guest, charged run and
-- period of each task of one guest, and whether it is bound. Inner: no promise of an entry names this.
use Rattle.std.specs.Prelude.{Bool, ℕ, ◌-◌}
use Rattle.rounding.specs.Asked.{asked}
use Rattle.equation.specs.System.{gap_for, System}

-- what the guests above g take from v ticks: Periodic Servers, jitter 0
abbrev pub above : (cap per : ℕ → ℕ) → (g v : ℕ) → ℕ
above cap per g v = asked cap per (λ j. 0) g v

-- guest g, seen from its tasks: the J of each is what it meets of the guest's T - C, so 0 where it is bound
abbrev pub system_at : (cap per : ℕ → ℕ) → ℕ → (run every : ℕ → ℕ) → (is_bound : ℕ → Bool) → System
system_at cap per g run every is_bound = record {
  capacity = cap g;
  period = per g;
  above = above cap per g;
  run = run;
  every = every;
  gap = λ j. gap_for (is_bound j) (per g - cap g);
}
