-- A run is that many single ticks: it stops after the first that finishes a job, never before, or when the number is
-- used up.
use Rattle.std.specs.Prelude.{◌≡◌, true, false, ℕ, suc, ◌≤◌, ◌<◌, length}
use Rattle.dispatcher.specs.declared.Dispatcher.{Dispatcher}
use Rattle.dispatcher.specs.declared.Answer.TheVariants.{Silent}
use Rattle.dispatcher.specs.Answer.{finishes}
use Rattle.dispatcher.specs.Entries.{run}
use Rattle.history.specs.Calls.{play, times, singles}
use Rattle.history.specs.Share.{answer_at}

-- the run of n ticks from the state d, by the answers of single ticks
pub record RunIs (n : ℕ) (d : Dispatcher) : Type 0 where
  pub fine : (run d n).refusal.number ≡ 0
  pub most : (run d n).done ≤ n
  pub state : (run d n).state ≡ play (times (run d n).done) d
  pub count : length (singles (run d n).done d) ≡ (run d n).done
  pub nothing : (run d n).done ≡ 0 → (n ≡ 0) × ((run d n).answer ≡ Silent)
  pub last : (m : ℕ) → (run d n).done ≡ suc m → (run d n).answer ≡ answer_at (singles (run d n).done d) m
  pub early : (m : ℕ) → suc m < (run d n).done → finishes (answer_at (singles (run d n).done d) m) ≡ false
  pub ends : (run d n).done < n → finishes (run d n).answer ≡ true
