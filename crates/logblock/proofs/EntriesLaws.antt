-- What refusal 18's test says where it passes. Assumes nothing.
use mathlib.Core.Path.{◌≡◌}
use mathlib.Core.Bool.{true}
use Prim.Native.Nat.{ℕ, ◌≤◌, ◌<◌}
use Rattle.plan.specs.Ranges.{longest, within}
use Rattle.logblock.specs.Layout.{most_jobs}
use Rattle.logblock.specs.Entries.{jobs_ok}
use Rattle.lists.proofs.All.{and_left, and_right, all_at}
use Rattle.plan.proofs.RangesLaws.{within_says}

module _ (jobs : ℕ) (age : ℕ → ℕ) where
  -- Jobs that pass are at most 41, and each age is 1 to 1,000,000.
  pub jobs_few : jobs_ok jobs age ≡ true → jobs ≤ most_jobs
  unfolding jobs_ok
  jobs_few e = (within_says 1 most_jobs jobs (and_left (within 1 most_jobs jobs) _ e)).1

  pub age_in : jobs_ok jobs age ≡ true → (i : ℕ) → i < jobs → (1 ≤ age i) × (age i ≤ longest)
  unfolding jobs_ok
  age_in e i l =
      within_says 1 longest (age i)
      (all_at (λ j. within 1 longest (age j)) jobs i l (and_right (within 1 most_jobs jobs) _ e))
