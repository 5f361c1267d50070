-- The charged run: what a job of a task takes, the switch into it and the switch out of it included.
use Rattle.std.specs.Prelude.{ℕ, ◌+◌, ◌*◌}
use Rattle.plan.specs.declared.Guest.{Guest}
use Rattle.plan.specs.Records.{run_of}

-- the charge is added to the run twice, for every task, the lowest too
unfoldable pub charged_run : (run charge : ℕ) → ℕ
charged_run run charge = run + 2 * charge

-- the charged run of task i of a guest
abbrev pub charged : Guest → ℕ → ℕ
charged g i = charged_run (run_of g i) g.charge
