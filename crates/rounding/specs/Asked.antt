-- What several ask of a window: guests of the core, tasks of their guest, each for its cost once in every so many
-- ticks.
use Rattle.std.specs.Prelude.{ℕ, ◌+◌, ◌*◌}
use Rattle.lists.specs.Sum.{sum_to}
use Rattle.rounding.specs.Up.{up}

-- the sum over the first n of ((v + late) / every, rounded up) times cost: what each asks of v ticks can be put off by
-- `late`
unfoldable pub asked : (cost every late : ℕ → ℕ) → ℕ → ℕ → ℕ
asked cost every late n v = sum_to (λ k. up (v + late k) (every k) * cost k) n
