-- The list of starred numbers holds: the definitions compute each of them. Assumes nothing.
use Rattle.results.specs.Numbers.{Numbers}
use Rattle.results.proofs.Computed.{computed}

-- The single statement.
pub numbers : Numbers
numbers = computed.numbers
