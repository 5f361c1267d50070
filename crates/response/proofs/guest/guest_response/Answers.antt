-- `response::guest::guest_response` meets its contract: the recurrence climbs from the capacity. Assumes nothing.
use Rattle.response.specs.Columns.{above_of}
use Rattle.equation.proofs.Side.{side_start}
use Rattle.response.proofs.guest.guest_response.Goals as goal

pub response_from-requires-clause-rising : goal.response_from-requires-clause-rising
response_from-requires-clause-rising c = side_start (above_of _ _) _
