-- `flight::activate_in_range` meets its contract: it is the definition.
use Rattle.flight.specs.Flight.{activate_in_range}
use Rattle.flight.proofs.activate_in_range.Goals as goal

pub returns : goal.returns
unfolding activate_in_range
returns c = rw c.activate_next-next.ensures
