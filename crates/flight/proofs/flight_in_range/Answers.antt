-- `flight::flight_in_range` meets its contract: the definition, with what the callees promise.
use Rattle.flight.specs.Flight.{flight_in_range}
use Rattle.flight.proofs.flight_in_range.Goals as goal

pub returns : goal.returns
unfolding flight_in_range
returns c =
    rw (c.pending_in_range-2.ensures, c.pending_in_range.ensures, c.banks_in_range.ensures, c.activate_in_range.ensures)
