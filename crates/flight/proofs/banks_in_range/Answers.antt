-- `flight::banks_in_range` meets its contract: every bank's last activate passes the test.
use Rattle.std.proofs.Common.{rules, tests}
use Rattle.std.proofs.lemmas.Iterator.{YieldsList-from_slice}
use Rattle.flight.specs.Flight.{activate_in_range}
use Rattle.basics.proofs.Ranges.{all_entries}
use Rattle.flight.proofs.banks_in_range.Goals as goal

pub returns : goal.returns
returns c =
    all_entries (activate_in_range c.args.cycle) 32 c.args.banks.now (search rules) _ _ _ c.all.ensures.ran (YieldsList-from_slice _ c.iter.ensures.rest)
    (λ x b q k. search (rules, tests))
