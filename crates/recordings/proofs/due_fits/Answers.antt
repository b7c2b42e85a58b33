-- `recordings::due_fits` meets its contract: each activate passes the test.
use Rattle.std.proofs.Common.{rules, tests}
use Rattle.recordings.specs.Recording.{events_in, cycle_at, due_fits}
use Rattle.basics.proofs.Ranges.{all_below}
use Rattle.recordings.proofs.due_fits.Goals as goal

pub returns : goal.returns
unfolding due_fits events_in cycle_at
returns c = all_below _ _ _ _ _ c.all.ensures.ran (λ x b q k. search (rules, tests))
