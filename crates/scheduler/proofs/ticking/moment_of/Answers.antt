-- `scheduler::ticking::moment_of` meets its contract: the least class is the policy's, and a turn is not 0 cycles long.
use native.Mathlib.Omega.{arith}
use Rattle.policy.specs.Policy.{least}
use Rattle.policy.proofs.Laws.{policy-laws}
use Rattle.scheduler.proofs.ticking.moment_of.Goals as goal

pub free_turns-requires : goal.free_turns-requires
unfolding least
free_turns-requires c = (c.requires, c.least_in-bottom.ensures)

pub nonzero_rem-result : goal.nonzero_rem-result
nonzero_rem-result c =
    omega (arith, (policy-laws c.args.p.now c.requires).timed.turn_bounds.0)

pub returns : goal.returns
unfolding least
returns c = rw (c.free_turns.ensures, c.least_in-bottom.ensures)
