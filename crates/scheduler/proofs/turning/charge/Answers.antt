-- `scheduler::turning::charge` meets its contract: each branch is the side of the definition that its test picks, and a difference of naturals does not fall below 0.
use Rattle.rules.specs.Traversal.{charge}
use Rattle.scheduler.proofs.turning.charge.Goals as goal

pub returns-then-not-taken : goal.returns-then-not-taken
unfolding charge
returns-then-not-taken c = rw (c.if-not-taken.true, c.one_less.ensures)

pub returns-else-not-taken : goal.returns-else-not-taken
returns-else-not-taken c = rw c.if-not-taken.false
