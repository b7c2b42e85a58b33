-- `wires::queueing::passed_after` meets its contract: the two sides of the definition.
use Rattle.std.proofs.Common.{eq-eqb, ne_eqb}
use Rattle.rules.specs.Queue.{passed_after}
use Rattle.wires.proofs.queueing.passed_after.Goals as goal

pub returns-then-k-eq0 : goal.returns-then-k-eq0
unfolding passed_after
returns-then-k-eq0 c = rw (eq-eqb _ 0 c.if-k-eq0.true)

pub returns-else-k-eq0 : goal.returns-else-k-eq0
unfolding passed_after
returns-else-k-eq0 c = rw (ne_eqb _ 0 c.if-k-eq0.false)
