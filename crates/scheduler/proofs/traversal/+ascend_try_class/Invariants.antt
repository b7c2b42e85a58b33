-- What falls in `scheduler::traversal::try_class` and `ascend` is the number of classes strictly above: a class that passes the turn on hands it to a cover, and a cover has
-- fewer above it.
use Rattle.std.proofs.Common.{◌+◌, ◌*◌}
use Rattle.order.specs.Order.{above_in}
use Rattle.scheduler.proofs.traversal.+ascend_try_class.Given as goal

abbrev pub decreases-ascend : goal.decreases-ascend
decreases-ascend l = 2 * above_in l.p.now.rows l.class

abbrev pub decreases-try_class : goal.decreases-try_class
decreases-try_class l = 2 * above_in l.p.now.rows l.class + 1
