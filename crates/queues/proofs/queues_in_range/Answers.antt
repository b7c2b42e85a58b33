-- `queues::queues_in_range` meets its contract: every class's queue passes the test.
use Rattle.std.proofs.Common.{rules, tests}
use Rattle.basics.proofs.Ranges.{all_below}
use Rattle.queues.proofs.queues_in_range.Goals as goal

pub returns : goal.returns
returns c = all_below _ 16 _ _ _ c.all.ensures.ran (λ x b q k. search (rules, tests))
