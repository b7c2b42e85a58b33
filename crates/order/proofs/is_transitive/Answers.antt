-- `order::is_transitive` meets its contract: every class passes the test
use Rattle.std.proofs.Common.{rules, tests}
use Rattle.order.specs.Order.{transitive}
use Rattle.basics.proofs.Ranges.{all_below}
use Rattle.order.proofs.is_transitive.Goals as goal

pub returns : goal.returns
unfolding transitive
returns c = all_below _ 16 _ _ _ c.all.ensures.ran (λ x b q k. search (rules, tests))
