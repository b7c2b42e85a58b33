-- `order::antisymmetric_at` meets its contract: every class passes the test
use Rattle.std.proofs.Common.{rules, tests}
use Rattle.order.specs.Order.{antisymmetric_at}
use Rattle.basics.proofs.Ranges.{all_below}
use Rattle.order.proofs.antisymmetric_at.Goals as goal

pub returns : goal.returns
unfolding antisymmetric_at
returns c = all_below _ 16 _ _ _ c.all.ensures.ran (λ x b q k. search (rules, tests))
