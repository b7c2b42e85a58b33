-- `order::rows_fit` meets its contract: every row passes the test
use Rattle.std.proofs.Common.{rules, tests}
use Rattle.order.specs.Order.{rows_fit}
use Rattle.basics.proofs.Ranges.{all_below}
use Rattle.order.proofs.rows_fit.Goals as goal

pub returns : goal.returns
unfolding rows_fit
returns c = all_below _ 16 _ _ _ c.all.ensures.ran (λ x b q k. search (rules, tests))
