-- `order::least_in` meets its contract: it is the first class that is the least.
use Rattle.std.proofs.Common.{rules, tests, ◌∙◌}
use Rattle.order.specs.Order.{least_in}
use Rattle.basics.proofs.Ranges.{first_below}
use Rattle.order.proofs.least_in.Goals as goal

pub returns : goal.returns
unfolding least_in
returns c = c.unwrap_or.ensures ∙ first_below _ 16 _ _ _ c.find.ensures.ran (λ x b q k. search (rules, tests))
