-- `orders::rows_at` meets its contract: each row is the order's digit.
use Rattle.std.proofs.Common.{rules, tests}
use Rattle.orders.specs.Listed.{row_at}
use Rattle.basics.proofs.Ranges.{filled_below}
use Rattle.orders.proofs.rows_at.Goals as goal

pub returns : goal.returns
unfolding row_at
returns c = filled_below _ 16 _ _ c.from_fn.ensures.items (λ x y q k. search (rules, tests, c.order_at-order.ensures))
