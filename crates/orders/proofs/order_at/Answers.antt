-- `orders::order_at` meets its contract: the table is the definition's, and it is asked at the place counted from where the orders of so many classes begin.
use Rattle.std.proofs.Common.{ℕ, ◌∙◌, ◌+◌, ap, get_or}
use Rattle.writer.proofs.Tables.{looked-up}
use Rattle.orders.specs.Listed.{small_orders}
use Rattle.orders.proofs.order_at.Goals as goal

pub returns : goal.returns
unfolding small_orders
returns c =
    let place = c.args.place in
    looked-up small_orders (c.listing_of.result.first + place) c.get.result c.get.ensures.lookup c.copied.ensures c.unwrap_or.ensures ∙ ap (λ (first : ℕ). get_or small_orders (first + place) 0) c.listing_of.ensures.first
