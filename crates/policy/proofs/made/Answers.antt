-- `policy::made` meets its contract: at each place of the two arrays stands what is asked of its class.
use Rattle.std.proofs.Common.{rules, tests}
use Rattle.order.specs.Order.{cover_set}
use Rattle.turns.specs.Turns.{cap_in}
use Rattle.policy.specs.Policy.{made}
use Rattle.basics.proofs.Ranges.{filled_below}
use Rattle.policy.proofs.made.Goals as goal

pub returns : goal.returns
unfolding made
returns c =
    let a = c.args in
    rw (
      filled_below (cover_set a.rows) 16 _ _ c.from_fn-covers.ensures.items (λ x y q k. search (rules, tests)),
      filled_below (cap_in a.classes a.rows a.epoch a.minimums) 16 _ _ c.from_fn-caps.ensures.items (λ x y q k. search (rules, tests)),
    )
