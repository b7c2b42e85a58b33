-- `orders::policy_at` meets its contract: the definition, with what the callees promise.
use Rattle.policy.specs.Policy.{made}
use Rattle.file.specs.Taken.{timing_from, policy_of}
use Rattle.orders.specs.Listed.{body_timing, policy_at}
use Rattle.orders.proofs.Listed.{no-minimums}
use Rattle.orders.proofs.policy_at.Goals as goal

pub returns : goal.returns
unfolding policy_at policy_of made timing_from body_timing
returns c = rw (c.made.ensures, c.body_timing-timing.ensures, c.rows_at-rows.ensures, no-minimums c.args.n)
