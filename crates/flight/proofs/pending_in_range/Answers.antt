-- `flight::pending_in_range` meets its contract: the test passes at every number of cycles. Where the code looks, the cycle modulo 32 leads to the same place as the cycle.
use Rattle.std.proofs.Common.{◌≡◌, ◌+◌, ◌%◌, rules, tests, arith}
use Rattle.basics.proofs.Ranges.{all_below}
use Rattle.flight.specs.Flight.{due_at, pending_in_range}
use Rattle.flight.proofs.pending_in_range.Goals as goal

pub returns : goal.returns
unfolding due_at pending_in_range
returns c =
    all_below _ 32 _ _ _ c.all.ensures.ran
    (λ x b q k.
    let same : (c.args.cycle % 32 + x) % 32 ≡ (c.args.cycle + x) % 32 = omega arith in
    search (rules, tests, same))
