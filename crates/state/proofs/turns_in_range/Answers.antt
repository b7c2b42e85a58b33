-- `state::turns_in_range` meets its contract: every class's turns pass the test.
use Rattle.std.proofs.Common.{rules, tests}
use Rattle.basics.proofs.Ranges.{all_below}
use Rattle.policy.specs.Policy.{covers_of, cover_count, cap}
use Rattle.state.specs.Range.{turns_in_range}
use Rattle.state.proofs.turns_in_range.Goals as goal

pub returns : goal.returns
unfolding turns_in_range cover_count covers_of cap
returns c = all_below _ 16 _ _ _ c.all.ensures.ran (λ x b q k. search (rules, tests))
