-- `extract::flows_to_any` meets its contract: some member passes the test.
use Rattle.std.proofs.Common.{rules, tests}
use Rattle.extract.specs.Seen.{seen_by_any}
use Rattle.basics.proofs.Ranges.{any_below}
use Rattle.extract.proofs.flows_to_any.Goals as goal

pub returns : goal.returns
unfolding seen_by_any
returns c = any_below _ 16 _ _ _ c.any.ensures.ran (λ x b q k. search (rules, tests))
