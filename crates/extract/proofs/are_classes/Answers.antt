-- `extract::are_classes` meets its contract: every member passes the test.
use Rattle.std.proofs.Common.{rules, tests}
use Rattle.policy.specs.Policy.{is_class}
use Rattle.extract.specs.Extract.{are_classes}
use Rattle.basics.proofs.Ranges.{all_below}
use Rattle.extract.proofs.are_classes.Goals as goal

pub returns : goal.returns
unfolding are_classes is_class
returns c = all_below _ 32 _ _ _ c.all.ensures.ran (λ x b q k. search (rules, tests))
