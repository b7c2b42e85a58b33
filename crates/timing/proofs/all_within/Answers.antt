-- `timing::all_within` meets its contract: every gap of the list passes the test.
use Rattle.std.proofs.Common.{rules, tests}
use Rattle.std.proofs.lemmas.Iterator.{YieldsList-from_slice}
use Rattle.basics.proofs.Ranges.{all_entries}
use Rattle.timing.specs.Timing.{within}
use Rattle.timing.proofs.all_within.Goals as goal

pub returns : goal.returns
returns n c =
    all_entries (λ x. within 1 x c.args.dead) _ c.args.gaps (search rules) _ _ _ c.all.ensures.ran (YieldsList-from_slice c.args.gaps (cc)) (λ x b q k. search (rules, tests))
