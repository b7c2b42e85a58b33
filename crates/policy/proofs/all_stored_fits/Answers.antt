-- `policy::all_stored_fits` meets its contract: what is stored of every class fits.
use Rattle.std.proofs.Common.{rules, tests}
use Rattle.policy.specs.Policy.{all_stored_fits}
use Rattle.basics.proofs.Ranges.{all_below}
use Rattle.policy.proofs.all_stored_fits.Goals as goal

pub returns : goal.returns
unfolding all_stored_fits
returns c = all_below _ 16 _ _ _ c.all.ensures.ran (λ x b q k. search (rules, tests))
