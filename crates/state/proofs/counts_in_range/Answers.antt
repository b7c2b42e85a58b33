-- `state::counts_in_range` meets its contract: the definition, with what the callee promises.
use Rattle.policy.specs.Policy.{is_class}
use Rattle.state.specs.Range.{counts_in_range}
use Rattle.state.proofs.counts_in_range.Goals as goal

pub returns : goal.returns
unfolding counts_in_range is_class
returns c = rw c.is_class.ensures
