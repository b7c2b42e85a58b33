-- `policy::longest_walk` meets its contract: in a policy in range the least class is a class, so that 9 does not refuse it.
use mathlib.Core.Path.{ap, ◌∙◌}
use Rattle.policy.specs.Policy.{bound_for}
use Rattle.policy.proofs.Laws.{policy-laws}
use Rattle.policy.proofs.Chains.{of-least}
use Rattle.policy.proofs.longest_walk.Goals as goal

pub returns : goal.returns
returns c =
    let p = c.args.p in
    c.bound_for.ensures ∙ ap (bound_for p) c.least-lowest.ensures ∙ of-least p (λ given. (policy-laws p given).lowest.is-class)
