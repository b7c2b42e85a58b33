-- `scheduler::turning::left_at_start` meets its contract: each branch is the side of the definition that its test picks, and an epoch is not 0.
use native.Mathlib.Omega.{arith}
use borrow.Author.Tests.{eq-eqb, ne_eqb}
use Rattle.policy.proofs.Laws.{policy-laws}
use Rattle.rules.specs.Step.{left_at_start}
use Rattle.scheduler.proofs.turning.left_at_start.Goals as goal

pub nonzero_rem-number : goal.nonzero_rem-number
nonzero_rem-number c = omega (arith, (policy-laws c.args.p.now c.requires).capped.epoch_bounds.0)

pub returns-then-number-p-eq0 : goal.returns-then-number-p-eq0
unfolding left_at_start
returns-then-number-p-eq0 c = rw (eq-eqb _ 0 c.if-number-p-eq0.true)

pub returns-else-number-p-eq0 : goal.returns-else-number-p-eq0
unfolding left_at_start
returns-else-number-p-eq0 c = rw (ne_eqb _ 0 c.if-number-p-eq0.false)
