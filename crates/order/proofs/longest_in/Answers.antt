-- `order::longest_in` meets its contract. The invariant: `risen` are the classes at the end of the chains of `steps` steps, and each smaller number of steps has some.
use mathlib.Core.Path.{sym, ap, ◌∙◌}
use borrow.Author.Tests.{eq-eqb, ne_eqb}
use Rattle.order.specs.Order.{above_some, longest_in}
use Rattle.basics.proofs.Loops.{missed-none, missed_more, missed-all, found_at}
use Rattle.order.proofs.Chains.{risen-none, risen-more}
use Rattle.order.proofs.longest_in.Goals as goal

pub loop-steps-init : goal.loop-steps-init
loop-steps-init c = (c.class_mask-risen.ensures ∙ sym (risen-none c.args.rows c.args.class), missed-none _ 16)

pub returns-then-risen-eq0 : goal.returns-then-risen-eq0
unfolding longest_in
returns-then-risen-eq0 c = found_at _ 16 c.loop-steps.steps c.loop-steps.invariant.1 c.loop-steps-test.true (eq-eqb _ 0 (sym c.loop-steps.invariant.0 ∙ c.if-risen-eq0.true))

pub loop-steps-preserved : goal.loop-steps-preserved
loop-steps-preserved c = let rows = c.args.rows in
    let risen = c.loop-steps.invariant.0 in (
      c.above_some-risen.ensures ∙ ap (above_some rows) risen ∙ sym (risen-more rows c.args.class c.loop-steps.steps),
      missed_more _ 16 c.loop-steps.steps c.loop-steps.invariant.1 c.loop-steps-test.true (ne_eqb _ 0 (λ z. c.if-risen-eq0.false (risen ∙ z))),
    )

pub returns : goal.returns
unfolding longest_in
returns c =
    missed-all _ 16 c.loop-steps.steps c.loop-steps.invariant.1 c.loop-steps-test.false
