-- `scheduler::turning::turns_at` meets its contract: each branch is the side of the definition that its test picks, and a turn is not 0 cycles long.
use mathlib.Core.Path.{◌≡◌, sym, ◌∙◌}
use mathlib.Core.Bool.{true, false}
use native.Mathlib.Omega.{arith}
use native.Mathlib.Nat.{div-le_self}
use borrow.Author.Tests.{eq-eqb, ne_eqb}
use Rattle.basics.proofs.Truth.{on-true, on-false}
use Rattle.policy.proofs.Laws.{policy-laws}
use Rattle.rules.specs.Step.{turn_starts, turn_number, turns_at}
use Rattle.scheduler.proofs.turning.turns_at.Goals as goal

pub returns-then-offset-ne0 : goal.returns-then-offset-ne0
unfolding turns_at turn_starts
returns-then-offset-ne0 c =
    let none : turn_starts c.args.p.now c.args.cycle ≡ false = ne_eqb _ 0 (λ z. c.if-offset-ne0.true (c.requires.1 ∙ z)) in
    sym (on-false (turn_starts c.args.p.now c.args.cycle) _ _ none)

pub nonzero_div-cycle : goal.nonzero_div-cycle
nonzero_div-cycle c = omega (arith, (policy-laws c.args.p.now c.requires.0.fit).timed.turn_bounds.0)

pub start_turn-requires : goal.start_turn-requires
start_turn-requires c =
    (c.requires.0, omega (arith, div-le_self c.args.cycle c.args.p.now.timing.turn, c.requires.2), c.requires.3, c.requires.4)

pub returns : goal.returns
unfolding turns_at turn_starts turn_number
returns c =
    let one : turn_starts c.args.p.now c.args.cycle ≡ true = eq-eqb _ 0 (sym c.requires.1 ∙ c.if-offset-ne0.false) in
    c.start_turn.ensures ∙ sym (on-true (turn_starts c.args.p.now c.args.cycle) _ _ one)
