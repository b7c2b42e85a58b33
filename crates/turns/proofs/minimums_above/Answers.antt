-- `turns::minimums_above` meets its contract. The invariant: the total is the sum below `j`, and each number added to it has 32 bits, so it does not wrap.
use mathlib.Core.Path.{◌≡◌, sym, ◌∙◌}
use native.Mathlib.Omega.{arith}
use borrow.Author.Rules.{rules}
use mir.Syntax.{w32}
use mir.Val.{Fits}
use lib.ListN.{get_or}
use Rattle.turns.specs.Turns.{minimums_above}
use Rattle.basics.proofs.Loops.{summed-none, summed-more, summed-all}
use Rattle.turns.proofs.minimums_above.Invariants.{part}
use Rattle.turns.proofs.minimums_above.Goals as goal
use Rattle.turns.proofs.minimums_above.Goals.{then-strictly_in, else-strictly_in}

pub loop-j-init : goal.loop-j-init
loop-j-init c = (summed-none _ 16, omega arith)

pub loop-j-preserved : goal.loop-j-preserved
loop-j-preserved c =
    let j = c.loop-j.j in
    let f = part c.args.rows c.args.minimums c.args.class in
    let fits : Fits w32 (get_or c.args.minimums j 0) = search rules in
    elim c.if-strictly_in.branch [
      | then-strictly_in w ↦
          let here : f j ≡ get_or c.args.minimums j 0 = rw (sym c.strictly_in.ensures ∙ w.if-strictly_in.true) in
          (summed-more f 16 c.loop-j.total j c.loop-j.invariant.0 c.loop-j-test.true (omega (arith, here)), omega arith)
      | else-strictly_in w ↦
          let none : f j ≡ 0 = rw (sym c.strictly_in.ensures ∙ w.if-strictly_in.false) in
          (summed-more f 16 c.loop-j.total j c.loop-j.invariant.0 c.loop-j-test.true (omega (arith, none)), omega arith)
    ]

pub returns : goal.returns
unfolding minimums_above
returns c = summed-all _ 16 c.loop-j.total c.loop-j.j c.loop-j.invariant.0 c.loop-j-test.false
