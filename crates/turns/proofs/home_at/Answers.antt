-- `turns::home_at` meets its contract. The invariant: the rest is the place less the minimums of the classes below `class`, and none of those has used up its minimum only past the
-- place.
use Prim.Native.Nat.{◌+◌}
use native.Mathlib.Omega.{arith}
use borrow.Author.Rules.{rules}
use borrow.Author.Tests.{lt-ltb, le-ltb}
use Rattle.turns.specs.Turns.{minimums_below, home_at}
use Rattle.basics.proofs.Loops.{missed-none, missed_more, missed-all, found_at}
use Rattle.turns.proofs.Homes.{below_none, below_more}
use Rattle.turns.proofs.home_at.Goals as goal

pub loop-class-init : goal.loop-class-init
loop-class-init c = (missed-none _ 16, omega (arith, below_none c.args.minimums))

pub returns-then-rest-minimums : goal.returns-then-rest-minimums
unfolding home_at
returns-then-rest-minimums c =
    let args = c.args in
    let class = c.loop-class.class in
    let here = lt-ltb args.place (minimums_below args.minimums (class + 1)) (omega (arith, below_more args.minimums class, c.if-rest-minimums.true)) in
    found_at _ 16 class c.loop-class.invariant.0 (search rules) here

pub loop-class-preserved : goal.loop-class-preserved
loop-class-preserved c =
    let args = c.args in
    let class = c.loop-class.class in
    let more = below_more args.minimums class in
    let not-here = le-ltb args.place (minimums_below args.minimums (class + 1)) (omega (arith, c.if-rest-minimums.false)) in
    (missed_more _ 16 class c.loop-class.invariant.0 (search rules) not-here, omega (arith, c.if-rest-minimums.false))

pub returns : goal.returns
unfolding home_at
returns c = missed-all _ 16 c.loop-class.class c.loop-class.invariant.0 c.loop-class-test.false
