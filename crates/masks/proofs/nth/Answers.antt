-- `masks::nth` meets its contract. The invariant: the count is that of the members below `i`, and none of them has the number.
use mathlib.Core.Path.{sym, ◌∙◌}
use Prim.Native.Nat.{◌+◌}
use native.Mathlib.Omega.{arith}
use Rattle.basics.specs.Below.{count}
use Rattle.masks.specs.Mask.{member, nth}
use borrow.Author.Tests.{eq-eqb, ne_eqb}
use Rattle.basics.proofs.Truth.{and_both, and-fails-left, and-fails-right}
use Rattle.basics.proofs.Below.{count_none, count_yes, count_no, count-le}
use Rattle.basics.proofs.Loops.{missed-none, missed_more, missed-all, found_at}
use Rattle.masks.proofs.nth.Invariants.{is_nth}
use Rattle.masks.proofs.nth.Goals as goal
use Rattle.masks.proofs.nth.Goals.{then-has+else-n-number, else-has}

pub loop-i-init : goal.loop-i-init
loop-i-init c = (sym (count_none (member c.args.set)), missed-none _ 16)

pub overflow_add-n : goal.overflow_add-n
overflow_add-n c = omega (arith, count-le (member c.args.set) c.loop-i.i)

pub returns-then-n-number : goal.returns-then-n-number
unfolding nth
returns-then-n-number c =
    let i = c.loop-i.i in
    let s = c.args.set in
    let k = c.args.number in
    let here = sym c.has.ensures ∙ c.if-has.true in
    let up = count_yes (member s) i here in
    found_at (is_nth s k) 16 i c.loop-i.invariant.1 c.loop-i-test.true (and_both here (eq-eqb (count (i + 1) (member s)) k (omega (arith, up))))

pub loop-i-preserved : goal.loop-i-preserved
loop-i-preserved c =
    let i = c.loop-i.i in
    let s = c.args.set in
    let k = c.args.number in
    let at = sym c.has.ensures in
    let inv = c.loop-i.invariant in
    elim c.if-has.branch [
      | then-has+else-n-number w ↦
          let up = count_yes (member s) i (at ∙ w.if-has.true) in (
            w.n-is ∙ omega (arith, up),
            missed_more (is_nth s k) 16 i inv.1 c.loop-i-test.true (and-fails-right (member s i) _ (ne_eqb (count (i + 1) (member s)) k (λ e. w.if-n-number.false (omega (arith, up, e))))),
          )
      | else-has w ↦
          let out = at ∙ w.if-has.false in
          (w.n-is ∙ omega (arith, count_no (member s) i out), missed_more (is_nth s k) 16 i inv.1 c.loop-i-test.true (and-fails-left (member s i) _ out))
    ]

pub returns : goal.returns
unfolding nth
returns c =
    missed-all _ 16 c.loop-i.i c.loop-i.invariant.1 c.loop-i-test.false
