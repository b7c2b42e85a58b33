-- Each turn puts a line behind those before it; the table that it lends has each byte's two digits.
use Rattle.std.proofs.Common.{◌≡◌, refl, ap, ℕ, ◌*◌, arith}
use Rattle.text.specs.Lines.{digits, digit, lines_of, line_count}
use Rattle.text.proofs.Grown.{line-more}
use Rattle.text.proofs.Pairs.{pairs, pair}
use Rattle.text.proofs.lines.Goals as goal

pub loop-i-init : goal.loop-i-init
unfolding lines_of
loop-i-init c = refl

pub put_line-requires-clause-by_index : goal.put_line-requires-clause-by_index
unfolding digits digit pairs
put_line-requires-clause-by_index c = pair

pub loop-i-preserved : goal.loop-i-preserved
loop-i-preserved c = line-more c.args.log.now c.args.out.now c.loop-i.i (omega (arith, c.loop-i.auto.out)) c.loop-i.invariant c.put_line.ensures

pub returns-clause-value : goal.returns-clause-value
unfolding line_count
returns-clause-value c = ap (λ (n : ℕ). 36 * n) c.min-count.ensures

pub returns-clause-out_after : goal.returns-clause-out_after
unfolding line_count
returns-clause-out_after c =
    let end : c.loop-i.i ≡ c.min-count.result = omega (arith, c.loop-i.auto.i-end, c.loop-i-test.false) in
    rw (← c.min-count.ensures) (rw end at c.loop-i.invariant)
