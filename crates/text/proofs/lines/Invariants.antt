-- The lines below `i` stand at the start of `out`, and what is past them is as it was.
use Rattle.std.proofs.Common.{◌≡◌, ◌*◌, ◌++◌, drop}
use Rattle.text.specs.Lines.{lines_of}
use Rattle.text.proofs.lines.Given as goal

abbrev pub invariant-loop-i : goal.invariant-loop-i
invariant-loop-i l = l.out ≡ lines_of l.i l.log ++ drop (36 * l.i) l.initial.out
