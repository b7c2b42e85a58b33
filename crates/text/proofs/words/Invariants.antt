-- The words below `i` stand at the start of `out`, and what is past them is as it was.
use Rattle.std.proofs.Common.{◌≡◌, ◌++◌, drop}
use Rattle.text.specs.Words.{words_of}
use Rattle.text.proofs.words.Given as goal

abbrev pub invariant-loop-i : goal.invariant-loop-i
invariant-loop-i l = l.out ≡ words_of l.i l.bytes ++ drop l.i l.initial.out
