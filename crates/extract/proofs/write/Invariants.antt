-- `extract::write` meets its contract. The invariant: the extract of the first `i` calls stands at the start of `out`, up to `at`, and what is past it is as it was.
use mathlib.Core.Path.{◌≡◌}
use mathlib.Core.List.{◌++◌}
use lib.ListN.{length, take, drop}
use Rattle.masks.specs.Mask.{member}
use Rattle.extract.specs.Extract.{extract_of}
use Rattle.extract.proofs.write.Given as goal

abbrev pub invariant-loop-i : goal.invariant-loop-i
invariant-loop-i l =
    (l.at ≡ length (extract_of (member l.seen) (take l.i l.trace) l.log))
    × (l.out ≡ extract_of (member l.seen) (take l.i l.trace) l.log ++ drop l.at l.initial.out)
