-- `extract::seen_by` meets its contract. The invariant: the set is that of the classes below `c` which may flow to a member.
use mathlib.Core.Path.{◌≡◌}
use Rattle.basics.specs.Below.{set_of}
use Rattle.extract.specs.Seen.{seen_by_any}
use Rattle.extract.proofs.seen_by.Given as goal

abbrev pub invariant-loop-c : goal.invariant-loop-c
invariant-loop-c l = l.seen ≡ set_of l.c (seen_by_any l.p l.set)
