-- `turns::home_at` meets its contract. The invariant: the rest is the place less the minimums of the classes below `class`, and none of those has used up its minimum only past the
-- place.
use mathlib.Core.Path.{◌≡◌}
use Prim.Native.Nat.{◌+◌}
use Rattle.turns.specs.Turns.{minimums_below}
use Rattle.basics.proofs.Loops.{Missed}
use Rattle.turns.proofs.Homes.{past}
use Rattle.turns.proofs.home_at.Given as goal

abbrev pub invariant-loop-class : goal.invariant-loop-class
invariant-loop-class l = Missed (past l.minimums l.place) 16 l.class × (minimums_below l.minimums l.class + l.rest ≡ l.place)
