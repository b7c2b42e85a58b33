-- `masks::nth` meets its contract. The invariant: the count is that of the members below `i`, and none of them has the number.
use mathlib.Core.Path.{◌≡◌}
use mathlib.Core.Bool.{Bool, ◌&&◌}
use Prim.Native.Nat.{ℕ, ◌+◌}
use lib.Dec.{eqb}
use Rattle.basics.specs.Below.{count}
use Rattle.masks.specs.Mask.{member}
use Rattle.basics.proofs.Loops.{Missed}
use Rattle.masks.proofs.nth.Given as goal

abbrev pub is_nth : ℕ → ℕ → ℕ → Bool
is_nth set number j = member set j && eqb (count (j + 1) (member set)) number

abbrev pub invariant-loop-i : goal.invariant-loop-i
invariant-loop-i l = (l.n ≡ count l.i (member l.set)) × Missed (is_nth l.set l.number) 16 l.i
