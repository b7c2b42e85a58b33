-- `turns::minimums_above` meets its contract. The invariant: the total is the sum below `j`, and each number added to it has 32 bits, so it does not wrap.
use mathlib.Core.Bool.{cond}
use mathlib.Core.List.{List}
use Prim.Native.Nat.{ℕ, ◌*◌, ◌≤◌}
use lib.ListN.{get_or}
use Rattle.order.specs.Order.{strictly_in}
use Rattle.basics.proofs.Loops.{Summed}
use Rattle.turns.proofs.minimums_above.Given as goal

-- the minimum of j, where j is strictly above i
abbrev pub part : List ℕ → List ℕ → ℕ → ℕ → ℕ
part rows minimums i j = cond (strictly_in rows i j) (get_or minimums j 0) 0

abbrev pub invariant-loop-j : goal.invariant-loop-j
invariant-loop-j l = Summed (part l.rows l.minimums l.class) 16 l.total l.j × (l.total ≤ l.j * 4294967296)
