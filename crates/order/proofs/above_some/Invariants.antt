-- `order::above_some` meets its contract. The invariant: what is found so far are the classes above some class of the set below `k`.
use mathlib.Core.Path.{◌≡◌}
use mathlib.Core.Bool.{Bool, ◌&&◌}
use mathlib.Core.List.{List}
use Prim.Native.Nat.{ℕ, ◌^◌, ◌<◌}
use Rattle.basics.specs.Below.{some}
use Rattle.masks.specs.Mask.{member}
use Rattle.order.specs.Order.{strictly_in}
use Rattle.order.proofs.above_some.Given as goal

-- class h is in the set, and j is strictly above it
abbrev pub over : List ℕ → ℕ → ℕ → ℕ → Bool
over rows set j h = member set h && strictly_in rows h j

abbrev pub invariant-loop-k : goal.invariant-loop-k
invariant-loop-k l = (l.found < 2 ^ 16) × ((j : ℕ) → j < 16 → member l.found j ≡ some l.k (over l.rows l.set j))
