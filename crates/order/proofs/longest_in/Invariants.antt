-- `order::longest_in` meets its contract. The invariant: `risen` are the classes at the end of the chains of `steps` steps, and each smaller number of steps has some.
use mathlib.Core.Path.{◌≡◌}
use lib.Dec.{eqb}
use Rattle.order.specs.Order.{risen_to}
use Rattle.basics.proofs.Loops.{Missed}
use Rattle.order.proofs.longest_in.Given as goal

abbrev pub invariant-loop-steps : goal.invariant-loop-steps
invariant-loop-steps l = (l.risen ≡ risen_to l.rows l.class l.steps) × Missed (λ k. eqb (risen_to l.rows l.class k) 0) 16 l.steps
