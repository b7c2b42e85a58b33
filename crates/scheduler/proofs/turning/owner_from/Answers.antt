-- `scheduler::turning::owner_from` meets its contract: each branch is the side of the contract that its test picks. Where the traversal starts, none was tried before.
use mathlib.Core.Path.{◌≡◌, ap, ◌∙◌}
use Prim.Native.Nat.{ℕ, ◌+◌}
use native.Mathlib.Omega.{arith}
use Rattle.order.specs.Order.{strictly_in, above_in}
use Rattle.basics.proofs.Below.{count-le}
use Rattle.rules.specs.Traversal.{Reached, ends_at, also_tried}
use Rattle.scheduler.proofs.turning.owner_from.Goals as goal

pub returns-then-taken : goal.returns-then-taken
unfolding ends_at
returns-then-taken c = rw c.if-taken.true

pub try_class-requires : goal.try_class-requires
unfolding above_in
try_class-requires c =
    (c.requires.0, c.requires.1, c.requires.2, omega (arith, c.requires.3, count-le (strictly_in c.args.p.now.rows c.args.from) 16))

none_before : (before : ℕ) (r : Reached) → before ≡ 0 → also_tried before r ≡ r
none_before before r none = let same : before + r.tried ≡ r.tried = omega (arith, none) in ap (λ (n : ℕ). record { owner = r.owner; pointers = r.pointers; tried = n }) same

pub returns : goal.returns
returns c =
    rw c.if-taken.false (c.try_class.ensures ∙ none_before _ _ c.requires.3)
