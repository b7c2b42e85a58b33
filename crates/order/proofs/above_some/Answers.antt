-- `order::above_some` meets its contract. The invariant: what is found so far are the classes above some class of the set below `k`.
use mathlib.Core.Path.{◌≡◌, sym, ap, ap₂, ◌∙◌}
use mathlib.Core.Bool.{Bool, ◌&&◌, ◌||◌}
use Prim.Native.Nat.{ℕ}
use native.Mathlib.Omega.{arith}
use borrow.Author.Rules.{rules}
use lib.Bits.{or_lt}
use Rattle.basics.specs.Below.{some}
use Rattle.masks.specs.Mask.{member}
use Rattle.order.specs.Order.{strictly_in, above_some}
use Rattle.basics.proofs.Truth.{or-false}
use Rattle.basics.proofs.Below.{some-none, some-step}
use Rattle.masks.proofs.Masks.{member-zero, member-or, is-set_of}
use Rattle.order.proofs.Orders.{member-above}
use Rattle.order.proofs.above_some.Invariants.{over}
use Rattle.order.proofs.above_some.Goals as goal
use Rattle.order.proofs.above_some.Goals.{then-has, else-has}

pub loop-k-init : goal.loop-k-init
loop-k-init c = (omega arith, λ j l. member-zero j ∙ sym (some-none _))

pub loop-k-preserved : goal.loop-k-preserved
loop-k-preserved c =
    let rows = c.args.rows in
    let set = c.args.set in
    let k = c.loop-k.k in
    let found = c.loop-k.found in
    elim c.if-has.branch [
      | then-has w ↦
          let inside = sym c.has.ensures ∙ w.if-has.true in (
            rw w.found-is (or_lt 16 found w.above_set-found.result c.loop-k.invariant.0 (search rules)),
            λ j l.
                ap (λ (x : ℕ). member x j) w.found-is
                ∙ member-or found w.above_set-found.result j
                ∙ ap₂ ◌||◌ (c.loop-k.invariant.1 j l)
                (ap (λ (x : ℕ). member x j) w.above_set-found.ensures ∙ member-above rows k j l ∙ sym (ap (λ (b : Bool). b && strictly_in rows k j) inside))
                ∙ sym (some-step (over rows set j) k),
          )
      | else-has w ↦
          let outside = sym c.has.ensures ∙ w.if-has.false in (
            rw w.found-is c.loop-k.invariant.0,
            λ j l.
                ap (λ (x : ℕ). member x j) w.found-is
                ∙ c.loop-k.invariant.1 j l
                ∙ sym (some-step (over rows set j) k ∙ ap (λ (b : Bool). some k (over rows set j) || b && strictly_in rows k j) outside ∙ or-false _),
          )
    ]

pub returns : goal.returns
unfolding above_some
returns c =
    let end : c.loop-k.k ≡ 16 = omega arith in
    is-set_of (λ j. some 16 (over c.args.rows c.args.set j)) c.loop-k.found c.loop-k.invariant.0 (rw end at c.loop-k.invariant.1)
