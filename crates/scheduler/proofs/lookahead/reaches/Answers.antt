-- `scheduler::lookahead::reaches` meets its contract. The invariant: from the present class the lookahead ends as it does from the first. The measure is the number of classes strictly above.
use mathlib.Core.Path.{◌≡◌, refl, sym, ap, ◌∙◌}
use mathlib.Core.Bool.{Bool, true, false, ◌&&◌}
use Prim.Native.Nat.{◌≤◌}
use native.Mathlib.Omega.{arith}
use borrow.Author.Tests.{eq-eqb, ne_eqb}
use lib.Dec.{eqb}
use lib.ListN.{get_or}
use Rattle.masks.specs.Mask.{member, nth}
use Rattle.order.specs.Order.{flows_in, strictly_in, above_in}
use Rattle.basics.proofs.Below.{count-le}
use Rattle.masks.proofs.Masks.{member-small}
use Rattle.rules.specs.Traversal.{moved_pointer, named}
use Rattle.rules.specs.Lookahead.{Ahead, looking_ahead, goes_on}
use Rattle.rules.proofs.Lookahead.{reach_here, reach-fails, reach-on, on-covers, reach-enough}
use Rattle.scheduler.proofs.lookahead.reaches.Goals as goal
use Rattle.scheduler.proofs.lookahead.reaches.Goals.{After-nth-class, Start}

-- what the function was lent
abbrev ahead_of : Start → Ahead
ahead_of s = looking_ahead s.args.p.now.rows s.args.p.now.covers s.args.left.now s.args.pointers.now

abbrev ahead-at : After-nth-class → Ahead
ahead-at c = looking_ahead c.args.p.now.rows c.args.p.now.covers c.args.left.now c.args.pointers.now

-- after a turn of the loop: it went on from a class that is not the owner, to the cover that the class's pointer names
apart : (c : After-nth-class) → eqb c.loop-class.class c.args.owner ≡ false
apart c = ne_eqb c.loop-class.class c.args.owner c.loop-class-test.true

on : (c : After-nth-class) → goes_on (ahead-at c) c.args.owner c.loop-class.class ≡ true
unfolding goes_on flows_in
on c =
    sym (ap (λ (b : Bool). b && eqb (get_or c.args.left.now c.loop-class.class 0) 0) c.has-flows.ensures)
    ∙ c.if-not-flows-spent.false

next : (c : After-nth-class) → c.nth-class.result ≡ named c.args.p.now.covers c.args.pointers.now c.loop-class.class
unfolding named moved_pointer
next c = c.nth-class.ensures ∙ ap (nth (get_or c.args.p.now.covers c.loop-class.class 0)) c.moved-pointer.ensures

covered : (c : After-nth-class) → member (get_or c.args.p.now.covers c.loop-class.class 0) (named c.args.p.now.covers c.args.pointers.now c.loop-class.class) ≡ true
covered c =
    on-covers (ahead-at c) c.args.owner c.requires.0 c.loop-class.class (apart c) (on c)

pub loop-class-init : goal.loop-class-init
loop-class-init c = (c.requires.1, refl)

pub returns-then-not-flows-spent : goal.returns-then-not-flows-spent
unfolding goes_on flows_in
returns-then-not-flows-spent c =
    let apart : eqb c.loop-class.class c.args.owner ≡ false = ne_eqb c.loop-class.class c.args.owner c.loop-class-test.true in
    let stops : goes_on (ahead_of (goal.at.returns-then-not-flows-spent c).Start) c.args.owner c.loop-class.class ≡ false =
    sym (ap (λ (b : Bool). b && eqb (get_or c.args.left.now c.loop-class.class 0) 0) c.has-flows.ensures) ∙ c.if-not-flows-spent.true
    in
    sym (c.loop-class.invariant.1 ∙ reach-fails (ahead_of (goal.at.returns-then-not-flows-spent c).Start) c.args.owner 16 c.loop-class.class apart stops)

pub loop-class-smaller : goal.loop-class-smaller
loop-class-smaller c = rw (next (goal.at.loop-class-smaller c).After-nth-class) (c.requires.0.falls c.loop-class.class _ (covered (goal.at.loop-class-smaller c).After-nth-class))

pub loop-class-preserved : goal.loop-class-preserved
unfolding above_in
loop-class-preserved c =
    let a = c.args in
    let class = c.loop-class.class in
    let then = named a.p.now.covers a.pointers.now class in
    let below : above_in a.p.now.rows then ≤ 15 = omega (arith, c.requires.0.falls class _ (covered (goal.at.loop-class-preserved c).After-nth-class), count-le (strictly_in a.p.now.rows class) 16) in
    rw (next (goal.at.loop-class-preserved c).After-nth-class) (
      member-small (get_or a.p.now.covers class 0) then (c.requires.0.sets class) (covered (goal.at.loop-class-preserved c).After-nth-class),
      c.loop-class.invariant.1
          ∙ reach-on (ahead_of (goal.at.loop-class-preserved c).Start) a.owner 15 class (apart (goal.at.loop-class-preserved c).After-nth-class) (on (goal.at.loop-class-preserved c).After-nth-class)
          ∙ reach-enough (ahead_of (goal.at.loop-class-preserved c).Start) a.owner c.requires.0 15 then below,
    )

pub returns : goal.returns
returns c =
    sym (c.loop-class.invariant.1 ∙ reach_here (ahead_of (goal.at.returns c).Start) c.args.owner 16 c.loop-class.class (eq-eqb c.loop-class.class c.args.owner c.loop-class-test.false))
