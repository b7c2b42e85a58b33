-- `scheduler::lookahead::reaches` meets its contract. The invariant: from the present class the lookahead ends as it does from the first. The measure is the number of classes strictly above.
use mathlib.Core.Path.{◌≡◌}
use Prim.Native.Nat.{◌<◌}
use Rattle.order.specs.Order.{above_in}
use Rattle.rules.specs.Lookahead.{looking_ahead, reaches}
use Rattle.scheduler.proofs.lookahead.reaches.Given as goal

abbrev pub invariant-loop-class : goal.invariant-loop-class
invariant-loop-class l =
    (l.class < 16) × (reaches 16 (looking_ahead l.p.rows l.p.covers l.left l.pointers) l.owner l.from ≡ reaches 16 (looking_ahead l.p.rows l.p.covers l.left l.pointers) l.owner l.class)

abbrev pub decreases-loop-class : goal.decreases-loop-class
decreases-loop-class l = above_in l.p.rows l.class
