-- `scheduler::ticking::free_turns` meets its contract: what the least class's cap has above its minimum is the turns that are no home turns.
use mathlib.Core.Path.{◌≡◌}
use Prim.Native.Nat.{◌+◌, ◌<◌}
use native.Mathlib.Omega.{arith}
use lib.ListN.{get_or}
use Rattle.turns.specs.Turns.{free_turns}
use Rattle.policy.specs.Policy.{least, cap, minimum}
use Rattle.policy.proofs.Laws.{policy-laws}
use Rattle.scheduler.proofs.ticking.free_turns.Goals as goal
use Rattle.scheduler.proofs.ticking.free_turns.Goals.{Start}

-- the least class is one of the sixteen
small : (c : Start) → c.args.bottom < 16
small c =
    let laws = policy-laws c.args.p.now c.requires.0 in
    omega (arith, c.requires.1, laws.order.class_small (least c.args.p.now) laws.lowest.is-class)

-- its cap is those turns and its minimum
split : (c : Start) → get_or c.args.p.now.caps c.args.bottom 0 ≡ free_turns c.args.p.now.epoch c.args.p.now.minimums + get_or c.args.p.now.minimums c.args.bottom 0
unfolding cap minimum
split c = rw c.requires.1 (policy-laws c.args.p.now c.requires.0).homes.least_cap

pub offset_bounds-p-bottom : goal.offset_bounds-p-bottom
offset_bounds-p-bottom c = omega (arith, small (goal.at.offset_bounds-p-bottom c).Start)

pub bounds-p-bottom : goal.bounds-p-bottom
bounds-p-bottom c = small (goal.at.bounds-p-bottom c).Start

pub offset_bounds-p-bottom-2 : goal.offset_bounds-p-bottom-2
offset_bounds-p-bottom-2 c = omega (arith, small (goal.at.offset_bounds-p-bottom-2 c).Start)

pub bounds-p-bottom-2 : goal.bounds-p-bottom-2
bounds-p-bottom-2 c = small (goal.at.bounds-p-bottom-2 c).Start

pub overflow_sub-result : goal.overflow_sub-result
overflow_sub-result c = omega (arith, split (goal.at.overflow_sub-result c).Start)

pub returns : goal.returns
returns c = omega (arith, split (goal.at.returns c).Start)
