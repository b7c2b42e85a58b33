-- `wires::queueing::close_up` meets its contract. The invariant: closing up the `older` requests that are left comes to closing up all.
use Rattle.std.proofs.Common.{◌≡◌}
use Rattle.rules.specs.Queue.{closed_up}
use Rattle.wires.proofs.queueing.close_up.Given as goal

abbrev pub invariant-loop-older : goal.invariant-loop-older
invariant-loop-older l = closed_up l.slots l.class l.head l.older ≡ closed_up l.initial.slots l.class l.head l.k
