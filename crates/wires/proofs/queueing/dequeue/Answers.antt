-- `wires::queueing::dequeue` meets its contract: the next place of a ring is that of the head's remainder, and the rest is what its parts promise.
use Rattle.std.proofs.Common.{◌≡◌, ◌+◌, ◌%◌, get_or, arith}
use Rattle.queues.specs.Waiting.{head_of, length_of, passed_of}
use Rattle.rules.specs.Queue.{dequeue}
use Rattle.wires.proofs.queueing.dequeue.Goals as goal

pub passed_after-requires : goal.passed_after-requires
passed_after-requires c = c.requires.2

pub returns : goal.returns
unfolding dequeue head_of length_of passed_of
returns c =
    let head = get_or c.args.queues.now.heads c.args.class 0 in
    let next : (head % 8 + 1) % 8 ≡ (head + 1) % 8 = omega arith in
    rw (c.close_up.ensures, c.passed_after.ensures, next)
