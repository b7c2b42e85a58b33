-- `wires::queueing::enqueue` meets its contract: the place is one of the class's ring.
use Rattle.std.proofs.Common.{get_or}
use Rattle.queues.specs.Waiting.{head_of, length_of}
use Rattle.queues.proofs.Waiting.{of-class}
use Rattle.rules.specs.Queue.{enqueue}
use Rattle.wires.proofs.queueing.enqueue.Goals as goal

pub returns : goal.returns
unfolding enqueue head_of length_of
returns c =
    let q = c.args.queues.now in
    rw (c.place-place.ensures.value, of-class c.args.class (get_or q.heads c.args.class 0) (get_or q.lengths c.args.class 0) c.requires.0)
