-- `wires::driving::waiting_at` meets its contract: the place is one of the class's ring.
use Rattle.queues.specs.Waiting.{waiting_at, head_of}
use Rattle.queues.proofs.Waiting.{of-class}
use Rattle.std.proofs.Common.{get_or}
use Rattle.wires.proofs.driving.waiting_at.Goals as goal

pub returns : goal.returns
unfolding waiting_at head_of
returns c = rw (c.place.ensures.value, of-class c.args.class (get_or c.args.queues.now.heads c.args.class 0) c.args.k c.requires)
