-- `queues::right_word` meets its contract: the definition, with what the callees promise.
use Rattle.queues.specs.Waiting.{right_word}
use Rattle.queues.proofs.right_word.Goals as goal

pub returns : goal.returns
unfolding right_word
returns c = rw (c.sound_word.ensures, c.class_of-of.ensures)
