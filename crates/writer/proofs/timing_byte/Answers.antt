-- `writer::timing_byte` meets its contract: the table is the definition's.
use Rattle.writer.specs.Written.{timing_bytes}
use Rattle.writer.proofs.Tables.{looked-up}
use Rattle.writer.proofs.timing_byte.Goals as goal

pub returns : goal.returns
unfolding timing_bytes
returns c = looked-up (timing_bytes c.args.t) c.args.k c.get.result c.get.ensures.lookup c.copied.ensures c.unwrap_or.ensures
