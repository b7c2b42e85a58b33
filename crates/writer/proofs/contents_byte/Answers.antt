-- `writer::contents_byte` meets its contract: the table is the definition's.
use Rattle.std.proofs.Common.{ℕ, ◌∙◌, ap, get_or}
use Rattle.writer.specs.Written.{contents}
use Rattle.writer.proofs.Tables.{looked-up}
use Rattle.writer.proofs.contents_byte.Goals as goal

pub returns : goal.returns
unfolding contents
returns c =
    let a = c.args in
    looked-up (contents a.p.classes c.timing_size-size.result) a.k c.get.result c.get.ensures.lookup c.copied.ensures c.unwrap_or.ensures ∙ ap (λ (size : ℕ). get_or (contents a.p.classes size) a.k 0) c.timing_size-size.ensures.value
