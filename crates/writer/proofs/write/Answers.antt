-- `writer::write` meets its contract: a policy in range has few enough classes for `file_size`.
use Rattle.std.proofs.Common.{sym, ◌∙◌}
use Rattle.policy.proofs.Laws.{policy-laws}
use Rattle.writer.proofs.write.Goals as goal

pub file_size-size-requires : goal.file_size-size-requires
file_size-size-requires c = (policy-laws c.args.p (sym c.in_range.ensures ∙ c.if-not-in_range.false)).order.classes_few.1
