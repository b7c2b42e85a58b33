-- `recordings::in_step` meets its contract: it is the first event whose two are no partners. No due cycle wraps.
use Rattle.std.proofs.Common.{rules, tests, arith, ◌∙◌}
use Rattle.std.proofs.iter.Serving.{serving}
use Rattle.recordings.specs.Recording.{cycle_at, word_at}
use Rattle.recordings.specs.Match.{partners}
use Rattle.recordings.proofs.Recordings.{due_reads}
use Rattle.basics.proofs.Ranges.{first_below}
use Rattle.recordings.proofs.in_step.Goals as goal

pub find-requires-clause-callable : goal.find-requires-clause-callable
find-requires-clause-callable c = grind (serving, arith, due_reads)

pub returns : goal.returns
unfolding partners cycle_at word_at
returns c = c.unwrap_or.ensures ∙ first_below _ _ _ _ _ c.find.ensures.ran (λ x b q k. search (rules, tests))
