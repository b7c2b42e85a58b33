-- `recordings::Lines::ticks` meets its contract: it counts the trace numbers that are ticks which were made.
use Rattle.std.proofs.Common.{rules, tests, ◌∙◌}
use Rattle.recordings.proofs.Counts.{counted_below, count-fits}
use Rattle.recordings.proofs.Logged.{tick_at, ticks-counted}
use Rattle.recordings.proofs.Lines.ticks.Goals as goal

pub sum-requires-clause-fits : goal.sum-requires-clause-fits
sum-requires-clause-fits c =
    let a = c.args.self.now in
    count-fits (tick_at a.trace.now a.log.now) _ _ _ c.map.ensures.source c.map.ensures.closure (λ x r q k. search (rules, tests)) _ (search rules)

pub returns : goal.returns
returns c =
    let a = c.args.self.now in
    counted_below (tick_at a.trace.now a.log.now) _ _ _ c.map.ensures.source c.map.ensures.closure (λ x r q k. search (rules, tests)) _ c.sum.ensures.ran ∙ ticks-counted a.trace.now a.log.now
