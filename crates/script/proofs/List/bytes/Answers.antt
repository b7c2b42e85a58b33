-- Each place has the byte that the closure makes of its number.
use Rattle.std.proofs.Common.{rules, tests}
use Rattle.basics.proofs.Ranges.{filled_below}
use Rattle.script.proofs.List.bytes.Goals as goal

pub returns : goal.returns
returns g c = filled_below _ _ _ _ c.from_fn.ensures.items (λ x y q k. search (rules, tests))
