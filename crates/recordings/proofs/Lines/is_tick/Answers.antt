-- `recordings::Lines::is_tick` meets its contract: it is the definition.
use mathlib.Core.Path.{refl}
use Rattle.recordings.specs.Logged.{is_tick}
use Rattle.recordings.proofs.Lines.is_tick.Goals as goal

pub returns : goal.returns
unfolding is_tick
returns c = refl
