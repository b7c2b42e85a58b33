-- `capi::vigambul_cores` meets its contract: it is the recording of the responses at the cores, its status and its count.
use mathlib.Core.Path.{ap, ◌∙◌}
use Rattle.recordings.specs.Logged.{Recorded, recorded}
use Rattle.recordings.proofs.Logged.{counted-status, counted-count}
use Rattle.capi.proofs.vigambul_cores.Goals as goal

pub returns-clause-value : goal.returns-clause-value
unfolding recorded
returns-clause-value c = c.status_of.ensures ∙ counted-status _ ∙ ap (λ (r : Recorded). r.status) c.cores_of-at_cores.ensures.value

pub returns-clause-count_after : goal.returns-clause-count_after
returns-clause-count_after c = c.unwrap_or.ensures ∙ counted-count _ ∙ ap (λ (r : Recorded). r.count) c.cores_of-at_cores.ensures.value
