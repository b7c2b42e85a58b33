-- `recordings::rises` meets its contract: each event but the last passes the test.
use Rattle.std.proofs.Common.{rules, tests, ◌∙◌, ap, ℕ, ltb, suc}
use Rattle.basics.specs.Below.{every}
use Rattle.recordings.specs.Recording.{events_in, cycle_at, rises}
use Rattle.basics.proofs.Ranges.{all_below}
use Rattle.recordings.proofs.Recordings.{cycle-next}
use Rattle.recordings.proofs.rises.Goals as goal

pub returns : goal.returns
unfolding rises events_in cycle_at
returns c =
    let r = c.args.recording.now in
    all_below (λ i. ltb (cycle_at r i) (cycle_at r (suc i))) _ _ _ _ c.all.ensures.ran (λ x b q k. search (rules, tests, cycle-next r x))
    ∙ ap (λ (n : ℕ). every n (λ i. ltb (cycle_at r i) (cycle_at r (suc i)))) c.saturating_sub-pairs.ensures
