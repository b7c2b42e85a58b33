-- What the second step of a tick rests on, and every state in range has: sound timing, a class for the owner, a queue of sound requests no longer than its ring, and an offer's word where a
-- column command is due.
use Rattle.std.specs.Prelude.{◌≡◌, true, ℕ, ◌≤◌, ◌<◌}
use Rattle.policy.specs.Laws.{TimingLaws}
use Rattle.requests.specs.Sizes.{last_cycle, ring_places}
use Rattle.requests.specs.Word.{kind_of, is_offer}
use Rattle.queues.specs.Waiting.{length_of, waiting_at}
use Rattle.rules.specs.Step.{Bus, due_column}

pub record SoundRequest (w : ℕ) : Type 0 where
  pub offer : is_offer w ≡ true
  pub kind : kind_of w < 2

pub record Ready (b : Bus) : Type 0 where
  pub timed : TimingLaws b.timing
  pub ticks_left : b.cycle < last_cycle
  pub class : b.owner < 16
  pub short : length_of b.queues b.owner ≤ ring_places
  pub sound : (k : ℕ) → k < length_of b.queues b.owner → SoundRequest (waiting_at b.queues b.owner k)
  pub due_offer : ((due_column b ≡ 0) → ⊥) → is_offer (due_column b) ≡ true
