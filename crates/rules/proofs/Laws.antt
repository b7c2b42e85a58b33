-- The laws of `specs/Laws.antt` hold of every policy in range.
-- Assumes nothing.
use mathlib.Core.Path.{◌≡◌, sym, subst}
use mathlib.Core.Bool.{true}
use Prim.Native.Nat.{ℕ, ◌<◌}
use Rattle.policy.specs.Policy.{in_range}
use Rattle.policy.specs.declared.Policy.{Policy}
use Rattle.rules.specs.Laws.{SchedulerLaws}
use Rattle.requests.proofs.Word.{word_back, request_back}
use Rattle.rules.proofs.SingleCalls.{tick_called, offer_called, too_large}
use Rattle.rules.proofs.Queue as waiting
use Rattle.rules.proofs.Range.{ranged}
use Rattle.rules.proofs.Traversal.{ascends}
use Rattle.rules.proofs.Lookahead.{elision}
use Rattle.rules.proofs.CallsKept.{fresh_in_range, offer_in_range, tick_in_range}
use Rattle.rules.proofs.History.{held}

pub scheduler-laws : (p : Policy) → in_range p ≡ true → SchedulerLaws p
scheduler-laws p given =
    record {
      words = record { word_back = word_back; request_back = request_back };
      singly = record { tick_called = tick_called; offer_called = offer_called; too_large = too_large };
      queueing =
          λ s e c l.
          let q = (ranged p s e).queues in
          record {
            at_end = waiting.enqueue-end s.queues c l q.slots_long q.heads_long q.lengths_long;
            closes_up = λ k waits. waiting.dequeue-closes s.queues c l q.slots_long q.heads_long q.lengths_long k waits (q.queue c l).short;
            enqueue_beside = λ d w apart. waiting.enqueue_beside s.queues c d apart w;
            dequeue_beside = λ d k apart. waiting.dequeue_beside s.queues c d apart k;
            counted = λ k. waiting.dequeue-passed s.queues c k (subst (λ (n : ℕ). c < n) (sym q.passed_long) l);
            enqueue_counts = λ d w. waiting.enqueue-passed s.queues c w d;
            dequeue_counts = λ d k apart. waiting.dequeue-else-passed s.queues c k d apart;
          };
      keeping = record { fresh_in_range = fresh_in_range p given; offer_in_range = offer_in_range p; tick_in_range = tick_in_range p };
      ascending = ascends p given;
      eliding = elision p given;
      reached = held p given;
    }
