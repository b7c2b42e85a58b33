-- The waiting requests: a queue for each class, of at most as many as its ring has places, oldest first. `Waiting` (crate `queues`) has how it is stored.
use Rattle.std.specs.Prelude.{true, false, cond, List, ℕ, zero, suc, ◌+◌, ◌-◌, ◌%◌, ltb, eqb, get_or, set}
use Rattle.queues.specs.Waiting.{head_of, length_of, passed_of, place}
use Rattle.requests.specs.Sizes.{ring_places}
use Rattle.requests.specs.Word.{class_fits, bank_kind_rank_fit, word_of}
use Rattle.requests.specs.declared.Request.{Request}
use Rattle.queues.specs.declared.Queues.{Queues}

-- "goes to the end of its class's queue as it is"
unfoldable pub enqueue : Queues → ℕ → ℕ → Queues
enqueue q c w =
    record {
      slots = set q.slots (place c (head_of q c) (length_of q c)) w;
      heads = q.heads;
      lengths = set q.lengths c (length_of q c + 1);
      passed = q.passed;
    }

-- W-203: "The rest of the queue closes up in its order." The k requests older than the one that leaves move by one place each, the youngest of them first into the place that it leaves.
unfoldable pub closed_up : List ℕ → ℕ → ℕ → ℕ → List ℕ
closed_up slots c head zero = slots
closed_up slots c head (suc k) = closed_up (set slots (place c head (suc k)) (get_or slots (place c head k) 0)) c head k

-- W-203: how many have passed the oldest, once the k-th from it has gone: one more "passed it", or there is a new oldest, which none has passed
unfoldable pub passed_after : ℕ → ℕ → ℕ
passed_after k passed = cond (eqb k 0) 0 (passed + 1)

-- the k-th request from the oldest "leaves the queue"
unfoldable pub dequeue : Queues → ℕ → ℕ → Queues
dequeue q c k =
    record {
      slots = closed_up q.slots c (head_of q c) k;
      heads = set q.heads c ((head_of q c + 1) % ring_places);
      lengths = set q.lengths c (length_of q c - 1);
      passed = set q.passed c (passed_after k (passed_of q c));
    }

-- ---- offers: "offers 13, 9, 10, 11"

-- 9, 10 and 11, in that order, of an offer on queues in range, where there are n classes and so many ranks; 0 where none refuses it
unfoldable pub offer_status : ℕ → ℕ → List ℕ → Request → ℕ
offer_status n ranks lengths r = cond (class_fits n r) (cond (bank_kind_rank_fit ranks r) (cond (ltb (get_or lengths r.class 0) ring_places) 0 11) 10) 9

-- "An offer that is not turned down goes to the end of its class's queue as it is"; one that is refused changes nothing
unfoldable pub queues_after : ℕ → ℕ → Queues → Request → Queues
queues_after n ranks q r = elim (eqb (offer_status n ranks q.lengths r) 0) [ true ↦ enqueue q r.class (word_of r) | false ↦ q ]
