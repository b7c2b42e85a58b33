-- The laws that noninterference rests on. Each is a statement; `proofs/Laws.antt` proves `SchedulerLaws p` of every policy in range.
use Rattle.std.specs.Prelude.{◌≡◌, ◌⊎◌, true, List, [], ◌∷◌, ◌++◌, ℕ, ◌+◌, ◌≤◌, ◌<◌, take, drop}
use Rattle.policy.specs.Policy.{is_class, flows}
use Rattle.policy.specs.declared.Policy.{Policy}
use Rattle.requests.specs.Sizes.{ring_places}
use Rattle.requests.specs.Word.{is_offer, request_of, word_of}
use Rattle.queues.specs.Waiting.{length_of, passed_of, waiting}
use Rattle.rules.specs.Queue.{enqueue, passed_after, dequeue}
use Rattle.rules.specs.Traversal.{candidates, try_class}
use Rattle.rules.specs.Lookahead.{elides}
use Rattle.rules.specs.Step.{start_turn}
use Rattle.state.specs.Range.{in_range}
use Rattle.state.specs.Fresh.{fresh}
use Rattle.rules.specs.Call.{offer, tick}
use Rattle.rules.specs.Calls.{ticked, offered, answer_to}
use Rattle.rules.specs.History.{FromFresh, Held}
use Rattle.requests.specs.declared.Request.{Request}
use Rattle.queues.specs.declared.Queues.{Queues}
use Rattle.state.specs.declared.State.{State}

-- the traversal ends at a class to which the class where it starts may flow
abbrev pub Ascends : Policy → Type 0
Ascends p =
    (bound : ℕ) (lengths left pointers : List ℕ) (c : ℕ) → is_class p c ≡ true → flows p c (try_class bound (candidates p.covers lengths left) pointers c).owner ≡ true

-- the elision lemma: if the dead time of turn k is elided, then, whatever waits when turn k + 1 starts, the owner of that is one to which the owner of k may flow
abbrev pub Elision : Policy → Type 0
Elision p =
    (k : ℕ) (left pointers : List ℕ) (owner : ℕ) → is_class p owner ≡ true → elides p k left pointers owner ≡ true → (lengths : List ℕ)
    → flows p owner (start_turn p (k + 1) lengths left pointers).turns.owner ≡ true

-- every public call keeps a state in range
pub record KeepsRange (p : Policy) : Type 0 where
  pub fresh_in_range : in_range p (fresh p).state ≡ true
  pub offer_in_range : (s : State) (r : Request) → in_range p s ≡ true → in_range p (offer p s r).state ≡ true
  pub tick_in_range : (s : State) → in_range p s ≡ true → in_range p (tick p s).state ≡ true

-- a request and its word say the same
pub record WordLaws : Type 0 where
  pub word_back : (w : ℕ) → is_offer w ≡ true → word_of (request_of w) ≡ w
  pub request_back : (r : Request) → r.class < 32 → r.rank < 4 → r.kind < 4 → r.bank < 16 → r.tag < 65536 → request_of (word_of r) ≡ r

-- a call made singly is the call of one trace number: a tick that of 0, and an offer of any request that of the request's word
pub record SingleLaws : Type 0 where
  pub tick_called : (p : Policy) (s : State) → answer_to p s 0 ≡ ticked (tick p s)
  pub offer_called : (p : Policy) (s : State) (r : Request) → answer_to p s (word_of r) ≡ offered (offer p s r)
  -- a request of which the word cannot hold a number as it is, which document 01 leaves open, is refused
  pub too_large : (p : Policy) (s : State) (r : Request) → in_range p s ≡ true → (32 ≤ r.class) ⊎ (4 ≤ r.rank) ⊎ (4 ≤ r.kind) ⊎ (16 ≤ r.bank)
      → (((offer p s r).status ≡ 9) ⊎ ((offer p s r).status ≡ 10)) × ((offer p s r).state ≡ s)

-- the waiting requests of a class: an enqueue puts one at the end, a dequeue takes the k-th from the oldest and "the rest of the queue closes up in its order" (W-203), and other classes' stay. And how many have passed the oldest: a dequeue of
-- another counts one more, one of the oldest sets it to 0, and nothing else changes it.
pub record WaitingLaws (q : Queues) (c : ℕ) : Type 0 where
  pub at_end : (w : ℕ) → length_of q c < ring_places → waiting (enqueue q c w) c ≡ waiting q c ++ (w ∷ [])
  pub closes_up : (k : ℕ) → k < length_of q c → waiting (dequeue q c k) c ≡ take k (waiting q c) ++ drop (k + 1) (waiting q c)
  pub enqueue_beside : (d w : ℕ) → ((d ≡ c) → ⊥) → waiting (enqueue q c w) d ≡ waiting q d
  pub dequeue_beside : (d k : ℕ) → ((d ≡ c) → ⊥) → waiting (dequeue q c k) d ≡ waiting q d
  pub counted : (k : ℕ) → passed_of (dequeue q c k) c ≡ passed_after k (passed_of q c)
  pub enqueue_counts : (d w : ℕ) → passed_of (enqueue q c w) d ≡ passed_of q d
  pub dequeue_counts : (d k : ℕ) → ((d ≡ c) → ⊥) → passed_of (dequeue q c k) d ≡ passed_of q d

-- the laws of every policy in range
pub record SchedulerLaws (p : Policy) : Type 0 where
  pub words : WordLaws
  pub singly : SingleLaws
  pub queueing : (s : State) → in_range p s ≡ true → (c : ℕ) → c < 16 → WaitingLaws s.queues c
  pub keeping : KeepsRange p
  pub ascending : Ascends p
  pub eliding : Elision p
  pub reached : (s : State) → FromFresh p s → Held p s
