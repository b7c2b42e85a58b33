-- The waiting requests: how they are stored, and what 13 refuses of them. Those of a class, oldest first, are a ring of 8 places: its head's place, its length, and the
-- words from there on. W-206: "waiting and in-flight requests hold" the rank: each is stored by its word. Beside each queue stands how many requests have passed its oldest.
use Rattle.std.specs.Prelude.{Bool, ◌&&◌, ◌||◌, List, ℕ, ◌+◌, ◌*◌, ◌%◌, leb, ltb, eqb, get_or}
use Rattle.basics.specs.Below.{list_of, every}
use Rattle.requests.specs.Sizes.{ring_places, most_passed}
use Rattle.requests.specs.Word.{class_of, sound_word}
use Rattle.queues.specs.declared.Queues.{Queues}

unfoldable pub head_of : Queues → ℕ → ℕ
head_of q c = get_or q.heads c 0

-- how many requests of the class wait
unfoldable pub length_of : Queues → ℕ → ℕ
length_of q c = get_or q.lengths c 0

-- W-203: how many requests of the class have passed its present oldest while that was the oldest
unfoldable pub passed_of : Queues → ℕ → ℕ
passed_of q c = get_or q.passed c 0

-- where the class's k-th request from the oldest, which is 0, is stored
unfoldable pub place : ℕ → ℕ → ℕ → ℕ
place c head k = ring_places * c + (head + k) % ring_places

unfoldable pub waiting_at : Queues → ℕ → ℕ → ℕ
waiting_at q c k = get_or q.slots (place c (head_of q c) k) 0

-- the waiting requests of a class, oldest first
unfoldable pub waiting : Queues → ℕ → List ℕ
waiting q c = list_of (length_of q c) (waiting_at q c)

-- ---- in range: "Out of range in 13 means", clause by clause

-- "a waiting .. request that 9 or 10 would refuse, or that waits in another class's queue"
unfoldable pub right_word : ℕ → ℕ → ℕ → ℕ → Bool
right_word n ranks c w = sound_word n ranks w && eqb (class_of w) c

-- "a queue length above 8", and a head that is none of the ring's places
unfoldable pub ring_in_range : ℕ → ℕ → List ℕ → ℕ → ℕ → ℕ → Bool
ring_in_range n ranks slots c head len = leb len ring_places && ltb head ring_places && every ring_places (λ k. leb len k || right_word n ranks c (get_or slots (place c head k) 0))

-- W-203: "A stored count above 15 gets 13."
unfoldable pub queue_in_range : ℕ → ℕ → Queues → ℕ → Bool
queue_in_range n ranks q c = ring_in_range n ranks q.slots c (head_of q c) (length_of q c) && leb (passed_of q c) most_passed
