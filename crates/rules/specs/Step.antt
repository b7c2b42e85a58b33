-- "Tick number t does, in order:" a turn's start, the command wires, the response.
use Rattle.std.specs.Prelude.{Bool, true, false, cond, ◌&&◌, ◌||◌, List, ℕ, ◌+◌, ◌*◌, ◌/◌, ◌%◌, ltb, eqb}
use Rattle.timing.specs.declared.Timing.{Timing}
use Rattle.policy.specs.declared.Policy.{Policy}
use Rattle.basics.specs.Below.{first}
use Rattle.requests.specs.Sizes.{most_passed}
use Rattle.requests.specs.Word.{request_of}
use Rattle.queues.specs.Waiting.{length_of, passed_of, waiting_at}
use Rattle.flight.specs.Flight.{due_at, sent_at}
use Rattle.rules.specs.Queue.{dequeue}
use Rattle.rules.specs.Traversal.{first_class, candidates, Reached, try_class, left_tried, charged}
use Rattle.rules.specs.Lookahead.{elides}
use Rattle.rules.specs.Wire.{gaps_met, offset_allows, activated}
use Rattle.requests.specs.declared.Wires.{Wires}
use Rattle.requests.specs.declared.Wires.TheVariants.{Nothing, Activate, Column}
use Rattle.queues.specs.declared.Queues.{Queues}
use Rattle.state.specs.declared.Turns.{Turns}
use Rattle.flight.specs.declared.Flight.{Flight}

-- ---- 1

-- "If t is a multiple of the turn length, a turn starts."
unfoldable pub turn_starts : Policy → ℕ → Bool
turn_starts p t = eqb (t % p.timing.turn) 0

-- "the turn's number, t over the turn length"
unfoldable pub turn_number : Policy → ℕ → ℕ
turn_number p t = t / p.timing.turn

-- "If the turn's number .. is a multiple of E, all turns left are set to the caps."
unfoldable pub left_at_start : Policy → ℕ → List ℕ → List ℕ
left_at_start p k left = cond (eqb (k % p.epoch) 0) p.caps left

-- "Turn is 0 unless a turn starts, then 1 + owner, plus 256 if the dead time is dropped." W-212: "The turn number in the log carries in bits 16 to 20 how many classes the walk tried"
unfoldable pub turn_word : ℕ → Bool → ℕ → ℕ
turn_word owner elided tried = 1 + owner + cond elided 256 0 + 65536 * tried

-- what a turn's start hands back: the turns, and the turn's number in the log
pub record TurnStart : Type 0 where
  pub turns : Turns
  pub shown : ℕ

-- "Then the walk picks the owner." It is charged, unless it takes its home turn, and it is decided whether its dead time is elided.
unfoldable pub owned_by : Policy → ℕ → List ℕ → List ℕ → Reached → TurnStart
owned_by p k lengths left reached =
    let after = charged p k lengths left reached.owner in
    let elided = elides p k after reached.pointers reached.owner in
    record {
      turns = record { owner = reached.owner; elided = elided; left = after; pointers = reached.pointers };
      shown = turn_word reached.owner elided reached.tried;
    }

-- the traversal of turn number k
abbrev pub traversal : Policy → ℕ → List ℕ → List ℕ → List ℕ → Reached
traversal p k lengths left pointers = try_class 16 (candidates p.covers lengths (left_tried p k (left_at_start p k left))) pointers (first_class p k)

unfoldable pub start_turn : Policy → ℕ → List ℕ → List ℕ → List ℕ → TurnStart
start_turn p k lengths left pointers = owned_by p k lengths (left_at_start p k left) (traversal p k lengths left pointers)

-- the turns as a tick has them, and the number that it shows of them
unfoldable pub turns_at : Policy → ℕ → List ℕ → Turns → TurnStart
turns_at p t lengths turns = elim (turn_starts p t) [ true ↦ start_turn p (turn_number p t) lengths turns.left turns.pointers | false ↦ record { turns = turns; shown = 0 } ]

-- ---- 2

-- what the second step leaves
pub record Driven : Type 0 where
  pub wires : Wires
  pub queues : Queues
  pub flight : Flight

-- the command bus as the second step finds it: who has the turn, what waits, and what is on its way
pub record Bus : Type 0 where
  pub timing : Timing
  pub cycle : ℕ
  pub owner : ℕ
  pub elided : Bool
  pub queues : Queues
  pub flight : Flight

-- the word of the column command that is due, 0 for none
abbrev pub due_column : Bus → ℕ
due_column b = due_at b.flight.columns b.cycle

-- W-203: "A request that has been the oldest while 15 others passed it goes next, and nothing passes it again": the oldest may go before others, and the k-th from it before it only if fewer than 15 have passed it
abbrev pub may_pass : ℕ → ℕ → Bool
may_pass k passed = eqb k 0 || ltb passed most_passed

-- the owner's k-th request from the oldest may go: it may pass, and its "gaps are met"
unfoldable pub may_go : Bus → ℕ → Bool
may_go b k = may_pass k (passed_of b.queues b.owner) && gaps_met b.timing b.flight (waiting_at b.queues b.owner k) b.cycle

-- W-203: "The owner now activates its oldest request whose gaps are met": the place of the one that goes, counted from the oldest; the queue's length where none may go. `Queue.dequeue` takes out the one at this
-- place.
unfoldable pub goes_at : Bus → ℕ
goes_at b = first (length_of b.queues b.owner) (may_go b)

-- its word
unfoldable pub going : Bus → ℕ
going b = waiting_at b.queues b.owner (goes_at b)

-- "if the offset in the turn allows it and all gaps are met": there is a request that may go
unfoldable pub can_activate : Bus → Bool
can_activate b = offset_allows b.timing b.elided b.cycle && ltb (goes_at b) (length_of b.queues b.owner)

-- the three outcomes: a column command goes out, a request is activated "and leaves the queue", or nothing is sent
abbrev pub column_sent : Bus → Driven
column_sent b =
    record {
      wires = Column (request_of (due_column b));
      queues = b.queues;
      flight = record { columns = sent_at b.flight.columns b.cycle; responses = b.flight.responses; banks = b.flight.banks; last = b.flight.last };
    }

abbrev pub request_sent : Bus → Driven
request_sent b =
    record {
      wires = Activate (request_of (going b));
      queues = dequeue b.queues b.owner (goes_at b);
      flight = activated b.timing b.flight.columns b.flight.responses b.flight.banks (going b) b.cycle;
    }

abbrev pub nothing_sent : Bus → Driven
nothing_sent b = record { wires = Nothing; queues = b.queues; flight = b.flight }

-- "If a column command is due, it goes out. Otherwise" a request of the owner's "is activated and leaves the queue, if .."
unfoldable pub drive : Bus → Driven
drive b =
    elim (eqb (due_column b) 0) [
      | false ↦ column_sent b
      | true ↦ elim (can_activate b) [ true ↦ request_sent b | false ↦ nothing_sent b ]
    ]

-- ---- 3: "If an answer is due, it goes out."

unfoldable pub answered : ℕ → Flight → Flight
answered t f = record { columns = f.columns; responses = sent_at f.responses t; banks = f.banks; last = f.last }
