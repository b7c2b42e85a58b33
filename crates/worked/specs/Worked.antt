-- Document 01's "Worked turns" (a) to (h), of which W-202 changes (c) and (d), W-202's own, W-209's, W-203's, W-206's and W-212's: one table, whose cases the definitions yield. (a) and (e) speak of every turn, so they are stated of
-- every policy too.
use Rattle.std.specs.Prelude.{◌≡◌, ◌↔◌, Bool, true, false, not, ◌&&◌, List, [], ◌∷◌, ◌++◌, map, ℕ, zero, suc, ◌+◌, ◌*◌, ltb, eqb, length, get_or, drop, replicate}
use Rattle.basics.specs.Below.{count}
use Rattle.file.specs.File.{read_file}
use Rattle.policy.specs.Policy.{least, covers_of, cap, walk_bound, in_range}
use Rattle.file.specs.Taken.{policy_of}
use Rattle.policy.specs.declared.Policy.{Policy}
use Rattle.queues.specs.Waiting.{length_of, passed_of}
use Rattle.rules.specs.Step.{start_turn}
use Rattle.state.specs.Fresh.{zeros, fresh_state}
use Rattle.rules.specs.Calls.{state_after, log_of}
use Rattle.rules.specs.Overtaking.{commands_in}
use Rattle.rules.specs.Guarantees.{ticks_in, at_tick, first_tick, Started, Waits, owned_in}

-- a policy by its rows, its epoch, its minimums and its timing, of ten numbers or of eleven
unfoldable pub timed : List ℕ → ℕ → List ℕ → ℕ → List ℕ → Policy
timed rows epoch minimums n timing = policy_of n (λ i. get_or rows i 0) epoch (λ i. get_or minimums i 0) (length timing) (λ i. get_or timing i 0)

-- with the timing of the printed log
unfoldable pub example : List ℕ → ℕ → List ℕ → ℕ → Policy
example rows epoch minimums n = timed rows epoch minimums n (4 ∷ 2 ∷ 2 ∷ 2 ∷ 2 ∷ 2 ∷ 2 ∷ 2 ∷ 1 ∷ 2 ∷ [])

-- one class alone
unfoldable pub alone : Policy
alone = example (1 ∷ []) 1 (0 ∷ []) 1

-- 0 below 1
unfoldable pub pair : Policy
pair = example (3 ∷ 2 ∷ []) 3 (0 ∷ 2 ∷ []) 2

-- 0 below 1 and 2, which are incomparable
unfoldable pub fork : Policy
fork = example (7 ∷ 2 ∷ 4 ∷ []) 3 (0 ∷ 1 ∷ 1 ∷ []) 3

-- the same with an epoch of 8 turns and no minimums, so that class 0 has turns left
unfoldable pub spare : Policy
spare = example (7 ∷ 2 ∷ 4 ∷ []) 8 (0 ∷ 0 ∷ 0 ∷ []) 3

-- a chain of three
unfoldable pub chain : Policy
chain = example (7 ∷ 6 ∷ 4 ∷ []) 3 (0 ∷ 1 ∷ 1 ∷ []) 3

-- W-212: the same without home turns
unfoldable pub long_chain : Policy
long_chain = example (7 ∷ 6 ∷ 4 ∷ []) 3 (0 ∷ 0 ∷ 0 ∷ []) 3

-- 1 below 0, and minimums that fill the epoch: each turn is a home turn, of 0 and of 1 by turns
unfoldable pub full : Policy
full = example (1 ∷ 3 ∷ []) 2 (1 ∷ 1 ∷ []) 2

-- W-209: one class alone, with a home turn
unfoldable pub alone_at_home : Policy
alone_at_home = example (1 ∷ []) 3 (1 ∷ []) 1

-- a chain of three, where the least class has a home turn too
unfoldable pub chain_at_home : Policy
chain_at_home = example (7 ∷ 6 ∷ 4 ∷ []) 5 (1 ∷ 1 ∷ 1 ∷ []) 3

-- 0 below 1 and 2, which are incomparable, and minimums that fill the epoch
unfoldable pub fork_filled : Policy
fork_filled = example (7 ∷ 2 ∷ 4 ∷ []) 4 (1 ∷ 2 ∷ 1 ∷ []) 3

-- 0 below 1, whose home turns fill the epoch
unfoldable pub filled_above : Policy
filled_above = example (3 ∷ 2 ∷ []) 2 (0 ∷ 2 ∷ []) 2

-- 1 below 0 and 2, which are incomparable: the least class is not number 0
unfoldable pub least_is_one : Policy
least_is_one = example (1 ∷ 7 ∷ 4 ∷ []) 4 (1 ∷ 0 ∷ 1 ∷ []) 3

-- W-203: one class alone in turns of 20 cycles, with gaps of 1 between two of one kind and of 2 between two kinds, and of 6 in a bank
unfoldable pub busy_bank : Policy
busy_bank = timed (1 ∷ []) 1 (0 ∷ []) 1 (20 ∷ 8 ∷ 1 ∷ 2 ∷ 2 ∷ 1 ∷ 6 ∷ 6 ∷ 1 ∷ 2 ∷ [])

-- one class alone in turns of 64 cycles, where a write waits 8 cycles after a read, and all other gaps are 1
unfoldable pub slow_writes : Policy
slow_writes = timed (1 ∷ []) 1 (0 ∷ []) 1 (64 ∷ 8 ∷ 1 ∷ 8 ∷ 1 ∷ 1 ∷ 1 ∷ 1 ∷ 1 ∷ 2 ∷ [])

-- W-206: the policy of the busy bank with a rank gap of 3, so with four ranks
unfoldable pub four_ranks : Policy
four_ranks = timed (1 ∷ []) 1 (0 ∷ []) 1 (20 ∷ 8 ∷ 1 ∷ 2 ∷ 2 ∷ 1 ∷ 6 ∷ 6 ∷ 1 ∷ 2 ∷ 3 ∷ [])

-- ---- traces and logs

-- so many ticks, and so many offers of reads of a class, in bank 0
unfoldable pub ticks : ℕ → List ℕ
ticks n = replicate n 0

unfoldable pub reads : ℕ → ℕ → List ℕ
reads n c = replicate n (0x80000000 + 0x01000000 * c)

-- W-201: "A customer's least class .. sends on every second turn": a read of class 0 and the ticks of two turns, so many times
unfoldable pub every_second : ℕ → List ℕ
every_second zero = []
every_second (suc n) = reads 1 0 ++ ticks 8 ++ every_second n

-- before each of so many turns these offers, and the ticks of the turn: a class with an offer among them has a request waiting as each turn starts
unfoldable pub each_turn : List ℕ → ℕ → List ℕ
each_turn offers zero = []
each_turn offers (suc n) = offers ++ ticks 4 ++ each_turn offers n

-- the log of a trace, from the fresh state
unfoldable pub log_from : Policy → List ℕ → List ℕ
log_from p trace = log_of p (fresh_state p) trace

-- the turn numbers of a log of so many calls: the last of each call's four numbers, where a turn starts
unfoldable pub turns_in : ℕ → List ℕ → List ℕ
turns_in zero log = []
turns_in (suc calls) log = elim (eqb (get_or log 3 0) 0) [ true ↦ turns_in calls (drop 4 log) | false ↦ get_or log 3 0 ∷ turns_in calls (drop 4 log) ]

unfoldable pub turns_from : Policy → List ℕ → List ℕ
turns_from p trace = turns_in (length trace) (log_from p trace)

-- W-203: so many times two ticks and a read of class 0
unfoldable pub refilled : ℕ → List ℕ
refilled zero = []
refilled (suc n) = ticks 2 ++ reads 1 0 ++ refilled n

-- a read, a write and six reads of class 0, all in bank 0, and then two ticks and one read more, so many times: some always wait
unfoldable pub behind_reads : ℕ → List ℕ
behind_reads n = reads 1 0 ++ (0x80100000 ∷ []) ++ reads 6 0 ++ refilled n

-- the command numbers of a trace
unfoldable pub commands_from : Policy → List ℕ → List ℕ
commands_from p trace = commands_in (length trace) (log_from p trace)

-- how many requests have passed class 0's oldest, after a trace
unfoldable pub passed_from : Policy → List ℕ → ℕ
passed_from p trace = passed_of (state_after p (fresh_state p) trace).queues 0

-- class c has a request waiting at the start of turn number k, which starts: W-209's premise as a truth value (`WorkedTurns.waiting`)
unfoldable pub waits_at : Policy → List ℕ → ℕ → ℕ → Bool
waits_at p trace c k = ltb (first_tick p k) (ticks_in p trace) && not (eqb (length_of (at_tick p trace (first_tick p k)).queues c) 0)

-- W-209: at how many turn starts of an epoch the least class has a request waiting, how many of the epoch's turns it owns, and its cap
unfoldable pub epoch_of_least : Policy → List ℕ → ℕ → List ℕ
epoch_of_least p trace e = count p.epoch (λ j. waits_at p trace (least p) (e * p.epoch + j)) ∷ owned_in p trace e (least p) ∷ cap p (least p) ∷ []

-- the turn numbers of a trace of two epochs, and these numbers of each
unfoldable pub two_epochs : Policy → List ℕ → List ℕ
two_epochs p trace = turns_from p trace ++ epoch_of_least p trace 0 ++ epoch_of_least p trace 1

-- one turn's start, by its number, how many of each class wait and the turns left before it: the number that it shows, and the turns left after it
unfoldable pub start_of : Policy → ℕ → List ℕ → List ℕ → List ℕ
start_of p k lengths left = let start = start_turn p k lengths left (zeros 16) in start.shown ∷ start.turns.left

-- W-212: how many classes a walk from each of the first three tries at most
unfoldable pub bounds_of : Policy → List ℕ
bounds_of p = walk_bound p 0 ∷ walk_bound p 1 ∷ walk_bound p 2 ∷ []

-- the printed policy file, with these minimums
unfoldable pub printed : ℕ → ℕ → List ℕ
printed m₀ m₁ =
    0x03 ∷ 0x01 ∷ 0x10 ∷ 0x00 ∷ 0x05 ∷ 0x00 ∷ 0x02 ∷ 0x15 ∷ 0x00 ∷ 0x03 ∷ 0x00 ∷ 0x03 ∷ 0x18 ∷ 0x00 ∷ 0x0A ∷ 0x00 ∷ 0x02 ∷ 0x03 ∷ 0x00 ∷ 0x02 ∷ 0x00 ∷ 0x03 ∷ m₀ ∷ m₁ ∷ 0x04 ∷ 0x02 ∷ 0x02 ∷ 0x02 ∷ 0x02 ∷ 0x02 ∷ 0x02 ∷ 0x02 ∷ 0x01 ∷ 0x02 ∷ []

-- W-206: the same file with an eleventh byte in its timing body
unfoldable pub printed_ranked : ℕ → List ℕ
printed_ranked gap =
    0x03 ∷ 0x01 ∷ 0x10 ∷ 0x00 ∷ 0x05 ∷ 0x00 ∷ 0x02 ∷ 0x15 ∷ 0x00 ∷ 0x03 ∷ 0x00 ∷ 0x03 ∷ 0x18 ∷ 0x00 ∷ 0x0B ∷ 0x00 ∷ 0x02 ∷ 0x03 ∷ 0x00 ∷ 0x02 ∷ 0x00 ∷ 0x03 ∷ 0x00 ∷ 0x02 ∷ 0x04 ∷ 0x02 ∷ 0x02 ∷ 0x02 ∷ 0x02 ∷ 0x02 ∷ 0x02 ∷ 0x02 ∷ 0x01 ∷ 0x02 ∷ gap ∷ []

-- ---- the table

-- what the definitions yield, and what documents 01 and 02 say. In a turn of these four cycles an owner activates two requests at most, so a class that was offered one more than
-- its turns can send is "always waiting". A turn's number is 1 + owner, 0x100 more where the dead time is dropped, and W-212: 0x10000 more for each class that the walk tried.
pub record Case : Type 0 where
  pub yielded : List ℕ
  pub stated : List ℕ

unfoldable pub table : List Case
table =
    -- (a) "n = 1 owns every turn and always drops"
    record { yielded = turns_from alone (ticks 13); stated = 0x10101 ∷ 0x10101 ∷ 0x10101 ∷ 0x10101 ∷ [] }
    -- (b) "two classes 0 below 1, E = 3, minimums 0 and 2, class 0 always waiting: owners 0, 1, 1, dead time dropped, dropped, kept". Turns 1 and 2 are home turns of 1, which is idle with nothing above it.
    -- 0 and 1 may flow to 1, whose home turn is next; after turn 2 comes the next epoch's first turn, where the trial walk fails at 0, which has its cap again.
    ∷ record { yielded = turns_from pair (reads 3 0 ++ ticks 9); stated = 0x10101 ∷ 0x10102 ∷ 0x10002 ∷ [] }
    -- (c) "0 below 1 and 2, both incomparable, caps of 0 used up: after a turn of 1 the walk goes to 2, so 1 keeps its dead time". W-202: "case (c) is taken with E = 3 and minimums 0, 1, 1, where the
    -- turn after 1's is the home turn of 2". 0 may flow to 1 and drops, 1 may not flow to 2; 2 keeps as 1 does in (b).
    ∷ record { yielded = turns_from fork (reads 3 0 ++ ticks 9); stated = 0x10101 ∷ 0x10002 ∷ 0x10003 ∷ [] }
    -- (d) "a chain of three, E = 3, minimums 0, 1, 1, classes 0 and 1 always waiting". W-202: "Case (d) then gives 0, 1, 2". After turn 0 come the home turns of 1, which waits, and of 2, which is idle with
    -- nothing above it. 0 may flow to 1 and 1 to 2, so both drop; 2 keeps as 1 does in (b).
    ∷ record { yielded = turns_from chain (reads 3 0 ++ reads 3 1 ++ ticks 9); stated = 0x10101 ∷ 0x10102 ∷ 0x10003 ∷ [] }
    -- (e) "nobody waits: the walk ends at a class with nothing above". From 0 it goes to 1 in turn 0 and to 2 in turn 3, as 0's mark names them; turns 1 and 2 are the home turns of 1 and 2. Before its own home
    -- turn 1 drops, and before the other's each keeps; 2 in turn 2 keeps as in (c).
    ∷ record { yielded = turns_from fork (ticks 13); stated = 0x20102 ∷ 0x10002 ∷ 0x10003 ∷ 0x20003 ∷ [] }
    -- (f) "the eighth offer is taken, the ninth gets 11, and after an activate one more is taken"
    ∷ record {
      yielded = log_from alone (reads 9 0 ++ ticks 1 ++ reads 1 0);
      stated = zeros 32 ++ (11 ∷ 0 ∷ 0 ∷ 0 ∷ 0 ∷ 0x80000000 ∷ 0 ∷ 0x10101 ∷ 0 ∷ 0 ∷ 0 ∷ 0 ∷ []);
    }
    -- (g) "a sum of minimums equal to E is taken, one equal to E + 1 gets 7"
    ∷ record { yielded = (read_file (printed 1 2)).status ∷ (read_file (printed 2 2)).status ∷ []; stated = 0 ∷ 7 ∷ [] }
    -- (h) "the log above": 0 may flow to 1, whose home turn is next, so it drops
    ∷ record {
      yielded = log_from (read_file (printed 0 2)).policy (0x80010007 ∷ 0 ∷ 0 ∷ 0 ∷ []);
      stated = 0 ∷ 0 ∷ 0 ∷ 0 ∷ 0 ∷ 0x80010007 ∷ 0 ∷ 0x10101 ∷ 0 ∷ 0xC0010007 ∷ 0 ∷ 0 ∷ 0 ∷ 0 ∷ 0x80010007 ∷ 0 ∷ [];
    }
    -- W-202, where S = E: each turn is a home turn, the epoch's first too, so turn 0 is 0's though the least class, 1, has a request waiting and turns left. It goes out in turn 1, and in turn 3 class 1 is
    -- idle, so the walk ascends to 0. 0 may not flow to 1, and keeps before 1's home turns; before 0's, at an epoch's end, 1 and 0 drop, though in turn 3 a trial walk would fail at 1.
    ∷ record { yielded = turns_from full (reads 1 1 ++ ticks 17); stated = 0x10001 ∷ 0x10102 ∷ 0x10001 ∷ 0x20101 ∷ 0x10001 ∷ [] }
    -- W-202: "which takes it if a request waits, turns left or not, and is not charged". Turn 1 of the chain, the home turn of 1: 1 waits and has no turns left, owns the turn and drops before the home turn
    -- of 2; all turns left stay
    ∷ record { yielded = start_of chain 1 (1 ∷ 1 ∷ 0 ∷ []) (0 ∷ 0 ∷ 3 ∷ []); stated = 0x10102 ∷ 0 ∷ 0 ∷ 3 ∷ [] }
    -- and the same with two turns left, of which it keeps both
    ∷ record { yielded = start_of chain 1 (1 ∷ 1 ∷ 0 ∷ []) (0 ∷ 2 ∷ 3 ∷ []); stated = 0x10102 ∷ 0 ∷ 2 ∷ 3 ∷ [] }
    -- "otherwise the walk ascends as usual and charges": in the same turn 1 is idle, so 2 owns it, drops before its own home turn, and has one turn less
    ∷ record { yielded = start_of chain 1 (1 ∷ 0 ∷ 0 ∷ []) (0 ∷ 2 ∷ 3 ∷ []); stated = 0x20103 ∷ 0 ∷ 2 ∷ 2 ∷ [] }
    -- "An idle home class with nothing above it owns the turn and is charged.": 2 in turn 2, as in (d)
    ∷ record { yielded = start_of chain 2 (1 ∷ 1 ∷ 0 ∷ []) (0 ∷ 2 ∷ 3 ∷ []); stated = 0x10003 ∷ 0 ∷ 2 ∷ 2 ∷ [] }
    -- W-209: "a least class with a request waiting at every turn start of an epoch owns exactly its cap in that epoch": of two epochs the turn numbers, and then of each at how many of its E turn starts the least class has a
    -- request waiting, how many of its turns it owns, and its cap. One class alone, E = 3, minimum 1: its cap is E.
    ∷ record { yielded = two_epochs alone_at_home (each_turn (reads 1 0) 6); stated = (0x10101 ∷ 0x10101 ∷ 0x10101 ∷ 0x10101 ∷ 0x10101 ∷ 0x10101 ∷ []) ++ (3 ∷ 3 ∷ 3 ∷ []) ++ (3 ∷ 3 ∷ 3 ∷ []) }
    -- a chain of three, E = 5, minimums 1, 1, 1, all always waiting. Turns 0 and 1 start at 0, turn 2 is its home turn, and 3 and 4 are those of the others: 0 owns 2 + 1, and its cap is 5 - 2. It drops before turns that start at it and before
    -- the home turn of 1, as 1 does before that of 2; 2 keeps as in (d).
    ∷ record {
      yielded = two_epochs chain_at_home (each_turn (reads 1 0 ++ reads 1 1 ++ reads 1 2) 10);
      stated = (0x10101 ∷ 0x10101 ∷ 0x10101 ∷ 0x10102 ∷ 0x10003 ∷ 0x10101 ∷ 0x10101 ∷ 0x10101 ∷ 0x10102 ∷ 0x10003 ∷ []) ++ (5 ∷ 3 ∷ 3 ∷ []) ++ (5 ∷ 3 ∷ 3 ∷ []);
    }
    -- the same with 0 alone waiting: the idle home turn of 1 goes on up to 2, so 0 owns no turn more
    ∷ record {
      yielded = two_epochs chain_at_home (each_turn (reads 1 0) 10);
      stated = (0x10101 ∷ 0x10101 ∷ 0x10101 ∷ 0x20103 ∷ 0x10003 ∷ 0x10101 ∷ 0x10101 ∷ 0x10101 ∷ 0x20103 ∷ 0x10003 ∷ []) ++ (5 ∷ 3 ∷ 3 ∷ []) ++ (5 ∷ 3 ∷ 3 ∷ []);
    }
    -- an antichain over a bottom with S = E, minimums 1, 2, 1: the least class owns its minimum and no more. It drops before a home turn of 1, and so does 1; 1 before that of 2, and 2 before that of 0, keep.
    ∷ record { yielded = two_epochs fork_filled (each_turn (reads 1 0) 8); stated = (0x10101 ∷ 0x10102 ∷ 0x10002 ∷ 0x10003 ∷ 0x10101 ∷ 0x10102 ∷ 0x10002 ∷ 0x10003 ∷ []) ++ (4 ∷ 1 ∷ 1 ∷ []) ++ (4 ∷ 1 ∷ 1 ∷ []) }
    -- 0 below 1, E = 2, minimums 0 and 2: both turns are home turns of 1, which is idle and drops before its own; 0 waits and owns none, its cap
    ∷ record { yielded = two_epochs filled_above (each_turn (reads 1 0) 4); stated = (0x10102 ∷ 0x10102 ∷ 0x10102 ∷ 0x10102 ∷ []) ++ (2 ∷ 0 ∷ 0 ∷ []) ++ (2 ∷ 0 ∷ 0 ∷ []) }
    -- the least class is 1 and has no home turn, E = 4, minimums 1, 0, 1: turns 0 and 1 start at 1, and 2 and 3 are the home turns of 0 and 2, which keep
    ∷ record { yielded = two_epochs least_is_one (each_turn (reads 1 1) 8); stated = (0x10102 ∷ 0x10102 ∷ 0x10001 ∷ 0x10003 ∷ 0x10102 ∷ 0x10102 ∷ 0x10001 ∷ 0x10003 ∷ []) ++ (4 ∷ 2 ∷ 2 ∷ []) ++ (4 ∷ 2 ∷ 2 ∷ []) }
    -- a request at its home turn alone does not do: the chain of three again, where 0 has one waiting as turn 2 starts and at no other turn's start. It owns 1 turn of its cap of 3.
    ∷ record { yielded = epoch_of_least chain_at_home (ticks 8 ++ reads 1 0 ++ ticks 12) 0; stated = 1 ∷ 1 ∷ 3 ∷ [] }
    -- W-203: "The owner now activates its oldest request whose gaps are met." Two reads of bank 0, a read of bank 1 and a write of bank 2: the second read of bank 0 waits until cycle 6, and meanwhile the read of bank 1 goes at 2 and the
    -- write at 4. Between them go the column commands, a cycle after each activate.
    ∷ record {
      yielded = commands_from busy_bank (0x80000001 ∷ 0x80000002 ∷ 0x80010003 ∷ 0x80120004 ∷ ticks 8);
      stated = zeros 4 ++ (0x80000001 ∷ 0xC0000001 ∷ 0x80010003 ∷ 0xC0010003 ∷ 0x80120004 ∷ 0xC0120004 ∷ 0x80000002 ∷ 0xC0000002 ∷ []);
    }
    -- "A request that has been the oldest while 15 others passed it goes next, and nothing passes it again." A write is the oldest from cycle 1 on, and reads pass it at 2, 4, .. 30. Then, though reads wait whose gaps are met, none goes
    -- until the write does, 8 cycles after the last read: the commands of cycles 30 to 39, with an offer after 31
    ∷ record {
      yielded = drop 53 (commands_from slow_writes (behind_reads 16 ++ ticks 8));
      stated = 0x80000000 ∷ 0xC0000000 ∷ 0 ∷ 0 ∷ 0 ∷ 0 ∷ 0 ∷ 0 ∷ 0 ∷ 0x80100000 ∷ 0xC0100000 ∷ [];
    }
    -- its count, after the read at 28, after that at 30, before the write goes and after it
    ∷ record {
      yielded =
          passed_from slow_writes (behind_reads 15) ∷ passed_from slow_writes (behind_reads 16) ∷ passed_from slow_writes (behind_reads 16 ++ ticks 6) ∷ passed_from slow_writes (behind_reads 16 ++ ticks 7)
          ∷ [];
      stated = 14 ∷ 15 ∷ 15 ∷ 0 ∷ [];
    }
    -- W-206: "The timing body may have an eleventh byte, the rank gap (1 to the dead time)": of the printed file with an eleventh byte of 0, 1, 2 and 3, where the dead time is 2
    ∷ record {
      yielded = (read_file (printed_ranked 0)).status ∷ (read_file (printed_ranked 1)).status ∷ (read_file (printed_ranked 2)).status ∷ (read_file (printed_ranked 3)).status ∷ [];
      stated = 8 ∷ 0 ∷ 0 ∷ 8 ∷ [];
    }
    -- the printed log again, whose words have both bits 0, with that eleventh byte
    ∷ record {
      yielded = log_from (read_file (printed_ranked 2)).policy (0x80010007 ∷ 0 ∷ 0 ∷ 0 ∷ []);
      stated = 0 ∷ 0 ∷ 0 ∷ 0 ∷ 0 ∷ 0x80010007 ∷ 0 ∷ 0x10101 ∷ 0 ∷ 0xC0010007 ∷ 0 ∷ 0 ∷ 0 ∷ 0 ∷ 0x80010007 ∷ 0 ∷ [];
    }
    -- "With ten bytes a rank other than 0 is refused with 10": a read of rank 1, without and with an eleventh byte, and one of rank 3
    ∷ record {
      yielded = log_from busy_bank (0x80400000 ∷ []) ++ log_from four_ranks (0x80400000 ∷ 0x80C00000 ∷ []);
      stated = 10 ∷ zeros 11;
    }
    -- "kept from the last activate of all where that was on another rank, besides the other gaps; a bank is then known by rank and bank". A read of bank 0 on rank 0 and two of bank 0 on rank 1: the first of rank 1 waits for the rank
    -- gap alone, 3 cycles, not for the 6 of the bank with its number; the second is on the rank of the last activate, and waits the 6 cycles of its bank
    ∷ record {
      yielded = commands_from four_ranks (0x80000001 ∷ 0x80400002 ∷ 0x80400003 ∷ ticks 11);
      stated = zeros 3 ++ (0x80000001 ∷ 0xC0000001 ∷ 0 ∷ 0x80400002 ∷ 0xC0400002 ∷ 0 ∷ 0 ∷ 0 ∷ 0 ∷ 0x80400003 ∷ 0xC0400003 ∷ []);
    }
    -- W-212: "how many classes the walk tried, the owner counted". A chain of three without home turns, where 1 waits: turn 0 goes from 0, which is idle, to 1, and turn 1, as 1's request has gone, on to 2. Each keeps, as 0 has turns left.
    ∷ record { yielded = turns_from long_chain (reads 1 1 ++ ticks 5); stated = 0x20002 ∷ 0x30003 ∷ [] }
    -- a class that waits and has no turns left is tried too: turn 1 of the same chain, where 0 and 1 wait and have none, goes to 2, which drops as the trial walk comes to it
    ∷ record { yielded = start_of long_chain 1 (1 ∷ 1 ∷ 0 ∷ []) (0 ∷ 0 ∷ 3 ∷ []); stated = 0x30103 ∷ 0 ∷ 0 ∷ 2 ∷ [] }
    -- "the number of classes on the longest rising chain from" each class: of the chain, of 0 below 1 and 2, and of 1 below 0 and 2
    ∷ record { yielded = bounds_of long_chain ++ bounds_of fork ++ bounds_of least_is_one; stated = (3 ∷ 2 ∷ 1 ∷ []) ++ (2 ∷ 1 ∷ 1 ∷ []) ++ (1 ∷ 2 ∷ 1 ∷ []) }
    ∷ []

pub record WorkedTurns : Type 0 where
  -- the definitions yield the table
  pub cases : map (λ (c : Case). c.yielded) table ≡ map (λ (c : Case). c.stated) table
  -- what is counted in W-209's rows is that the turn starts with a request of the class waiting
  pub waiting : (p : Policy) (trace : List ℕ) (c k : ℕ) → (waits_at p trace c k ≡ true) ↔ (Started p trace k × Waits p trace k c)
  -- W-201: the turns that the customer's least class passes up go to its two children in turn (by the rule before it, all to class 2)
  pub customer : turns_from spare (every_second 4) ≡ 0x10101 ∷ 0x20002 ∷ 0x10101 ∷ 0x20003 ∷ 0x10101 ∷ 0x20002 ∷ 0x10101 ∷ 0x20003 ∷ []
  -- (a) in every policy and at every turn
  pub a : (p : Policy) → in_range p ≡ true → p.classes ≡ 1 → (k : ℕ) (lengths left pointers : List ℕ)
      → ((start_turn p k lengths left pointers).turns.owner ≡ 0) × ((start_turn p k lengths left pointers).turns.elided ≡ true)
  -- (e) in every policy and at every turn
  pub e : (p : Policy) → in_range p ≡ true → (k : ℕ) (lengths left pointers : List ℕ) → ((c : ℕ) → get_or lengths c 0 ≡ 0)
      → covers_of p (start_turn p k lengths left pointers).turns.owner ≡ 0
