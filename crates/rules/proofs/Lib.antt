-- The laws. `X` has those of `specs/X.antt`.

-- of the queues: what an enqueue and a dequeue do to each class's
pub mod Queue
-- of the traversal: where a pointer leads, one induction over its ascents, and that there is always enough to ascend by
pub mod Traversal
-- and of what it tries and passes on from
pub mod Passing
-- of the lookahead: its one induction, and what an elided turn says of the next
pub mod Lookahead
-- of the gaps, and how a last activate is stored
pub mod Wire
-- of a tick's first step and its second
pub mod Step
-- of every state in range: what each clause says, part by part, and back
pub mod Range
-- of what is pending, as cycles go by
pub mod PendingWords
-- of what a tick does to what is in flight
pub mod FlightKept
-- of a turn's start: owner, pointers and turns left stay in range
pub mod TurnsKept
-- of every call on a state in range: its answer without the test
pub mod Call
-- of every call: it keeps a state in range
pub mod CallsKept
-- of turns and cycles
pub mod Calendar
-- of every state reached from fresh
pub mod History
-- of calls made singly: each is the call of one trace number
pub mod SingleCalls
-- of lists of calls
pub mod Calls
-- of a run's refusals
pub mod Run
-- of calls as a program makes them
pub mod PublicCalls
-- all of them, as `specs/Laws.antt` states them
pub mod Laws
-- and as `specs/RunLaws.antt` states them
pub mod RunLaws
-- and as `specs/RoundRobin.antt` states them
pub mod RoundRobin
-- of the ticks of a list, one after the other
pub mod ListTicks
-- and of its turns
pub mod ListTurns
-- that turns left turn no class away there
pub mod TurnsLeft
-- all of them, as `specs/Guarantees.antt` states what a minimum and a cap guarantee
pub mod Guarantees
-- of requests that pass older ones, as `specs/Overtaking.antt` states it
pub mod Overtaking
-- of ranks, as `specs/Ranks.antt` states it
pub mod Ranks
-- of how long a walk is, as `specs/WalkLength.antt` states it
pub mod WalkLength
