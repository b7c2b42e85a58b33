-- The rules of document 01, in reading order. Beside each, the part of document 01 that it carries.

-- "A tick": what an offer and an activate do to the waiting requests of a class
pub mod Queue
-- "The walk": who owns a turn
pub mod Traversal
-- what the traversal rests on
pub mod Climb
-- "Dead time": when it is elided
pub mod Lookahead
-- "A tick": gaps, and what an activate brings
pub mod Wire
-- "A tick": a turn's start, and the three steps
pub mod Step
-- what the second step rests on
pub mod Ready
-- the answers of an offer and of a tick
pub mod Call
-- "Trace, log and extract": a list of calls, the state after it and its log
pub mod Calls
-- "Trace, log and extract": a run, and what it refuses
pub mod Run
-- "made singly or inside one run or several": lists of calls as a program makes them
pub mod PublicCalls
-- the states reached from fresh, and what holds of them
pub mod History
-- what holds of every call, for every policy in range
pub mod Laws
-- what holds of every list of calls and of runs: cut in two, and however the calls are made
pub mod RunLaws
-- W-201: of the turns that a class passes on, each of its children is named in turn
pub mod RoundRobin
-- W-202: what a minimum guarantees; W-209: when the least class owns its whole cap
pub mod Guarantees
-- W-203: what it comes to that a request may pass older ones of its class
pub mod Overtaking
-- W-206: the rank gap in a log, and the logs of files without one
pub mod Ranks
-- W-212: how many classes a walk tries, and how many it can
pub mod WalkLength
