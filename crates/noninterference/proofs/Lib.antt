-- What two runs have in common for some classes, and its laws.

-- the classes that are looked at, and what two states' parts have in common for them
pub mod Low
-- two states that the low classes cannot tell apart
pub mod Alike
-- of the traversal and the lookahead in two runs, and so of a turn's start
pub mod Walks
-- of offers in two runs, or in one of them
pub mod Offers
-- of what is in flight in two runs, and of the gaps
pub mod Flights
-- of the first step of a tick in two runs
pub mod Starts
-- of the second step at a high owner
pub mod Quiet
-- of the second step at the same low owner
pub mod Shared
-- of ticks in two runs
pub mod Ticks
-- of single calls in two runs
pub mod Calls
-- of two lists of calls
pub mod Lists
-- demand 3
pub mod Claims
