-- Laws that belong to no one function.

-- of sound recordings, and of where an event stands
pub mod Recordings
-- of how many numbers below a bound pass
pub mod Counts
-- of the recordings of a log
pub mod Logged
-- of the first event without a partner
pub mod Matching
