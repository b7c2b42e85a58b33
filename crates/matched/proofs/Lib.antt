-- Laws of recordings held together.

-- of events in the order in which they are taken: that the check names the first without a partner
pub mod Taken
-- that the recordings of a log are sound
pub mod Made
-- of what is pending: an answer goes out the delay after its activate, in their order
pub mod Pending
-- of a stretch of a log
pub mod Runs
