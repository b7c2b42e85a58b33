-- What is promised of recordings (W-204), in reading order.

-- "Events are taken in the order of the cycle their answer is due": that the rest begins at the first event without a partner
pub mod Taken
-- that the recordings of a log are sound, whatever the log holds
pub mod Made
-- "A run's log, cut at both ends where nothing is in flight, matches fully under its policy's delay."
pub mod Runs
