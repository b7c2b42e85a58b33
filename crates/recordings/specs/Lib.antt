-- What the contracts cite, in reading order. Beside each, the part of document 02's W-204 that it carries. What is promised of it stands in the crate `matched`.

-- a recording, and when one is sound
pub mod Recording
-- "An activate and an answer are partners if ..", and the first event without one
pub mod Match
-- the two recordings of a log
pub mod Logged
