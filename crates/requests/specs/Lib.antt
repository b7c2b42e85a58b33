-- The definitions that the contracts of `requests` cite, in reading order. Beside each, the part of document 01 that it carries.

-- sizes that are names
pub mod Sizes
-- "Trace, log and extract": a request's word, and what 9 and 10 refuse of a request
pub mod Word
-- "Trace, log and extract": trace words told apart
pub mod Trace
