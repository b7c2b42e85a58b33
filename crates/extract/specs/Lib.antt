-- The definitions that the contracts of `extract` and `extract_set` cite, in reading order. Beside each, the part of document 01 that it carries.

-- "Trace, log and extract": the classes that may be seen, and the calls that stay
pub mod Seen
-- "The extract for class L ..", and W-211's for a set of classes: the numbers that are left of a log, and the answer of the call
pub mod Extract
-- extracts of logs cut in two, how many numbers an extract has, and those of the printed log
pub mod Laws
