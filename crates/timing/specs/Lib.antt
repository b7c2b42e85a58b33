-- The definitions that the contracts of `timing` cite. Beside each module, the part of document 01 that it carries.

-- "The policy file", the timing: its numbers and their bounds
pub mod Timing
