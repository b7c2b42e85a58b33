-- What the contracts cite.

-- "What is turned down": the numbers of document 01's table
pub mod Refusal
