-- The definitions that the contracts of `file` cite, in reading order. Beside each, the part of document 01 that it carries.

-- "The policy file", its bytes: contents table, bodies, and the answer of reading
pub mod File
-- when a file is taken, and with which number it is refused
pub mod Taken
