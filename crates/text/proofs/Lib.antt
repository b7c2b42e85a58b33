-- Laws that belong to no one function.

-- of a log's lines and a trace's words: their lengths, and one more of them
pub mod Grown
-- of the table of a byte's two digits
pub mod Pairs
-- of cuts, and of document 01's printed log
pub mod Laws
