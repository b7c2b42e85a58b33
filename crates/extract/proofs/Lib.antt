-- Laws that belong to no one function.

-- of the calls that stay and of extracts: their lengths, and one more call
pub mod Grown
-- of cuts, and of how many numbers an extract has
pub mod Laws
-- of the answers of a call
pub mod Answers
-- of the set of the classes that pass a test, one class more at a time
pub mod Masked
