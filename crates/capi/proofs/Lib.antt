-- Laws that belong to no one function.

-- of a file that is refused or taken
pub mod Sides
-- of the numbers that a run from a file and a bound by one answer
pub mod Laws
-- of an answer that is a Result, as a call is told it
pub mod Told
