-- Laws that belong to no one function.

-- of the numbers of a timing body
pub mod Timings
-- of files: when one is taken, and with which number it is refused
pub mod Taken
