-- Laws that belong to no one function.

-- of the rings that waiting requests are stored in
pub mod Waiting
