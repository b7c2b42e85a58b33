-- Laws that belong to no one function.

-- of a file's bytes: of which body each is, and that it is below 256
pub mod FileBytes
-- that reading gives a policy back, and that a file which is taken is the one written
pub mod Returned
-- of a table that is asked at a place
pub mod Tables
