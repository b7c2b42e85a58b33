-- Laws that belong to no one function.

-- of what is worked on in place
pub mod InPlace
