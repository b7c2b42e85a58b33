-- Laws that belong to no one function.

-- of what is lent in place
pub mod InPlace
