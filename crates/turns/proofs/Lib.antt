-- Laws that belong to no one function.

-- of the home turns: whose each is, and how many each class has
pub mod Homes
