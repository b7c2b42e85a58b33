-- Laws that belong to no one function.

-- of the order: what each test on it says of every class, and the sets of classes above a class and covering it
pub mod Orders
-- of rising chains: that the number of classes on the longest is found
pub mod Chains
