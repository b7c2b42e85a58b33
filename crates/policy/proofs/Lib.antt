-- Laws that belong to no one function.

-- of every policy in range
pub mod Laws
-- of the home turns of one
pub mod Homes
-- of the longest rising chains in one
pub mod Chains
-- of a policy that is made of numbers: when it is in range
pub mod Making
-- of the answers of this crate: what is taken has the status 0
pub mod Refusals
