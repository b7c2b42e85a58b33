-- The definitions that the contracts of `policy` cite, in reading order. Beside each, the part of document 01 that it carries.

-- the policy as a value: what of it is refused, and what is in range
pub mod Policy
-- what holds of every policy in range
pub mod Laws
