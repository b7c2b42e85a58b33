-- The definitions that the contract of `orders` cites, and what is promised of them, in reading order. Beside each, the part of document 02's W-208 that it carries.

-- the listed orders, and the answer of fetching one
pub mod Listed
-- "Each legal order is there, and none twice", by rising value
pub mod EveryOrder
-- the policies that are handed back, and what is refused
pub mod Policies
