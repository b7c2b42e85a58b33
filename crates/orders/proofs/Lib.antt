-- Laws that belong to no one function.

-- of the answer of fetching an order: what has passed where it is not refused
pub mod Listed
-- that each legal order is listed, once, by rising value
pub mod EveryOrder
-- of the answers of fetching, and the policies that are handed back
pub mod Policies
