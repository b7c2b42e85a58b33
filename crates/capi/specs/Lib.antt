-- The definitions that the contracts of `capi` cite: each call is put together from those of the crates below.

-- a run from a policy file's fresh state
pub mod Runs
-- an extract, by a policy file
pub mod Extracts
-- W-212: how many classes a walk tries at most, by a policy file
pub mod Bounds
-- W-204: two recordings held together
pub mod Matches
-- W-208: the file of a small order
pub mod SmallOrders
-- which numbers a run, such a bound and such a file answer
pub mod Laws
