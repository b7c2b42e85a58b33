-- Demand 3: "Two lists side by side".

-- the claim, which stands alone
pub mod Claim
-- W-211: the same for a set of classes
pub mod SetClaim
