-- The definitions that the contract of `writer` cites, in reading order. Beside each, the part of document 01 that it carries.

-- the bytes of a policy's file, and the answer of writing them
pub mod Written
-- that reading them gives the policy back, and that a file which is taken is the one written
pub mod ReadBack
