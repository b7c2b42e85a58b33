-- The definitions that the contracts of `order` cite, in reading order. Beside each, the part of document 01 that it carries.

-- "The policy file", the order: which class may flow to which, and what an order has to be
pub mod Order
-- what reflexive, antisymmetric, transitive and least say of every class
pub mod Laws
-- W-212: what the number of classes on the longest rising chain from a class is
pub mod Chains
