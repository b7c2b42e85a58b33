-- The definitions that the contracts of `state` cite, in reading order. Beside each, the part of document 01 that it carries.

-- how a state is stored: the turns
pub mod Stored
-- "A tick": fresh states
pub mod Fresh
-- "What is turned down": what 13 refuses
pub mod Range
