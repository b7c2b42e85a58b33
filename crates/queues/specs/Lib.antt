-- The definitions that the contracts of `queues` cite. Beside each module, the part of document 01 that it carries.

-- the waiting requests of a class, as they are stored; "What is turned down": what 13 refuses of them
pub mod Waiting
