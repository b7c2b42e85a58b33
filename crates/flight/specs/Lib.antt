-- The definitions that the contracts of `flight` cite. Beside each module, the part of document 01 that it carries.

-- what is pending and a last activate, as they are stored; "What is turned down": what 13 refuses of them
pub mod Flight
