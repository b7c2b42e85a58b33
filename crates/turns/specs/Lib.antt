-- The definitions that the contracts of `turns` cite. Beside each module, the part of document 01 that it carries.

-- "The policy file", the turns: epoch length, minimums, caps; W-202: whose the home turns are
pub mod Turns
