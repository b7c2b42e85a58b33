-- The definitions that the contracts of `masks` cite. Beside each module, the part of document 01 that it carries.

-- sets of classes as 16-bit numbers, as in a row of the order
pub mod Mask
-- W-205: the two tables of masks, and what each holds
pub mod Tables
