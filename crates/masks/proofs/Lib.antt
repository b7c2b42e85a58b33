-- Laws that belong to no one function.

-- of sets of classes as numbers
pub mod Masks
-- of the numbers that the classes of a set have
pub mod Numbered
-- of the two tables of masks
pub mod Tables
