-- Laws of what an extract shows.

-- of any set of seen classes
pub mod Shown
-- W-211: of the extract for a set of classes
pub mod Sets
