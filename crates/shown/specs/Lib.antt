-- What an extract shows.

-- W-211: what the extract for a set of classes shows: of one class, of none, of its members, and of a set within another
pub mod Sets
