-- The rules that the contracts of `scheduler` cite stand in the crate `rules`.

-- what is worked on in place
pub mod InPlace
