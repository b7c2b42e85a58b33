-- The rules that the contracts of `wires` cite stand in the crate `rules`.

-- what is worked on in place
pub mod InPlace
