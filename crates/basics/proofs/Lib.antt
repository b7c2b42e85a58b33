-- Laws that speak of no class and no call.

-- of truth values
pub mod Truth
-- of "every", "some", "the first", sums and lists below a bound
pub mod Below
-- of loops over the numbers below a bound
pub mod Loops
-- of stores into a slice
pub mod Stores
-- of the library's iterators over the numbers below a bound and over lists, and of `from_fn`
pub mod Ranges
