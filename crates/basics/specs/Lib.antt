-- Words that definitions of every crate use.

-- words for "every", "some", "the first", "how many" of the numbers below a bound
pub mod Below
