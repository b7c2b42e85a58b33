-- Laws that belong to no one function. `X` has the laws of `specs/X.antt`.

-- of requests and their words: each is the other's
pub mod Word
-- of trace words told apart
pub mod Trace
