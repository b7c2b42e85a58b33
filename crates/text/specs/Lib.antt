-- The definitions that the contracts of `text` cite. Beside each, the part of document 01 that it carries.

-- "The program reads policy.bin and trace.bin (low byte first)": a trace's words
pub mod Words
-- "prints a header and a line for each trace number, in hexadecimal of 8 digits": a log's lines
pub mod Lines
-- what holds of lines and words, with lines of document 01's printed log
pub mod Laws
