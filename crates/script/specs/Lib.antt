-- The script of a test program.

-- its lines, and the numbers that they hold
pub mod Script
