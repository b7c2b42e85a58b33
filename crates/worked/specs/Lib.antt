-- "Worked turns".

-- (a) to (h) and the turns of W-202 and W-209 as one table, with (a) and (e) for every policy
pub mod Worked
