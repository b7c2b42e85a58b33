-- That the definitions yield the worked turns.

pub mod Worked
