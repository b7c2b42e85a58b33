-- The sizes that are names in document 01.
use Rattle.std.specs.Prelude.{ℕ}

-- "a tick after 16,777,215 ticks" is refused, and so is "a cycle above 16,777,215"
abbrev pub last_cycle : ℕ
last_cycle = 16777215

-- "8 requests of that class wait": the places of a class's ring
abbrev pub ring_places : ℕ
ring_places = 8

-- W-203: "A request that has been the oldest while 15 others passed it goes next"
abbrev pub most_passed : ℕ
most_passed = 15

-- "bank in 16 to 19 (0 to 7)"
abbrev pub bank_count : ℕ
bank_count = 8

-- W-206: "four ranks of eight banks"
abbrev pub bank_places : ℕ
bank_places = 32

-- how many due cycles are told apart: more than any delay, which is at most the dead time, "2 to 31"
abbrev pub pending_places : ℕ
pending_places = 32
