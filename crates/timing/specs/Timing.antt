-- The timing: its numbers and their bounds.
use Rattle.std.specs.Prelude.{Bool, ◌&&◌, ◌||◌, List, ℕ, ◌-◌, leb, ltb, eqb, get_or}
use Rattle.timing.specs.declared.Timing.{Timing}

-- x is low to high
unfoldable pub within : ℕ → ℕ → ℕ → Bool
within low x high = leb low x && leb x high

-- "each gap 1 to the dead time": those by the two kinds
unfoldable pub gaps_within : List ℕ → ℕ → Bool
gaps_within gaps dead = within 1 (get_or gaps 0 0) dead && within 1 (get_or gaps 1 0) dead && within 1 (get_or gaps 2 0) dead && within 1 (get_or gaps 3 0) dead

-- and those of one bank
unfoldable pub bank_within : List ℕ → ℕ → Bool
bank_within bank dead = within 1 (get_or bank 0 0) dead && within 1 (get_or bank 1 0) dead

-- W-206: "The timing body may have an eleventh byte, the rank gap (1 to the dead time)": four ranks have one, and one rank has none, stored as 0
unfoldable pub rank_within : ℕ → ℕ → ℕ → Bool
rank_within ranks rank dead = eqb ranks 1 && eqb rank 0 || eqb ranks 4 && within 1 rank dead

-- 8: "Turn length 2 to 255, dead time 2 to 31 and below the turn length, each gap 1 to the dead time, answer delay 2 to the dead time, column delay
-- 1 to the answer delay less 1."
unfoldable pub timing_sound : Timing → Bool
timing_sound t =
    within 2 t.turn 255
    && within 2 t.dead 31
    && ltb t.dead t.turn
    && gaps_within t.gaps t.dead
    && bank_within t.bank t.dead
    && within 2 t.response t.dead
    && within 1 t.column (t.response - 1)
    && rank_within t.ranks t.rank t.dead
