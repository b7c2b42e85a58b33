-- How a state is stored: the turns. What waits and what is in flight are stored as the crates `queues` and `flight` say.
use Rattle.std.specs.Prelude.{Bool, List, ℕ}
use Rattle.state.specs.declared.Turns.{Turns}

-- the turns, of their numbers and arrays
abbrev pub turns_of : ℕ → Bool → List ℕ → List ℕ → Turns
turns_of owner elided left pointers = record { owner = owner; elided = elided; left = left; pointers = pointers }
