-- W-204: two recordings held together, and the recordings of a log, in numbers.
use Rattle.std.specs.Prelude.{Option, Some, None, List, ℕ, length}
use Rattle.std.specs.declared.result.Result.{Result}
use Rattle.std.specs.declared.result.Result.TheVariants.{Ok, Err}
use Rattle.recordings.specs.Recording.{soundness, status_of}
use Rattle.recordings.specs.Match.{alone}
use Rattle.recordings.specs.declared.Fault.{Fault}
use Rattle.recordings.specs.declared.Fault.TheVariants.{Wires, Cores}
use Rattle.recordings.specs.declared.Alone.{Alone}
use Rattle.recordings.specs.declared.Alone.TheVariants.{Activate, Response}

-- the recording that holds an event: 1 for the wires', 2 for the cores', 0 where there is none
unfoldable pub held_by : Option Alone → ℕ
held_by None = 0
held_by (Some (Activate at)) = 1
held_by (Some (Response at)) = 2

-- the recording that is named: the unsound one, and else the one that holds the first event without a partner
unfoldable pub which_of : Result (Unit {0}) Fault → Option Alone → ℕ
which_of (Ok _) found = held_by found
which_of (Err Wires) found = 1
which_of (Err Cores) found = 2

-- the place where the rest begins: the end of the wires' where it is the empty one
unfoldable pub place_of : ℕ → Option Alone → ℕ
place_of end None = end
place_of end (Some (Activate at)) = at
place_of end (Some (Response at)) = at

-- the three numbers of a call
unfoldable pub match_status : List ℕ → List ℕ → ℕ → ℕ
match_status wires cores delay = status_of (soundness delay wires cores)

unfoldable pub match_which : List ℕ → List ℕ → ℕ → ℕ
match_which wires cores delay = which_of (soundness delay wires cores) (alone delay wires cores)

unfoldable pub match_at : List ℕ → List ℕ → ℕ → ℕ
match_at wires cores delay = place_of (length wires) (alone delay wires cores)
