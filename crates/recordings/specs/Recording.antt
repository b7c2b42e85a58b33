-- W-204's recordings: "Labs record activates on the command wires and answers at the cores, each as pairs of cycle and word". A recording is a list of numbers: cycle, word, cycle, word.
use Rattle.std.specs.Prelude.{Bool, cond, ◌&&◌, List, ℕ, suc, ◌+◌, ◌-◌, ◌*◌, ◌/◌, ◌%◌, eqb, leb, ltb, length, get_or}
use Rattle.basics.specs.Below.{every}
use Rattle.std.specs.declared.result.Result.{Result}
use Rattle.std.specs.declared.result.Result.TheVariants.{Ok, Err}
use Rattle.recordings.specs.declared.Fault.{Fault}
use Rattle.recordings.specs.declared.Fault.TheVariants.{Wires, Cores}

-- ---- the events of a recording

-- how many it has
unfoldable pub events_in : List ℕ → ℕ
events_in r = length r / 2

-- the cycle of one, by its number, and its word
unfoldable pub cycle_at : List ℕ → ℕ → ℕ
cycle_at r i = get_or r (2 * i) 0

unfoldable pub word_at : List ℕ → ℕ → ℕ
word_at r i = get_or r (2 * i + 1) 0

-- ---- sound: "A recording with an odd length, a cycle not above the one before, or a due cycle past 32 bits" is not

unfoldable pub in_pairs : List ℕ → Bool
in_pairs r = eqb (length r % 2) 0

-- each cycle is above the one before
unfoldable pub rises : List ℕ → Bool
rises r = every (events_in r - 1) (λ i. ltb (cycle_at r i) (cycle_at r (suc i)))

-- the answer to an activate is due "the answer delay (a byte handed in) later", in 32 bits. An answer is due at its own cycle, which is a number of 32 bits.
unfoldable pub due_fits : ℕ → List ℕ → Bool
due_fits delay r = every (events_in r) (λ i. leb (cycle_at r i + delay) 4294967295)

unfoldable pub wires_sound : ℕ → List ℕ → Bool
wires_sound delay wires = in_pairs wires && rises wires && due_fits delay wires

unfoldable pub cores_sound : List ℕ → Bool
cores_sound cores = in_pairs cores && rises cores

-- ---- the question: "18 for such a recording, with which one it is, the wires first; 0 where both are sound"

unfoldable pub soundness : ℕ → List ℕ → List ℕ → Result (Unit {0}) Fault
soundness delay wires cores = cond (wires_sound delay wires) (cond (cores_sound cores) (Ok tt) (Err Cores)) (Err Wires)

-- the number of an answer
unfoldable pub status_of : Result (Unit {0}) Fault → ℕ
status_of (Ok _) = 0
status_of (Err _) = 18
