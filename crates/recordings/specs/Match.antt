-- W-204's check: which event is the first without a partner, and the rest that begins at it.
use Rattle.std.specs.Prelude.{Option, Some, None, Bool, cond, not, ◌&&◌, ◌||◌, List, ℕ, ◌+◌, ◌*◌, eqb, leb, ltb, length, drop}
use Rattle.basics.specs.Below.{some, first}
use Rattle.recordings.specs.Recording.{events_in, cycle_at, word_at, wires_sound, cores_sound}
use Rattle.recordings.specs.declared.Alone.{Alone}
use Rattle.recordings.specs.declared.Alone.TheVariants.{Activate, Response}

-- ---- partners

-- "An activate and an answer are partners if the words are equal and the answer comes the answer delay .. later": the i-th activate and the j-th response
unfoldable pub partners : ℕ → List ℕ → List ℕ → ℕ → ℕ → Bool
partners delay wires cores i j = eqb (word_at wires i) (word_at cores j) && eqb (cycle_at wires i + delay) (cycle_at cores j)

-- an activate, and a response, that has none
unfoldable pub activate_alone : ℕ → List ℕ → List ℕ → ℕ → Bool
activate_alone delay wires cores i = not (some (events_in cores) (partners delay wires cores i))

unfoldable pub response_alone : ℕ → List ℕ → List ℕ → ℕ → Bool
response_alone delay wires cores j = not (some (events_in wires) (λ i. partners delay wires cores i j))

-- ---- the first event without one

-- the first of the activates, and of the responses: their number where all have partners
unfoldable pub first_activate : ℕ → List ℕ → List ℕ → ℕ
first_activate delay wires cores = first (events_in wires) (activate_alone delay wires cores)

unfoldable pub first_response : ℕ → List ℕ → List ℕ → ℕ
first_response delay wires cores = first (events_in cores) (response_alone delay wires cores)

-- "Events are taken in the order of the cycle their answer is due, an activate before an answer where a due cycle is shared but the words differ": the i-th activate is there, and no response is, or the j-th does not come
-- before its answer is due. (Where the words do not differ the two are partners, and neither is one without.)
unfoldable pub taken_first : ℕ → List ℕ → List ℕ → ℕ → ℕ → Bool
taken_first delay wires cores i j = ltb i (events_in wires) && (leb (events_in cores) j || leb (cycle_at wires i + delay) (cycle_at cores j))

-- "whichever recording holds the first event without a partner, beginning at it": the event's place in its recording
unfoldable pub first_alone : ℕ → List ℕ → List ℕ → Option Alone
first_alone delay wires cores =
    let i = first_activate delay wires cores in
    let j = first_response delay wires cores in
    cond (taken_first delay wires cores i j) (Some (Activate (2 * i))) (cond (ltb j (events_in cores)) (Some (Response (2 * j))) None)

-- an unsound recording "gets that empty rest"
unfoldable pub alone : ℕ → List ℕ → List ℕ → Option Alone
alone delay wires cores = cond (wires_sound delay wires && cores_sound cores) (first_alone delay wires cores) None

-- ---- "The check hands back the rest of whichever recording holds the first event without a partner, beginning at it; if all have partners, an empty rest of the wires'."

unfoldable pub rest_of : List ℕ → List ℕ → Option Alone → List ℕ
rest_of wires cores None = drop (length wires) wires
rest_of wires cores (Some (Activate at)) = drop at wires
rest_of wires cores (Some (Response at)) = drop at cores

unfoldable pub unmatched : ℕ → List ℕ → List ℕ → List ℕ
unmatched delay wires cores = rest_of wires cores (alone delay wires cores)

-- the place of the rest in memory, of the places at which the two lent slices begin, so that it is a part of "whichever recording": a number has 4 bytes, and the empty rest stands at the wires' end
unfoldable pub rest_at : ℕ × ℕ → ℕ × ℕ → List ℕ → Option Alone → ℕ × ℕ
rest_at at_wires at_cores wires None = (at_wires.0, length wires * 4 + at_wires.1)
rest_at at_wires at_cores wires (Some (Activate at)) = (at_wires.0, at * 4 + at_wires.1)
rest_at at_wires at_cores wires (Some (Response at)) = (at_cores.0, at * 4 + at_cores.1)
