-- A run: the calls of a trace one after the other, with its refusals 13 and 15.
use Rattle.std.specs.Prelude.{Bool, true, false, ◌&&◌, List, ◌++◌, ℕ, ◌*◌, leb, length, drop}
use Rattle.policy.specs.declared.Policy.{Policy}
use Rattle.state.specs.Range.{in_range}
use Rattle.rules.specs.Calls.{state_after, log_of}
use Rattle.state.specs.declared.State.{State}
use Rattle.state.specs.declared.Ran.{Ran}

-- 15: "log shorter than 4 times the trace"
unfoldable pub has_room : List ℕ → List ℕ → Bool
has_room trace log = leb (4 * length trace) (length log)

-- "Order: .. runs 13, 15"; "A refused call hands back the state it was given"
unfoldable pub run : Policy → State → List ℕ → List ℕ → Ran
run p s trace log =
    elim (in_range p s) [
      | false ↦ record { status = 13; state = s }
      | true ↦
          elim (has_room trace log) [
            | false ↦ record { status = 15; state = s }
            | true ↦ record { status = 0; state = state_after p s trace }
          ]
    ]

-- the log slice after a run: a refused one "writes nothing", and "Numbers past the written part stay."
unfoldable pub log_after : Policy → State → List ℕ → List ℕ → List ℕ
log_after p s trace log =
    elim (in_range p s && has_room trace log) [ true ↦ log_of p s trace ++ drop (4 * length trace) log | false ↦ log ]
