-- A list of calls: the state after it and its log, call by call.
use Rattle.std.specs.Prelude.{List, [], ◌∷◌, ◌++◌, ℕ, ◌+◌, set}
use Rattle.policy.specs.declared.Policy.{Policy}
use Rattle.requests.specs.Word.{command_number}
use Rattle.rules.specs.Call.{offer, tick}
use Rattle.state.specs.declared.State.{State}
use Rattle.state.specs.declared.Offered.{Offered}
use Rattle.state.specs.declared.Ticked.{Ticked}
use Rattle.requests.specs.Trace.{call_of}
use Rattle.requests.specs.declared.Call.{Call}
use Rattle.requests.specs.declared.Call.TheVariants.{Tick, Offer, Malformed}

-- what a call hands back: the state, and its four log numbers
pub record Answer : Type 0 where
  pub state : State
  pub status : ℕ
  pub command : ℕ
  pub response : ℕ
  pub turn : ℕ

-- "Each trace number gives four log numbers: status .., command, answer, turn; after an offer or a refusal the last three are 0."
abbrev pub ticked : Ticked → Answer
ticked t = record { state = t.state; status = t.status; command = command_number t.shown.wires; response = t.shown.response; turn = t.shown.turn }

abbrev pub offered : Offered → Answer
offered o = record { state = o.state; status = o.status; command = 0; response = 0; turn = 0 }

-- the four numbers, in their order
abbrev pub line_of : Answer → List ℕ
line_of a = a.status ∷ a.command ∷ a.response ∷ a.turn ∷ []

-- 14 changes nothing
unfoldable pub answer : Policy → State → Call → Answer
answer p s Tick = ticked (tick p s)
answer p s (Offer r) = offered (offer p s r)
answer p s Malformed = record { state = s; status = 14; command = 0; response = 0; turn = 0 }

unfoldable pub answer_to : Policy → State → ℕ → Answer
answer_to p s w = answer p s (call_of w)

-- the state after a list of calls: "each call gets that policy and the state which the one before handed back"
unfoldable pub state_after : Policy → State → List ℕ → State
state_after p s [] = s
state_after p s (w ∷ ws) = state_after p (answer_to p s w).state ws

-- "A list's log is the four numbers of each call in order"
unfoldable pub log_of : Policy → State → List ℕ → List ℕ
log_of p s [] = []
log_of p s (w ∷ ws) = line_of (answer_to p s w) ++ log_of p (answer_to p s w).state ws

-- four log numbers, written into a slice from a place on
abbrev pub line_written : List ℕ → ℕ → ℕ → ℕ → ℕ → ℕ → List ℕ
line_written log at status command response turn = set (set (set (set log at status) (at + 1) command) (at + 2) response) (at + 3) turn
