-- Calls as a program makes them: "ticks and offers, made singly or inside one run or several, and malformed words, which get 14 inside a run". Each is said by the
-- definition that its function's contract cites.
use Rattle.std.specs.Prelude.{true, false, List, [], ◌∷◌, ◌++◌, ℕ, ◌*◌, length, take}
use Rattle.policy.specs.declared.Policy.{Policy}
use Rattle.requests.specs.Word.{word_of}
use Rattle.rules.specs.Call.{offer, tick}
use Rattle.rules.specs.Calls.{ticked, offered, line_of}
use Rattle.rules.specs.Run.{has_room, run, log_after}
use Rattle.requests.specs.declared.Request.{Request}
use Rattle.state.specs.declared.State.{State}

-- a single tick, a single offer, or a run over a trace with the log slice that it is handed
pub data PublicCall : Type 0 where
  single-tick : PublicCall
  single-offer : Request → PublicCall
  whole_run : (trace log : List ℕ) → PublicCall

-- "each is one trace number, and refused ones count. A run refused with 15 makes none."
unfoldable pub numbers_of : PublicCall → List ℕ
numbers_of single-tick = 0 ∷ []
numbers_of (single-offer r) = word_of r ∷ []
numbers_of (whole_run trace log) = elim (has_room trace log) [ true ↦ trace | false ↦ [] ]

-- the state that it hands back
unfoldable pub state_by : Policy → State → PublicCall → State
state_by p s single-tick = (tick p s).state
state_by p s (single-offer r) = (offer p s r).state
state_by p s (whole_run trace log) = (run p s trace log).state

-- its part of the log: of a single call its four numbers, "after an offer or a refusal the last three are 0", and of a run what it wrote into its slice
unfoldable pub log_by : Policy → State → PublicCall → List ℕ
log_by p s single-tick = line_of (ticked (tick p s))
log_by p s (single-offer r) = line_of (offered (offer p s r))
log_by p s (whole_run trace log) = take (4 * length (numbers_of (whole_run trace log))) (log_after p s trace log)

-- ---- a list of them

unfoldable pub trace_made : List PublicCall → List ℕ
trace_made [] = []
trace_made (c ∷ cs) = numbers_of c ++ trace_made cs

-- "each call gets that policy and the state which the one before handed back"
unfoldable pub state_made : Policy → State → List PublicCall → State
state_made p s [] = s
state_made p s (c ∷ cs) = state_made p (state_by p s c) cs

-- "the four numbers of each call in order"
unfoldable pub log_made : Policy → State → List PublicCall → List ℕ
log_made p s [] = []
log_made p s (c ∷ cs) = log_by p s c ++ log_made p (state_by p s c) cs
