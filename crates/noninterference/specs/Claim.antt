-- Demand 3: noninterference. It is one claim about two lists of trace numbers as wholes, for every accepted policy and every class L, and then of two lists of calls however
-- a program makes them. It is put together from the definitions that the contracts of demand 2 cite: `fresh` (state: Fresh), `call_of` (requests: Trace), `log_of` and
-- `state_after` (rules: Calls), `extract` (extract: Extract), and `tick`, `offer`, `run` and `log_after` (rules: Call and Run, by PublicCalls).
use Rattle.std.specs.Prelude.{◌≡◌, Bool, true, false, not, List, [], ◌∷◌, ℕ, ◌≤◌, length, get_or, take}
use Rattle.policy.specs.Policy.{is_class, flows}
use Rattle.file.specs.File.{read_file}
use Rattle.file.specs.Taken.{Bytes}
use Rattle.policy.specs.declared.Policy.{Policy}
use Rattle.queues.specs.Waiting.{passed_of, waiting}
use Rattle.state.specs.Fresh.{fresh}
use Rattle.requests.specs.Trace.{call_of}
use Rattle.rules.specs.Calls.{state_after, log_of}
use Rattle.state.specs.declared.State.{State}
use Rattle.requests.specs.declared.Call.{Call}
use Rattle.requests.specs.declared.Call.TheVariants.{Tick, Offer, Malformed}
use Rattle.rules.specs.PublicCalls.{PublicCall, trace_made, state_made, log_made}
use Rattle.extract.specs.Extract.{kept_for, extract, out_after}

-- "A policy is accepted if a fresh state asked of it does not get 13"
abbrev pub Accepted : Policy → Type 0
Accepted p = (fresh p).status ≡ 13 → ⊥

-- "It starts from the policy's fresh state; each call gets that policy and the state which the one before handed back."
abbrev pub state_for : Policy → List ℕ → State
state_for p xs = state_after p (fresh p).state xs

-- "A list's log is the four numbers of each call in order, as one run over the whole list writes them."
abbrev pub log_for : Policy → List ℕ → List ℕ
log_for p xs = log_of p (fresh p).state xs

-- "malformed words and offers whose class does not exist or may not flow to L are struck out; ticks, refused ones too, all stay". A class that does not exist flows
-- nowhere.
unfoldable pub struck : Policy → ℕ → Call → Bool
struck p l Tick = false
struck p l (Offer r) = not (flows p r.class l)
struck p l Malformed = true

unfoldable pub purge : Policy → ℕ → List ℕ → List ℕ
purge p l [] = []
purge p l (w ∷ ws) = elim (struck p l (call_of w)) [ true ↦ purge p l ws | false ↦ w ∷ purge p l ws ]

-- "two lists agree if the same numbers in the same order are left"
abbrev pub Agree : Policy → ℕ → List ℕ → List ℕ → Type 0
Agree p l xs ys = purge p l xs ≡ purge p l ys

-- of one class in two states: "equal .. are its waiting requests, oldest first, its turns left and its mark"
pub record SameFor (c : ℕ) (s r : State) : Type 0 where
  pub requests : waiting s.queues c ≡ waiting r.queues c
  -- W-203: "and so do the counts of each class that may flow to it": how many have passed its oldest
  pub passed : passed_of s.queues c ≡ passed_of r.queues c
  pub left : get_or s.turns.left c 0 ≡ get_or r.turns.left c 0
  pub pointer : get_or s.turns.pointers c 0 ≡ get_or r.turns.pointers c 0

-- what a list of calls comes to: its trace numbers, its log and the state after it
pub record Outcome : Type 0 where
  pub trace : List ℕ
  pub log : List ℕ
  pub state : State

-- what two of them have in common for class L
pub record SameFrom (p : Policy) (l : ℕ) (a b : Outcome) : Type 0 where
  -- "the extracts of the two logs for L .. write the same numbers": the numbers that are kept of each log
  pub numbers : kept_for p l a.trace a.log ≡ kept_for p l b.trace b.log
  -- "with room enough" an extract is not refused
  pub enough : (out : List ℕ) → length (kept_for p l a.trace a.log) ≤ length out → (extract p l a.trace a.log out).status ≡ 0
  -- they "hand back the same count"; "given equal room, 16 meets both or neither": the same status and the same count, whatever the room and what lies in it
  pub answers : (one two : List ℕ) → length one ≡ length two → extract p l a.trace a.log one ≡ extract p l b.trace b.log two
  -- and so the written part of the two is the same
  pub written : (one two : List ℕ) → length one ≡ length two
      → take (extract p l a.trace a.log one).count (out_after p l a.trace a.log one) ≡ take (extract p l b.trace b.log two).count (out_after p l b.trace b.log two)
  -- "For each class that may flow to L, equal in the states after the two lists are .."
  pub states : (c : ℕ) → flows p c l ≡ true → SameFor c a.state b.state

-- of two lists of trace numbers
abbrev pub outcome : Policy → List ℕ → Outcome
outcome p xs = record { trace = xs; log = log_for p xs; state = state_for p xs }

abbrev pub Same : Policy → ℕ → List ℕ → List ℕ → Type 0
Same p l xs ys = SameFrom p l (outcome p xs) (outcome p ys)

-- the claim. A list has any length and any trace numbers in it. W-201: "A reader of one class's extract must be as blind to others as before."
abbrev pub Noninterference : Type 0
Noninterference = (p : Policy) → Accepted p → (l : ℕ) → is_class p l ≡ true → (xs ys : List ℕ) → Agree p l xs ys → Same p l xs ys

-- ---- the calls as a program makes them

-- "The calls of demand 3 are ticks and offers, made singly or inside one run or several, and malformed words, which get 14 inside a run; each is one trace number, and
-- refused ones count. A run refused with 15 makes none." The log is what the single calls answer and the runs write into the slices that they are handed.
abbrev pub made : Policy → List PublicCall → Outcome
made p cs = record { trace = trace_made cs; log = log_made p (fresh p).state cs; state = state_made p (fresh p).state cs }

-- the claim of two lists of them
abbrev pub CallsNoninterference : Type 0
CallsNoninterference =
    (p : Policy) → Accepted p → (l : ℕ) → is_class p l ≡ true → (cs ds : List PublicCall) → Agree p l (trace_made cs) (trace_made ds)
    → SameFrom p l (made p cs) (made p ds)

-- ---- beside it

-- "each whose file gets none of 1 to 8 is" accepted. A file is a list of bytes.
abbrev pub FilesAccepted : Type 0
FilesAccepted = (file : List ℕ) → Bytes file → (read_file file).status ≡ 0 → Accepted (read_file file).policy
