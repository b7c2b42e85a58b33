-- W-212's promises: how many classes a walk tries. What is said of one tick is said of every state in range, and the rest of every list of calls from fresh and of what its log shows. That an extract shows the number of
-- a class's own turns alone is `Extract.hide_turn` (crate `extract`), and that two lists agree on it is `Noninterference` (crate `noninterference`).
use Rattle.std.specs.Prelude.{◌≡◌, true, cond, List, [], ◌∷◌, ◌++◌, ℕ, zero, suc, ◌+◌, ◌*◌, ◌/◌, ◌%◌, ◌≤◌, ◌<◌, length, get_or, drop}
use Rattle.basics.specs.Below.{count}
use Rattle.policy.specs.Policy.{is_class, least, walk_bound}
use Rattle.policy.specs.declared.Policy.{Policy}
use Rattle.requests.specs.Sizes.{last_cycle}
use Rattle.requests.specs.Trace.{call_of}
use Rattle.requests.specs.declared.Call.{Call}
use Rattle.requests.specs.declared.Call.TheVariants.{Tick, Offer, Malformed}
use Rattle.state.specs.Fresh.{fresh_state}
use Rattle.state.specs.Range.{in_range}
use Rattle.state.specs.declared.State.{State}
use Rattle.rules.specs.Traversal.{first_class, Reached, also_tried, try_class}
use Rattle.rules.specs.Step.{owned_by}
use Rattle.rules.specs.Calls.{answer_to, log_of}
use Rattle.rules.specs.RoundRobin.{seen_at, tried_first, tick_starts, tick_passes, turns_after}
use Rattle.rules.specs.Guarantees.{at_tick, first_tick, Started}

-- ---- what a turn number shows

-- "The turn number in the log carries in bits 16 to 20 how many classes the walk tried"
unfoldable pub tried_shown : ℕ → ℕ
tried_shown turn = turn / 65536 % 32

-- what the log shows of the walk of turn number k
abbrev pub walk_shown : Policy → List ℕ → ℕ → ℕ
walk_shown p ws k = tried_shown (answer_to p (at_tick p ws (first_tick p k)) 0).turn

-- ---- the bound is met

-- a state in range in which turn number k is to start, with marks, turns left and queues by which the traversal from each class tries as many classes as stand on the longest rising chain from it; and its tick shows so
-- many of the walk's first class
pub record LongWalks (p : Policy) (k : ℕ) : Type 0 where
  pub state : State
  pub ranges : in_range p state ≡ true
  pub cycle_is : state.cycle ≡ first_tick p k
  pub from_each : (c : ℕ) → is_class p c ≡ true → (try_class 16 (seen_at p state) state.turns.pointers c).tried ≡ walk_bound p c
  pub shown : tried_shown (answer_to p state 0).turn ≡ walk_bound p (first_class p k)

-- ---- "W-206's ten-byte logs gain this field alone"

-- a call's turn number without the field, by the turns that the call leaves: "Turn is 0 unless a turn starts, then 1 + owner, plus 256 if the dead time is dropped."
unfoldable pub turn_without : Policy → State → Call → ℕ
turn_without p s Tick = cond (tick_starts p s) (1 + (turns_after p s).owner + cond (turns_after p s).elided 256 0) 0
turn_without p s (Offer r) = 0
turn_without p s Malformed = 0

-- the log that the rules give without it
unfoldable pub log_without : Policy → State → List ℕ → List ℕ
log_without p s [] = []
log_without p s (w ∷ ws) =
    let a = answer_to p s w in
    (a.status ∷ a.command ∷ a.response ∷ turn_without p s (call_of w) ∷ []) ++ log_without p a.state ws

-- a number with bits 16 to 20 made 0, and a log of so many calls with the turn number, the last of each call's four, made so
unfoldable pub without_tried : ℕ → ℕ
without_tried turn = turn / 2097152 * 2097152 + turn % 65536

unfoldable pub field_cleared : ℕ → List ℕ → List ℕ
field_cleared zero log = []
field_cleared (suc calls) log = get_or log 0 0 ∷ get_or log 1 0 ∷ get_or log 2 0 ∷ without_tried (get_or log 3 0) ∷ field_cleared calls (drop 4 log)

-- ---- what is promised, of every policy in range

pub record WalkLength (p : Policy) : Type 0 where
  -- "how many classes the walk tried, the owner counted": those that the turn is passed on from, and one
  pub counted : (s : State) → in_range p s ≡ true → tick_starts p s ≡ true → tried_shown (answer_to p s 0).turn ≡ count 16 (tick_passes p s) + 1
  -- "It is never above the number of classes on the longest rising chain from the walk's first class." (`Longest` says what that number is: crate `order`.)
  pub bounded : (ws : List ℕ) (k : ℕ) → Started p ws k → (1 ≤ walk_shown p ws k) × (walk_shown p ws k ≤ walk_bound p (first_class p k))
  -- and so from every state in range, whether a list leads there or not
  pub bounded_anywhere : (s : State) → in_range p s ≡ true → tick_starts p s ≡ true → tried_shown (answer_to p s 0).turn ≤ walk_bound p (tried_first p s)
  -- "Hardware must finish the walk in one cycle": whichever class a walk starts at, it tries no more than the longest rising chain from the least class has
  pub one_cycle : (ws : List ℕ) (k : ℕ) → Started p ws k → walk_shown p ws k ≤ walk_bound p (least p)
  -- and no smaller number would do, of any class
  pub sharp : (k : ℕ) → first_tick p k < last_cycle → LongWalks p k
  -- "ten-byte logs gain this field alone", and so do all others: without it each number of a log is what the rules give without it
  pub field_alone : (ws : List ℕ) → field_cleared (length ws) (log_of p (fresh_state p) ws) ≡ log_without p (fresh_state p) ws
  -- nor does the count decide anything: whatever it is, the turns are the same
  pub decides_nothing : (k more : ℕ) (lengths left : List ℕ) (r : Reached) → (owned_by p k lengths left (also_tried more r)).turns ≡ (owned_by p k lengths left r).turns
