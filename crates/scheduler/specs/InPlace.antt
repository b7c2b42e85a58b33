-- What the functions that work in place are lent beside a policy and a state, what they rest on, and what they leave.
use Rattle.std.specs.Prelude.{◌≡◌, true, List, ℕ, ◌%◌}
use Rattle.turns.specs.Turns.{free_turns}
use Rattle.policy.specs.Policy.{least}
use Rattle.policy.specs.Policy.{in_range as policy_in_range}
use Rattle.policy.specs.declared.Policy.{Policy}
use Rattle.rules.specs.Traversal.{Reached}
use Rattle.rules.specs.Step.{TurnStart}
use Rattle.state.specs.Range.{in_range}
use Rattle.rules.specs.Call.{bus_at}
use Rattle.rules.specs.Calls.{Answer}
use Rattle.wires.specs.InPlace.{NoneUntil}
use Rattle.scheduler.specs.declared.ticking.Moment.{Moment}
use Rattle.scheduler.specs.declared.ticking.Line.{Line}
use Rattle.state.specs.declared.State.{State}
use Rattle.state.specs.declared.Turns.{Turns}

-- the numbers of a run's beginning at a cycle: its offset in the turn, the policy's least class and its turns before the home turns; nothing is known of when a request may go
abbrev pub moment_of : Policy → ℕ → Moment
moment_of p cycle = record { offset = cycle % p.timing.turn; until = 0; bottom = least p; free = free_turns p.epoch p.minimums }

-- where a traversal in place ended: its owner, the pointers, and how many classes it tried
abbrev pub reached_of : ℕ → List ℕ → ℕ → Reached
reached_of owner pointers tried = record { owner = owner; pointers = pointers; tried = tried }

-- what a tick's first step left
abbrev pub start_of : Turns → ℕ → TurnStart
start_of turns shown = record { turns = turns; shown = shown }

-- what a call in place left, as an answer
abbrev pub answer_of : Line → State → Answer
answer_of r s = record { state = s; status = r.status; command = r.command; response = r.response; turn = r.turn }

-- the line of a call that shows nothing
abbrev pub answered_with : ℕ → Line
answered_with status = record { status = status; command = 0; response = 0; turn = 0 }

-- ---- what a call in place rests on

-- the policy is in range, and of its numbers the least class and the turns of an epoch before its home turns are as the moment says
pub record Known (p : Policy) (m : Moment) : Type 0 where
  pub fit : policy_in_range p ≡ true
  pub bottom_is : m.bottom ≡ least p
  pub free_is : m.free ≡ free_turns p.epoch p.minimums

-- policy and state are in range, the offset is that of the cycle, and before the tick `until` none of the owner's requests may go. Each call leaves it so.
pub record Working (p : Policy) (s : State) (m : Moment) : Type 0 where
  pub ranges : in_range p s ≡ true
  pub in_step : m.offset ≡ s.cycle % p.timing.turn
  pub none_until : NoneUntil (bus_at p s s.turns) m.until
  pub known : Known p m
