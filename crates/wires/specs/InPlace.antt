-- What the functions that work in place are lent, and what they leave.
use Rattle.std.specs.Prelude.{◌≡◌, ℕ, ◌+◌, ◌%◌, ◌<◌, ◌≤◌, max, true, false, cond, List, ◌==◌, slice_index_or, Result, MatchResult}
use Rattle.timing.specs.declared.Timing.{Timing}
use Rattle.requests.specs.Sizes.{ring_places}
use Rattle.requests.specs.Word.{rank_of, kind_of, bank_place, command_number}
use Rattle.queues.specs.Waiting.{length_of, waiting_at}
use Rattle.rules.specs.Queue.{enqueue}
use Rattle.rules.specs.Wire.{opens_at, bank_gap, rank_opens}
use Rattle.rules.specs.Step.{Driven, Bus, may_go, goes_at, drive}
use Rattle.rules.specs.Ready.{Ready}
use Rattle.queues.specs.declared.Queues.{Queues}
use Rattle.flight.specs.declared.Flight.{Flight}
use Rattle.wires.specs.declared.Instant.{Instant}
use Rattle.wires.specs.declared.Drove.{Drove}

-- what an offer with this status leaves of the queues: the word goes to the end of its class's queue where none refused it
abbrev pub queued_by : ℕ → Queues → ℕ → ℕ → Queues
queued_by status q class word = elim (status == 0) [ true ↦ enqueue q class word | false ↦ q ]

-- the first tick, counted from 1, at which the gaps of a request are met, where those from the last activate of all, by the kinds, are for a read and for a write at these
abbrev pub opens_by : Timing → ℕ → ℕ → ℕ → List ℕ → ℕ → ℕ
opens_by timing last read write banks word =
    let of_bank = slice_index_or banks (bank_place word) 0 in
    max (max (cond (kind_of word == 0) read write) (rank_opens timing last (rank_of word))) (opens_at of_bank (bank_gap timing of_bank))

-- the command bus of a class as the owner, at a cycle; whether its dead time is dropped is not asked of it
abbrev pub bus_by : Timing → ℕ → ℕ → Queues → Flight → Bus
bus_by timing cycle class queues flight =
    record { timing = timing; cycle = cycle; owner = class; elided = false; queues = queues; flight = flight }

-- a class's queue is no longer than its ring, and each of its requests has a kind
pub record Scannable (q : Queues) (class : ℕ) : Type 0 where
  pub short : length_of q class ≤ ring_places
  pub kind : (k : ℕ) → k < length_of q class → kind_of (waiting_at q class k) < 2

-- the command bus, of the numbers, queues and flight that are worked on
abbrev pub bus_of : Timing → Instant → Queues → Flight → Bus
bus_of timing at queues flight =
    record { timing = timing; cycle = at.cycle; owner = at.owner; elided = at.elided; queues = queues; flight = flight }

-- the same bus at another cycle
abbrev pub at_cycle : Bus → ℕ → Bus
at_cycle b t = record { timing = b.timing; cycle = t; owner = b.owner; elided = b.elided; queues = b.queues; flight = b.flight }

-- as queues and last activates stand, none of the owner's requests may go before this tick, the ticks counted from 1
abbrev pub NoneUntil : Bus → ℕ → Type 0
NoneUntil b until = (t : ℕ) → t + 1 < until → (k : ℕ) → k < length_of b.queues b.owner → may_go (at_cycle b t) k ≡ false

-- a look through the owner's queue answers the place of the request that goes; or, where none may go, a tick that has not come, before which none may
abbrev pub Looks : Bus → Result ℕ ℕ → Type 0
Looks b r = MatchResult r (λ k. k ≡ goes_at b) (λ until. (b.cycle + 1 < until) × NoneUntil b until)

-- the bus has what the second step rests on, the offset that is handed in is that of the cycle, and before the tick `until` that is handed in none may go
pub record Drivable (b : Bus) (offset until : ℕ) : Type 0 where
  pub ready : Ready b
  pub in_step : offset ≡ b.cycle % b.timing.turn
  pub none_until : NoneUntil b until

-- the bus with what an outcome of the second step left
abbrev pub left_by : Bus → Driven → Bus
left_by b d = record { timing = b.timing; cycle = b.cycle; owner = b.owner; elided = b.elided; queues = d.queues; flight = d.flight }

-- what the second step left is the definition's: the command as its number in the log, the queues, and what is in flight; and before the tick that it hands back none may go
pub record Carried (b : Bus) (r : Drove) (queues : Queues) (flight : Flight) : Type 0 where
  pub command : r.command ≡ command_number (drive b).wires
  pub queues_are : queues ≡ (drive b).queues
  pub flight_is : flight ≡ (drive b).flight
  pub none_until : NoneUntil (left_by b (drive b)) r.until

-- the promise of driving the wires in place
abbrev pub Drives : Bus → Instant → Drove → Queues → Flight → Type 0
Drives b at r queues flight = Drivable b at.offset at.until → Carried b r queues flight
