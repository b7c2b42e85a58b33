-- Fresh states.
use Rattle.std.specs.Prelude.{true, false, List, ℕ, replicate}
use Rattle.policy.specs.Policy.{in_range}
use Rattle.policy.specs.declared.Policy.{Policy}
use Rattle.requests.specs.Sizes.{bank_places, pending_places}
use Rattle.queues.specs.declared.Queues.{Queues}
use Rattle.flight.specs.declared.Flight.{Flight}
use Rattle.state.specs.declared.State.{State}
use Rattle.state.specs.declared.Made.{Made}

unfoldable pub zeros : ℕ → List ℕ
zeros n = replicate n 0

unfoldable pub empty_queues : Queues
empty_queues = record { slots = zeros 128; heads = zeros 16; lengths = zeros 16; passed = zeros 16 }

unfoldable pub nothing_in_flight : Flight
nothing_in_flight = record { columns = zeros pending_places; responses = zeros pending_places; banks = zeros bank_places; last = 0 }

-- "A fresh state is at cycle 0, with empty queues, nothing in flight, no activate yet, .. marks 0, owner 0 and its dead time kept."
unfoldable pub state_at_start : ℕ → List ℕ → State
state_at_start n left =
    record {
      cycle = 0;
      classes = n;
      queues = empty_queues;
      turns = record { owner = 0; elided = false; left = left; pointers = zeros 16 };
      flight = nothing_in_flight;
    }

-- ".. turns left at the caps"
unfoldable pub fresh_state : Policy → State
fresh_state p = state_at_start p.classes p.caps

-- "a fresh state asked of an unfit policy is all zeros"
unfoldable pub zero_state : State
zero_state = state_at_start 0 (zeros 16)

-- "a fresh state asked of an unfit policy is all zeros, with 13"
unfoldable pub fresh : Policy → Made
fresh p = elim (in_range p) [ true ↦ record { status = 0; state = fresh_state p } | false ↦ record { status = 13; state = zero_state } ]
