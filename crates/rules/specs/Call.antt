-- The answers of the public calls: "0 or the number below", and the state.
use Rattle.std.specs.Prelude.{true, false, ℕ, ◌+◌, ltb}
use Rattle.policy.specs.declared.Policy.{Policy}
use Rattle.requests.specs.Sizes.{last_cycle}
use Rattle.rules.specs.Queue.{offer_status, queues_after}
use Rattle.flight.specs.Flight.{due_at}
use Rattle.rules.specs.Step.{turns_at, Bus, drive, answered}
use Rattle.state.specs.Range.{in_range}
use Rattle.requests.specs.declared.Request.{Request}
use Rattle.requests.specs.declared.Wires.TheVariants.{Nothing}
use Rattle.requests.specs.declared.Record.{Record}
use Rattle.state.specs.declared.Turns.{Turns}
use Rattle.state.specs.declared.State.{State}
use Rattle.state.specs.declared.Offered.{Offered}
use Rattle.state.specs.declared.Ticked.{Ticked}

-- ---- offers: "Order: .. offers 13, 9, 10, 11"

-- an offer on a state in range: it changes the queues at most, "and changes nothing else in the state"; "A refused call hands back the state it was given"
unfoldable pub offer_on : ℕ → State → Request → Offered
offer_on ranks s r =
    record {
      status = offer_status s.classes ranks s.queues.lengths r;
      state =
          record { cycle = s.cycle; classes = s.classes; queues = queues_after s.classes ranks s.queues r; turns = s.turns; flight = s.flight };
    }

unfoldable pub offer : Policy → State → Request → Offered
offer p s r = elim (in_range p s) [ true ↦ offer_on p.timing.ranks s r | false ↦ record { status = 13; state = s } ]

-- ---- ticks: "ticks 13, 12"

-- a refused tick shows nothing
unfoldable pub silent : Record
silent = record { wires = Nothing; response = 0; turn = 0 }

-- the command bus, once the turns are those of the tick
abbrev pub bus_at : Policy → State → Turns → Bus
bus_at p s turns =
    record { timing = p.timing; cycle = s.cycle; owner = turns.owner; elided = turns.elided; queues = s.queues; flight = s.flight }

unfoldable pub after_tick : Policy → State → Ticked
after_tick p s =
    let t = s.cycle in
    let start = turns_at p t s.queues.lengths s.turns in
    let turns = start.turns in
    let driven = drive (bus_at p s turns) in
    record {
      status = 0;
      state =
          record { cycle = t + 1; classes = s.classes; queues = driven.queues; turns = turns; flight = answered t driven.flight };
      shown =
          record { wires = driven.wires; response = due_at driven.flight.responses t; turn = start.shown };
    }

-- a tick on a state in range: 12 is "a tick after 16,777,215 ticks"
unfoldable pub tick_on : Policy → State → Ticked
tick_on p s = elim (ltb s.cycle last_cycle) [ true ↦ after_tick p s | false ↦ record { status = 12; state = s; shown = silent } ]

unfoldable pub tick : Policy → State → Ticked
tick p s = elim (in_range p s) [ true ↦ tick_on p s | false ↦ record { status = 13; state = s; shown = silent } ]
