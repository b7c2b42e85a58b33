-- `scheduler::ticking::tick_in_place` meets its contract: the turns, the wires and the response are those of the definition, one after the other.
use mathlib.Core.Path.{◌≡◌, sym, ap, ap₂, ◌∙◌, subst}
use mathlib.Core.Logic.{⊎_elim}
use mathlib.Core.Bool.{Bool, true, cond}
use mathlib.Core.List.{List}
use Prim.Native.Nat.{ℕ, ◌+◌, ◌%◌, ◌<◌}
use borrow.Author.Tests.{lt-ltb}
use lib.Dec.{eqb}
use Rattle.basics.proofs.Truth.{either, on-false}
use Rattle.policy.proofs.Laws.{policy-laws}
use Rattle.requests.specs.Sizes.{last_cycle}
use Rattle.requests.specs.Word.{command_number}
use Rattle.flight.specs.Flight.{due_at}
use Rattle.rules.specs.Wire.{gaps_met}
use Rattle.rules.specs.Step.{turn_starts, TurnStart, turns_at, Driven, Bus, may_go, drive, answered}
use Rattle.rules.specs.Call.{bus_at, after_tick, tick}
use Rattle.rules.specs.Calls.{Answer, ticked}
use Rattle.scheduler.specs.InPlace.{start_of}
use Rattle.queues.specs.declared.Queues.{Queues}
use Rattle.flight.specs.declared.Flight.{Flight}
use Rattle.state.specs.declared.State.{State}
use Rattle.state.specs.declared.Ticked.{Ticked}
use Rattle.state.specs.Range.{in_range}
use Rattle.wires.specs.InPlace.{NoneUntil, left_by, Carried}
use Rattle.rules.proofs.Step.{turn-owner}
use Rattle.rules.proofs.Range.{Ranged, ranged, BusRange, bus-range, ready}
use Rattle.rules.proofs.Call.{tick_is}
use Rattle.rules.proofs.CallsKept.{tick_in_range}
use Rattle.scheduler.proofs.InPlace.{nothing_known}
use Rattle.scheduler.proofs.ticking.tick_in_place.Goals as goal
use Rattle.scheduler.proofs.ticking.tick_in_place.Goals.{After-take_due-response}

-- ---- what each step left

module _ (c : After-take_due-response) where
  abbrev turned : TurnStart
  turned = start_of c.turns_at-turn.new.turns c.turns_at-turn.result

  abbrev right : TurnStart
  right = turns_at c.args.p.now c.args.s.now.cycle c.args.s.now.queues.lengths c.args.s.now.turns

  turned_right : turned ≡ right
  turned_right = c.turns_at-turn.ensures

  -- the owner is one of the sixteen, so the second step has what it rests on
  ranges : Ranged c.args.p.now c.args.s.now
  ranges = ranged c.args.p.now c.args.s.now c.requires.0.ranges

  owner_small : turned.turns.owner < 16
  owner_small =
      subst (λ (t : TurnStart). t.turns.owner < 16) (sym turned_right)
      (turn-owner c.args.p.now ranges.fit c.args.s.now.cycle c.args.s.now.queues.lengths c.args.s.now.turns ((policy-laws c.args.p.now ranges.fit).order.class_small _ ranges.turns.owner_class))

  abbrev bus : Bus
  bus = bus_at c.args.p.now c.args.s.now turned.turns

  bus-fit : BusRange c.args.p.now.classes bus
  bus-fit = bus-range c.args.p.now c.args.s.now ranges turned.turns owner_small

  -- the definition's second step
  abbrev right-drive : Driven
  right-drive = drive (bus_at c.args.p.now c.args.s.now right.turns)

  driven-right : drive bus ≡ right-drive
  driven-right = ap (λ (t : TurnStart). drive (bus_at c.args.p.now c.args.s.now t.turns)) turned_right

  -- before the tick `until` none of this turn's owner's requests may go: where the turn starts it is 0, and where it goes on the turns are what they were
  none-given : NoneUntil bus c.until_of.result
  unfolding turns_at turn_starts
  none-given =
      let p = c.args.p.now in
      let s = c.args.s.now in
      let until = c.args.m.now.until in
      let result = c.until_of.ensures in
      let starts = eqb (s.cycle % p.timing.turn) 0 in
      ⊎_elim
      (λ start. nothing_known bus c.until_of.result (result ∙ ap (λ (b : Bool). cond b 0 until) start))
      (λ goes_on.
      let same : c.until_of.result ≡ until = result ∙ ap (λ (b : Bool). cond b 0 until) goes_on in
      let stays : turned ≡ record { turns = s.turns; shown = 0 } = turned_right ∙ on-false starts _ _ (ap (λ (k : ℕ). eqb k 0) (sym c.requires.0.in_step) ∙ goes_on) in
      subst (NoneUntil bus) (sym same) (subst (λ (x : TurnStart). NoneUntil (bus_at p s x.turns) until) (sym stays) c.requires.0.none_until))
      (either (eqb c.args.m.now.offset 0))

  -- what the second step in place promises of it
  promised : Carried bus c.drive-drove.result c.drive-drove.new.queues c.drive-drove.new.flight
  promised =
      c.drive-drove.ensures (record { ready = ready c.args.p.now.classes bus bus-fit c.requires.1; in_step = c.requires.0.in_step; none_until = none-given })

  flight-right : c.drive-drove.new.flight ≡ right-drive.flight
  flight-right = promised.flight_is ∙ ap (λ (d : Driven). d.flight) driven-right

-- ---- a tick's answer, of its parts
module _ (t n : ℕ) where
  abbrev made : Queues → TurnStart → Flight → ℕ → ℕ → Answer
  made q start f command response =
      record {
        status = 0;
        command = command;
        response = response;
        turn = start.shown;
        state = record { cycle = t + 1; classes = n; queues = q; turns = start.turns; flight = f };
      }

  same-answers : {q r : Queues} → {x y : TurnStart} → {f g : Flight} → {k l i j : ℕ} → q ≡ r → x ≡ y → f ≡ g → k ≡ l → i ≡ j → made q x f k i ≡ made r y g l j
  same-answers {r = r} {x = x} {y = y} {f = f} {g = g} {k = k} {l = l} {i = i} a b c d e =
      ap₂ (λ (q : Queues) (z : TurnStart). made q z f k i) a b ∙ ap₂ (λ (h : Flight) (m : ℕ). made r y h m i) c d ∙ ap (made r y g l) e

abbrev responded : Flight → List ℕ → Flight
responded f responses = record { columns = f.columns; responses = responses; banks = f.banks; last = f.last }

-- what the tick in place left is the tick
abbrev left : After-take_due-response → Answer
left c = made c.args.s.now.cycle c.args.s.now.classes c.drive-drove.new.queues (turned c) (responded c.drive-drove.new.flight c.take_due-response.new.pending) c.drive-drove.result.command c.take_due-response.result

left-is : (c : After-take_due-response) → left c ≡ ticked (after_tick c.args.p.now c.args.s.now)
unfolding after_tick answered
left-is c =
    let t = c.args.s.now.cycle in
    let sent = c.take_due-response.ensures in
    same-answers t c.args.s.now.classes
    ((promised c).queues_are ∙ ap (λ (x : Driven). x.queues) (driven-right c))
    (turned_right c)
    (ap (responded c.drive-drove.new.flight) sent.sent ∙ ap (answered t) (flight-right c))
    ((promised c).command ∙ ap (λ (x : Driven). command_number x.wires) (driven-right c))
    (sent.word ∙ ap (λ (f : Flight). due_at f.responses t) (flight-right c))

-- and before the tick that driving the wires hands back none of the owner's requests may go
none-left : (c : After-take_due-response) → NoneUntil (bus_at c.args.p.now (after_tick c.args.p.now c.args.s.now).state (after_tick c.args.p.now c.args.s.now).state.turns) c.drive-drove.result.until
unfolding after_tick answered may_go gaps_met
none-left c =
    subst (λ (x : TurnStart). NoneUntil (left_by (bus_at c.args.p.now c.args.s.now x.turns) (drive (bus_at c.args.p.now c.args.s.now x.turns))) c.drive-drove.result.until) (turned_right c) (promised c).none_until

pub turns_at-turn-requires : goal.turns_at-turn-requires
turns_at-turn-requires c =
    let r = ranged c.args.p.now c.args.s.now c.requires.0.ranges in
    (c.requires.0.known, c.requires.0.in_step, c.requires.1, r.turns.left_within.sixteen, r.turns.pointers_fit.sixteen)

pub next_offset-m-requires : goal.next_offset-m-requires
next_offset-m-requires c = ((policy-laws c.args.p.now (ranged c.args.p.now c.args.s.now c.requires.0.ranges).fit).timed, c.requires.0.in_step)

pub returns-clause-ticked : goal.returns-clause-ticked
returns-clause-ticked c = left-is (goal.at.returns-clause-ticked c).After-take_due-response

pub returns-clause-working : goal.returns-clause-working
returns-clause-working c =
    let at = (goal.at.returns-clause-working c).After-take_due-response in
    let p = c.args.p.now in
    let s = c.args.s.now in
    let given = c.requires.0 in
    let same = sym (ap (λ (a : Answer). a.state) (left-is at)) in
    let made-is : tick p s ≡ after_tick p s = tick_is p s given.ranges (lt-ltb s.cycle last_cycle c.requires.1) in
    let kept = subst (λ (a : Ticked). in_range p a.state ≡ true) made-is (tick_in_range p s given.ranges) in
    record {
      ranges = subst (λ (x : State). in_range p x ≡ true) same kept;
      in_step = c.next_offset-m.ensures;
      none_until = subst (λ (x : State). NoneUntil (bus_at p x x.turns) c.drive-drove.result.until) same (none-left at);
      known = record { fit = given.known.fit; bottom_is = given.known.bottom_is; free_is = given.known.free_is };
    }
