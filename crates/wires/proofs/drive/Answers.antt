-- `wires::drive` meets its contract: on a bus that has what the second step rests on, each return is one of the three outcomes of the laws of `Step` (crate `rules`), by
-- the tests that led to it.
use Rattle.std.proofs.Common.{◌≡◌, ℕ, ◌+◌, ◌%◌, ◌<◌, Bool, true, false, eqb, ltb, sym, refl, ap, ◌∙◌, subst, ap₂, ⊎_elim, not-suc-le-zero, arith, ltb-true, lt-ltb, eq-eqb, ne_eqb}
use Rattle.policy.specs.Laws.{TimingLaws}
use Rattle.basics.specs.Below.{some}
use Rattle.basics.proofs.Truth.{false-unless, not-both, not-true, not-not, and_both, and-fails-left, and-fails-right, or_left, or_cases}
use Rattle.basics.proofs.Below.{some-found, first_some}
use Rattle.requests.specs.Word.{is_offer, column_number, command_number}
use Rattle.queues.specs.Waiting.{length_of, passed_of, waiting_at}
use Rattle.flight.specs.Flight.{due_at, sent_at}
use Rattle.rules.specs.Queue.{dequeue}
use Rattle.rules.specs.Wire.{gaps_met, offset_allows, activated}
use Rattle.rules.specs.Step.{Driven, Bus, due_column, may_go, goes_at, going, can_activate, column_sent, drive}
use Rattle.rules.specs.Ready.{SoundRequest}
use Rattle.wires.specs.InPlace.{Scannable, bus_of, bus_by, NoneUntil, left_by, Drivable, Carried}
use Rattle.wires.specs.declared.Drove.{Drove}
use Rattle.requests.proofs.Word.{word_back, offer-fits}
use Rattle.rules.proofs.Step.{drive-column, drive-nothing, drive-activate}
use Rattle.wires.proofs.drive.Goals as goal
use Rattle.wires.proofs.drive.Goals.{Else-due-ne0, Start}

-- ---- what the function was lent, and what its promise rests on
abbrev bus-of : Start → Bus
bus-of s = bus_of s.args.timing s.args.at s.args.queues.now s.args.flight.now

-- ---- what each test says

-- no column command is due
none-due : (c : Else-due-ne0) → eqb (due_at c.args.flight.now.columns c.args.at.cycle) 0 ≡ true
unfolding due_at
none-due c = eq-eqb _ 0 (omega (arith, c.if-due-ne0.false))

-- what the offset test says is what the definition says
module _ (b : Bus) (offset until : ℕ) (g : Drivable b offset until) where
  allows : (r : Bool) → (TimingLaws b.timing × (offset ≡ b.cycle % b.timing.turn) → r ≡ offset_allows b.timing b.elided b.cycle) → r ≡ offset_allows b.timing b.elided b.cycle
  allows r told = told (g.ready.timed, g.in_step)

  -- the owner is one of the sixteen
  owner-is : b.owner % 16 ≡ b.owner
  owner-is = omega (arith, g.ready.class)

  -- so its queue can be looked through
  scannable : Scannable b.queues (b.owner % 16)
  scannable = subst (λ (o : ℕ). Scannable b.queues o) (sym owner-is) (record { short = g.ready.short; kind = λ k waits. (g.ready.sound k waits).kind })

  -- what the look finds is said of the bus
  place_is : (k : ℕ) → (Scannable b.queues (b.owner % 16) → k ≡ goes_at (bus_by b.timing b.cycle (b.owner % 16) b.queues b.flight)) → k ≡ goes_at b
  unfolding goes_at may_go
  place_is k found = found scannable ∙ ap (λ (o : ℕ). goes_at (bus_by b.timing b.cycle o b.queues b.flight)) owner-is

  none_from : (n : ℕ) → NoneUntil (bus_by b.timing b.cycle (b.owner % 16) b.queues b.flight) n → NoneUntil b n
  unfolding may_go
  none_from n = subst (λ (o : ℕ). NoneUntil (bus_by b.timing b.cycle (b.owner % 16) b.queues b.flight) n → NoneUntil (bus_by b.timing b.cycle o b.queues b.flight) n) owner-is (λ h. h)

-- where none may go by now, none goes
cannot : (b : Bus) (until : ℕ) → NoneUntil b until → b.cycle + 1 < until → can_activate b ≡ false
unfolding goes_at can_activate
cannot b until none_until early =
    let n = length_of b.queues b.owner in
    and-fails-right (offset_allows b.timing b.elided b.cycle) (ltb (goes_at b) n)
    (first_some (may_go b) n ∙ false-unless (some n (may_go b)) (λ t. let it = some-found (may_go b) n t in not-both it.2 (none_until b.cycle early it.0 it.1)))

-- ---- the outcomes, in the words of the contract
-- a column command that goes out leaves the last activates, and so the tick before which none may go
column-none : (b : Bus) (until : ℕ) → NoneUntil b until → NoneUntil (left_by b (column_sent b)) until
unfolding may_go gaps_met
column-none b until none_until = none_until

module _ (b : Bus) (d : Driven) (e : drive b ≡ d) where
  carried : (r : Drove) → r.command ≡ command_number d.wires → NoneUntil (left_by b d) r.until → Carried b r d.queues d.flight
  carried r k none_until =
      record {
        command = k ∙ sym (ap (λ (x : Driven). command_number x.wires) e);
        queues_are = sym (ap (λ (x : Driven). x.queues) e);
        flight_is = sym (ap (λ (x : Driven). x.flight) e);
        none_until = subst (λ (x : Driven). NoneUntil (left_by b x) r.until) (sym e) none_until;
      }

-- the due word is an offer, since one is due, and so the sum does not wrap
pub returns-then-due-ne0 : goal.returns-then-due-ne0
unfolding due_at sent_at column_number command_number
returns-then-due-ne0 c g =
    let b = bus-of (goal.at.returns-then-due-ne0 c).Start in
    let offer = g.ready.due_offer c.if-due-ne0.true in
    let fits : (due_column b + 1073741824) % 4294967296 ≡ due_column b + 1073741824 = omega (arith, offer-fits _ offer) in
    carried b _ (drive-column b (ne_eqb _ 0 c.if-due-ne0.true)) _ (fits ∙ sym (ap column_number (word_back (due_column b) offer))) (column-none b _ g.none_until)

-- the offset does not allow it, or none may go by now
pub returns-then-offset_allows-at : goal.returns-then-offset_allows-at
unfolding command_number can_activate
returns-then-offset_allows-at c g =
    let at = goal.at.returns-then-offset_allows-at c in
    let b = bus-of at.Start in
    let none : can_activate b ≡ false =
    ⊎_elim
    (λ out. and-fails-left (offset_allows b.timing b.elided b.cycle) _ (sym (allows b _ _ g _ c.offset_allows.ensures) ∙ not-true _ out))
    (λ early. cannot b c.args.at.until g.none_until (ltb-true _ _ early))
    (or_cases _ _ c.if-offset_allows-at.true)
    in
    carried b _ (drive-nothing b (none-due at.Else-due-ne0) none) _ refl g.none_until

-- none may go
pub returns-in-Err : goal.returns-in-Err
unfolding command_number
returns-in-Err c g =
    let at = goal.at.returns-in-Err c in
    let b = bus-of at.Start in
    let told = c.in-Err.ensures.looks (scannable b _ _ g) in
    let none = none_from b _ _ g c.in-Err.until told.1 in
    carried b _ (drive-nothing b (none-due at.Else-due-ne0) (cannot b _ none told.0)) _ refl none

-- a request is found only where one waits, and another than the oldest only where fewer than may have passed that
pub dequeue-requires : goal.dequeue-requires
unfolding length_of passed_of
dequeue-requires c = (omega arith, omega (arith, c.in-Ok.ensures.waits), c.in-Ok.ensures.passes)

pub returns : goal.returns
unfolding command_number can_activate going
returns c g =
    let at = goal.at.returns c in
    let b = bus-of at.Start in
    let a = c.args in
    let place = place_is b _ _ g c.in-Ok.k c.in-Ok.ensures.looks in
    let owner = owner-is b _ _ g in
    let waits : goes_at b < length_of b.queues b.owner = subst (λ (o : ℕ). goes_at b < length_of b.queues o) owner (omega (arith, place, c.in-Ok.ensures.waits)) in
    let allowed = sym (allows b _ _ g _ c.offset_allows.ensures) ∙ not-not _ (false-unless _ (λ t. not-both (or_left _ _ t) c.if-offset_allows-at.false)) in
    let e = drive-activate b (none-due at.Else-due-ne0) (and_both allowed (lt-ltb (goes_at b) (length_of b.queues b.owner) waits)) in
    let word : c.waiting_at-word.result ≡ going b = c.waiting_at-word.ensures ∙ ap₂ (λ (o k : ℕ). waiting_at b.queues o k) owner place in
    let request : SoundRequest c.waiting_at-word.result = subst SoundRequest (sym word) (g.ready.sound (goes_at b) waits) in
    let offer = subst (λ (w : ℕ). is_offer w ≡ true) word request.offer in
    let right = carried b _ e (record { command = going b; until = 0 }) (sym (word_back (going b) offer)) (λ t early. absurd (not-suc-le-zero early)) in
    record {
      command = word ∙ right.command;
      queues_are = c.dequeue.ensures ∙ ap₂ (dequeue b.queues) owner place ∙ right.queues_are;
      flight_is = c.activate.ensures (g.ready.ticks_left, request.kind)
          ∙ ap (λ (w : ℕ). activated a.timing b.flight.columns b.flight.responses b.flight.banks w a.at.cycle) word
          ∙ right.flight_is;
      none_until = right.none_until;
    }
