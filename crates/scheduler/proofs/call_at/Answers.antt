-- `scheduler::call_at` meets its contract: what the word is picks the side of the definition, and each side is what the tick or the offer in place left.
use mathlib.Core.Path.{◌≡◌, refl, sym, ap, ap₂, ◌∙◌, subst}
use mathlib.Core.Bool.{true}
use Prim.Native.Nat.{ℕ}
use borrow.Author.Tests.{lt-ltb, le-ltb}
use Rattle.requests.specs.Sizes.{last_cycle}
use Rattle.requests.specs.Word.{command_number}
use Rattle.requests.specs.Trace.{call_of}
use Rattle.state.specs.Range.{in_range}
use Rattle.rules.specs.Call.{offer_on, bus_at, silent}
use Rattle.rules.specs.Calls.{Answer, ticked, offered, answer_to}
use Rattle.scheduler.specs.InPlace.{answer_of}
use Rattle.scheduler.specs.declared.ticking.Line.{Line}
use Rattle.queues.specs.declared.Queues.{Queues}
use Rattle.state.specs.declared.State.{State}
use Rattle.requests.specs.declared.Call.TheVariants.{Offer}
use Rattle.rules.proofs.Range.{ranged, small-classes}
use Rattle.rules.proofs.Calls.{answered-in-range}
use Rattle.requests.proofs.Trace.{offer-word}
use Rattle.rules.proofs.Call.{offer-is, tick_is, tick-late, called-tick, called-offer, called-malformed}
use Rattle.wires.proofs.InPlace.{queued-by}
use Rattle.scheduler.proofs.InPlace.{nothing_known}
use Rattle.scheduler.proofs.call_at.Goals as goal
use Rattle.scheduler.proofs.call_at.Goals.{After-answered-in-Offer}

-- the state with other queues
abbrev queued : State → Queues → State
queued s q = record { cycle = s.cycle; classes = s.classes; queues = q; turns = s.turns; flight = s.flight }

pub returns-then-s-ge-LAST_CYCLE-clause-answered : goal.returns-then-s-ge-LAST_CYCLE-clause-answered
unfolding silent command_number
returns-then-s-ge-LAST_CYCLE-clause-answered c =
    let p = c.args.p.now in
    let s = c.args.s.now in
    ap (λ (r : Line). answer_of r s) c.answered.ensures
    ∙ sym (ap ticked (tick-late p s c.requires.ranges (le-ltb s.cycle last_cycle c.if-s-ge-LAST_CYCLE.true)))
    ∙ sym (called-tick p s c.args.word (sym c.call_of.ensures ∙ c.in-Tick.is))

pub returns-else-s-ge-LAST_CYCLE-clause-answered : goal.returns-else-s-ge-LAST_CYCLE-clause-answered
returns-else-s-ge-LAST_CYCLE-clause-answered c =
    let p = c.args.p.now in
    let s = c.args.s.now in
    c.tick_in_place.ensures.ticked
    ∙ sym (ap ticked (tick_is p s c.requires.ranges (lt-ltb s.cycle last_cycle c.if-s-ge-LAST_CYCLE.false)))
    ∙ sym (called-tick p s c.args.word (sym c.call_of.ensures ∙ c.in-Tick.is))

pub returns-in-Malformed-clause-answered : goal.returns-in-Malformed-clause-answered
returns-in-Malformed-clause-answered c =
    ap (λ (r : Line). answer_of r c.args.s.now) c.answered-in-Malformed.ensures
    ∙ sym (called-malformed c.args.p.now c.args.s.now c.args.word (sym c.call_of.ensures ∙ c.in-Malformed.is))

-- what the offer in place left is the offer
offer-left : (c : After-answered-in-Offer) → answer_of c.answered-in-Offer.result (queued c.args.s.now c.offer.new.queues) ≡ answer_to c.args.p.now c.args.s.now c.args.word
unfolding offer_on
offer-left c =
    let p = c.args.p.now in
    let s = c.args.s.now in
    let told : call_of c.args.word ≡ Offer c.in-Offer.r = sym c.call_of.ensures ∙ c.in-Offer.is in
    let did = c.offer.ensures in
    let status = did.status (small-classes p s (ranged p s c.requires.ranges)) in
    let queues = did.queued ∙ queued-by s.classes p.timing.ranks s.queues _ _ _ status (offer-word c.args.word _ told) in
    ap (λ (r : Line). answer_of r (queued s c.offer.new.queues)) c.answered-in-Offer.ensures
    ∙ ap₂ (λ (k : ℕ) (q : Queues). record { state = queued s q; status = k; command = 0; response = 0; turn = 0 }) status queues
    ∙ sym (called-offer p s c.args.word _ told ∙ ap offered (offer-is p s c.requires.ranges _))

pub returns-in-Offer-clause-answered : goal.returns-in-Offer-clause-answered
returns-in-Offer-clause-answered c = offer-left (goal.at.returns-in-Offer-clause-answered c).After-answered-in-Offer

pub returns-in-Offer-clause-working : goal.returns-in-Offer-clause-working
returns-in-Offer-clause-working c =
    let p = c.args.p.now in
    let s = c.args.s.now in
    let left = queued s c.offer.new.queues in
    let same : (answer_to p s c.args.word).state ≡ left = sym (ap (λ (a : Answer). a.state) (offer-left (goal.at.returns-in-Offer-clause-working c).After-answered-in-Offer)) in
    let known = c.requires.known in
    record {
      ranges = subst (λ (x : State). in_range p x ≡ true) same (answered-in-range p s c.args.word c.requires.ranges);
      in_step = c.requires.in_step;
      none_until = nothing_known (bus_at p left left.turns) 0 refl;
      known = record { fit = known.fit; bottom_is = known.bottom_is; free_is = known.free_is };
    }
