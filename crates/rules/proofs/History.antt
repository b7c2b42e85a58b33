-- What holds of every state reached from fresh: it holds of the fresh state, and an offer and a tick keep it.
-- Assumes nothing.
use mathlib.Core.Path.{◌≡◌, refl, sym, ap, ◌∙◌, subst}
use mathlib.Core.Logic.{inl, ⊎_elim}
use mathlib.Core.Bool.{true, false}
use Prim.Native.Nat.{ℕ, ◌+◌, ◌-◌, ◌%◌, ◌≤◌, ◌<◌}
use native.Mathlib.Nat.{not-suc-le-zero}
use native.Mathlib.Omega.{arith}
use borrow.Author.Tests.{ltb-true}
use lib.Dec.{ltb}
use Rattle.policy.specs.Policy.{is_class, flows}
use Rattle.policy.specs.Policy.{in_range as policy_in_range}
use Rattle.policy.specs.declared.Policy.{Policy}
use Rattle.basics.proofs.Truth.{either, not-both, and_left, or_cases, on-true, on-false}
use Rattle.policy.proofs.Laws.{policy-laws}
use Rattle.requests.specs.Sizes.{last_cycle}
use Rattle.requests.specs.Word.{class_of, rank_of, kind_of, sound_word}
use Rattle.queues.specs.Waiting.{length_of, right_word}
use Rattle.rules.specs.Lookahead.{elides}
use Rattle.rules.specs.Wire.{gap_met, offset_allows}
use Rattle.rules.specs.Step.{turn_starts, turn_number, TurnStart, owned_by, start_turn, turns_at, Bus, goes_at, going, can_activate, drive, answered}
use Rattle.state.specs.Fresh.{nothing_in_flight, state_at_start, fresh_state}
use Rattle.state.specs.Range.{in_range}
use Rattle.rules.specs.Call.{offer_on, bus_at, after_tick}
use Rattle.rules.specs.History.{FromFresh, at_first, after-offer, after-tick, turn_before, until_turn, InFlight, Activates, Held}
use Rattle.requests.specs.declared.Request.{Request}
use Rattle.state.specs.declared.Turns.{Turns}
use Rattle.flight.specs.declared.Flight.{Flight}
use Rattle.state.specs.declared.State.{State}
use Rattle.state.specs.declared.Offered.{Offered}
use Rattle.state.specs.declared.Ticked.{Ticked}
use Rattle.rules.proofs.Lookahead.{elision}
use Rattle.rules.proofs.Wire.{gap-shift, gap-new, gap-none, Before}
use Rattle.requests.proofs.Word.{rank-small}
use Rattle.rules.proofs.Range.{sound-kind, right-class, Fits, Ranged, ranged, BusRange, bus-range, goes-waits, going-right, goes-sound}
use Rattle.rules.proofs.PendingWords.{Later, each_map}
use Rattle.rules.proofs.FlightKept.{columns-next, responses-next, activates-next}
use Rattle.rules.proofs.TurnsKept.{turns-kept}
use Rattle.rules.proofs.Call.{offer-is, tick_is, tick-late}
use Rattle.rules.proofs.Calendar.{until-start, until-nearer, offset-far, number-start, number-stays}
use Rattle.rules.proofs.CallsKept.{zero-at, none-due, offer_in_range, tick_in_range, fresh-fits}

-- ---- in flight

in-flight-map : (P Q : ℕ → ℕ → Type 0) (t : ℕ) (f : Flight) → ((d w : ℕ) → P d w → Q d w) → InFlight P t f → InFlight Q t f
in-flight-map P Q t f g h = record { column = each_map P Q t f.columns g h.column; response = each_map P Q t f.responses g h.response }

activates-map : (P Q : ℕ → Type 0) (f : Flight) → ((x : ℕ) → P x → Q x) → Activates P f → Activates Q f
activates-map P Q f g h = record { of_all = g f.last h.of_all; of-bank = λ b l. g _ (h.of-bank b l) }

module _ (p : Policy) (given : policy_in_range p ≡ true) where
  abbrev turn : ℕ
  turn = p.timing.turn

  abbrev dead : ℕ
  dead = p.timing.dead

  abbrev Flowing : ℕ → ℕ → ℕ → Type 0
  Flowing owner d w = flows p (class_of w) owner ≡ true

  two : 2 ≤ turn
  two = (policy-laws p given).timed.turn_bounds.0

  -- ---- between the first step of a tick and the second

  pub record Midway (t : ℕ) (turns : Turns) (f : Flight) : Type 0 where
    pub flowing : InFlight (Flowing turns.owner) t f
    pub stands : turns.elided ≡ true → elides p (turn_number p t) turns.left turns.pointers turns.owner ≡ true
    pub drained : turns.elided ≡ false → InFlight (λ d w. d < until_turn p (t + 1) + 1) t f
    pub rested : turns.elided ≡ false → Activates (λ last. gap_met last dead (t + 1 + until_turn p (t + 1)) ≡ true) f

  module _ (s : State) (h : Held p s) where
    abbrev t : ℕ
    t = s.cycle

    w : Ranged p s
    w = ranged p s h.ranges

    abbrev started : Turns
    started = (start_turn p (turn_number p t) s.queues.lengths s.turns.left s.turns.pointers).turns

    -- a turn starts: the old owner may flow to the new one, or nothing is in flight
    start-flowing : turn_starts p t ≡ true → InFlight (Flowing started.owner) t s.flight
    start-flowing e =
        ⊎_elim
        (λ elided.
        let number = number-start p two t (h.begun elided) e in
        let on = elision p given (turn_before p t) s.turns.left s.turns.pointers s.turns.owner w.turns.owner_class (h.stands elided) s.queues.lengths in
        let to = subst (λ (k : ℕ). flows p s.turns.owner (start_turn p k s.queues.lengths s.turns.left s.turns.pointers).turns.owner ≡ true) (sym number) on in
        in-flight-map (Flowing s.turns.owner) (Flowing started.owner) t s.flight
        (λ d x f. (policy-laws p given).order.transitive (class_of x) s.turns.owner started.owner f to)
        h.flowing)
        (λ kept.
        in-flight-map (λ d x. d < until_turn p t) (Flowing started.owner) t s.flight
        (λ d x l. absurd (not-suc-le-zero {n = d} (subst (λ (k : ℕ). d < k) (until-start p two t e).0 l)))
        (h.drained kept))
        (either s.turns.elided)

    start-drained : turn_starts p t ≡ true → InFlight (λ d x. d < until_turn p (t + 1) + 1) t s.flight
    start-drained e =
        let laws = (policy-laws p given).timed in
        let u = (until-start p two t e).1 in
        record {
          column =
              each_map (Fits p.classes p.timing.ranks p.timing.column) (λ d x. d < until_turn p (t + 1) + 1) t s.flight.columns
              (λ d x f. omega (arith, f.0, u, laws.column_bounds.1, laws.response_bounds.1, laws.dead_below_turn)) w.flight.columns_due;
          response =
              each_map (Fits p.classes p.timing.ranks p.timing.response) (λ d x. d < until_turn p (t + 1) + 1) t s.flight.responses
              (λ d x f. omega (arith, f.0, u, laws.response_bounds.1, laws.dead_below_turn)) w.flight.responses_due;
        }

    start-rested : turn_starts p t ≡ true → Activates (λ last. gap_met last dead (t + 1 + until_turn p (t + 1)) ≡ true) s.flight
    start-rested e =
        let u = (until-start p two t e).1 in
        activates-map (Before t) (λ last. gap_met last dead (t + 1 + until_turn p (t + 1)) ≡ true) s.flight
        (λ last b. gap-shift last 1 dead t (t + 1 + until_turn p (t + 1)) (omega (arith, u, (policy-laws p given).timed.dead_below_turn)) b.1)
        w.flight.activates_before

    midway_start : turn_starts p t ≡ true → Midway t started s.flight
    unfolding start_turn owned_by
    midway_start e = record { flowing = start-flowing e; stands = λ x. x; drained = λ x. start-drained e; rested = λ x. start-rested e }

    midway-stays : turn_starts p t ≡ false → Midway t s.turns s.flight
    midway-stays e =
        let u = until-nearer p two t e in
        let same : t + until_turn p t ≡ t + 1 + until_turn p (t + 1) = omega (arith, u) in
        record {
          flowing = h.flowing;
          stands =
              λ x. ap (λ (k : ℕ). elides p k s.turns.left s.turns.pointers s.turns.owner) (number-stays p two t (h.begun x) e) ∙ h.stands x;
          drained = λ x. subst (λ (k : ℕ). InFlight (λ d y. d < k) t s.flight) u (h.drained x);
          rested = λ x. subst (λ (k : ℕ). Activates (λ last. gap_met last dead k ≡ true) s.flight) same (h.rested x);
        }

    abbrev turns : Turns
    turns = (turns_at p t s.queues.lengths s.turns).turns

    pub midway : Midway t turns s.flight
    unfolding turns_at
    midway =
        ⊎_elim
        (λ e. subst (λ (x : TurnStart). Midway t x.turns s.flight) (sym (on-true (turn_starts p t) _ _ e)) (midway_start e))
        (λ e. subst (λ (x : TurnStart). Midway t x.turns s.flight) (sym (on-false (turn_starts p t) _ _ e)) (midway-stays e))
        (either (turn_starts p t))

    -- ---- the second step and the third

    abbrev bus : Bus
    bus = bus_at p s turns

    abbrev goes : Type 0
    goes = can_activate bus ≡ true

    owner_class : is_class p turns.owner ≡ true
    owner_class = (turns-kept p given t s.queues.lengths s.turns w.turns).owner_class

    ranges : BusRange p.classes bus
    ranges = bus-range p s w turns ((policy-laws p given).order.class_small turns.owner owner_class)

    right : goes → right_word p.classes p.timing.ranks turns.owner (going bus) ≡ true
    right e = going-right p.classes bus ranges (goes-waits p.classes bus ranges e)

    sound : goes → sound_word p.classes p.timing.ranks (going bus) ≡ true
    sound = goes-sound p.classes bus ranges

    -- what is activated is the owner's
    going-flows : goes → flows p (class_of (going bus)) turns.owner ≡ true
    going-flows e =
        subst (λ (c : ℕ). flows p c turns.owner ≡ true) (sym (right-class p.classes p.timing.ranks turns.owner (going bus) (right e)))
        ((policy-laws p given).order.reflexive turns.owner owner_class)

    -- and where the dead time is kept, it is activated that long before the next turn
    going-far : turns.elided ≡ false → goes → dead ≤ until_turn p (t + 1)
    unfolding can_activate offset_allows
    going-far kept e =
        let gate = and_left (offset_allows p.timing turns.elided t) (ltb (goes_at bus) (length_of s.queues turns.owner)) e in
        ⊎_elim
        (λ x. absurd (not-both x kept))
        (λ l. offset-far p two t dead (omega (arith, ltb-true (t % turn) (turn - dead) l)))
        (or_cases turns.elided (ltb (t % turn) (turn - dead)) gate)

    abbrev flight : Flight
    flight = answered t (drive bus).flight

    in-flight-next : (P Q : ℕ → ℕ → Type 0) → ((d x : ℕ) → P (d + 1) x → Q d x) → (goes → Later Q p.timing.column (going bus)) → (goes → Later Q p.timing.response (going bus)) → InFlight P t s.flight → InFlight Q (t + 1) flight
    unfolding answered
    in-flight-next P Q lasts column response x =
        record {
          column = columns-next bus ranges.timed P Q lasts w.flight.columns_long column x.column;
          response = responses-next bus ranges.timed P Q lasts w.flight.responses_long response x.response;
        }

    next-flowing : InFlight (Flowing turns.owner) (t + 1) flight
    next-flowing = in-flight-next (Flowing turns.owner) (Flowing turns.owner) (λ d x f. f) (λ e d same. going-flows e) (λ e d same. going-flows e) midway.flowing

    next-drained : turns.elided ≡ false → InFlight (λ d x. d < until_turn p (t + 1)) (t + 1) flight
    next-drained kept =
        let laws = (policy-laws p given).timed in
        in-flight-next (λ d x. d < until_turn p (t + 1) + 1) (λ d x. d < until_turn p (t + 1)) (λ d x l. omega (arith, l))
        (λ e d same. omega (arith, same, going-far kept e, laws.column_bounds.1, laws.response_bounds.1))
        (λ e d same. omega (arith, same, going-far kept e, laws.response_bounds.1))
        (midway.drained kept)

    next-rested : turns.elided ≡ false → Activates (λ last. gap_met last dead (t + 1 + until_turn p (t + 1)) ≡ true) flight
    next-rested kept =
        let met : ℕ → Type 0 = λ last. gap_met last dead (t + 1 + until_turn p (t + 1)) ≡ true in
        activates-next bus met met (λ x m. m) w.flight.banks_long
        (λ e.
        let g = going bus in
        gap-new (rank_of g) (kind_of g) dead t (t + 1 + until_turn p (t + 1)) (rank-small g) (sound-kind p.classes p.timing.ranks g (sound e)) (omega (arith, going-far kept e)))
        (midway.rested kept)

    tick-held : t < last_cycle → in_range p (after_tick p s).state ≡ true → Held p (after_tick p s).state
    unfolding after_tick turn_before
    tick-held left in-range-next =
        let back : turn_number p t ≡ turn_number p (t + 1 - 1) = ap (turn_number p) (omega arith) in
        record {
          ranges = in-range-next;
          flowing = next-flowing;
          begun = λ x. omega arith;
          stands = λ x. ap (λ (k : ℕ). elides p k turns.left turns.pointers turns.owner) (sym back) ∙ midway.stands x;
          drained = next-drained;
          rested = next-rested;
        }

    -- ---- an offer changes neither the turns nor what is in flight

    offer-held : (r : Request) → in_range p (offer_on p.timing.ranks s r).state ≡ true → Held p (offer_on p.timing.ranks s r).state
    unfolding offer_on
    offer-held r ranges =
        record { ranges = ranges; flowing = h.flowing; begun = h.begun; stands = h.stands; drained = h.drained; rested = h.rested }

  fresh-held : Held p (fresh_state p)
  unfolding fresh_state state_at_start nothing_in_flight
  fresh-held =
      record {
        ranges = fresh-fits p given;
        flowing = record { column = λ d l. inl (none-due (0 + d)); response = λ d l. inl (none-due (0 + d)) };
        begun = λ x. absurd (not-both x refl);
        stands = λ x. absurd (not-both x refl);
        drained = λ x. record { column = λ d l. inl (none-due (0 + d)); response = λ d l. inl (none-due (0 + d)) };
        rested = λ x. record { of_all = gap-none dead (0 + until_turn p 0); of-bank = λ b l. ap (λ (last : ℕ). gap_met last dead (0 + until_turn p 0)) (zero-at 32 b) ∙ gap-none dead (0 + until_turn p 0) };
      }

  pub held : (s : State) → FromFresh p s → Held p s
  held _ at_first = fresh-held
  held _ (after-offer s r from) =
      let h = held s from in
      let same = offer-is p s h.ranges r in
      subst (λ (o : Offered). Held p o.state) (sym same)
      (offer-held s h r (subst (λ (o : Offered). in_range p o.state ≡ true) same (offer_in_range p s r h.ranges)))
  held _ (after-tick s from) =
      let h = held s from in
      ⊎_elim
      (λ l.
      let goes = tick_is p s h.ranges l in
      subst (λ (o : Ticked). Held p o.state) (sym goes)
      (tick-held s h (ltb-true s.cycle last_cycle l) (subst (λ (o : Ticked). in_range p o.state ≡ true) goes (tick_in_range p s h.ranges))))
      (λ l. subst (λ (o : Ticked). Held p o.state) (sym (tick-late p s h.ranges l)) h)
      (either (ltb s.cycle last_cycle))
