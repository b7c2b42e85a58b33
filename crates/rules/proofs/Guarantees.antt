-- W-202's promises, and W-209's, hold of every policy in range. A class with a request waiting owns its home turns, and a traversal comes to a class in no more turns of an epoch than its cap: so the plan's counts bound the turns that a class
-- owns from below and from above. A least class that always waits owns every turn but the home turns above it, so it meets the bound from above. A class's requests go in its own turns alone, so what waits still waits at its next home
-- turn, which is at most an epoch away. And in a turn of its own, dead time less one after the start, nothing holds the oldest back any more: no gap is longer, and no earlier column command is due so late.
-- Assumes nothing.
use mathlib.Core.Path.{◌≡◌, refl, sym, ap, ◌∙◌, subst}
use mathlib.Core.Logic.{◌⊎◌, inl, inr, ⊎_elim}
use mathlib.Core.Bool.{true, false, ◌&&◌}
use mathlib.Core.List.{List, ◌∷◌, ◌++◌}
use Prim.Native.Nat.{ℕ, zero, suc, ◌+◌, ◌*◌, ◌-◌, ◌%◌, ◌≤◌, ◌<◌, zero-le}
use native.Mathlib.Nat.{eq-or-lt_of_le, lt_of_lt_of_le, le_trans, lt_irrefl, le_refl, mul-add-mod_self_right, mod-eq_of_lt}
use native.Mathlib.Omega.{arith}
use borrow.Author.Tests.{eqb-true, eqb-false, eq-eqb, lt-ltb}
use lib.Arith.{lt_of_le-ne}
use lib.Dec.{ltb, eqb}
use lib.ListN.{get_or}
use Rattle.basics.specs.Below.{count}
use Rattle.policy.specs.Laws.{TimingLaws}
use Rattle.policy.specs.Policy.{is_class, flows, strictly, least, cap, minimum, home_turn, home_class, in_range as policy_in_range}
use Rattle.policy.specs.declared.Policy.{Policy}
use Rattle.basics.proofs.Truth.{either, false-unless, and_left, and_right, and_both, or_left, or_right}
use Rattle.basics.proofs.Stores.{stored_at}
use Rattle.basics.proofs.Below.{some_at, first_some, count_under, count-either}
use Rattle.order.proofs.Orders.{apart-strictly}
use Rattle.policy.proofs.Laws.{policy-laws}
use Rattle.requests.specs.Word.{rank_of, kind_of, bank_place, command_number}
use Rattle.requests.proofs.Word.{place-small}
use Rattle.queues.specs.Waiting.{length_of, passed_of, waiting_at}
use Rattle.queues.specs.declared.Queues.{Queues}
use Rattle.flight.specs.Flight.{due_at, sent_at}
use Rattle.flight.specs.declared.Flight.{Flight}
use Rattle.state.specs.Fresh.{fresh_state}
use Rattle.state.specs.declared.State.{State}
use Rattle.state.specs.declared.Turns.{Turns}
use Rattle.rules.specs.Traversal.{first_class}
use Rattle.rules.specs.Step.{TurnStart, turns_at, Driven, Bus, due_column, may_go, goes_at, going, can_activate, drive, answered as after_answer}
use Rattle.rules.specs.Wire.{gap_met, gaps_met, offset_allows}
use Rattle.rules.specs.History.{Activates}
use Rattle.rules.specs.Call.{bus_at, after_tick}
use Rattle.rules.specs.Calls.{Answer, line_of, answer_to, log_of}
use Rattle.rules.specs.Guarantees.{ticks_in, at_tick, TickMade, first_tick, Started, Ended, Waits, owns, owned_in, ActivatedAt, ActivatedIn, OwnTurn, Guarantees}
use Rattle.rules.proofs.Wire.{gap-shift, gaps-rested}
use Rattle.rules.proofs.PendingWords.{inside}
use Rattle.rules.proofs.Step.{drive-column, drive-nothing, drive-activate}
use Rattle.rules.proofs.Range.{FlightRange, ranged, BusRange, bus-range, goes-waits, waiting-sound, request-shown, sound-kind}
use Rattle.rules.proofs.Calls.{cut-log}
use Rattle.rules.proofs.ListTicks.{Grown}
use Rattle.rules.proofs.ListTurns as list
use Rattle.rules.proofs.TurnsLeft.{caps-suffice}

module _ (p : Policy) (given : policy_in_range p ≡ true) where
  abbrev turn : ℕ
  turn = p.timing.turn

  module _ (ws : List ℕ) where
    -- ---- the turns of the list

    abbrev started : ℕ → TurnStart
    started k = list.started p given ws k

    abbrev owner : ℕ → ℕ
    owner k = (started k).turns.owner

    -- ---- in an epoch

    module _ (e : ℕ) where
      abbrev turn-of : ℕ → ℕ
      turn-of j = e * p.epoch + j

      module _ (c : ℕ) (class : is_class p c ≡ true) where
        -- at least its minimum: its home turns are its own
        at_least : ((j : ℕ) → j < p.epoch → home_turn p (turn-of j) ≡ true → home_class p (turn-of j) ≡ c → Started p ws (turn-of j) × Waits p ws (turn-of j) c) → minimum p c ≤ owned_in p ws e c
        unfolding owned_in
        at_least waits =
            subst (λ (m : ℕ). m ≤ count p.epoch (λ j. owns p ws c (turn-of j))) ((policy-laws p given).homes.as_its_minimum c class)
            (count_under (λ j. home_turn p j && eqb (home_class p j) c) (λ j. owns p ws c (turn-of j)) p.epoch
            (λ j l t.
            let home : home_turn p (turn-of j) ≡ true = (list.in-epoch p given e j).0 ∙ and_left (home_turn p j) (eqb (home_class p j) c) t in
            let its : home_class p (turn-of j) ≡ c = (list.in-epoch p given e j).1 ∙ eqb-true (home_class p j) c (and_right (home_turn p j) (eqb (home_class p j) c) t) in
            let there = waits j l home its in
            list.owns-at-home p given ws (turn-of j) c there.0 home its there.1))

        -- at most its cap: a traversal comes to it in no more turns
        at_most : owned_in p ws e c ≤ cap p c
        unfolding owned_in
        at_most =
            le_trans
            (count_under (λ j. owns p ws c (turn-of j)) (λ j. list.comes p given c (turn-of j)) p.epoch
            (λ j l own. subst (λ (x : ℕ). flows p (first_class p (turn-of j)) x ≡ true) (list.owned p given ws (turn-of j) c own) (list.from_first p given ws (turn-of j))))
            (list.few-come p given e c class)

      -- W-209: exactly its cap, of the least class. The E - S turns that are no home turns start at the least class and are its, as it has a turn left there: its cap is E less the other minimums, so at least E - S, and it is charged for these
      -- turns alone. Of the home turns its own are its. That is E - S plus its minimum, which is its cap. It is counted from the other side: every turn is its own or a home turn of a class above, and its cap is E less those.
      module _ (waits : (j : ℕ) → j < p.epoch → Started p ws (turn-of j) × Waits p ws (turn-of j) (least p)) where
        its-or-higher : (j : ℕ) → j < p.epoch → (owns p ws (least p) (turn-of j) ≡ true) ⊎ (list.higher-home p given (least p) j ≡ true)
        unfolding strictly flows
        its-or-higher j l =
            let laws = policy-laws p given in
            let c = least p in
            let k = turn-of j in
            let there = waits j l in
            let plan = list.in-epoch p given e j in
            ⊎_elim
            (λ home.
            ⊎_elim
            (λ same. inl (list.owns-at-home p given ws k c there.0 (plan.0 ∙ home) (plan.1 ∙ sym (eqb-true c (home_class p j) same)) there.1))
            (λ apart.
            inr (and_both home (apart-strictly p.rows c (home_class p j) (laws.lowest.is_least (home_class p j) (laws.homes.of-class j home)) (eqb-false c (home_class p j) apart))))
            (either (eqb c (home_class p j))))
            (λ other.
            let free = plan.0 ∙ other in
            inl (list.least_owns p given ws k there.0 free there.1 ((caps-suffice p given).some_left ws k c there.0 (list.comes-to-least p given k free))))
            (either (home_turn p j))

        no_less : cap p (least p) ≤ owned_in p ws e (least p)
        unfolding owned_in
        no_less =
            let all = count-either (λ j. owns p ws (least p) (turn-of j)) (list.higher-home p given (least p)) p.epoch its-or-higher in
            omega (arith, all, list.all-but-higher p given (least p) (policy-laws p given).lowest.is-class)

    -- ---- a turn of its own

    -- no turn lies before a turn and not before it
    none_before : (c k j : ℕ) → k ≤ j → j < k → owns p ws c j ≡ false
    none_before c k j from under = absurd (lt_irrefl j (lt_of_lt_of_le under from))

    -- one turn more before it, which the class does not own
    a-turn-later : (c d k : ℕ) → owns p ws c k ≡ false → Grown (at_tick p ws (first_tick p k)).queues (at_tick p ws (first_tick p (k + 1))).queues c → Waits p ws k c → OwnTurn p ws (k + 1) (d + 1) c → OwnTurn p ws k (suc d + 1) c
    a-turn-later c d k other grown waits o =
        let before : (j : ℕ) → k ≤ j → j < o.turn → owns p ws c j ≡ false =
        λ j from under. ⊎_elim (λ same. subst (λ (x : ℕ). owns p ws c x ≡ false) same other) (λ later. o.first j (omega (arith, later)) under) (eq-or-lt_of_le from)
        in
        record { turn = o.turn; not_before = omega (arith, o.not_before); within = omega (arith, o.within); own = o.own; first = before; waits = o.waits; same_oldest = o.same_oldest ∙ grown.oldest waits }

    -- at its home turn at the latest
    until-home : (c d k : ℕ) → Started p ws (k + d) → home_turn p (k + d) ≡ true → home_class p (k + d) ≡ c → Waits p ws k c → OwnTurn p ws k (d + 1) c
    until-home c zero k l home its waits =
        let here : k + 0 ≡ k = omega arith in
        let begins = subst (Started p ws) here l in
        let is : home_turn p k ≡ true = subst (λ (j : ℕ). home_turn p j ≡ true) here home in
        let same : home_class p k ≡ c = subst (λ (j : ℕ). home_class p j ≡ c) here its in
        record { turn = k; not_before = le_refl k; within = omega arith; own = list.owns-at-home p given ws k c begins is same waits; first = none_before c k; waits = waits; same_oldest = refl }
    until-home c (suc d) k l home its waits =
        let next : k + suc d ≡ k + 1 + d = omega arith in
        ⊎_elim
        (λ e.
        record { turn = k; not_before = le_refl k; within = omega arith; own = list.owning p given ws k c (list.earlier p given ws k (k + suc d) (omega arith) l) (eqb-true (owner k) c e); first = none_before c k; waits = waits; same_oldest = refl })
        (λ e.
        let grown = list.over-a-turn p given ws k c (eqb-false (owner k) c e) (list.earlier p given ws (k + 1) (k + suc d) (omega arith) l) in
        let still : Waits p ws (k + 1) c = λ none. waits (omega (arith, grown.longer, none)) in
        let other : owns p ws c k ≡ false = false-unless (owns p ws c k) (λ mine. eqb-false (owner k) c e (list.owned p given ws k c mine)) in
        a-turn-later c d k other grown waits
        (until-home c d (k + 1) (subst (Started p ws) next l) (subst (λ (j : ℕ). home_turn p j ≡ true) next home) (subst (λ (j : ℕ). home_class p j ≡ c) next its) still))
        (either (eqb (owner k) c))

    within : (k c : ℕ) → is_class p c ≡ true → 1 ≤ minimum p c → Waits p ws k c → Started p ws (k + (p.epoch - 1)) → OwnTurn p ws k p.epoch c
    within k c class some waits l =
        let h = (policy-laws p given).homes.comes_round k c class some in
        let own = until-home c h.0 k (list.earlier p given ws (k + h.0) (k + (p.epoch - 1)) (omega (arith, h.1)) l) h.2 h.3 waits in
        record { turn = own.turn; not_before = own.not_before; within = omega (arith, own.within, h.1); own = own.own; first = own.first; waits = own.waits; same_oldest = own.same_oldest }

    -- ---- a request goes

    -- in a turn of class c, with a turn length of at least twice the dead time
    module _ (k c : ℕ) (own : owner k ≡ c) (twice : 2 * p.timing.dead ≤ turn) (waits : Waits p ws k c) (ended : Ended p ws k) where
      abbrev dead : ℕ
      dead = p.timing.dead

      abbrev first : ℕ
      first = first_tick p k

      -- the tick by which one has gone: dead time less one after the turn's start
      abbrev latest : ℕ
      latest = first + (dead - 1)

      timed : TimingLaws p.timing
      timed = (policy-laws p given).timed

      small : c < 16
      small = subst (λ (x : ℕ). x < 16) own (list.owner_here p given ws k)

      within-turn : first + turn ≤ ticks_in p ws
      within-turn = let next : first + turn ≡ first_tick p (k + 1) = omega arith in omega (arith, next, ended)

      -- nothing has been activated since the turn's start: by the latest tick every gap is met, and no column command is due then
      record Still (t : ℕ) : Type 0 where
        waiting : (length_of (at_tick p ws t).queues c ≡ 0) → ⊥
        clear : due_at (at_tick p ws t).flight.columns latest ≡ 0
        rested : Activates (λ last. gap_met last dead latest ≡ true) (at_tick p ws t).flight

      -- at the turn's start, since every last activate is before it and no column command is due its delay or more after it
      at_first : Still first
      at_first =
          let s = at_tick p ws first in
          let m = list.at p given ws first (omega (arith, within-turn, list.some_turn p given)) in
          let flight = subst (λ (t : ℕ). FlightRange p.classes p.timing t s.flight) m.number (ranged p s m.fits).flight in
          let later : first + dead ≤ latest + 1 = omega (arith, timed.dead_bounds.0) in
          let early : (d : ℕ) → d < p.timing.column → d ≡ dead - 1 → ⊥ = λ d l e. lt_irrefl d (omega (arith, l, e, timed.column_bounds.1, timed.response_bounds.1)) in
          record {
            waiting = waits;
            clear = ⊎_elim (λ none. none) (λ due. absurd (early (dead - 1) due.0 refl)) (flight.columns_due (dead - 1) (omega (arith, timed.dead_bounds.1)));
            rested =
                record {
                  of_all = gap-shift s.flight.last 1 dead first latest later flight.activates_before.of_all.1;
                  of-bank = λ b l. gap-shift (get_or s.flight.banks b 0) 1 dead first latest later (flight.activates_before.of-bank b l).1;
                };
          }

      module _ (i : ℕ) (soon : i < dead) (still : Still (first + i)) where
        abbrev t : ℕ
        t = first + i

        abbrev s : State
        s = at_tick p ws t

        under : t < ticks_in p ws
        under = omega (arith, within-turn, soon, twice)

        abbrev turns : Turns
        turns = (turns_at p s.cycle s.queues.lengths s.turns).turns

        abbrev bus : Bus
        bus = bus_at p s turns

        has : turns.owner ≡ c
        unfolding after_tick
        has =
            sym (ap (λ (a : Answer). a.state.turns.owner) (list.answered p given ws t under))
            ∙ ap (λ (x : Turns). x.owner) (list.throughout p given ws k i (omega (arith, soon, twice)) under)
            ∙ own

        sound : BusRange p.classes bus
        sound = bus-range p s (ranged p s (list.at p given ws t under).fits) turns (subst (λ (x : ℕ). x < 16) (sym has) small)

        -- where one is activated, its word is the command
        module _ (none : eqb (due_column bus) 0 ≡ true) (goes : can_activate bus ≡ true) where
          goes-there : goes_at bus < length_of s.queues turns.owner
          goes-there = goes-waits p.classes bus sound goes

          activates : ActivatedAt p ws t c
          unfolding after_tick going
          activates =
              record {
                place = goes_at bus;
                waits = subst (λ (x : ℕ). goes_at bus < length_of s.queues x) has goes-there;
                command =
                    ap (λ (a : Answer). a.command) (list.answered p given ws t under)
                    ∙ ap (λ (d : Driven). command_number d.wires) (drive-activate bus none goes)
                    ∙ request-shown p.classes bus sound goes
                    ∙ ap (λ (x : ℕ). waiting_at s.queues x (goes_at bus)) has;
              }

        -- where it is not, all stays as it was
        record Stayed (d : Driven) : Type 0 where
          queues : d.queues ≡ s.queues
          clear : due_at d.flight.columns latest ≡ 0
          banks : d.flight.banks ≡ s.flight.banks
          last : d.flight.last ≡ s.flight.last

        goes-or-stays : ActivatedAt p ws t c ⊎ Stayed (drive bus)
        unfolding due_at sent_at
        goes-or-stays =
            ⊎_elim
            (λ none.
            ⊎_elim
            (λ goes. inl (activates none goes))
            (λ stays. inr (subst Stayed (sym (drive-nothing bus none stays)) (record { queues = refl; clear = still.clear; banks = refl; last = refl })))
            (either (can_activate bus)))
            (λ due.
            inr (subst Stayed (sym (drive-column bus due))
            (record {
              queues = refl;
              clear = stored_at (λ x. x ≡ 0) s.flight.columns (s.cycle % 32) 0 (latest % 32) (inside s.flight.columns sound.flight.columns_long s.cycle) (λ e. refl) (λ e. still.clear);
              banks = refl;
              last = refl;
            })))
            (either (eqb (due_column bus) 0))

        -- then nothing has been activated by the next tick
        still-next : Stayed (drive bus) → Still (t + 1)
        unfolding after_tick after_answer
        still-next stayed =
            let u = at_tick p ws (t + 1) in
            let m = list.at p given ws t under in
            let queues : (answer_to p s 0).state.queues ≡ s.queues = ap (λ (a : Answer). a.state.queues) (list.answered p given ws t under) ∙ stayed.queues in
            let grown = subst (λ (q : Queues). Grown q u.queues c) queues (m.next.queues c) in
            let flight : u.flight ≡ after_answer s.cycle (drive bus).flight = m.next.flight ∙ ap (λ (a : Answer). a.state.flight) (list.answered p given ws t under) in
            record {
              waiting = λ none. still.waiting (omega (arith, grown.longer, none));
              clear = ap (λ (f : Flight). due_at f.columns latest) flight ∙ stayed.clear;
              rested =
                  record {
                    of_all = subst (λ (x : ℕ). gap_met x dead latest ≡ true) (sym (ap (λ (f : Flight). f.last) flight ∙ stayed.last)) still.rested.of_all;
                    of-bank = λ b l. subst (λ (x : List ℕ). gap_met (get_or x b 0) dead latest ≡ true) (sym (ap (λ (f : Flight). f.banks) flight ∙ stayed.banks)) (still.rested.of-bank b l);
                  };
            }

        -- at the latest tick nothing holds the oldest back, so one goes
        at-latest : i ≡ dead - 1 → ActivatedAt p ws t c
        unfolding can_activate goes_at may_go offset_allows gaps_met
        at-latest e =
            let cycle : s.cycle ≡ latest = (list.at p given ws t under).number ∙ ap (λ (x : ℕ). first + x) e in
            let none : eqb (due_column bus) 0 ≡ true = eq-eqb (due_column bus) 0 (ap (due_at s.flight.columns) cycle ∙ still.clear) in
            let waiting = length_of s.queues turns.owner in
            let some-waits : 0 < waiting = subst (λ (x : ℕ). 0 < length_of s.queues x) (sym has) (lt_of_le-ne zero-le (λ z. still.waiting (sym z))) in
            let oldest = waiting_at s.queues turns.owner 0 in
            let word = waiting-sound p.classes bus sound 0 some-waits in
            let kind = sound-kind p.classes p.timing.ranks oldest word in
            let rests : (last : ℕ) → gap_met last dead latest ≡ true → gap_met last dead s.cycle ≡ true = λ last. gap-shift last dead dead latest s.cycle (omega (arith, cycle)) in
            let of-bank = get_or s.flight.banks (bank_place oldest) 0 in
            let gaps =
            gaps-rested p.timing timed s.cycle s.flight.last of-bank (rank_of oldest) (kind_of oldest) kind
            (rests s.flight.last still.rested.of_all) (rests of-bank (still.rested.of-bank (bank_place oldest) (place-small oldest)))
            in
            let offset : s.cycle % turn ≡ dead - 1 = ap (λ (x : ℕ). x % turn) cycle ∙ mul-add-mod_self_right k turn (dead - 1) ∙ mod-eq_of_lt (omega (arith, timed.dead_below_turn)) in
            let allowed = or_right turns.elided (ltb (s.cycle % turn) (turn - dead)) (lt-ltb (s.cycle % turn) (turn - dead) (omega (arith, offset, twice, timed.dead_bounds.0))) in
            let one-may = some_at (may_go bus) waiting 0 some-waits (and_both (or_left (eqb 0 0) (ltb (passed_of s.queues turns.owner) 15) refl) gaps) in
            activates none (and_both allowed (first_some (may_go bus) waiting ∙ one-may))

      gone : (i : ℕ) → i < dead → ActivatedAt p ws (first + i) c → ActivatedIn p ws k c
      gone i soon goes = record { tick = first + i; not_before = omega arith; not_after = omega (arith, soon, twice); activates = goes }

      -- so one goes at one of these ticks
      goes-within : (d i : ℕ) → i + d ≡ dead - 1 → Still (first + i) → ActivatedIn p ws k c
      goes-within zero i far still =
          let soon : i < dead = omega (arith, far, timed.dead_bounds.0) in
          gone i soon (at-latest i soon still (omega (arith, far)))
      goes-within (suc d) i far still =
          let soon : i < dead = omega (arith, far, timed.dead_bounds.0) in
          let next : first + i + 1 ≡ first + (i + 1) = omega arith in
          ⊎_elim (gone i soon) (λ stayed. goes-within d (i + 1) (omega (arith, far)) (subst Still next (still-next i soon still stayed))) (goes-or-stays i soon still)

      goes : ActivatedIn p ws k c
      goes = let here : first ≡ first + 0 = omega arith in goes-within (dead - 1) 0 (omega arith) (subst Still here at_first)

    -- ---- the ticks, said of the list and its log

    tick-made : (t : ℕ) → t < ticks_in p ws → TickMade p ws t
    unfolding log_of
    tick-made t l =
        let m = list.at p given ws t l in
        record {
          before = m.before;
          after = m.after;
          parts = m.parts;
          reached = m.reached;
          number = m.number;
          logged =
              ap (log_of p (fresh_state p)) m.parts
              ∙ cut-log p (fresh_state p) m.before (0 ∷ m.after)
              ∙ ap (λ (s : State). log_of p (fresh_state p) m.before ++ (line_of (answer_to p s 0) ++ log_of p (answer_to p s 0).state m.after)) m.reached;
        }

  pub guarantees : Guarantees p
  guarantees =
      record {
        ticks = tick-made;
        at_least_its_minimum = at_least;
        at_most_its_cap = at_most;
        exactly_its_cap = λ ws e waits. omega (arith, no_less ws e waits, at_most ws e (least p) (policy-laws p given).lowest.is-class);
        within_an_epoch = within;
        some_goes = λ ws k c twice own waits ended. goes ws k c (list.owned p given ws k c own) twice waits ended;
      }
