-- A tick keeps two states alike.
-- Assumes nothing.
use mathlib.Core.Path.{◌≡◌, refl, sym, ap, ap₂, ◌∙◌, subst}
use mathlib.Core.Logic.{⊎_elim}
use mathlib.Core.Bool.{Bool, true, false, cond, not, ◌&&◌}
use Prim.Native.Nat.{ℕ, ◌+◌, ◌-◌, ◌%◌, ◌<◌}
use native.Mathlib.Nat.{not-suc-le-zero}
use native.Mathlib.Omega.{arith}
use borrow.Author.Tests.{ne_eqb}
use lib.Dec.{eqb, lit<}
use lib.ListN.{length, length-set}
use Rattle.policy.specs.Policy.{in_range as policy_in_range}
use Rattle.policy.specs.declared.Policy.{Policy}
use Rattle.basics.proofs.Truth.{either, not-both, and-fails-right}
use Rattle.policy.proofs.Laws.{policy-laws}
use Rattle.requests.specs.Word.{class_of, command_number}
use Rattle.flight.specs.Flight.{due_at, sent_at}
use Rattle.rules.specs.Wire.{activated}
use Rattle.rules.specs.Step.{turn_starts, turn_word, TurnStart, turns_at, Driven, Bus, going, drive, answered}
use Rattle.rules.specs.Call.{after_tick}
use Rattle.rules.specs.History.{Held}
use Rattle.requests.specs.declared.Wires.{Wires}
use Rattle.state.specs.declared.Turns.{Turns}
use Rattle.state.specs.declared.State.{State}
use Rattle.rules.proofs.Step.{word-owner, outcome, tried_at, turn-shown}
use Rattle.rules.proofs.TurnsKept.{turns-kept}
use Rattle.rules.proofs.PendingWords.{inside}
use Rattle.rules.proofs.Range.{Ranged, ranged, BusRange, bus-range}
use Rattle.rules.proofs.History.{Midway, midway}
use Rattle.extract.specs.Extract.{hide_word, owner_seen, hide_turn}
use Rattle.noninterference.proofs.Low.{Downward, QueuesAgree, queue-back, queue-through, PendingAgree, LastsAgree}
use Rattle.noninterference.proofs.Alike.{Alike}
use Rattle.noninterference.proofs.Flights.{stored-both}
use Rattle.noninterference.proofs.Starts.{Begun, begun, same-tried}
use Rattle.noninterference.proofs.Quiet.{hidden-none, hidden-low, column_shown, quiet-queues, quiet-columns, quiet-responses, quiet-command}
use Rattle.noninterference.proofs.Shared.{beside, Shared, shared}

-- the second step keeps as many places for responses
still-long : (b : Bus) → length b.flight.responses ≡ 32 → length (drive b).flight.responses ≡ 32
unfolding activated
still-long b long =
    outcome b (λ d. length d.flight.responses ≡ 32) (λ due. long) (λ due e. length-set b.flight.responses ((b.cycle + b.timing.response) % 32) (going b) ∙ long) (λ due stays. long)

-- the turn number of a high owner is hidden
high-turn : (low : ℕ → Bool) (owner : ℕ) (elided : Bool) (tried : ℕ) → owner < 16 → low owner ≡ false → hide_turn low (turn_word owner elided tried) ≡ 512
unfolding hide_turn owner_seen
high-turn low owner elided tried small high =
    let w = turn_word owner elided tried in
    let names = word-owner owner elided tried small in
    let named : w % 256 - 1 ≡ owner = omega (arith, names) in
    ap (λ (b : Bool). cond b 0 (cond (not (eqb (w % 256) 0) && low (w % 256 - 1)) w 512)) (ne_eqb w 0 (λ z. not-suc-le-zero {n = 0} (omega (arith, z, names))))
    ∙ ap (λ (b : Bool). cond b w 512) (and-fails-right (not (eqb (w % 256) 0)) (low (w % 256 - 1)) (ap low named ∙ high))

-- and 0 where no turn starts
unseen-turn : (low : ℕ → Bool) (starts : Bool) (owner : ℕ) (elided : Bool) (tried : ℕ) → owner < 16 → low owner ≡ false → hide_turn low (cond starts (turn_word owner elided tried) 0) ≡ cond starts 512 0
unfolding hide_turn
unseen-turn low true owner elided tried small high = high-turn low owner elided tried small high
unseen-turn low false owner elided tried small high = refl

module _ (p : Policy) (given : policy_in_range p ≡ true) (low : ℕ → Bool) (closed : Downward p low) where
  -- the turns and the command bus, at a cycle told apart from the state's
  abbrev start_of : ℕ → State → TurnStart
  start_of t s = turns_at p t s.queues.lengths s.turns

  abbrev turns_of : ℕ → State → Turns
  turns_of t s = (start_of t s).turns

  abbrev bus_of : ℕ → State → Bus
  bus_of t s = record { timing = p.timing; cycle = t; owner = (turns_of t s).owner; elided = (turns_of t s).elided; queues = s.queues; flight = s.flight }

  abbrev driven_of : ℕ → State → Driven
  driven_of t s = drive (bus_of t s)

  -- the queues and what is pending, once the second step is done
  record Driving (t : ℕ) (s r : State) (d e : Driven) : Type 0 where
    queues : QueuesAgree low d.queues e.queues
    columns : PendingAgree low d.flight.columns e.flight.columns
    responses : PendingAgree low d.flight.responses e.flight.responses
    lasts : low (turns_of t s).owner ≡ true → LastsAgree p.timing.dead (t + 1) d.flight e.flight

  -- a due word, where the owner is low, is seen
  seen : (t : ℕ) (turns : Turns) (s : State) → Midway p given t turns s.flight → low turns.owner ≡ true → hide_word low (due_at s.flight.columns t) ≡ due_at s.flight.columns t
  seen t turns s m i =
      let now : t + 0 ≡ t = omega arith in
      subst (λ (k : ℕ). hide_word low (due_at s.flight.columns k) ≡ due_at s.flight.columns k) now
      (⊎_elim
      (λ z. ap (hide_word low) z ∙ hidden-none low ∙ sym z)
      (λ f. hidden-low low (due_at s.flight.columns (t + 0)) (closed (class_of (due_at s.flight.columns (t + 0))) turns.owner f i))
      (m.flowing.column 0 (lit< tt)))

  module _ (s r : State) (h : Held p s) (g : Held p r) (alike : Alike p low s r) where
    abbrev t : ℕ
    t = s.cycle

    ws : Ranged p s
    ws = ranged p s h.ranges

    wr : Ranged p r
    wr = ranged p r g.ranges

    midway-r : Midway p given t (turns_of t r) r.flight
    midway-r = subst (λ (k : ℕ). Midway p given k (turns_of k r) r.flight) (sym alike.cycles) (midway p given r g)

    start : Begun p given low closed t (turns_of t s) (turns_of t r) s.flight r.flight
    start = begun p given low closed s r h g alike

    small : (x : State) → Ranged p x → (k : ℕ) → (turns_of k x).owner < 16
    small x w k = (policy-laws p given).order.class_small (turns_of k x).owner (turns-kept p given k x.queues.lengths x.turns w.turns).owner_class

    bus-s : BusRange p.classes (bus_of t s)
    bus-s = bus-range p s ws (turns_of t s) (small s ws t)

    bus-r : BusRange p.classes (bus_of t r)
    bus-r = subst (λ (k : ℕ). BusRange p.classes (bus_of k r)) (sym alike.cycles) (bus-range p r wr (turns_of r.cycle r) (small r wr r.cycle))

    -- at the same low owner
    low-drive : (turns_of t s).owner ≡ (turns_of t r).owner → low (turns_of t s).owner ≡ true → Shared low p.classes (bus_of t s) r.queues r.flight (driven_of t s) (driven_of t r)
    unfolding due_at
    low-drive same i =
        let due =
        sym (seen t (turns_of t s) s (midway p given s h) i)
        ∙ alike.columns (t % 32)
        ∙ seen t (turns_of t r) r midway-r (ap low (sym same) ∙ i)
        in
        let other = beside (bus_of t s) r.queues r.flight in
        let with-turns : ℕ → Bool → Bus = λ o e. record { timing = p.timing; cycle = t; owner = o; elided = e; queues = r.queues; flight = r.flight } in
        let second : other ≡ bus_of t r = ap₂ with-turns same (start.turns.elisions i) in
        subst (λ (x : Bus). Shared low p.classes (bus_of t s) r.queues r.flight (driven_of t s) (drive x)) second
        (shared low p.classes (bus_of t s) r.queues r.flight bus-s (subst (BusRange p.classes) (sym second) bus-r) alike.queues alike.columns alike.responses (start.lasts i) i due)

    -- at high owners
    high-drive : low (turns_of t s).owner ≡ false → low (turns_of t r).owner ≡ false → Driving t s r (driven_of t s) (driven_of t r)
    unfolding sent_at
    high-drive one two =
        let n = p.classes in
        let sent =
        stored-both low s.flight.columns r.flight.columns (t % 32) 0 0 (inside s.flight.columns bus-s.flight.columns_long t) (inside r.flight.columns bus-r.flight.columns_long t) refl alike.columns
        in
        record {
          queues = λ c i. queue-through (quiet-queues low n (bus_of t s) bus-s one c i) (queue-through (alike.queues c i) (queue-back (quiet-queues low n (bus_of t r) bus-r two c i)));
          columns = λ i. quiet-columns low n (bus_of t s) bus-s one i ∙ sent i ∙ sym (quiet-columns low n (bus_of t r) bus-r two i);
          responses = λ i. quiet-responses low n (bus_of t s) bus-s one i ∙ alike.responses i ∙ sym (quiet-responses low n (bus_of t r) bus-r two i);
          lasts = λ i. absurd (not-both i one);
        }

    driving : Driving t s r (driven_of t s) (driven_of t r)
    driving =
        ⊎_elim
        (λ both. let d = low-drive both.0 both.1 in record { queues = d.queues; columns = d.columns; responses = d.responses; lasts = λ i. d.lasts })
        (λ both. high-drive both.0 both.1)
        start.turns.owners

    -- the state after a tick at a cycle told apart from the state's
    abbrev later : ℕ → State → State
    later k x = record { cycle = k + 1; classes = x.classes; queues = (driven_of k x).queues; turns = turns_of k x; flight = answered k (driven_of k x).flight }

    later-alike : Alike p low (later t s) (later t r)
    unfolding answered sent_at
    later-alike =
        let d = driving in
        let long-s = still-long (bus_of t s) bus-s.flight.responses_long in
        let long-r = still-long (bus_of t r) bus-r.flight.responses_long in
        record {
          cycles = refl;
          queues = d.queues;
          turns = start.turns;
          columns = d.columns;
          responses =
              stored-both low (driven_of t s).flight.responses (driven_of t r).flight.responses (t % 32) 0 0 (inside (driven_of t s).flight.responses long-s t) (inside (driven_of t r).flight.responses long-r t) refl d.responses;
          lasts = λ i. let l = d.lasts i in record { of_all = l.of_all; of-bank = l.of-bank };
        }

    pub tick-alike : Alike p low (after_tick p s).state (after_tick p r).state
    unfolding after_tick
    tick-alike = subst (λ (k : ℕ). Alike p low (later t s) (later k r)) alike.cycles later-alike

    -- and what it shows of a response looks the same
    pub tick-response : hide_word low (after_tick p s).shown.response ≡ hide_word low (after_tick p r).shown.response
    unfolding after_tick due_at
    tick-response = subst (λ (k : ℕ). hide_word low (due_at (driven_of t s).flight.responses t) ≡ hide_word low (due_at (driven_of k r).flight.responses k)) alike.cycles (driving.responses (t % 32))

    -- of a command
    commands : hide_word low (command_number (driven_of t s).wires) ≡ hide_word low (command_number (driven_of t r).wires)
    unfolding due_at
    commands =
        ⊎_elim
        (λ both. ap (λ (w : Wires). hide_word low (command_number w)) (low-drive both.0 both.1).wires)
        (λ both.
        quiet-command low p.classes (bus_of t s) bus-s both.0
        ∙ ap column_shown (alike.columns (t % 32))
        ∙ sym (quiet-command low p.classes (bus_of t r) bus-r both.1))
        start.turns.owners

    pub tick-command : hide_word low (command_number (after_tick p s).shown.wires) ≡ hide_word low (command_number (after_tick p r).shown.wires)
    unfolding after_tick
    tick-command = subst (λ (k : ℕ). hide_word low (command_number (driven_of t s).wires) ≡ hide_word low (command_number (driven_of k r).wires)) alike.cycles commands

    -- and of the turn
    abbrev tried : State → ℕ
    tried x = tried_at p t x.queues.lengths x.turns

    abbrev turn_of : State → ℕ
    turn_of x = cond (turn_starts p t) (turn_word (turns_of t x).owner (turns_of t x).elided (tried x)) 0

    -- at the same low owner the numbers are the same
    seen-turn : (turns_of t s).owner ≡ (turns_of t r).owner → low (turns_of t s).owner ≡ true → turn_of s ≡ turn_of r
    seen-turn same i =
        ⊎_elim
        (λ e.
        ap₂ (λ (o : ℕ) (b : Bool). cond (turn_starts p t) (turn_word o b (tried s)) 0) same (start.turns.elisions i)
        ∙ ap (λ (n : ℕ). cond (turn_starts p t) (turn_word (turns_of t r).owner (turns_of t r).elided n) 0) (same-tried p given low closed s r h g alike e i))
        (λ e. rw e refl)
        (either (turn_starts p t))

    turns-shown : hide_turn low (start_of t s).shown ≡ hide_turn low (start_of t r).shown
    turns-shown =
        let starts = turn_starts p t in
        let shown-s = ap (hide_turn low) (turn-shown p t s.queues.lengths s.turns) in
        let shown-r = ap (hide_turn low) (turn-shown p t r.queues.lengths r.turns) in
        shown-s
        ∙ ⊎_elim
        (λ both. ap (hide_turn low) (seen-turn both.0 both.1))
        (λ both.
        unseen-turn low starts (turns_of t s).owner (turns_of t s).elided (tried s) bus-s.owner_small both.0
        ∙ sym (unseen-turn low starts (turns_of t r).owner (turns_of t r).elided (tried r) bus-r.owner_small both.1))
        start.turns.owners
        ∙ sym shown-r

    pub tick-turn : hide_turn low (after_tick p s).shown.turn ≡ hide_turn low (after_tick p r).shown.turn
    unfolding after_tick
    tick-turn = subst (λ (k : ℕ). hide_turn low (start_of t s).shown ≡ hide_turn low (start_of k r).shown) alike.cycles turns-shown
