-- What 13 asks of a state, part by part: what the test says of the queues, the turns and what is in flight, and that these parts make it pass.
-- Each part is the clauses of one test, so both ways are the same list read forth and back.
-- Assumes nothing.
use mathlib.Core.Path.{◌≡◌, sym, ap, ◌∙◌, subst}
use mathlib.Core.Logic.{inl, inr, ⊎_elim}
use mathlib.Core.Bool.{Bool, true, false, ◌&&◌, ◌||◌}
use mathlib.Core.List.{List}
use Prim.Native.Nat.{ℕ, ◌+◌, ◌≤◌, ◌<◌}
use native.Mathlib.Nat.{lt_of_lt_of_le}
use native.Mathlib.Omega.{arith}
use borrow.Author.Tests.{eqb-true, eqb-false, eq-eqb, leb-true, le-leb, lt-leb, ltb-true, lt-ltb}
use lib.Dec.{leb, ltb, eqb, lit<}
use lib.ListN.{length, get_or}
use Rattle.policy.specs.Laws.{TimingLaws}
use Rattle.order.specs.Laws.{SmallClasses}
use Rattle.policy.specs.Policy.{is_class, cover_count, cap}
use Rattle.policy.specs.Policy.{in_range as policy_in_range}
use Rattle.timing.specs.declared.Timing.{Timing}
use Rattle.policy.specs.declared.Policy.{Policy}
use Rattle.basics.proofs.Truth.{not-both, and_left, and_right, and-three, and_both, or_left, or_right, or_cases}
use Rattle.basics.specs.Below.{first}
use Rattle.basics.proofs.Below.{lt-or-ge, every-at, every-all, First, first_found, first_some}
use Rattle.policy.proofs.Laws.{policy-laws}
use Rattle.requests.specs.Word.{class_of, rank_of, kind_of, bank_of, request_of, is_offer, class_fits, bank_kind_rank_fit, sound_word, column_number, command_number}
use Rattle.requests.proofs.Word.{word_back, column-no-offer}
use Rattle.queues.specs.Waiting.{head_of, length_of, passed_of, place, waiting_at, right_word, ring_in_range, queue_in_range}
use Rattle.flight.specs.Flight.{due_at, activate_in_range, pending_in_range, flight_in_range}
use Rattle.rules.specs.Wire.{gaps_met, offset_allows}
use Rattle.state.specs.Range.{turns_in_range, counts_in_range, shaped, state_in_range, in_range}
use Rattle.rules.specs.History.{Each, Activates}
use Rattle.rules.specs.Ready.{Ready}
use Rattle.requests.specs.Sizes.{last_cycle}
use Rattle.rules.specs.Step.{Bus, due_column, may_go, goes_at, going, can_activate, column_sent, request_sent}
use Rattle.rules.specs.Call.{bus_at}
use Rattle.requests.specs.declared.Request.{Request}
use Rattle.queues.specs.declared.Queues.{Queues}
use Rattle.state.specs.declared.Turns.{Turns}
use Rattle.flight.specs.declared.Flight.{Flight}
use Rattle.state.specs.declared.State.{State}
use Rattle.rules.proofs.Wire.{Before, before, before_back}

-- two tests that pass together
both : {a b : Bool} → (a && b) ≡ true → (a ≡ true) × (b ≡ true)
both {a} {b} e = (and_left a b e, and_right a b e)

-- ---- words

-- a sound word is an offer, and has a bank, a kind and a rank
pub sound-offer : (n ranks w : ℕ) → sound_word n ranks w ≡ true → is_offer w ≡ true
unfolding sound_word
sound-offer n ranks w e = (and-three (is_offer w) (class_fits n (request_of w)) (bank_kind_rank_fit ranks (request_of w)) e).0

-- what 10 lets through
pub fit-bounds : (ranks : ℕ) (r : Request) → bank_kind_rank_fit ranks r ≡ true → (r.bank ≤ 7) × (r.kind ≤ 1) × (r.rank < ranks)
unfolding bank_kind_rank_fit
fit-bounds ranks r e =
    let fits = and-three (leb r.bank 7) (leb r.kind 1) (ltb r.rank ranks) e in
    (leb-true r.bank 7 fits.0, leb-true r.kind 1 fits.1, ltb-true r.rank ranks fits.2)

pub fit-back : (ranks : ℕ) (r : Request) → r.bank ≤ 7 → r.kind ≤ 1 → r.rank < ranks → bank_kind_rank_fit ranks r ≡ true
unfolding bank_kind_rank_fit
fit-back ranks r bank kind rank = and_both (and_both (le-leb r.bank 7 bank) (le-leb r.kind 1 kind)) (lt-ltb r.rank ranks rank)

sound-fits : (n ranks w : ℕ) → sound_word n ranks w ≡ true → (bank_of w ≤ 7) × (kind_of w ≤ 1) × (rank_of w < ranks)
unfolding sound_word request_of
sound-fits n ranks w e = fit-bounds ranks (request_of w) (and_right (is_offer w && class_fits n (request_of w)) (bank_kind_rank_fit ranks (request_of w)) e)

pub sound-bank : (n ranks w : ℕ) → sound_word n ranks w ≡ true → bank_of w < 8
sound-bank n ranks w e = let fits = sound-fits n ranks w e in omega (arith, fits.0)

pub sound-kind : (n ranks w : ℕ) → sound_word n ranks w ≡ true → kind_of w < 2
sound-kind n ranks w e = let fits = sound-fits n ranks w e in omega (arith, fits.1)

pub sound-rank : (n ranks w : ℕ) → sound_word n ranks w ≡ true → rank_of w < ranks
sound-rank n ranks w e = (sound-fits n ranks w e).2

-- a word that is right for a class's queue is sound, and of that class
pub right-sound : (n ranks c w : ℕ) → right_word n ranks c w ≡ true → sound_word n ranks w ≡ true
unfolding right_word
right-sound n ranks c w e = and_left (sound_word n ranks w) (eqb (class_of w) c) e

pub right-class : (n ranks c w : ℕ) → right_word n ranks c w ≡ true → class_of w ≡ c
unfolding right_word
right-class n ranks c w e = eqb-true (class_of w) c (and_right (sound_word n ranks w) (eqb (class_of w) c) e)

-- ---- the parts

-- a class's queue
pub record QueueRange (n ranks : ℕ) (q : Queues) (c : ℕ) : Type 0 where
  pub short : length_of q c ≤ 8
  pub in_ring : head_of q c < 8
  pub right : (k : ℕ) → k < length_of q c → right_word n ranks c (waiting_at q c k) ≡ true
  pub few_passed : passed_of q c ≤ 15

pub record QueuesRange (n ranks : ℕ) (q : Queues) : Type 0 where
  pub slots_long : length q.slots ≡ 128
  pub heads_long : length q.heads ≡ 16
  pub lengths_long : length q.lengths ≡ 16
  pub passed_long : length q.passed ≡ 16
  pub queue : (c : ℕ) → c < 16 → QueueRange n ranks q c

-- sixteen numbers, each within its bound
pub record Within (bound : ℕ → ℕ) (l : List ℕ) : Type 0 where
  pub sixteen : length l ≡ 16
  pub within : (j : ℕ) → j < 16 → get_or l j 0 ≤ bound j

pub record TurnsRange (p : Policy) (turns : Turns) : Type 0 where
  pub owner_class : is_class p turns.owner ≡ true
  pub left_within : Within (cap p) turns.left
  pub pointers_fit : Within (cover_count p) turns.pointers

-- a pending word: it is sound, and due fewer than so many cycles on
abbrev pub Fits : ℕ → ℕ → ℕ → ℕ → ℕ → Type 0
Fits n ranks bound d w = (d < bound) × (sound_word n ranks w ≡ true)

pub record FlightRange (n : ℕ) (timing : Timing) (t : ℕ) (f : Flight) : Type 0 where
  pub columns_long : length f.columns ≡ 32
  pub responses_long : length f.responses ≡ 32
  pub banks_long : length f.banks ≡ 32
  pub activates_before : Activates (Before t) f
  pub columns_due : Each (Fits n timing.ranks timing.column) t f.columns
  pub responses_due : Each (Fits n timing.ranks timing.response) t f.responses

pub record Ranged (p : Policy) (s : State) : Type 0 where
  pub fit : policy_in_range p ≡ true
  pub same_count : s.classes ≡ p.classes
  pub cycle_bound : s.cycle ≤ last_cycle
  pub queues : QueuesRange p.classes p.timing.ranks s.queues
  pub turns : TurnsRange p s.turns
  pub flight : FlightRange p.classes p.timing s.cycle s.flight

-- ---- a class's queue, both ways

module _ (n ranks : ℕ) (q : Queues) (c : ℕ) where
  abbrev right-or-past : ℕ → Bool
  right-or-past k = leb (length_of q c) k || right_word n ranks c (get_or q.slots (place c (head_of q c) k) 0)

  queue-range : queue_in_range n ranks q c ≡ true → QueueRange n ranks q c
  unfolding queue_in_range ring_in_range waiting_at
  queue-range e =
      let counted = both e in
      let words = both counted.0 in
      let ring = both words.0 in
      let short = leb-true (length_of q c) 8 ring.0 in
      record {
        short = short;
        in_ring = ltb-true (head_of q c) 8 ring.1;
        right =
            λ k l.
            ⊎_elim (λ t. absurd (not-both t (lt-leb (length_of q c) k l))) (λ t. t)
            (or_cases (leb (length_of q c) k) (right_word n ranks c (get_or q.slots (place c (head_of q c) k) 0)) (every-at right-or-past 8 words.1 k (lt_of_lt_of_le l short)));
        few_passed = leb-true (passed_of q c) 15 counted.1;
      }

  queue-back : QueueRange n ranks q c → queue_in_range n ranks q c ≡ true
  unfolding queue_in_range ring_in_range waiting_at
  queue-back r =
      and_both
      (and_both (and_both (le-leb (length_of q c) 8 r.short) (lt-ltb (head_of q c) 8 r.in_ring))
      (every-all right-or-past 8
      (λ k l.
      ⊎_elim
      (λ h. or_right (leb (length_of q c) k) (right_word n ranks c (get_or q.slots (place c (head_of q c) k) 0)) (r.right k h))
      (λ h. or_left (leb (length_of q c) k) (right_word n ranks c (get_or q.slots (place c (head_of q c) k) 0)) (le-leb (length_of q c) k h))
      (lt-or-ge k (length_of q c)))))
      (le-leb (passed_of q c) 15 r.few_passed)

-- ---- a class's pointer and turns left, both ways

module _ (p : Policy) (turns : Turns) (c : ℕ) where
  abbrev turn-within : Type 0
  turn-within = (get_or turns.pointers c 0 ≤ cover_count p c) × (get_or turns.left c 0 ≤ cap p c)

  turn-range : turns_in_range p turns c ≡ true → turn-within
  unfolding turns_in_range
  turn-range e = let h = both e in (leb-true (get_or turns.pointers c 0) (cover_count p c) h.0, leb-true (get_or turns.left c 0) (cap p c) h.1)

  turn-back : turn-within → turns_in_range p turns c ≡ true
  unfolding turns_in_range
  turn-back h = and_both (le-leb (get_or turns.pointers c 0) (cover_count p c) h.0) (le-leb (get_or turns.left c 0) (cap p c) h.1)

-- ---- what is pending, both ways

module _ (n ranks t bound : ℕ) (pending : List ℕ) where
  abbrev fits : ℕ → Bool
  fits d = eqb (due_at pending (t + d)) 0 || ltb d bound && sound_word n ranks (due_at pending (t + d))

  pends : pending_in_range n ranks t bound pending ≡ true → Each (Fits n ranks bound) t pending
  unfolding pending_in_range
  pends e d l =
      ⊎_elim
      (λ z. inl (eqb-true (due_at pending (t + d)) 0 z))
      (λ s. let h = both s in inr (ltb-true d bound h.0, h.1))
      (or_cases (eqb (due_at pending (t + d)) 0) (ltb d bound && sound_word n ranks (due_at pending (t + d))) (every-at fits 32 e d l))

  pends-back : Each (Fits n ranks bound) t pending → pending_in_range n ranks t bound pending ≡ true
  unfolding pending_in_range
  pends-back h =
      every-all fits 32
      (λ d l.
      ⊎_elim
      (λ z. or_left (eqb (due_at pending (t + d)) 0) (ltb d bound && sound_word n ranks (due_at pending (t + d))) (eq-eqb (due_at pending (t + d)) 0 z))
      (λ s. or_right (eqb (due_at pending (t + d)) 0) (ltb d bound && sound_word n ranks (due_at pending (t + d))) (and_both (lt-ltb d bound s.0) s.1))
      (h d l))

-- ---- the state, both ways: each clause of a test is one line here and one there

module _ (p : Policy) (s : State) where
  -- a last activate of a bank is before the cycle
  abbrev bank-before : ℕ → Bool
  bank-before b = activate_in_range s.cycle (get_or s.flight.banks b 0)

  pub ranged : in_range p s ≡ true → Ranged p s
  unfolding in_range state_in_range shaped counts_in_range flight_in_range
  ranged e =
      let fit-state = both e in
      let flight = both fit-state.1 in
      let turns = both flight.0 in
      let queues = both turns.0 in
      let shape-counts = both queues.0 in
      let cycle = both shape-counts.1 in
      let count-owner = both cycle.0 in
      let banks = both shape-counts.0 in
      let responses = both banks.0 in
      let columns = both responses.0 in
      let pointers = both columns.0 in
      let left = both pointers.0 in
      let passed = both left.0 in
      let lengths = both passed.0 in
      let slots-heads = both lengths.0 in
      let responding = both flight.1 in
      let commanding = both responding.0 in
      let activates = both commanding.0 in
      let turn : (c : ℕ) → c < 16 → turn-within p s.turns c = λ c l. turn-range p s.turns c (every-at (turns_in_range p s.turns) 16 turns.1 c l) in
      record {
        fit = fit-state.0;
        same_count = eqb-true s.classes p.classes count-owner.0;
        cycle_bound = leb-true s.cycle last_cycle cycle.1;
        queues =
            record {
              slots_long = eqb-true (length s.queues.slots) 128 slots-heads.0;
              heads_long = eqb-true (length s.queues.heads) 16 slots-heads.1;
              lengths_long = eqb-true (length s.queues.lengths) 16 lengths.1;
              passed_long = eqb-true (length s.queues.passed) 16 passed.1;
              queue = λ c l. queue-range p.classes p.timing.ranks s.queues c (every-at (queue_in_range p.classes p.timing.ranks s.queues) 16 queues.1 c l);
            };
        turns =
            record {
              owner_class = count-owner.1;
              left_within =
                  record {
                    sixteen = eqb-true (length s.turns.left) 16 left.1;
                    within = λ c l. (turn c l).1;
                  };
              pointers_fit =
                  record {
                    sixteen = eqb-true (length s.turns.pointers) 16 pointers.1;
                    within = λ c l. (turn c l).0;
                  };
            };
        flight =
            record {
              columns_long = eqb-true (length s.flight.columns) 32 columns.1;
              responses_long = eqb-true (length s.flight.responses) 32 responses.1;
              banks_long = eqb-true (length s.flight.banks) 32 banks.1;
              activates_before =
                  record { of_all = before s.cycle s.flight.last activates.0; of-bank = λ b l. before s.cycle (get_or s.flight.banks b 0) (every-at bank-before 32 activates.1 b l) };
              columns_due = pends p.classes p.timing.ranks s.cycle p.timing.column s.flight.columns commanding.1;
              responses_due = pends p.classes p.timing.ranks s.cycle p.timing.response s.flight.responses responding.1;
            };
      }

  pub in-range : Ranged p s → in_range p s ≡ true
  unfolding in_range state_in_range shaped counts_in_range flight_in_range
  in-range r =
      let q = r.queues in
      let t = r.turns in
      let f = r.flight in
      let heads = and_both (eq-eqb (length s.queues.slots) 128 q.slots_long) (eq-eqb (length s.queues.heads) 16 q.heads_long) in
      let lengths = and_both heads (eq-eqb (length s.queues.lengths) 16 q.lengths_long) in
      let passed = and_both lengths (eq-eqb (length s.queues.passed) 16 q.passed_long) in
      let left = and_both passed (eq-eqb (length s.turns.left) 16 t.left_within.sixteen) in
      let pointers = and_both left (eq-eqb (length s.turns.pointers) 16 t.pointers_fit.sixteen) in
      let columns = and_both pointers (eq-eqb (length s.flight.columns) 32 f.columns_long) in
      let responses = and_both columns (eq-eqb (length s.flight.responses) 32 f.responses_long) in
      let shape = and_both responses (eq-eqb (length s.flight.banks) 32 f.banks_long) in
      let count-owner = and_both (eq-eqb s.classes p.classes r.same_count) t.owner_class in
      let counts = and_both count-owner (le-leb s.cycle last_cycle r.cycle_bound) in
      let queues = every-all (queue_in_range p.classes p.timing.ranks s.queues) 16 (λ c l. queue-back p.classes p.timing.ranks s.queues c (q.queue c l)) in
      let turns = every-all (turns_in_range p s.turns) 16 (λ c l. turn-back p s.turns c (t.pointers_fit.within c l, t.left_within.within c l)) in
      let banks = every-all bank-before 32 (λ b l. before_back s.cycle (get_or s.flight.banks b 0) (f.activates_before.of-bank b l)) in
      let activates = and_both (before_back s.cycle s.flight.last f.activates_before.of_all) banks in
      let commanding = and_both activates (pends-back p.classes p.timing.ranks s.cycle p.timing.column s.flight.columns f.columns_due) in
      let flight = and_both commanding (pends-back p.classes p.timing.ranks s.cycle p.timing.response s.flight.responses f.responses_due) in
      and_both r.fit (and_both (and_both (and_both (and_both shape counts) queues) turns) flight)

-- ---- what a tick rests on

-- there are four ranks at most
pub ranks-few : (t : Timing) → TimingLaws t → t.ranks ≤ 4
ranks-few t laws = ⊎_elim (λ one. omega (arith, one.0)) (λ four. omega (arith, four.0)) laws.ranks_are

-- the classes by the state's own count are among the sixteen numbers
pub small-classes : (p : Policy) (s : State) → Ranged p s → SmallClasses s.classes
unfolding is_class
small-classes p s r = subst SmallClasses (sym r.same_count) (policy-laws p r.fit).order.class_small

-- the command bus of a state in range, whoever of the sixteen has the turn
pub record BusRange (n : ℕ) (b : Bus) : Type 0 where
  pub timed : TimingLaws b.timing
  pub owner_small : b.owner < 16
  pub queues : QueuesRange n b.timing.ranks b.queues
  pub flight : FlightRange n b.timing b.cycle b.flight

pub bus-range : (p : Policy) (s : State) → Ranged p s → (turns : Turns) → turns.owner < 16 → BusRange p.classes (bus_at p s turns)
bus-range p s r turns small =
    record { timed = (policy-laws p r.fit).timed; owner_small = small; queues = r.queues; flight = r.flight }

module _ (n : ℕ) (b : Bus) (r : BusRange n b) where
  abbrev ranks : ℕ
  ranks = b.timing.ranks

  -- only a request that waits goes
  pub goes-waits : can_activate b ≡ true → goes_at b < length_of b.queues b.owner
  unfolding can_activate
  goes-waits e =
      ltb-true (goes_at b) (length_of b.queues b.owner) (and_right (offset_allows b.timing b.elided b.cycle) (ltb (goes_at b) (length_of b.queues b.owner)) e)

  -- it may go, and none older may
  pub goes_first : can_activate b ≡ true → First (may_go b) (length_of b.queues b.owner) (goes_at b)
  unfolding goes_at
  goes_first e =
      let n = length_of b.queues b.owner in
      first_found (may_go b) n (sym (first_some (may_go b) n) ∙ lt-ltb (first n (may_go b)) n (goes-waits e))

  -- only where fewer than 15 have passed the oldest does another go
  pub goes-past : can_activate b ≡ true → ((goes_at b ≡ 0) → ⊥) → passed_of b.queues b.owner < 15
  unfolding may_go
  goes-past e other =
      let k = goes_at b in
      let few = ltb (passed_of b.queues b.owner) 15 in
      ltb-true (passed_of b.queues b.owner) 15
      (⊎_elim (λ none. absurd (other (eqb-true k 0 none))) (λ t. t) (or_cases (eqb k 0) few (and_left (eqb k 0 || few) _ (goes_first e).passes)))

  -- each waiting request of the owner's is sound
  pub waiting-sound : (k : ℕ) → k < length_of b.queues b.owner → sound_word n ranks (waiting_at b.queues b.owner k) ≡ true
  waiting-sound k some = right-sound n ranks b.owner (waiting_at b.queues b.owner k) ((r.queues.queue b.owner r.owner_small).right k some)

  -- so is the one that goes, and it is one of the owner's
  pub going-right : goes_at b < length_of b.queues b.owner → right_word n ranks b.owner (going b) ≡ true
  unfolding going
  going-right some = (r.queues.queue b.owner r.owner_small).right (goes_at b) some

  pub goes-sound : can_activate b ≡ true → sound_word n ranks (going b) ≡ true
  unfolding going
  goes-sound e = waiting-sound (goes_at b) (goes-waits e)

  -- its gaps are met, and its word is the command's number
  pub goes-met : can_activate b ≡ true → gaps_met b.timing b.flight (going b) b.cycle ≡ true
  unfolding may_go going
  goes-met e = and_right (eqb (goes_at b) 0 || ltb (passed_of b.queues b.owner) 15) _ (goes_first e).passes

  pub request-shown : can_activate b ≡ true → command_number (request_sent b).wires ≡ going b
  unfolding command_number
  request-shown e = word_back (going b) (sound-offer n ranks (going b) (goes-sound e))

  -- a due column's word is an offer
  pub due_offer : ((due_column b ≡ 0) → ⊥) → is_offer (due_column b) ≡ true
  due_offer some =
      let columns = b.flight.columns in
      let now : b.cycle + 0 ≡ b.cycle = omega arith in
      subst (λ (k : ℕ). is_offer (due_at columns k) ≡ true) now
      (⊎_elim (λ none. absurd (some (ap (due_at columns) (sym now) ∙ none))) (λ fits. sound-offer n ranks (due_at columns (b.cycle + 0)) fits.1) (r.flight.columns_due 0 (lit< tt)))

  -- so the command's number is that word with bit 30 set, which is no offer's
  pub column-shown : eqb (due_column b) 0 ≡ false → command_number (column_sent b).wires ≡ column_number (due_column b)
  unfolding command_number
  column-shown due = ap column_number (word_back (due_column b) (due_offer (eqb-false (due_column b) 0 due)))

  pub column-no-request : eqb (due_column b) 0 ≡ false → is_offer (command_number (column_sent b).wires) ≡ false
  column-no-request due = ap is_offer (column-shown due) ∙ column-no-offer (due_column b) (due_offer (eqb-false (due_column b) 0 due))

  -- so the second step has what it rests on
  pub ready : b.cycle < last_cycle → Ready b
  ready left =
      record {
        timed = r.timed;
        ticks_left = left;
        class = r.owner_small;
        short = (r.queues.queue b.owner r.owner_small).short;
        sound =
            λ k some.
            let w = waiting_at b.queues b.owner k in
            let sound = waiting-sound k some in
            record { offer = sound-offer n ranks w sound; kind = sound-kind n ranks w sound };
        due_offer = due_offer;
      }
