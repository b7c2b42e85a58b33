-- A fresh state is in range, and an offer and a tick keep a state in range; so the wires of a tick are read back from their command's number.
-- Assumes nothing.
use mathlib.Core.Path.{◌≡◌, refl, sym, ap, ◌∙◌, subst}
use mathlib.Core.Logic.{◌≢◌, inl, ⊎_elim}
use mathlib.Core.Bool.{Bool, true, false, cond}
use mathlib.Core.List.{List}
use Prim.Native.Nat.{ℕ, zero, suc, ◌+◌, ◌-◌, ◌%◌, ◌≤◌, ◌<◌, zero-le}
use native.Mathlib.Nat.{not-suc-le-zero}
use native.Mathlib.Omega.{arith}
use borrow.Author.Tests.{eqb-false, eq-eqb, ltb-true}
use lib.Dec.{ltb, eqb, lit<}
use lib.ListN.{length, get_or, length-set}
use Rattle.order.specs.Order.{is_class_in}
use Rattle.order.specs.Laws.{SmallClasses}
use Rattle.policy.specs.Policy.{is_class, cover_count}
use Rattle.policy.specs.Policy.{in_range as policy_in_range}
use Rattle.policy.specs.declared.Policy.{Policy}
use Rattle.basics.proofs.Truth.{either, not-both, and_both, on-true, on-false}
use Rattle.basics.proofs.Below.{lt-or-ge}
use Rattle.basics.proofs.Stores.{same-or-other}
use Rattle.policy.proofs.Laws.{policy-laws}
use Rattle.requests.specs.Sizes.{last_cycle}
use Rattle.requests.specs.Word.{class_of, rank_of, kind_of, bank_of, bank_place, request_of, word_of, class_fits, bank_kind_rank_fit, sound_word, command_number, wires_of}
use Rattle.queues.specs.Waiting.{head_of, length_of, passed_of, waiting_at, right_word}
use Rattle.flight.specs.Flight.{due_at, activate_at, sent_at}
use Rattle.rules.specs.Queue.{enqueue, passed_after, dequeue, offer_status, queues_after}
use Rattle.rules.specs.Wire.{activated}
use Rattle.rules.specs.Step.{turns_at, Bus, due_column, goes_at, going, can_activate, drive, answered}
use Rattle.state.specs.Fresh.{zeros, empty_queues, nothing_in_flight, state_at_start, fresh_state, zero_state, fresh}
use Rattle.state.specs.Range.{in_range}
use Rattle.rules.specs.Call.{offer_on, offer, bus_at, after_tick, tick, silent}
use Rattle.requests.specs.declared.Request.{Request}
use Rattle.requests.specs.declared.Wires.TheVariants.{Nothing}
use Rattle.queues.specs.declared.Queues.{Queues}
use Rattle.flight.specs.declared.Flight.{Flight}
use Rattle.state.specs.declared.State.{State}
use Rattle.state.specs.declared.Made.{Made}
use Rattle.state.specs.declared.Offered.{Offered}
use Rattle.state.specs.declared.Ticked.{Ticked}
use Rattle.requests.proofs.Word.{rank-small, bank-held, class_back, rank-back, kind-back, bank-back, is-offer, wires-activate, wires-column}
use Rattle.rules.proofs.Queue as waiting
use Rattle.rules.proofs.Wire.{gap-shift, gap-new, gap-none, stored-new, Before}
use Rattle.rules.proofs.Range.{sound-offer, fit-bounds, fit-back, sound-kind, ranks-few, QueueRange, QueuesRange, Within, Fits, FlightRange, Ranged, ranged, in-range, BusRange, bus-range, goes-waits, goes-past, goes-sound, request-shown, due_offer, column-shown}
use Rattle.rules.proofs.PendingWords.{Later}
use Rattle.rules.proofs.FlightKept.{columns-next, responses-next, activates-next}
use Rattle.rules.proofs.Step.{outcome}
use Rattle.rules.proofs.TurnsKept.{caps-within, turns-kept}
use Rattle.rules.proofs.Call.{offer-is, tick_is, tick-late}

pub below-sixteen : (n : ℕ) (r : Request) → SmallClasses n → class_fits n r ≡ true → r.class < 16
unfolding class_fits
below-sixteen n r few e = few r.class e

pub room : (q : Queues) (c : ℕ) → ltb (get_or q.lengths c 0) 8 ≡ true → length_of q c < 8
unfolding length_of
room q c e = ltb-true (get_or q.lengths c 0) 8 e

sent-long : (t : ℕ) (pending : List ℕ) → length pending ≡ 32 → length (sent_at pending t) ≡ 32
unfolding sent_at
sent-long t pending long = length-set pending (t % 32) 0 ∙ long

pub zero-at : (n k : ℕ) → get_or (zeros n) k 0 ≡ 0
unfolding zeros
zero-at zero k = refl
zero-at (suc n) zero = refl
zero-at (suc n) (suc k) = zero-at n k

pub none-due : (t : ℕ) → due_at (zeros 32) t ≡ 0
unfolding due_at
none-due t = zero-at 32 (t % 32)

empty-queue : (n ranks c : ℕ) → QueueRange n ranks empty_queues c
unfolding empty_queues zeros head_of length_of passed_of
empty-queue n ranks c =
    record {
      short = subst (λ (k : ℕ). k ≤ 8) (sym (zero-at 16 c)) zero-le;
      in_ring = subst (λ (k : ℕ). k < 8) (sym (zero-at 16 c)) (lit< tt);
      right = λ k l. absurd (not-suc-le-zero {n = k} (subst (λ (m : ℕ). k < m) (zero-at 16 c) l));
      few_passed = subst (λ (k : ℕ). k ≤ 15) (sym (zero-at 16 c)) zero-le;
    }

-- ---- the queues

module _ (n ranks : ℕ) (q : Queues) (r : QueuesRange n ranks q) (c : ℕ) (small : c < 16) where
  module _ (w : ℕ) (room : length_of q c < 8) (right : right_word n ranks c w ≡ true) where
    longer : length_of (enqueue q c w) c ≡ length_of q c + 1
    longer = waiting.enqueue-longer q c w (subst (λ (k : ℕ). c < k) (sym r.lengths_long) small)

    enqueued : QueueRange n ranks (enqueue q c w) c
    enqueued =
        record {
          short = omega (arith, longer, room);
          in_ring = subst (λ (k : ℕ). k < 8) (sym (waiting.enqueue-head q c w c)) (r.queue c small).in_ring;
          right =
              λ k l.
              ⊎_elim
              (λ h. ap (right_word n ranks c) (waiting.enqueue-before q c w k h room) ∙ (r.queue c small).right k h)
              (λ h.
              let last : k ≡ length_of q c = omega (arith, l, h, longer) in
              ap (right_word n ranks c) (ap (waiting_at (enqueue q c w) c) last ∙ waiting.enqueue-last q c w small r.slots_long) ∙ right)
              (lt-or-ge k (length_of q c));
          few_passed = subst (λ (k : ℕ). k ≤ 15) (sym (waiting.enqueue-passed q c w c)) (r.queue c small).few_passed;
        }

    beside : (d : ℕ) → d < 16 → d ≢ c → QueueRange n ranks (enqueue q c w) d
    beside d l apart =
        record {
          short = subst (λ (k : ℕ). k ≤ 8) (sym (waiting.enqueue-else q c w d apart)) (r.queue d l).short;
          in_ring = subst (λ (k : ℕ). k < 8) (sym (waiting.enqueue-head q c w d)) (r.queue d l).in_ring;
          right =
              λ k h.
              ap (right_word n ranks d) (waiting.enqueue-apart q c w d k apart) ∙ (r.queue d l).right k (subst (λ (m : ℕ). k < m) (waiting.enqueue-else q c w d apart) h);
          few_passed = subst (λ (k : ℕ). k ≤ 15) (sym (waiting.enqueue-passed q c w d)) (r.queue d l).few_passed;
        }

    pub enqueue-kept : QueuesRange n ranks (enqueue q c w)
    unfolding enqueue
    enqueue-kept =
        record {
          slots_long = length-set q.slots _ w ∙ r.slots_long;
          heads_long = r.heads_long;
          lengths_long = length-set q.lengths c (length_of q c + 1) ∙ r.lengths_long;
          passed_long = r.passed_long;
          queue = λ d l. same-or-other (QueueRange n ranks (enqueue q c w)) c d enqueued (beside d l);
        }

  module _ (m : ℕ) (some : m < length_of q c) (passes : ((m ≡ 0) → ⊥) → passed_of q c < 15) where
    in-heads : c < length q.heads
    in-heads = subst (λ (k : ℕ). c < k) (sym r.heads_long) small

    shorter : length_of (dequeue q c m) c ≡ length_of q c - 1
    shorter = waiting.dequeue-shorter q c m (subst (λ (k : ℕ). c < k) (sym r.lengths_long) small)

    -- the count goes to 15 at most
    counted : passed_after m (passed_of q c) ≤ 15
    unfolding passed_after
    counted =
        ⊎_elim (λ first. rw first zero-le) (λ other. rw other (omega (arith, passes (eqb-false m 0 other)))) (either (eqb m 0))

    dequeued : QueueRange n ranks (dequeue q c m) c
    dequeued =
        record {
          short = omega (arith, shorter, (r.queue c small).short);
          in_ring = subst (λ (k : ℕ). k < 8) (sym (waiting.dequeue-head q c m in-heads)) (omega arith);
          right =
              λ k l.
              ⊎_elim
              (λ before.
              ap (right_word n ranks c) (waiting.dequeue-before q c m small r.slots_long in-heads k before (omega (arith, some, (r.queue c small).short)))
              ∙ (r.queue c small).right k (omega (arith, before, some)))
              (λ after.
              ap (right_word n ranks c) (waiting.dequeue-after q c m in-heads k after (omega (arith, l, shorter, (r.queue c small).short)))
              ∙ (r.queue c small).right (suc k) (omega (arith, l, shorter)))
              (lt-or-ge k m);
          few_passed = subst (λ (k : ℕ). k ≤ 15) (sym (waiting.dequeue-passed q c m (subst (λ (k : ℕ). c < k) (sym r.passed_long) small))) counted;
        }

    left_alone : (d : ℕ) → d < 16 → d ≢ c → QueueRange n ranks (dequeue q c m) d
    left_alone d l apart =
        record {
          short = subst (λ (k : ℕ). k ≤ 8) (sym (waiting.dequeue-else q c m d apart)) (r.queue d l).short;
          in_ring = subst (λ (k : ℕ). k < 8) (sym (waiting.dequeue-else-head q c m d apart)) (r.queue d l).in_ring;
          right =
              λ k h.
              ap (right_word n ranks d) (waiting.dequeue-apart q c m d k apart) ∙ (r.queue d l).right k (subst (λ (i : ℕ). k < i) (waiting.dequeue-else q c m d apart) h);
          few_passed = subst (λ (k : ℕ). k ≤ 15) (sym (waiting.dequeue-else-passed q c m d apart)) (r.queue d l).few_passed;
        }

    pub dequeue-kept : QueuesRange n ranks (dequeue q c m)
    unfolding dequeue
    dequeue-kept =
        record {
          slots_long = waiting.closed-long c (head_of q c) m q.slots ∙ r.slots_long;
          heads_long = length-set q.heads c ((head_of q c + 1) % 8) ∙ r.heads_long;
          lengths_long = length-set q.lengths c (length_of q c - 1) ∙ r.lengths_long;
          passed_long = length-set q.passed c (passed_after m (passed_of q c)) ∙ r.passed_long;
          queue = λ d l. same-or-other (QueueRange n ranks (dequeue q c m)) c d dequeued (left_alone d l);
        }

-- ---- the second step, and what is in flight once the third is done

module _ (n : ℕ) (b : Bus) (r : BusRange n b) where
  abbrev t : ℕ
  t = b.cycle

  abbrev f : Flight
  f = b.flight

  abbrev ranks : ℕ
  ranks = b.timing.ranks

  abbrev goes : Type 0
  goes = can_activate b ≡ true

  queues-kept : QueuesRange n ranks (drive b).queues
  queues-kept =
      outcome b (λ d. QueuesRange n ranks d.queues) (λ due. r.queues)
      (λ due e. dequeue-kept n ranks b.queues r.queues b.owner r.owner_small (goes_at b) (goes-waits n b r e) (goes-past n b r e))
      (λ due stays. r.queues)

  -- a word due in fewer cycles than a bound is due a cycle later in fewer still, and a new one in its delay
  nearer : (bound d w : ℕ) → Fits n ranks bound (d + 1) w → Fits n ranks bound d w
  nearer bound d w h = (omega (arith, h.0), h.1)

  new-fits : (delay : ℕ) → goes → Later (Fits n ranks delay) delay (going b)
  new-fits delay e d same = (omega (arith, same), goes-sound n b r e)

  flight-kept : FlightRange n b.timing (t + 1) (answered t (drive b).flight)
  unfolding answered activated
  flight-kept =
      let w = going b in
      let fr = r.flight in
      let column = b.timing.column in
      let response = b.timing.response in
      record {
        columns_long =
            outcome b (λ d. length d.flight.columns ≡ 32) (λ due. sent-long t f.columns fr.columns_long)
            (λ due e. length-set f.columns ((t + column) % 32) w ∙ fr.columns_long)
            (λ due stays. fr.columns_long);
        responses_long =
            sent-long t (drive b).flight.responses
            (outcome b (λ d. length d.flight.responses ≡ 32) (λ due. fr.responses_long)
            (λ due e. length-set f.responses ((t + response) % 32) w ∙ fr.responses_long)
            (λ due stays. fr.responses_long));
        banks_long =
            outcome b (λ d. length d.flight.banks ≡ 32) (λ due. fr.banks_long)
            (λ due e. length-set f.banks (bank_place w) (activate_at t (rank_of w) (kind_of w)) ∙ fr.banks_long)
            (λ due stays. fr.banks_long);
        activates_before =
            activates-next b (Before t) (Before (t + 1)) (λ x early. (early.0, gap-shift x 1 1 t (t + 1) (omega arith) early.1)) fr.banks_long
            (λ e. (stored-new t (rank_of w) (kind_of w), gap-new (rank_of w) (kind_of w) 1 t (t + 1) (rank-small w) (sound-kind n ranks w (goes-sound n b r e)) (omega arith)))
            fr.activates_before;
        columns_due = columns-next b r.timed (Fits n ranks column) (Fits n ranks column) (nearer column) fr.columns_long (new-fits column) fr.columns_due;
        responses_due = responses-next b r.timed (Fits n ranks response) (Fits n ranks response) (nearer response) fr.responses_long (new-fits response) fr.responses_due;
      }

-- ---- the calls

-- the command bus of a tick
pub tick-bus : (p : Policy) (s : State) → Ranged p s → BusRange p.classes (bus_at p s (turns_at p s.cycle s.queues.lengths s.turns).turns)
tick-bus p s w =
    let turns = (turns_at p s.cycle s.queues.lengths s.turns).turns in
    bus-range p s w turns ((policy-laws p w.fit).order.class_small turns.owner (turns-kept p w.fit s.cycle s.queues.lengths s.turns w.turns).owner_class)

tick-ranged : (p : Policy) (s : State) → Ranged p s → s.cycle < last_cycle → Ranged p (after_tick p s).state
unfolding after_tick
tick-ranged p s w left =
    let t = s.cycle in
    let turns = (turns_at p t s.queues.lengths s.turns).turns in
    let bus = tick-bus p s w in
    record {
      fit = w.fit;
      same_count = w.same_count;
      cycle_bound = omega (arith, left);
      queues = queues-kept p.classes (bus_at p s turns) bus;
      turns = turns-kept p w.fit t s.queues.lengths s.turns w.turns;
      flight = flight-kept p.classes (bus_at p s turns) bus;
    }

-- the word of a request that 9 and 10 do not refuse is right for its class's queue
offered-right : (n ranks : ℕ) (r : Request) → SmallClasses n → ranks ≤ 4 → class_fits n r ≡ true → bank_kind_rank_fit ranks r ≡ true → right_word n ranks r.class (word_of r) ≡ true
unfolding right_word sound_word class_fits request_of
offered-right n ranks r few four c b =
    let fits = fit-bounds ranks r b in
    let same_class : class_of (word_of r) ≡ r.class = class_back r ∙ omega (arith, few r.class c) in
    let bank : bank_of (word_of r) ≤ 7 = omega (arith, bank-back r, bank-held r (omega (arith, fits.2, four)), fits.0) in
    let kind : kind_of (word_of r) ≤ 1 = omega (arith, kind-back r, fits.1) in
    let rank : rank_of (word_of r) < ranks = omega (arith, rank-back r, fits.2, four) in
    and_both
    (and_both
    (and_both (is-offer r) (subst (λ (k : ℕ). is_class_in n k ≡ true) (sym same_class) c))
    (fit-back ranks (request_of (word_of r)) bank kind rank))
    (eq-eqb (class_of (word_of r)) r.class same_class)

-- an offer is taken only if none of 9, 10 and 11 refuses it
pub taken : (a b c : Bool) → eqb (cond a (cond b (cond c 0 11) 10) 9) 0 ≡ true → (a ≡ true) × (b ≡ true) × (c ≡ true)
taken true true true e = (refl, refl, refl)
taken true true false e = absurd (not-both e refl)
taken true false c e = absurd (not-both e refl)
taken false b c e = absurd (not-both e refl)

offer-queues : (n ranks : ℕ) (q : Queues) (r : Request) → SmallClasses n → ranks ≤ 4 → QueuesRange n ranks q → QueuesRange n ranks (queues_after n ranks q r)
unfolding queues_after offer_status
offer-queues n ranks q r few four qr =
    let status = eqb (offer_status n ranks q.lengths r) 0 in
    ⊎_elim
    (λ e.
    let fits = taken (class_fits n r) (bank_kind_rank_fit ranks r) (ltb (get_or q.lengths r.class 0) 8) e in
    subst (QueuesRange n ranks) (sym (on-true status (enqueue q r.class (word_of r)) q e))
    (enqueue-kept n ranks q qr r.class (below-sixteen n r few fits.0) (word_of r) (room q r.class fits.2) (offered-right n ranks r few four fits.0 fits.1)))
    (λ e. subst (QueuesRange n ranks) (sym (on-false status (enqueue q r.class (word_of r)) q e)) qr)
    (either status)

offer-ranged : (p : Policy) (s : State) (r : Request) → Ranged p s → Ranged p (offer_on p.timing.ranks s r).state
unfolding offer_on is_class
offer-ranged p s r w =
    record {
      fit = w.fit;
      same_count = w.same_count;
      cycle_bound = w.cycle_bound;
      queues =
          subst (λ (n : ℕ). QueuesRange p.classes p.timing.ranks (queues_after n p.timing.ranks s.queues r)) (sym w.same_count)
          (offer-queues p.classes p.timing.ranks s.queues r (policy-laws p w.fit).order.class_small (ranks-few p.timing (policy-laws p w.fit).timed) w.queues);
      turns = w.turns;
      flight = w.flight;
    }

-- a state at some cycle in which nobody waits, nothing is on its way and nothing was activated, with turns left at the caps
abbrev pub idle_at : Policy → ℕ → List ℕ → State
idle_at p t pointers =
    record {
      cycle = t;
      classes = p.classes;
      queues = empty_queues;
      turns = record { owner = 0; elided = false; left = p.caps; pointers = pointers };
      flight = nothing_in_flight;
    }

pub idle-ranged : (p : Policy) → policy_in_range p ≡ true → (t : ℕ) → t ≤ last_cycle → (pointers : List ℕ) → Within (cover_count p) pointers → Ranged p (idle_at p t pointers)
unfolding empty_queues nothing_in_flight zeros
idle-ranged p given t early pointers fit =
    let laws = policy-laws p given in
    record {
      fit = given;
      same_count = refl;
      cycle_bound = early;
      queues = record { slots_long = refl; heads_long = refl; lengths_long = refl; passed_long = refl; queue = λ c l. empty-queue p.classes p.timing.ranks c };
      turns = record { owner_class = laws.order.zero_class; left_within = caps-within p given; pointers_fit = fit };
      flight =
          record {
            columns_long = refl;
            responses_long = refl;
            banks_long = refl;
            activates_before = record { of_all = (refl, gap-none 1 t); of-bank = λ b l. subst (Before t) (sym (zero-at 32 b)) (refl, gap-none 1 t) };
            columns_due = λ d l. inl (none-due (t + d));
            responses_due = λ d l. inl (none-due (t + d));
          };
    }

-- a fresh state is such a one
pub fresh-ranged : (p : Policy) → policy_in_range p ≡ true → Ranged p (fresh_state p)
unfolding fresh_state state_at_start zeros
fresh-ranged p given =
    idle-ranged p given 0 zero-le (zeros 16) (record { sixteen = refl; within = λ j l. subst (λ (k : ℕ). k ≤ cover_count p j) (sym (zero-at 16 j)) zero-le })

-- ---- in the words of 13

pub fresh-fits : (p : Policy) → policy_in_range p ≡ true → in_range p (fresh_state p) ≡ true
fresh-fits p given = in-range p (fresh_state p) (fresh-ranged p given)

module _ (p : Policy) where
  pub fresh_in_range : policy_in_range p ≡ true → in_range p (fresh p).state ≡ true
  unfolding fresh
  fresh_in_range given =
      subst (λ (m : Made). in_range p m.state ≡ true) (sym (on-true (policy_in_range p) (record { status = 0; state = fresh_state p }) (record { status = 13; state = zero_state }) given))
      (fresh-fits p given)

  pub offer_in_range : (s : State) (r : Request) → in_range p s ≡ true → in_range p (offer p s r).state ≡ true
  offer_in_range s r e =
      subst (λ (o : Offered). in_range p o.state ≡ true) (sym (offer-is p s e r)) (in-range p (offer_on p.timing.ranks s r).state (offer-ranged p s r (ranged p s e)))

  pub tick_in_range : (s : State) → in_range p s ≡ true → in_range p (tick p s).state ≡ true
  tick_in_range s e =
      ⊎_elim
      (λ l.
      subst (λ (o : Ticked). in_range p o.state ≡ true) (sym (tick_is p s e l))
      (in-range p (after_tick p s).state (tick-ranged p s (ranged p s e) (ltb-true s.cycle last_cycle l))))
      (λ l. subst (λ (o : Ticked). in_range p o.state ≡ true) (sym (tick-late p s e l)) e)
      (either (ltb s.cycle last_cycle))

-- ---- what a tick showed can be read back from its command's number

none_read : wires_of 0 ≡ Nothing
unfolding wires_of
none_read = refl

wires-read : (n : ℕ) (b : Bus) → BusRange n b → wires_of (command_number (drive b).wires) ≡ (drive b).wires
unfolding command_number
wires-read n b r =
    outcome b (λ d. wires_of (command_number d.wires) ≡ d.wires)
    (λ due. ap wires_of (column-shown n b r due) ∙ wires-column (due_column b) (due_offer n b r (eqb-false (due_column b) 0 due)))
    (λ due goes. ap wires_of (request-shown n b r goes) ∙ wires-activate (going b) (sound-offer n b.timing.ranks (going b) (goes-sound n b r goes)))
    (λ due stays. none_read)

pub tick-wires : (p : Policy) (s : State) → in_range p s ≡ true → wires_of (command_number (tick p s).shown.wires) ≡ (tick p s).shown.wires
unfolding after_tick silent command_number
tick-wires p s e =
    let reads : Ticked → Type 0 = λ x. wires_of (command_number x.shown.wires) ≡ x.shown.wires in
    ⊎_elim
    (λ l. subst reads (sym (tick_is p s e l)) (wires-read p.classes _ (tick-bus p s (ranged p s e))))
    (λ l. subst reads (sym (tick-late p s e l)) none_read)
    (either (ltb s.cycle last_cycle))
