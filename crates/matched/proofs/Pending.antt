-- What is pending, as a recording: its events by the cycle they are due. A tick takes the first of them out, if it is due, as its answer, and puts its activate, if it has one, at the end. So what was pending before a list of calls, and
-- then the list's activates with their cycles moved by the delay, are the list's answers and then what is pending after it.
-- Assumes nothing.
use mathlib.Core.Path.{◌≡◌, refl, sym, ap, ap₂, ◌∙◌, subst}
use mathlib.Core.Logic.{⊎_elim}
use mathlib.Core.Bool.{Bool, true, false, cond}
use mathlib.Core.List.{List, [], ◌∷◌, ◌++◌, append-nil, append_assoc}
use Prim.Native.Nat.{ℕ, zero, suc, ◌+◌, ◌-◌, ◌/◌, ◌%◌, ◌≤◌, ◌<◌}
use native.Mathlib.Nat.{lt_irrefl, not-suc-le-zero}
use native.Mathlib.Omega.{arith}
use borrow.Author.Tests.{eq-eqb, ne_eqb, eqb-true, eqb-false}
use lib.Dec.{eqb, ltb}
use lib.ListN.{length, set, length-append, length-set}
use lib.Seq.{get_or-set_same, get_or-set_other}
use Rattle.basics.proofs.Truth.{either, and-fails-left}
use Rattle.policy.specs.declared.Policy.{Policy}
use Rattle.policy.proofs.Laws.{policy-laws}
use Rattle.requests.specs.Sizes.{last_cycle}
use Rattle.requests.specs.Word.{is_offer, request_of, column_number, command_number}
use Rattle.flight.specs.Flight.{due_at, sent_at}
use Rattle.state.specs.Range.{in_range}
use Rattle.state.specs.declared.State.{State}
use Rattle.rules.specs.Wire.{activated}
use Rattle.rules.specs.Step.{turns_at, Bus, due_column, going, drive, answered}
use Rattle.rules.specs.Call.{offer_on, bus_at, after_tick, silent}
use Rattle.rules.specs.Calls.{Answer, ticked, offered, answer_to, state_after, log_of}
use Rattle.rules.proofs.Step.{outcome}
use Rattle.rules.proofs.Range.{sound-offer, ranged, BusRange, goes-sound, request-shown, column-shown, due_offer}
use Rattle.rules.proofs.CallsKept.{tick-bus}
use Rattle.rules.proofs.SingleCalls.{any-call}
use Rattle.rules.proofs.Calls.{answered-in-range}
use Rattle.recordings.specs.Logged.{is_tick, shown_at, word_shown, event_at, tick_in, ticks_in, recording_of}
use Rattle.recordings.proofs.Logged.{no-event, an-event}

plus_none : (t : ℕ) (b : Bool) → b ≡ false → t ≡ t + cond b 1 0
plus_none t b none = rw none (omega arith)

-- ---- a recording with its cycles moved

unfoldable pub shifted : ℕ → List ℕ → List ℕ
shifted d [] = []
shifted d (c ∷ []) = (c + d) ∷ []
shifted d (c ∷ w ∷ r) = (c + d) ∷ w ∷ shifted d r

shift-event : (d t w : ℕ) (r : List ℕ) → shifted d (event_at t w ++ r) ≡ event_at (t + d) w ++ shifted d r
unfolding shifted
shift-event d t w r =
    ⊎_elim
    (λ (e : eqb w 0 ≡ true).
    let none = eqb-true w 0 e in
    ap (λ (l : List ℕ). shifted d (l ++ r)) (no-event t w none) ∙ sym (ap (λ (l : List ℕ). l ++ shifted d r) (no-event (t + d) w none)))
    (λ (e : eqb w 0 ≡ false).
    let some = eqb-false w 0 e in
    ap (λ (l : List ℕ). shifted d (l ++ r)) (an-event t w some) ∙ sym (ap (λ (l : List ℕ). l ++ shifted d r) (an-event (t + d) w some)))
    (either (eqb w 0))

-- ---- what is due in so many cycles, as events

unfoldable pub due_in : List ℕ → ℕ → ℕ → List ℕ
due_in pending t zero = []
due_in pending t (suc n) = event_at t (due_at pending t) ++ due_in pending (suc t) n

-- one cycle more
due-more : (pending : List ℕ) (t n : ℕ) → due_in pending t (suc n) ≡ due_in pending t n ++ event_at (n + t) (due_at pending (n + t))
unfolding due_in
due-more pending t zero = append-nil (event_at t (due_at pending t)) ∙ ap (λ (k : ℕ). event_at k (due_at pending k)) (omega arith)
due-more pending t (suc n) =
    let here = event_at t (due_at pending t) in
    let last : n + suc t ≡ suc n + t = omega arith in
    ap (λ (l : List ℕ). here ++ l) (due-more pending (suc t) n ∙ ap (λ (k : ℕ). due_in pending (suc t) n ++ event_at k (due_at pending k)) last)
    ∙ sym (append_assoc here (due_in pending (suc t) n) (event_at (suc n + t) (due_at pending (suc n + t))))

-- the same is due
due-same : (one two : List ℕ) (t n : ℕ) → ((k : ℕ) → k < n → due_at one (k + t) ≡ due_at two (k + t)) → due_in one t n ≡ due_in two t n
unfolding due_in
due-same one two t zero same = refl
due-same one two t (suc n) same =
    let here : due_at one t ≡ due_at two t = subst (λ (k : ℕ). due_at one k ≡ due_at two k) (omega arith) (same 0 (omega arith)) in
    ap₂ (λ (w : ℕ) (l : List ℕ). event_at t w ++ l) here
    (due-same one two (suc t) n
    (λ k l. subst (λ (m : ℕ). due_at one m ≡ due_at two m) (omega arith) (same (suc k) (omega (arith, l)))))

-- none is due
pub due-none : (pending : List ℕ) (t n : ℕ) → ((k : ℕ) → k < n → due_at pending (t + k) ≡ 0) → due_in pending t n ≡ []
unfolding due_in
due-none pending t zero none = refl
due-none pending t (suc n) none =
    let here : due_at pending t ≡ 0 = subst (λ (k : ℕ). due_at pending k ≡ 0) (omega arith) (none 0 (omega arith)) in
    ap (λ (l : List ℕ). l ++ due_in pending (suc t) n) (no-event t (due_at pending t) here)
    ∙ due-none pending (suc t) n (λ k l. subst (λ (m : ℕ). due_at pending m ≡ 0) (omega arith) (none (suc k) (omega (arith, l))))

-- and back
pub none-due : (pending : List ℕ) (t n : ℕ) → length (due_in pending t n) ≡ 0 → (k : ℕ) → k < n → due_at pending (t + k) ≡ 0
unfolding due_in
none-due pending t zero e k l = absurd (not-suc-le-zero l)
none-due pending t (suc n) e zero l =
    let cut = length-append (event_at t (due_at pending t)) (due_in pending (suc t) n) in
    ⊎_elim
    (λ (q : eqb (due_at pending t) 0 ≡ true). subst (λ (m : ℕ). due_at pending m ≡ 0) (omega arith) (eqb-true (due_at pending t) 0 q))
    (λ (q : eqb (due_at pending t) 0 ≡ false). absurd (lt_irrefl 0 (omega (arith, e, cut, ap length (an-event t (due_at pending t) (eqb-false (due_at pending t) 0 q))))))
    (either (eqb (due_at pending t) 0))
none-due pending t (suc n) e (suc k) l =
    let cut = length-append (event_at t (due_at pending t)) (due_in pending (suc t) n) in
    subst (λ (m : ℕ). due_at pending m ≡ 0) (omega arith) (none-due pending (suc t) n (omega (arith, e, cut)) k (omega (arith, l)))

-- ---- the command that is shown

-- the word of an offer is one of an activate, and a column's is none
offer-activate : (w a : ℕ) → is_offer w ≡ true → shown_at true w a ≡ w
unfolding shown_at is_offer
offer-activate w a e = let top = eqb-true (w / 536870912) 4 e in rw (eq-eqb (w / 1073741824 % 2) 0 (omega (arith, top))) refl

column-none : (w a : ℕ) → is_offer w ≡ true → shown_at true (column_number w) a ≡ 0
unfolding shown_at is_offer column_number
column-none w a e = let top = eqb-true (w / 536870912) 4 e in rw (ne_eqb ((w + 1073741824) / 1073741824 % 2) 0 (λ z. lt_irrefl 0 (omega (arith, top, z)))) refl

nothing-none : (a : ℕ) → shown_at true 0 a ≡ 0
unfolding shown_at
nothing-none a = refl

response-shown : (c a : ℕ) → shown_at false c a ≡ a
unfolding shown_at
response-shown c a = refl

-- ---- one tick

-- what is stored at its due cycle modulo 32 does not meet what is due at another cycle within 32
apart : (t k d : ℕ) → k < d → d < 32 → ((t + k) % 32 ≡ (t + d) % 32) → ⊥
apart t k d less small e = lt_irrefl 0 (omega (arith, less, small, e))

module _ (p : Policy) (s : State) (fits : in_range p s ≡ true) where
  abbrev bus : Bus
  bus = bus_at p s (turns_at p s.cycle s.queues.lengths s.turns).turns

  range : BusRange p.classes bus
  range = tick-bus p s (ranged p s fits)

  abbrev delay : ℕ
  delay = p.timing.response

  delay-bounds : (1 ≤ delay) × (delay < 32)
  delay-bounds =
      let timed = (policy-laws p (ranged p s fits).fit).timed in
      (omega (arith, timed.response_bounds.0), omega (arith, timed.response_bounds.1, timed.dead_bounds.1))

  abbrev old : List ℕ
  old = s.flight.responses

  old-long : length old ≡ 32
  old-long = (ranged p s fits).flight.responses_long

  -- nothing is due the delay or more after the next tick
  pub none-late : (d : ℕ) → delay ≤ d → d < 32 → due_at old (s.cycle + d) ≡ 0
  none-late d late small = ⊎_elim (λ e. e) (λ w. absurd (lt_irrefl d (omega (arith, late, w.0)))) ((ranged p s fits).flight.responses_due d small)

  -- what is on its way once the second step is done: as before, or with the activate's answer
  record Sent (command word : ℕ) (new : List ℕ) : Type 0 where
    shown : (a : ℕ) → shown_at true command a ≡ word
    long : length new ≡ 32
    at_end : due_at new (s.cycle + delay) ≡ word
    before : (k : ℕ) → k < delay → due_at new (s.cycle + k) ≡ due_at old (s.cycle + k)

  nothing-sent : (command : ℕ) → ((a : ℕ) → shown_at true command a ≡ 0) → Sent command 0 old
  nothing-sent command none = record { shown = none; long = old-long; at_end = none-late delay (omega arith) delay-bounds.1; before = λ k l. refl }

  abbrev stored : ℕ → List ℕ
  stored w = set old ((s.cycle + delay) % 32) w

  in-store : (s.cycle + delay) % 32 < length old
  in-store = omega (arith, old-long)

  one-sent : (w : ℕ) → is_offer w ≡ true → Sent w w (stored w)
  unfolding due_at
  one-sent w offer =
      record {
        shown = λ a. offer-activate w a offer;
        long = length-set old ((s.cycle + delay) % 32) w ∙ old-long;
        at_end = get_or-set_same old ((s.cycle + delay) % 32) w 0 in-store;
        before = λ k l. get_or-set_other old ((s.cycle + delay) % 32) ((s.cycle + k) % 32) w 0 (apart s.cycle k delay l delay-bounds.1);
      }

  -- one of the two
  abbrev Sends : ℕ → List ℕ → Type 0
  Sends command new = (w : ℕ) × Sent command w new

  driven : Sends (command_number (drive bus).wires) (drive bus).flight.responses
  unfolding command_number activated
  driven =
      outcome bus (λ d. Sends (command_number d.wires) d.flight.responses)
      (λ due.
      let some = eqb-false (due_column bus) 0 due in
      (0, subst (λ (c : ℕ). Sent c 0 old) (sym (column-shown p.classes bus range due)) (nothing-sent (column_number (due_column bus)) (λ a. column-none (due_column bus) a (due_offer p.classes bus range some)))))
      (λ due goes.
      let sound = goes-sound p.classes bus range goes in
      (going bus, subst (λ (c : ℕ). Sent c (going bus) (stored (going bus))) (sym (request-shown p.classes bus range goes)) (one-sent (going bus) (sound-offer p.classes p.timing.ranks (going bus) sound))))
      (λ due stays. (0, nothing-sent 0 nothing-none))

  -- the answer is what was due, and what is pending then is the rest, with the activate at its end
  module _ (command word : ℕ) (new : List ℕ) (sent : Sent command word new) where
    abbrev t : ℕ
    t = s.cycle

    abbrev left : List ℕ
    left = sent_at new t

    due-now : due_at new t ≡ due_at old t
    due-now = subst (λ (m : ℕ). due_at new m ≡ due_at old m) (omega arith) (sent.before 0 delay-bounds.0)

    due-later : (k : ℕ) → 1 ≤ k → k < 32 → due_at left (t + k) ≡ due_at new (t + k)
    unfolding due_at sent_at
    due-later k some small = get_or-set_other new (t % 32) ((t + k) % 32) 0 0 (λ e. lt_irrefl 0 (omega (arith, e, some, small)))

    -- what stays due, from the next tick on
    stays-due : (k : ℕ) → suc k < delay → due_at left (k + suc t) ≡ due_at old (k + suc t)
    stays-due k l =
        let place : t + suc k ≡ k + suc t = omega arith in
        subst (λ (m : ℕ). due_at left m ≡ due_at old m) place (due-later (suc k) (omega arith) (omega (arith, l, delay-bounds.1)) ∙ sent.before (suc k) l)

    last-due : (e : ℕ) → suc e ≡ delay → due_at left (e + suc t) ≡ word
    last-due e size =
        let place : t + delay ≡ e + suc t = omega (arith, size) in
        subst (λ (m : ℕ). due_at left m ≡ word) place (due-later delay delay-bounds.0 delay-bounds.1 ∙ sent.at_end)

    moved_by : (e : ℕ) → suc e ≡ delay → event_at t (due_at new t) ++ due_in left (suc t) (suc e) ≡ due_in old t (suc e) ++ event_at (t + suc e) word
    unfolding due_in
    moved_by e size =
        let rest = due_in old (suc t) e in
        let end : e + suc t ≡ t + suc e = omega arith in
        let behind : due_in left (suc t) (suc e) ≡ rest ++ event_at (t + suc e) word =
        due-more left (suc t) e
        ∙ ap₂ ◌++◌ (due-same left old (suc t) e (λ k l. stays-due k (omega (arith, l, size)))) (ap₂ event_at end (last-due e size))
        in
        ap₂ (λ (w : ℕ) (l : List ℕ). event_at t w ++ l) due-now behind ∙ sym (append_assoc (event_at t (due_at old t)) rest (event_at (t + suc e) word))

    moved : event_at t (due_at new t) ++ due_in left (t + 1) delay ≡ due_in old t delay ++ event_at (t + delay) word
    moved =
        let size : suc (delay - 1) ≡ delay = omega (arith, delay-bounds.0) in
        let next : suc t ≡ t + 1 = omega arith in
        subst (λ (m : ℕ). event_at t (due_at new t) ++ due_in left m delay ≡ due_in old t delay ++ event_at (t + delay) word) next
        (subst (λ (n : ℕ). event_at t (due_at new t) ++ due_in left (suc t) n ≡ due_in old t n ++ event_at (t + n) word) size (moved_by (delay - 1) size))

-- ---- a call

-- what is pending in a state, as a recording
abbrev pub pending_of : Policy → State → List ℕ
pending_of p s = due_in s.flight.responses s.cycle p.timing.response

module _ (p : Policy) where
  -- the word that a call's numbers show, of an activate or of a response
  abbrev shown_of : Bool → ℕ → Answer → ℕ
  shown_of activates w a = cond (is_tick w a.status) (shown_at activates a.command a.response) 0

  module _ (s : State) where
    record Passes (w : ℕ) (a : Answer) : Type 0 where
      counts : a.state.cycle ≡ s.cycle + cond (is_tick w a.status) 1 0
      passes : event_at s.cycle (shown_of false w a) ++ pending_of p a.state ≡ pending_of p s ++ event_at (s.cycle + p.timing.response) (shown_of true w a)

    -- a call that is no tick that is made, and leaves cycle and flight
    no-pass : (w : ℕ) (a : Answer) → is_tick w a.status ≡ false → a.state.cycle ≡ s.cycle → a.state.flight.responses ≡ s.flight.responses → Passes w a
    no-pass w a none same-cycle same-flight =
        let shows : (b : Bool) → shown_of b w a ≡ 0 = λ b. ap (λ (x : Bool). cond x (shown_at b a.command a.response) 0) none in
        let still : pending_of p a.state ≡ pending_of p s = ap₂ (λ (r : List ℕ) (t : ℕ). due_in r t p.timing.response) same-flight same-cycle in
        record {
          counts = same-cycle ∙ plus_none s.cycle (is_tick w a.status) none;
          passes =
              ap (λ (l : List ℕ). l ++ pending_of p a.state) (no-event s.cycle (shown_of false w a) (shows false))
              ∙ still
              ∙ sym (append-nil (pending_of p s))
              ∙ ap (λ (l : List ℕ). pending_of p s ++ l) (sym (no-event (s.cycle + p.timing.response) (shown_of true w a) (shows true)));
        }

    module _ (fits : in_range p s ≡ true) where
      tick-passes : ltb s.cycle last_cycle ≡ true → Passes 0 (ticked (after_tick p s))
      unfolding after_tick answered is_tick
      tick-passes left =
          let w = driven p s fits in
          let new = (drive (bus p s fits)).flight.responses in
          let command = command_number (drive (bus p s fits)).wires in
          let response = due_at new s.cycle in
          record {
            counts = refl;
            passes =
                ap (λ (x : ℕ). event_at s.cycle x ++ due_in (sent_at new s.cycle) (s.cycle + 1) p.timing.response) (response-shown command response)
                ∙ moved p s fits command w.0 new w.1
                ∙ ap (λ (x : ℕ). pending_of p s ++ event_at (s.cycle + p.timing.response) x) (sym (w.1.shown response));
          }

      one_call : (w : ℕ) → Passes w (answer_to p s w)
      unfolding silent offer_on is_tick
      one_call =
          any-call p s fits Passes tick-passes
          (λ late. no-pass 0 (ticked (record { status = 12; state = s; shown = silent })) refl refl refl)
          (λ w other offer. no-pass w (offered (offer_on p.timing.ranks s (request_of w))) (and-fails-left (eqb w 0) _ other) refl refl)
          (λ w other none. no-pass w (record { state = s; status = 14; command = 0; response = 0; turn = 0 }) (and-fails-left (eqb w 0) _ other) refl refl)

  -- ---- a list of calls

  -- in their order: what was pending and the activates, moved by the delay, are the responses and what is pending then
  pub in_order : (ws : List ℕ) (s : State) → in_range p s ≡ true
      → pending_of p s ++ shifted p.timing.response (recording_of true s.cycle ws (log_of p s ws)) ≡ recording_of false s.cycle ws (log_of p s ws) ++ pending_of p (state_after p s ws)
  unfolding recording_of word_shown tick_in log_of state_after shifted
  in_order [] s fits = append-nil (pending_of p s)
  in_order (w ∷ ws) s fits =
      let a = answer_to p s w in
      let call = one_call s fits w in
      let d = p.timing.response in
      let t = s.cycle in
      let log = log_of p a.state ws in
      let activate = event_at t (shown_of true w a) in
      let answer = event_at t (shown_of false w a) in
      let then = t + cond (is_tick w a.status) 1 0 in
      let rest = in_order ws a.state (answered-in-range p s w fits) in
      let rest_at : pending_of p a.state ++ shifted d (recording_of true then ws log) ≡ recording_of false then ws log ++ pending_of p (state_after p a.state ws) =
      subst (λ (m : ℕ). pending_of p a.state ++ shifted d (recording_of true m ws log) ≡ recording_of false m ws log ++ pending_of p (state_after p a.state ws)) call.counts rest
      in
      ap (λ (l : List ℕ). pending_of p s ++ l) (shift-event d t (shown_of true w a) (recording_of true then ws log))
      ∙ sym (append_assoc (pending_of p s) (event_at (t + d) (shown_of true w a)) (shifted d (recording_of true then ws log)))
      ∙ ap (λ (l : List ℕ). l ++ shifted d (recording_of true then ws log)) (sym call.passes)
      ∙ append_assoc answer (pending_of p a.state) (shifted d (recording_of true then ws log))
      ∙ ap (λ (l : List ℕ). answer ++ l) rest_at
      ∙ sym (append_assoc answer (recording_of false then ws log) (pending_of p (state_after p a.state ws)))

  -- the cycle after it is that before it and its ticks
  pub cycle-after : (ws : List ℕ) (s : State) → in_range p s ≡ true → (state_after p s ws).cycle ≡ s.cycle + ticks_in ws (log_of p s ws)
  unfolding ticks_in log_of state_after tick_in
  cycle-after [] s fits = omega arith
  cycle-after (w ∷ ws) s fits =
      let a = answer_to p s w in
      omega (arith, cycle-after ws a.state (answered-in-range p s w fits), (one_call s fits w).counts)
