-- W-206's promises. The rank gap: a call leaves the last activate of all as it was, or activates a request whose rank gap is met and stores that as the last; so it is between any two activates, by going through the list.
-- One rank: every request that waits or is in flight is one that 10 lets through, so it is on rank 0, and so are the words of the log and the last activate.
-- Assumes nothing.
use mathlib.Core.Path.{◌≡◌, refl, sym, ap, ap₂, ◌∙◌, subst}
use mathlib.Core.Logic.{◌⊎◌, inl, inr, ⊎_elim}
use mathlib.Core.Bool.{Bool, true, false, cond, ◌&&◌}
use mathlib.Core.List.{List, [], ◌∷◌, ◌++◌}
use Prim.Native.Nat.{ℕ, zero, suc, ◌+◌, ◌/◌, ◌%◌, ◌≤◌, ◌<◌, zero-le}
use native.Mathlib.Nat.{not-suc-le-zero}
use native.Mathlib.Omega.{arith}
use borrow.Author.Tests.{eq-eqb, ne_eqb, leb-true, le-leb, lt-ltb}
use lib.Dec.{leb, ltb, eqb, lit<}
use lib.ListN.{length, get_or}
use Rattle.policy.specs.Policy.{in_range as policy_in_range}
use Rattle.policy.specs.declared.Policy.{Policy}
use Rattle.policy.proofs.Laws.{policy-laws}
use Rattle.basics.proofs.Truth.{either, and-three, and-fails-left, and-true}
use Rattle.basics.proofs.Stores.{stored_at}
use Rattle.requests.specs.Word.{rank_of, kind_of, bank_of, bank_place, is_offer, request_of, class_fits, bank_kind_rank_fit, sound_word, column_number, command_number}
use Rattle.requests.proofs.Word.{rank-small}
use Rattle.queues.specs.Waiting.{length_of, waiting_at}
use Rattle.flight.specs.Flight.{due_at, activate_at, activate_rank}
use Rattle.rules.specs.Queue.{offer_status}
use Rattle.rules.specs.Wire.{opens_at, rank_opens, rank_gap_met, gap_met, kind_gap, bank_gap, gaps_met_by, gaps_met, activated}
use Rattle.rules.specs.Step.{turn_starts, turn_word, turns_at, Bus, due_column, going, can_activate, request_sent, drive, answered}
use Rattle.rules.specs.Call.{offer_on, bus_at, after_tick, silent}
use Rattle.rules.specs.Calls.{Answer, answer_to, state_after, log_of}
use Rattle.rules.specs.Overtaking.{only_if, those, commands_in, activations}
use Rattle.rules.specs.Ranks.{activation_ticks, RankGapKept, gaps_before, GapsAsBefore, TenByteLogs, Ranks}
use Rattle.state.specs.Fresh.{fresh_state, state_at_start, nothing_in_flight}
use Rattle.state.specs.Range.{in_range}
use Rattle.state.specs.declared.State.{State}
use Rattle.rules.proofs.Wire.{next-new, rank-new, some-new}
use Rattle.rules.proofs.Traversal.{tried-few}
use Rattle.rules.proofs.Step.{tried_at, turn-shown, outcome}
use Rattle.rules.proofs.Range.{sound-offer, sound-bank, sound-kind, sound-rank, right-sound, ranged, BusRange, goes-sound, goes-met, request-shown, column-shown, column-no-request}
use Rattle.rules.proofs.CallsKept.{tick-bus, fresh-fits}
use Rattle.rules.proofs.SingleCalls.{any-call}
use Rattle.rules.proofs.Calls.{answered-in-range, after-in-range}
use Rattle.rules.proofs.Overtaking.{only, none_of, zero-no-offer}

-- ---- what a call does to the last activate of all

module _ (p : Policy) (s : State) where
  -- a request is activated: its rank gap is met, and it is the last activate
  record Sends (command last : ℕ) : Type 0 where
    offer : is_offer command ≡ true
    kind : kind_of command < 2
    met : rank_opens p.timing s.flight.last (rank_of command) ≤ s.cycle + 1
    new : last ≡ activate_at s.cycle (rank_of command) (kind_of command)

  -- none is, and the last activate stays
  abbrev Rests : ℕ → ℕ → Type 0
  Rests command last = (is_offer command ≡ false) × (last ≡ s.flight.last)

  abbrev Either : ℕ → ℕ → Type 0
  Either command last = Rests command last ⊎ Sends command last

  -- and a tick is counted if it is one
  record Moves (w : ℕ) (a : Answer) : Type 0 where
    counts : a.state.cycle ≡ s.cycle + cond (eqb w 0 && eqb a.status 0) 1 0
    moves : Either a.command a.state.flight.last

  abbrev bus : Bus
  bus = bus_at p s (turns_at p s.cycle s.queues.lengths s.turns).turns

  module _ (fits : in_range p s ≡ true) where
    range : BusRange p.classes bus
    range = tick-bus p s (ranged p s fits)

    -- the one that goes has its rank gap met
    gap-met : can_activate bus ≡ true → rank_opens p.timing s.flight.last (rank_of (going bus)) ≤ s.cycle + 1
    unfolding gaps_met gaps_met_by rank_gap_met
    gap-met goes =
        leb-true _ (s.cycle + 1) (and-three (gap_met _ _ s.cycle) (rank_gap_met p.timing s.flight.last (rank_of (going bus)) s.cycle) (gap_met _ _ s.cycle) (goes-met p.classes bus range goes)).1

    sends : can_activate bus ≡ true → Sends (going bus) (request_sent bus).flight.last
    unfolding activated
    sends goes =
        let sound = goes-sound p.classes bus range goes in
        record {
          offer = sound-offer p.classes p.timing.ranks (going bus) sound;
          kind = sound-kind p.classes p.timing.ranks (going bus) sound;
          met = gap-met goes;
          new = refl;
        }

    driven : Either (command_number (drive bus).wires) (drive bus).flight.last
    unfolding command_number
    driven =
        outcome bus (λ d. Either (command_number d.wires) d.flight.last)
        (λ due. inl (column-no-request p.classes bus range due, refl))
        (λ due goes. inr (subst (λ (x : ℕ). Sends x (request_sent bus).flight.last) (sym (request-shown p.classes bus range goes)) (sends goes)))
        (λ due stays. inl (zero-no-offer, refl))

    one_call : (w : ℕ) → Moves w (answer_to p s w)
    unfolding after_tick answered silent offer_on command_number
    one_call =
        let still : s.cycle ≡ s.cycle + 0 = omega arith in
        any-call p s fits Moves
        (λ left. record { counts = refl; moves = driven })
        (λ late. record { counts = still; moves = inl (zero-no-offer, refl) })
        (λ w other offer. record { counts = still ∙ ap (λ (b : Bool). s.cycle + cond b 1 0) (sym (and-fails-left (eqb w 0) _ other)); moves = inl (zero-no-offer, refl) })
        (λ w other none. record { counts = still ∙ ap (λ (b : Bool). s.cycle + cond b 1 0) (sym (and-fails-left (eqb w 0) _ other)); moves = inl (zero-no-offer, refl) })

-- ---- the rank gap, of a list of calls

module _ (p : Policy) where
  -- what is shown of a list's activates: the first has its rank gap met after the last activate before the list, and each other after the one before it
  record Spaced (last : ℕ) (words at : List ℕ) : Type 0 where
    first : 0 < length words → rank_opens p.timing last (rank_of (get_or words 0 0)) ≤ get_or at 0 0 + 1
    next : (i : ℕ) → suc i < length words → ((rank_of (get_or words i 0) ≡ rank_of (get_or words (suc i) 0)) → ⊥) → get_or at i 0 + p.timing.rank ≤ get_or at (suc i) 0

  -- the rank gap after an activate at a tick on another rank
  opens-new : (t rank kind other : ℕ) → rank < 4 → kind < 2 → ((rank ≡ other) → ⊥) → rank_opens p.timing (activate_at t rank kind) other ≡ t + 1 + p.timing.rank
  unfolding rank_opens opens_at
  opens-new t rank kind other m k apart =
      let last = activate_at t rank kind in
      rw (ne_eqb (activate_rank last) other (λ e. apart (sym (rank-new t rank kind m k) ∙ e)), some-new t rank kind) (ap (λ (x : ℕ). x + p.timing.rank) (next-new t rank kind m k))

  -- one more activate before them
  one_more : (last t w : ℕ) (words at : List ℕ) → kind_of w < 2 → rank_opens p.timing last (rank_of w) ≤ t + 1 → Spaced (activate_at t (rank_of w) (kind_of w)) words at → Spaced last (w ∷ words) (t ∷ at)
  one_more last t w words at kind met rest = record { first = λ some. met; next = after }
    where
      after : (i : ℕ) → suc i < length (w ∷ words) → ((rank_of (get_or (w ∷ words) i 0) ≡ rank_of (get_or words i 0)) → ⊥) → get_or (t ∷ at) i 0 + p.timing.rank ≤ get_or at i 0
      after zero inside apart =
          let opens = opens-new t (rank_of w) (kind_of w) (rank_of (get_or words 0 0)) (rank-small w) kind apart in
          omega (arith, opens, rest.first (omega (arith, inside)))
      after (suc i) inside apart = rest.next i (omega (arith, inside)) apart

  spaced : (ws : List ℕ) (s : State) → in_range p s ≡ true → Spaced s.flight.last (activations ws (log_of p s ws)) (activation_ticks s.cycle ws (log_of p s ws))
  unfolding activations commands_in those activation_ticks log_of
  spaced [] s fits = record { first = λ none. absurd (not-suc-le-zero none); next = λ i none apart. absurd (not-suc-le-zero none) }
  spaced (w ∷ ws) s fits =
      let a = answer_to p s w in
      let call = one_call p s fits w in
      let words = activations ws (log_of p a.state ws) in
      let at = activation_ticks a.state.cycle ws (log_of p a.state ws) in
      let rest = spaced ws a.state (answered-in-range p s w fits) in
      let ticks : activation_ticks (s.cycle + cond (eqb w 0 && eqb a.status 0) 1 0) ws (log_of p a.state ws) ≡ at =
      sym (ap (λ (t : ℕ). activation_ticks t ws (log_of p a.state ws)) call.counts)
      in
      subst (λ (l : List ℕ). Spaced s.flight.last (only_if (is_offer a.command) a.command ++ words) (only_if (is_offer a.command) s.cycle ++ l)) (sym ticks)
      (⊎_elim
      (λ stays.
      let none : (x : ℕ) → only_if (is_offer a.command) x ≡ [] = λ x. none_of (is_offer a.command) x stays.0 in
      subst (λ (l : List ℕ). Spaced s.flight.last (l ++ words) (only_if (is_offer a.command) s.cycle ++ at)) (sym (none a.command))
      (subst (λ (l : List ℕ). Spaced s.flight.last words (l ++ at)) (sym (none s.cycle)) (subst (λ (x : ℕ). Spaced x words at) stays.1 rest)))
      (λ goes.
      let one : (x : ℕ) → only_if (is_offer a.command) x ≡ x ∷ [] = λ x. only (is_offer a.command) x goes.offer in
      subst (λ (l : List ℕ). Spaced s.flight.last (l ++ words) (only_if (is_offer a.command) s.cycle ++ at)) (sym (one a.command))
      (subst (λ (l : List ℕ). Spaced s.flight.last (a.command ∷ words) (l ++ at)) (sym (one s.cycle))
      (one_more s.flight.last s.cycle a.command words at goes.kind goes.met (subst (λ (x : ℕ). Spaced x words at) goes.new rest))))
      call.moves)

  rank_gap_kept : policy_in_range p ≡ true → RankGapKept p
  unfolding fresh_state state_at_start
  rank_gap_kept given ws = (spaced ws (fresh_state p) (fresh-fits p given)).next

-- ---- one rank

-- a number below bit 22 has both bits 0
low_bits : (x : ℕ) → x < 4194304 → rank_of x ≡ 0
unfolding rank_of
low_bits x small = omega (arith, small)

-- so has a refusal's number
status-low : (a b c : Bool) → cond a (cond b (cond c 0 11) 10) 9 < 4194304
status-low true true true = lit< tt
status-low true true false = lit< tt
status-low true false c = lit< tt
status-low false b c = lit< tt

-- and a turn's number
turn_low : (p : Policy) (t owner : ℕ) (elided : Bool) (tried : ℕ) → owner < 16 → tried ≤ 17 → cond (turn_starts p t) (turn_word owner elided tried) 0 < 4194304
unfolding turn_word
turn_low p t owner elided tried small few =
    let most : cond elided 256 0 ≤ 256 = ⊎_elim (λ e. rw e (omega arith)) (λ e. rw e (omega arith)) (either elided) in
    ⊎_elim (λ e. rw e (omega (arith, small, few, most))) (λ e. rw e (lit< tt)) (either (turn_starts p t))

-- bit 30 is none of them
column-rank : (w : ℕ) → rank_of (column_number w) ≡ rank_of w
unfolding rank_of column_number
column-rank w = omega arith

module _ (p : Policy) (one : p.timing.ranks ≡ 1) where
  -- a word that 10 lets through is on rank 0
  on-zero : (w : ℕ) → sound_word p.classes p.timing.ranks w ≡ true → rank_of w ≡ 0
  on-zero w fits = let under = sound-rank p.classes p.timing.ranks w fits in omega (arith, under, one)

  -- a call's four numbers
  record Clear (a : Answer) : Type 0 where
    status : rank_of a.status ≡ 0
    command : rank_of a.command ≡ 0
    response : rank_of a.response ≡ 0
    turn : rank_of a.turn ≡ 0

  none : rank_of 0 ≡ 0
  none = low_bits 0 (lit< tt)

  module _ (s : State) (fits : in_range p s ≡ true) where
    going-zero : can_activate (bus p s) ≡ true → rank_of (going (bus p s)) ≡ 0
    going-zero goes = on-zero (going (bus p s)) (goes-sound p.classes (bus p s) (range p s fits) goes)

    -- what is due is a sound word, or none
    due-zero : (bound : ℕ) (pending : List ℕ) → ((due_at pending (s.cycle + 0) ≡ 0) ⊎ ((0 < bound) × (sound_word p.classes p.timing.ranks (due_at pending (s.cycle + 0)) ≡ true))) → rank_of (due_at pending s.cycle) ≡ 0
    due-zero bound pending due =
        let now : s.cycle + 0 ≡ s.cycle = omega arith in
        subst (λ (t : ℕ). rank_of (due_at pending t) ≡ 0) now (⊎_elim (λ e. ap rank_of e ∙ none) (λ some. on-zero (due_at pending (s.cycle + 0)) some.1) due)

    command-zero : rank_of (command_number (drive (bus p s)).wires) ≡ 0
    unfolding command_number
    command-zero =
        let b = bus p s in
        outcome b (λ d. rank_of (command_number d.wires) ≡ 0)
        (λ due.
        ap rank_of (column-shown p.classes b (range p s fits) due)
        ∙ column-rank (due_column b)
        ∙ due-zero p.timing.column s.flight.columns ((range p s fits).flight.columns_due 0 (lit< tt)))
        (λ due goes. ap rank_of (request-shown p.classes b (range p s fits) goes) ∙ going-zero goes)
        (λ due stays. none)

    response-zero : rank_of (due_at (drive (bus p s)).flight.responses s.cycle) ≡ 0
    unfolding activated due_at
    response-zero =
        let b = bus p s in
        let flight = (range p s fits).flight in
        let old = due-zero p.timing.response s.flight.responses (flight.responses_due 0 (lit< tt)) in
        outcome b (λ d. rank_of (due_at d.flight.responses s.cycle) ≡ 0) (λ due. old)
        (λ due goes.
        stored_at (λ x. rank_of x ≡ 0) s.flight.responses ((s.cycle + p.timing.response) % 32) (going b) (s.cycle % 32)
        (subst (λ (n : ℕ). (s.cycle + p.timing.response) % 32 < n) (sym flight.responses_long) (omega arith))
        (λ here. going-zero goes) (λ other. old))
        (λ due stays. old)

    clear : (w : ℕ) → Clear (answer_to p s w)
    unfolding after_tick silent offer_on offer_status command_number
    clear =
        let start = turns_at p s.cycle s.queues.lengths s.turns in
        any-call p s fits (λ w. Clear)
        (λ left.
        record {
          status = none;
          command = command-zero;
          response = response-zero;
          turn =
              ap rank_of (turn-shown p s.cycle s.queues.lengths s.turns)
              ∙ low_bits _ (turn_low p s.cycle start.turns.owner start.turns.elided (tried_at p s.cycle s.queues.lengths s.turns) (range p s fits).owner_small (tried-few _ 16 s.turns.pointers _));
        })
        (λ late. record { status = low_bits 12 (lit< tt); command = none; response = none; turn = none })
        (λ w other offer.
        let r = request_of w in
        record {
          status = low_bits _ (status-low (class_fits s.classes r) (bank_kind_rank_fit p.timing.ranks r) (ltb (get_or s.queues.lengths r.class 0) 8));
          command = none;
          response = none;
          turn = none;
        })
        (λ w other malformed. record { status = low_bits 14 (lit< tt); command = none; response = none; turn = none })

  log-clear : (ws : List ℕ) (s : State) → in_range p s ≡ true → (i : ℕ) → rank_of (get_or (log_of p s ws) i 0) ≡ 0
  unfolding log_of
  log-clear [] s fits i = none
  log-clear (w ∷ ws) s fits zero = (clear s fits w).status
  log-clear (w ∷ ws) s fits (suc zero) = (clear s fits w).command
  log-clear (w ∷ ws) s fits (suc (suc zero)) = (clear s fits w).response
  log-clear (w ∷ ws) s fits (suc (suc (suc zero))) = (clear s fits w).turn
  log-clear (w ∷ ws) s fits (suc (suc (suc (suc i)))) = log-clear ws (answer_to p s w).state (answered-in-range p s w fits) i

  -- the last activate of all is on rank 0 too
  last-zero : (ws : List ℕ) (s : State) → in_range p s ≡ true → activate_rank s.flight.last ≡ 0 → activate_rank (state_after p s ws).flight.last ≡ 0
  unfolding state_after
  last-zero [] s fits zero-before = zero-before
  last-zero (w ∷ ws) s fits zero-before =
      let a = answer_to p s w in
      last-zero ws a.state (answered-in-range p s w fits)
      (⊎_elim (λ stays. ap activate_rank stays.1 ∙ zero-before)
      (λ goes. ap activate_rank goes.new ∙ rank-new s.cycle (rank_of a.command) (kind_of a.command) (rank-small a.command) goes.kind ∙ (clear s fits w).command)
      (one_call p s fits w).moves)

  module _ (s : State) (fits : in_range p s ≡ true) (last : activate_rank s.flight.last ≡ 0) (c k : ℕ) (small : c < 16) (waits : k < length_of s.queues c) where
    abbrev w : ℕ
    w = waiting_at s.queues c k

    waits-sound : sound_word p.classes p.timing.ranks w ≡ true
    waits-sound = right-sound p.classes p.timing.ranks c w (((ranged p s fits).queues.queue c small).right k waits)

    waits-zero : rank_of w ≡ 0
    waits-zero = on-zero w waits-sound

    not_asked : rank_opens p.timing s.flight.last (rank_of w) ≡ 0
    unfolding rank_opens
    not_asked = rw (eq-eqb (activate_rank s.flight.last) (rank_of w) (last ∙ sym waits-zero))

    same_place : bank_place w ≡ bank_of w
    unfolding bank_place
    same_place = omega (arith, waits-zero, sound-bank p.classes p.timing.ranks w waits-sound)

    same_gaps : (t : ℕ) → gaps_met p.timing s.flight w t ≡ gaps_before p s.flight w t
    unfolding gaps_met gaps_met_by rank_gap_met
    same_gaps t =
        let f = s.flight in
        let kinds = gap_met f.last (kind_gap p.timing f.last (kind_of w)) t in
        let of-bank : ℕ → Bool = λ b. gap_met (get_or f.banks b 0) (bank_gap p.timing (get_or f.banks b 0)) t in
        ap₂ (λ (k b : ℕ). kinds && leb k (t + 1) && of-bank b) not_asked same_place ∙ ap (λ (b : Bool). kinds && b && of-bank (bank_of w)) (le-leb 0 (t + 1) zero-le)
        ∙ ap (λ (b : Bool). b && of-bank (bank_of w)) (and-true kinds)

    as_before : GapsAsBefore p s c k
    as_before = record { not_asked = not_asked; same_gaps = same_gaps; same_place = same_place }

  -- there was none in a fresh state
  fresh-last : activate_rank (fresh_state p).flight.last ≡ 0
  unfolding fresh_state state_at_start nothing_in_flight activate_rank
  fresh-last = refl

  ten_bytes : policy_in_range p ≡ true → TenByteLogs p
  unfolding is_offer rank_of bank_kind_rank_fit request_of
  ten_bytes given =
      let fits = fresh-fits p given in
      record {
        no_rank_shown = λ ws. log-clear ws (fresh_state p) fits;
        gaps_as_before =
            λ ws c k class waits.
            as_before (state_after p (fresh_state p) ws) (after-in-range p (fresh_state p) ws fits) (last-zero ws (fresh_state p) fits fresh-last) c k ((policy-laws p given).order.class_small c class) waits;
        form_as_before = λ w zero_rank. sym (ap (λ (b : Bool). eqb (w / 536870912) 4 && b) (eq-eqb (w / 4194304 % 4) 0 zero_rank) ∙ and-true (eqb (w / 536870912) 4));
        refused_as_before =
            λ w zero_rank.
            let fits = leb (bank_of w) 7 && leb (kind_of w) 1 in
            ap (λ (b : Bool). fits && b) (lt-ltb (rank_of w) p.timing.ranks (omega (arith, zero_rank, one))) ∙ and-true fits;
      }

-- ---- all of them

pub ranks : (p : Policy) → policy_in_range p ≡ true → Ranks p
ranks p given = record { rank_gap_kept = rank_gap_kept p given; ten_bytes = λ one. ten_bytes p one given }
