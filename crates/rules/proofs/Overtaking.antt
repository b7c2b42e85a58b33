-- W-203's promises. What one call does to the requests of a class: it leaves them, but for an offer that is taken at their end, or one of them goes. The one that goes is the oldest whose gaps are met, so none older
-- of its rank, bank and kind waits, and each that passes the oldest is counted. Then by going through the list.
-- Assumes nothing.
use mathlib.Core.Path.{◌≡◌, refl, sym, ap, ap₂, ◌∙◌, subst}
use mathlib.Core.Logic.{◌⊎◌, ◌≢◌, inl, inr, ⊎_elim}
use mathlib.Core.Bool.{Bool, true, false, cond, ◌&&◌}
use mathlib.Core.List.{List, [], ◌∷◌, ◌++◌, append_assoc, append-nil}
use Prim.Native.Nat.{ℕ, suc, ◌+◌, ◌-◌, ◌≤◌, ◌<◌, zero-le, suc-le-suc}
use native.Mathlib.Nat.{not-suc-le-zero}
use native.Mathlib.Omega.{arith}
use borrow.Author.Tests.{eqb-true, eqb-false, eq-eqb, lt-ltb}
use lib.Arith.{lt_of_le-ne}
use lib.Dec.{ltb, eqb}
use lib.ListN.{length, get_or, take, drop, length-append}
use lib.Seq.{split_at, get_or-take, length-take-le}
use Rattle.policy.specs.Policy.{is_class, in_range as policy_in_range}
use Rattle.policy.specs.declared.Policy.{Policy}
use Rattle.basics.proofs.Truth.{either, false-unless, not-both, and_left, and_right, and_both, and-four, and-fails-left, and-fails-right, or_right, on-true, on-false}
use Rattle.basics.specs.Below.{list_of}
use Rattle.basics.proofs.Below.{length-list_of, get_or-list_of}
use Rattle.policy.proofs.Laws.{policy-laws}
use Rattle.requests.specs.Word.{class_of, rank_of, kind_of, bank_of, bank_place, request_of, word_of, is_offer, class_fits, bank_kind_rank_fit, command_number}
use Rattle.requests.specs.declared.Request.{Request}
use Rattle.requests.proofs.Word.{place_same, word_back}
use Rattle.queues.specs.Waiting.{length_of, passed_of, waiting_at, waiting}
use Rattle.queues.specs.declared.Queues.{Queues}
use Rattle.flight.specs.Flight.{due_at}
use Rattle.state.specs.Fresh.{empty_queues, state_at_start, fresh_state}
use Rattle.state.specs.Range.{in_range}
use Rattle.state.specs.declared.State.{State}
use Rattle.rules.specs.Queue.{enqueue, passed_after, offer_status, queues_after}
use Rattle.rules.specs.Wire.{gaps_met_by, gaps_met}
use Rattle.rules.specs.Step.{turns_at, TurnStart, Driven, Bus, may_go, goes_at, going, can_activate, column_sent, request_sent, nothing_sent, drive, answered}
use Rattle.rules.specs.Call.{offer_on, bus_at, after_tick, silent}
use Rattle.rules.specs.Calls.{Answer, offered, answer_to, state_after, log_of}
use Rattle.rules.specs.Overtaking.{only_if, those, of_class, of_stream, taken_offers, commands_in, activations, Overtaking}
use Rattle.rules.proofs.Queue.{enqueue-passed, enqueue-end, enqueue_beside, dequeue-closes, dequeue_beside, dequeue-passed, dequeue-else-passed}
use Rattle.rules.proofs.Step.{outcome}
use Rattle.rules.proofs.Range.{ranged, small-classes, right-class, sound-offer, BusRange, goes-waits, goes_first, goes-past, going-right, goes-sound, goes-met, request-shown, column-no-request}
use Rattle.rules.proofs.CallsKept.{below-sixteen, room, taken, tick-bus, zero-at, fresh-fits}
use Rattle.rules.proofs.SingleCalls.{any-call}
use Rattle.rules.proofs.Calls.{answered-in-range, after-in-range}

-- ---- those numbers of a list at which a test passes

module _ (f : ℕ → Bool) where
  those-append : (xs ys : List ℕ) → those f (xs ++ ys) ≡ those f xs ++ those f ys
  unfolding those
  those-append [] ys = refl
  those-append (x ∷ xs) ys = ap (λ (l : List ℕ). only_if (f x) x ++ l) (those-append xs ys) ∙ sym (append_assoc (only_if (f x) x) (those f xs) (those f ys))

  -- where it passes at none
  those-none : (xs : List ℕ) → ((i : ℕ) → i < length xs → f (get_or xs i 0) ≡ false) → those f xs ≡ []
  unfolding those only_if
  those-none [] h = refl
  those-none (x ∷ xs) h = rw (h 0 (suc-le-suc zero-le)) (those-none xs (λ i l. h (suc i) (suc-le-suc l)))

  -- where there is one number at most
  those-if : (b : Bool) (w : ℕ) → those f (only_if b w) ≡ only_if (b && f w) w
  unfolding those only_if
  those-if true w = append-nil (only_if (f w) w)
  those-if false w = refl

pub only : (b : Bool) (w : ℕ) → b ≡ true → only_if b w ≡ w ∷ []
unfolding only_if
only b w e = rw e

pub none_of : (b : Bool) (w : ℕ) → b ≡ false → only_if b w ≡ []
unfolding only_if
none_of b w e = rw e

class-is : {c : ℕ} (w : ℕ) → of_class c w ≡ true → class_of w ≡ c
unfolding of_class
class-is {c} w e = eqb-true (class_of w) c e

is-class : {c : ℕ} (w : ℕ) → class_of w ≡ c → of_class c w ≡ true
unfolding of_class
is-class {c} w e = eq-eqb (class_of w) c e

-- ---- one call, seen by a class

-- how long the class's list is, and what stands in it
waiting-long : (q : Queues) (c : ℕ) → length (waiting q c) ≡ length_of q c
unfolding waiting
waiting-long q c = length-list_of (waiting_at q c) (length_of q c)

waiting-there : (q : Queues) (c i : ℕ) → i < length_of q c → get_or (waiting q c) i 0 ≡ waiting_at q c i
unfolding waiting
waiting-there q c i l = get_or-list_of (waiting_at q c) (length_of q c) i l

module _ (p : Policy) (c : ℕ) (s : State) (w : ℕ) where
  -- none of its requests goes, and an offer of it that is taken comes to the end
  record Quiet (a : Answer) : Type 0 where
    not-its : is_offer a.command ≡ true → class_of a.command ≡ c → ⊥
    requests : waiting a.state.queues c ≡ waiting s.queues c ++ those (of_class c) (only_if (is_offer w && eqb a.status 0) w)
    count : passed_of a.state.queues c ≡ passed_of s.queues c

  -- one of its requests goes: no older one has its rank, bank and kind, and where it is not the oldest fewer than 15 have passed that
  record Goes (a : Answer) : Type 0 where
    place : ℕ
    waits : place < length_of s.queues c
    its : a.command ≡ waiting_at s.queues c place
    sound : is_offer a.command ≡ true
    class : class_of a.command ≡ c
    others : (j : ℕ) → j < place → rank_of (waiting_at s.queues c j) ≡ rank_of a.command → bank_of (waiting_at s.queues c j) ≡ bank_of a.command → kind_of (waiting_at s.queues c j) ≡ kind_of a.command → ⊥
    few : ((place ≡ 0) → ⊥) → passed_of s.queues c < 15
    no-offer : is_offer w ≡ false
    requests : waiting a.state.queues c ≡ take place (waiting s.queues c) ++ drop (place + 1) (waiting s.queues c)
    count : passed_of a.state.queues c ≡ passed_after place (passed_of s.queues c)

  abbrev Seen : Answer → Type 0
  Seen a = Quiet a ⊎ Goes a

  -- then nothing is activated that is of the class, whatever else is asked of it
  none-goes : (a : Answer) → Quiet a → (f : ℕ → Bool) → ((x : ℕ) → f x ≡ true → of_class c x ≡ true) → those f (only_if (is_offer a.command) a.command) ≡ []
  none-goes a quiet f of-class =
      let x = a.command in
      those-if f (is_offer x) x
      ∙ none_of (is_offer x && f x) x
      (false-unless (is_offer x && f x) (λ t. quiet.not-its (and_left (is_offer x) (f x) t) (class-is x (of-class x (and_right (is_offer x) (f x) t)))))

  -- where the queues stay and nothing is activated
  still : (a : Answer) → a.state.queues ≡ s.queues → is_offer a.command ≡ false → (is_offer w && eqb a.status 0) ≡ false → Quiet a
  unfolding those
  still a same none refused =
      record {
        not-its = λ offer its. not-both offer none;
        requests = ap (λ (q : Queues). waiting q c) same ∙ sym (ap (λ (l : List ℕ). waiting s.queues c ++ those (of_class c) l) (none_of (is_offer w && eqb a.status 0) w refused) ∙ append-nil (waiting s.queues c));
        count = ap (λ (q : Queues). passed_of q c) same;
      }

pub zero-no-offer : is_offer 0 ≡ false
unfolding is_offer
zero-no-offer = refl

-- so a tick is none that could be taken, whatever its status
no-offer : (status : ℕ) → (is_offer 0 && eqb status 0) ≡ false
no-offer status = and-fails-left (is_offer 0) (eqb status 0) zero-no-offer

-- ---- an offer

module _ (p : Policy) (c : ℕ) (s : State) (w : ℕ) (fits : in_range p s ≡ true) (offer : is_offer w ≡ true) where
  abbrev made : Request
  made = request_of w

  abbrev left-by : Answer
  left-by = offered (offer_on p.timing.ranks s made)

  -- the word's class is the request's
  its-class : of_class c w ≡ eqb made.class c
  unfolding of_class request_of
  its-class = refl

  offer-quiet : Quiet p c s w left-by
  unfolding offer_on queues_after offer_status
  offer-quiet =
      let q = s.queues in
      let d = made.class in
      let n = s.classes in
      let status = eqb (offer_status n p.timing.ranks q.lengths made) 0 in
      let after = enqueue q d (word_of made) in
      let r = ranged p s fits in
      ⊎_elim
      (λ e.
      let ok = taken (class_fits n made) (bank_kind_rank_fit p.timing.ranks made) (ltb (get_or q.lengths d 0) 8) e in
      let small = below-sixteen n made (small-classes p s r) ok.0 in
      let now : left-by.state.queues ≡ after = on-true status after q e in
      let kept : (is_offer w && status) ≡ true = and_both offer e in
      let new : those (of_class c) (only_if (is_offer w && status) w) ≡ only_if (of_class c w) w =
      ap (λ (b : Bool). those (of_class c) (only_if b w)) kept ∙ those-if (of_class c) true w
      in
      let at_end : waiting after c ≡ waiting q c ++ only_if (of_class c w) w =
      ⊎_elim
      (λ same.
      subst (λ (k : ℕ). waiting after k ≡ waiting q k ++ only_if (of_class c w) w) (eqb-true d c same)
      (enqueue-end q d small r.queues.slots_long r.queues.heads_long r.queues.lengths_long (word_of made) (room q d ok.2)
      ∙ ap (λ (x : ℕ). waiting q d ++ (x ∷ [])) (word_back w offer)
      ∙ sym (ap (λ (l : List ℕ). waiting q d ++ l) (only (of_class c w) w (its-class ∙ same)))))
      (λ other.
      enqueue_beside q d c (λ e. eqb-false d c other (sym e)) (word_of made)
      ∙ sym (ap (λ (l : List ℕ). waiting q c ++ l) (none_of (of_class c w) w (its-class ∙ other)) ∙ append-nil (waiting q c)))
      (either (eqb d c))
      in
      record {
        not-its = λ is its. not-both is zero-no-offer;
        requests = ap (λ (x : Queues). waiting x c) now ∙ at_end ∙ ap (λ (l : List ℕ). waiting q c ++ l) (sym new);
        count = ap (λ (x : Queues). passed_of x c) now ∙ enqueue-passed q d (word_of made) c;
      })
      (λ e. still p c s w left-by (on-false status after q e) zero-no-offer (and-fails-right (is_offer w) status e))
      (either status)

-- ---- a tick

module _ (p : Policy) (c : ℕ) (small : c < 16) (s : State) (fits : in_range p s ≡ true) where
  abbrev start : TurnStart
  start = turns_at p s.cycle s.queues.lengths s.turns

  abbrev bus : Bus
  bus = bus_at p s start.turns

  abbrev owner : ℕ
  owner = start.turns.owner

  abbrev q : Queues
  q = s.queues

  range : BusRange p.classes bus
  range = tick-bus p s (ranged p s fits)

  -- what a tick answers, of what the second step left
  abbrev answers : Driven → Answer
  answers d =
      record {
        state = record { cycle = s.cycle + 1; classes = s.classes; queues = d.queues; turns = start.turns; flight = answered s.cycle d.flight };
        status = 0;
        command = command_number d.wires;
        response = due_at d.flight.responses s.cycle;
        turn = start.shown;
      }

  module _ (goes : can_activate bus ≡ true) where
    there : goes_at bus < length_of q owner
    there = goes-waits p.classes bus range goes

    offers : is_offer (going bus) ≡ true
    offers = sound-offer p.classes p.timing.ranks (going bus) (goes-sound p.classes bus range goes)

    -- of requests with one rank, one bank and one kind the gaps are met together
    together : (j : ℕ) → rank_of (waiting_at q owner j) ≡ rank_of (going bus) → bank_of (waiting_at q owner j) ≡ bank_of (going bus) → kind_of (waiting_at q owner j) ≡ kind_of (going bus)
        → gaps_met p.timing s.flight (waiting_at q owner j) s.cycle ≡ gaps_met p.timing s.flight (going bus) s.cycle
    unfolding gaps_met
    together j rank bank kind =
        ap₂ (λ (r at : ℕ). gaps_met_by p.timing s.flight.last (get_or s.flight.banks at 0) r (kind_of (waiting_at q owner j)) s.cycle) rank (place_same (waiting_at q owner j) (going bus) rank bank)
        ∙ ap (λ (k : ℕ). gaps_met_by p.timing s.flight.last (get_or s.flight.banks (bank_place (going bus)) 0) (rank_of (going bus)) k s.cycle) kind

    -- so none older with the rank, bank and kind of the one that goes waits: it would go
    none-older : (j : ℕ) → j < goes_at bus → rank_of (waiting_at q owner j) ≡ rank_of (going bus) → bank_of (waiting_at q owner j) ≡ bank_of (going bus) → kind_of (waiting_at q owner j) ≡ kind_of (going bus) → ⊥
    unfolding may_go going
    none-older j older rank bank kind =
        let k = goes_at bus in
        let first = goes_first p.classes bus range goes in
        let few = goes-past p.classes bus range goes (λ e. not-suc-le-zero {n = j} (subst (λ (n : ℕ). j < n) e older)) in
        not-both (and_both (or_right (eqb j 0) (ltb (passed_of q owner) 15) (lt-ltb (passed_of q owner) 15 few)) (together j rank bank kind ∙ goes-met p.classes bus range goes)) (first.fails_before j older)

    -- the command is its word
    sent : command_number (request_sent bus).wires ≡ going bus
    sent = request-shown p.classes bus range goes

    class-sent : class_of (command_number (request_sent bus).wires) ≡ owner
    class-sent = ap class_of sent ∙ right-class p.classes p.timing.ranks owner (going bus) (going-right p.classes bus range there)

    owner-goes : Goes p owner s 0 (answers (request_sent bus))
    unfolding going
    owner-goes =
        let k = goes_at bus in
        let r = range.queues in
        let in-passed = subst (λ (n : ℕ). owner < n) (sym r.passed_long) range.owner_small in
        record {
          place = k;
          waits = there;
          its = sent;
          sound = ap is_offer sent ∙ offers;
          class = class-sent;
          others = λ j older rank bank kind. none-older j older (rank ∙ ap rank_of sent) (bank ∙ ap bank_of sent) (kind ∙ ap kind_of sent);
          few = goes-past p.classes bus range goes;
          no-offer = zero-no-offer;
          requests = dequeue-closes q owner range.owner_small r.slots_long r.heads_long r.lengths_long k there (r.queue owner range.owner_small).short;
          count = dequeue-passed q owner k in-passed;
        }

    -- and for another class nothing changes
    others-stay : ((owner ≡ c) → ⊥) → Quiet p c s 0 (answers (request_sent bus))
    unfolding those
    others-stay apart =
        let k = goes_at bus in
        let other : c ≢ owner = λ e. apart (sym e) in
        record {
          not-its = λ offer its. apart (sym class-sent ∙ its);
          requests = dequeue_beside q owner c other k ∙ sym (ap (λ (l : List ℕ). waiting q c ++ those (of_class c) l) (none_of (is_offer 0 && eqb 0 0) 0 (no-offer 0)) ∙ append-nil (waiting q c));
          count = dequeue-else-passed q owner k c other;
        }

  tick-seen : Seen p c s 0 (answers (drive bus))
  unfolding command_number
  tick-seen =
      outcome bus (λ d. Seen p c s 0 (answers d))
      (λ due. inl (still p c s 0 (answers (column_sent bus)) refl (column-no-request p.classes bus range due) (no-offer 0)))
      (λ due goes.
      ⊎_elim
      (λ its. inr (subst (λ (k : ℕ). Goes p k s 0 (answers (request_sent bus))) (eqb-true owner c its) (owner-goes goes)))
      (λ other. inl (others-stay goes (eqb-false owner c other)))
      (either (eqb owner c)))
      (λ due stays. inl (still p c s 0 (answers (nothing_sent bus)) refl zero-no-offer (no-offer 0)))

-- ---- any call

one_call : (p : Policy) (c : ℕ) → c < 16 → (s : State) (w : ℕ) → in_range p s ≡ true → Seen p c s w (answer_to p s w)
unfolding after_tick silent command_number
one_call p c small s w fits =
    any-call p s fits (Seen p c s) (λ left. tick-seen p c small s fits)
    (λ late. inl (still p c s 0 _ refl zero-no-offer (no-offer 12)))
    (λ x other offer. inl (offer-quiet p c s x fits offer))
    (λ x other none. inl (still p c s x _ refl zero-no-offer (and-fails-left (is_offer x) (eqb 14 0) none)))
    w

-- ---- order within a rank, bank and kind

module _ (c rank bank kind w : ℕ) (e : of_stream c rank bank kind w ≡ true) where
  -- a request of a class's rank, bank and kind is one of the class's, and has them
  parts : (of_class c w ≡ true) × (eqb (rank_of w) rank ≡ true) × (eqb (bank_of w) bank ≡ true) × (eqb (kind_of w) kind ≡ true)
  unfolding of_stream
  parts = and-four (of_class c w) (eqb (rank_of w) rank) (eqb (bank_of w) bank) (eqb (kind_of w) kind) e

  stream-class : of_class c w ≡ true
  stream-class = parts.0

  stream-rank : rank_of w ≡ rank
  stream-rank = eqb-true (rank_of w) rank parts.1

  stream-bank : bank_of w ≡ bank
  stream-bank = eqb-true (bank_of w) bank parts.2

  stream-kind : kind_of w ≡ kind
  stream-kind = eqb-true (kind_of w) kind parts.3

-- a test that passes only where another does: asking the other first makes no difference
asked-before : (a b x : Bool) → ((x ≡ true) → b ≡ true) → (a && b && x) ≡ (a && x)
asked-before true b true h = ap (λ (y : Bool). true && y && true) (h refl)
asked-before false b true h = refl
asked-before a b false h = and-fails-right (a && b) false refl ∙ sym (and-fails-right a false refl)

-- a request goes past older ones, or there is none of its rank, bank and kind among them
pass : (older one younger : List ℕ) → (older ≡ []) ⊎ (one ≡ []) → (older ++ (one ++ younger)) ++ [] ≡ one ++ (older ++ younger)
pass older one younger apart =
    append-nil (older ++ (one ++ younger))
    ∙ ⊎_elim
    (λ e. ap (λ (l : List ℕ). l ++ (one ++ younger)) e ∙ sym (ap (λ (l : List ℕ). one ++ (l ++ younger)) e))
    (λ e. ap (λ (l : List ℕ). older ++ (l ++ younger)) e ∙ sym (ap (λ (l : List ℕ). l ++ (older ++ younger)) e))
    apart

module _ (p : Policy) (c : ℕ) (small : c < 16) (rank bank kind : ℕ) where
  abbrev stream : ℕ → Bool
  stream = of_stream c rank bank kind

  -- one call: what waited and what was taken is what was activated and what waits
  one-step : (s : State) (w : ℕ) (a : Answer) → Seen p c s w a
      → those stream (waiting s.queues c) ++ those stream (only_if (is_offer w && eqb a.status 0) w) ≡ those stream (only_if (is_offer a.command) a.command) ++ those stream (waiting a.state.queues c)
  unfolding those
  one-step s w a (inl quiet) =
      let b = is_offer w && eqb a.status 0 in
      let new : those stream (those (of_class c) (only_if b w)) ≡ those stream (only_if b w) =
      ap (those stream) (those-if (of_class c) b w)
      ∙ those-if stream (b && of_class c w) w
      ∙ ap (λ (x : Bool). only_if x w) (asked-before b (of_class c w) (stream w) (stream-class c rank bank kind w))
      ∙ sym (those-if stream b w)
      in
      sym
      (ap (λ (l : List ℕ). l ++ those stream (waiting a.state.queues c)) (none-goes p c s w a quiet stream (stream-class c rank bank kind))
      ∙ ap (those stream) quiet.requests
      ∙ those-append stream (waiting s.queues c) (those (of_class c) (only_if b w))
      ∙ ap (λ (l : List ℕ). those stream (waiting s.queues c) ++ l) new)
  one-step s w a (inr goes) =
      let q = s.queues in
      let all = waiting q c in
      let k = goes.place in
      let older = take k all in
      let younger = drop (suc k) all in
      let its = a.command in
      let next : k + 1 ≡ suc k = omega arith in
      let inside : k < length all = subst (λ (n : ℕ). k < n) (sym (waiting-long q c)) goes.waits in
      let there : get_or all k 0 ≡ its = waiting-there q c k goes.waits ∙ sym goes.its in
      let waited : those stream all ≡ those stream older ++ (only_if (stream its) its ++ those stream younger) =
      ap (those stream) (split_at all k 0 inside) ∙ those-append stream older (get_or all k 0 ∷ younger) ∙ ap (λ (x : ℕ). those stream older ++ those stream (x ∷ younger)) there
      in
      let left : those stream (waiting a.state.queues c) ≡ those stream older ++ those stream younger =
      ap (those stream) (goes.requests ∙ ap (λ (n : ℕ). older ++ drop n all) next) ∙ those-append stream older younger
      in
      let sent : those stream (only_if (is_offer its) its) ≡ only_if (stream its) its =
      those-if stream (is_offer its) its ∙ ap (λ (b : Bool). only_if (b && stream its) its) goes.sound
      in
      let none-taken : those stream (only_if (is_offer w && eqb a.status 0) w) ≡ [] =
      ap (those stream) (none_of (is_offer w && eqb a.status 0) w (and-fails-left (is_offer w) (eqb a.status 0) goes.no-offer))
      in
      let short : length older ≡ k = length-take-le k all (omega (arith, inside)) in
      let apart : (those stream older ≡ []) ⊎ (only_if (stream its) its ≡ []) =
      ⊎_elim
      (λ yes.
      inl (those-none stream older
      (λ i l.
      let before : i < k = omega (arith, l, short) in
      let at : get_or older i 0 ≡ waiting_at q c i = get_or-take k all i 0 before ∙ waiting-there q c i (omega (arith, before, goes.waits)) in
      false-unless (stream (get_or older i 0))
      (λ t.
      let same = subst (λ (x : ℕ). stream x ≡ true) at t in
      let agree : (f : ℕ → ℕ) (x : ℕ) → ((v : ℕ) → stream v ≡ true → f v ≡ x) → f (waiting_at q c i) ≡ f its = λ f x has. has (waiting_at q c i) same ∙ sym (has its yes) in
      goes.others i before (agree rank_of rank (stream-rank c rank bank kind)) (agree bank_of bank (stream-bank c rank bank kind)) (agree kind_of kind (stream-kind c rank bank kind))))))
      (λ no. inr (none_of (stream its) its no))
      (either (stream its))
      in
      ap₂ ◌++◌ waited none-taken ∙ pass (those stream older) (only_if (stream its) its) (those stream younger) apart ∙ ap₂ ◌++◌ (sym sent) (sym left)

  -- a list of calls
  ordered : (ws : List ℕ) (s : State) → in_range p s ≡ true
      → those stream (waiting s.queues c) ++ those stream (taken_offers ws (log_of p s ws)) ≡ those stream (activations ws (log_of p s ws)) ++ those stream (waiting (state_after p s ws).queues c)
  unfolding taken_offers activations commands_in state_after log_of those
  ordered [] s fits = append-nil (those stream (waiting s.queues c))
  ordered (w ∷ ws) s fits =
      let a = answer_to p s w in
      let next = a.state in
      let before = those stream (waiting s.queues c) in
      let between = those stream (waiting next.queues c) in
      let after = those stream (waiting (state_after p next ws).queues c) in
      let offer = only_if (is_offer w && eqb a.status 0) w in
      let sent = only_if (is_offer a.command) a.command in
      let offers = taken_offers ws (log_of p next ws) in
      let sents = activations ws (log_of p next ws) in
      ap (λ (l : List ℕ). before ++ l) (those-append stream offer offers)
      ∙ sym (append_assoc before (those stream offer) (those stream offers))
      ∙ ap (λ (l : List ℕ). l ++ those stream offers) (one-step s w a (one_call p c small s w fits))
      ∙ append_assoc (those stream sent) between (those stream offers)
      ∙ ap (λ (l : List ℕ). those stream sent ++ l) (ordered ws next (answered-in-range p s w fits))
      ∙ sym (append_assoc (those stream sent) (those stream sents) after)
      ∙ ap (λ (l : List ℕ). l ++ after) (sym (those-append stream sent sents))

-- ---- no request is passed for ever

no-rest : (xs ys : List ℕ) → xs ++ ys ≡ [] → (xs ≡ []) × (ys ≡ [])
no-rest [] ys e = (refl, e)
no-rest (x ∷ xs) ys e = absurd (not-suc-le-zero {n = 0} (omega (arith, ap length e)))

-- a list that is not empty has some
some-there : (x : ℕ) → (x ∷ []) ≡ [] → ⊥
some-there x e = not-suc-le-zero {n = 0} (omega (arith, ap length e))

module _ (p : Policy) (c : ℕ) (small : c < 16) (oldest : ℕ) where
  -- the activates of the class that pass it, and those that have passed it, are 15 at most
  passing : (ws : List ℕ) (s : State) (rest : List ℕ) → in_range p s ≡ true → waiting s.queues c ≡ oldest ∷ rest → those (eqb oldest) (activations ws (log_of p s ws)) ≡ []
      → length (those (of_class c) (activations ws (log_of p s ws))) + passed_of s.queues c ≤ 15
  unfolding activations commands_in log_of those passed_after
  passing [] s rest fits waits none = omega (arith, ((ranged p s fits).queues.queue c small).few_passed)
  passing (w ∷ ws) s rest fits waits none =
      let a = answer_to p s w in
      let next = a.state in
      let kept = answered-in-range p s w fits in
      let sent = only_if (is_offer a.command) a.command in
      let sents = activations ws (log_of p next ws) in
      let apart = no-rest (those (eqb oldest) sent) (those (eqb oldest) sents) (sym (those-append (eqb oldest) sent sents) ∙ none) in
      let both = ap length (those-append (of_class c) sent sents) ∙ length-append (those (of_class c) sent) (those (of_class c) sents) in
      ⊎_elim
      (λ quiet.
      let not-its = none-goes p c s w a quiet (of_class c) (λ x e. e) in
      let later = passing ws next (rest ++ those (of_class c) (only_if (is_offer w && eqb a.status 0) w)) kept (quiet.requests ∙ ap (λ (l : List ℕ). l ++ those (of_class c) (only_if (is_offer w && eqb a.status 0) w)) waits) apart.1 in
      omega (arith, both, ap length not-its, later, quiet.count))
      (λ goes.
      let q = s.queues in
      let its = a.command in
      let k = goes.place in
      let there = waiting-there q c k goes.waits ∙ sym goes.its in
      ⊎_elim
      (λ first.
      let itself : oldest ≡ its = sym (ap (λ (l : List ℕ). get_or l 0 0) waits) ∙ ap (λ (i : ℕ). get_or (waiting q c) i 0) (sym (eqb-true k 0 first)) ∙ there in
      absurd (some-there its (sym (those-if (eqb oldest) (is_offer its) its ∙ only (is_offer its && eqb oldest its) its (and_both goes.sound (eq-eqb oldest its itself))) ∙ apart.0)))
      (λ other.
      let past : k ≡ suc (k - 1) = omega (arith, lt_of_le-ne (zero-le {n = k}) (λ e. eqb-false k 0 other (sym e))) in
      let after : k + 1 ≡ suc (suc (k - 1)) = omega (arith, past) in
      let one : those (of_class c) sent ≡ its ∷ [] = those-if (of_class c) (is_offer its) its ∙ only (is_offer its && of_class c its) its (and_both goes.sound (is-class its goes.class)) in
      let requests : waiting next.queues c ≡ oldest ∷ (take (k - 1) rest ++ drop (suc (k - 1)) rest) =
      goes.requests ∙ ap (λ (l : List ℕ). take k l ++ drop (k + 1) l) waits ∙ ap₂ (λ (i j : ℕ). take i (oldest ∷ rest) ++ drop j (oldest ∷ rest)) past after
      in
      let counted : passed_of next.queues c ≡ passed_of q c + 1 = goes.count ∙ ap (λ (b : Bool). cond b 0 (passed_of q c + 1)) other in
      let later = passing ws next (take (k - 1) rest ++ drop (suc (k - 1)) rest) kept requests apart.1 in
      omega (arith, both, ap length one, later, counted))
      (either (eqb k 0)))
      (one_call p c small s w fits)

-- at first none waits
none-waits : (p : Policy) (c : ℕ) → waiting (fresh_state p).queues c ≡ []
unfolding fresh_state state_at_start empty_queues waiting length_of list_of
none-waits p c = ap (λ (n : ℕ). list_of n (waiting_at (fresh_state p).queues c)) (zero-at 16 c)

pub overtaking : (p : Policy) → policy_in_range p ≡ true → Overtaking p
unfolding those
overtaking p given =
    let fits = fresh-fits p given in
    let small : (c : ℕ) → is_class p c ≡ true → c < 16 = (policy-laws p given).order.class_small in
    record {
      in_order =
          λ ws c rank bank kind class.
          ap (λ (l : List ℕ). those (of_stream c rank bank kind) l ++ those (of_stream c rank bank kind) (taken_offers ws (log_of p (fresh_state p) ws))) (sym (none-waits p c))
          ∙ ordered p c (small c class) rank bank kind ws (fresh_state p) fits;
      at_most_15_pass =
          λ ws more c oldest rest class waits none.
          omega (arith, passing p c (small c class) oldest more (state_after p (fresh_state p) ws) rest (after-in-range p (fresh_state p) ws fits) waits none);
    }
