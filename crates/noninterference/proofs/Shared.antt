-- The second step of a tick at the same low owner: both runs do the same.
-- Assumes nothing.
use mathlib.Core.Path.{◌≡◌, refl, sym, ap, ap₂, ◌∙◌, subst}
use mathlib.Core.Logic.{inl, inr, ⊎_elim}
use mathlib.Core.Bool.{Bool, true, ◌&&◌, ◌||◌}
use mathlib.Core.List.{List, ◌++◌}
use Prim.Native.Nat.{ℕ, ◌+◌, ◌%◌, ◌<◌}
use native.Mathlib.Omega.{arith}
use lib.Dec.{ltb, eqb}
use lib.ListN.{get_or, set, take, drop}
use Rattle.basics.specs.Below.{first}
use Rattle.basics.proofs.Truth.{either}
use Rattle.basics.proofs.Below.{first-same, get_or-list_of}
use Rattle.basics.proofs.Stores.{same-or-other, stored-in-both}
use Rattle.requests.specs.Sizes.{most_passed}
use Rattle.requests.specs.Word.{rank_of, kind_of, bank_place, request_of}
use Rattle.queues.specs.Waiting.{length_of, waiting_at, waiting}
use Rattle.flight.specs.Flight.{activate_at, sent_at}
use Rattle.rules.specs.Queue.{passed_after, dequeue}
use Rattle.rules.specs.Wire.{gaps_met, offset_allows, activated}
use Rattle.rules.specs.Step.{Driven, Bus, due_column, may_go, goes_at, going, can_activate, column_sent, request_sent, nothing_sent, drive}
use Rattle.requests.specs.declared.Wires.TheVariants.{Activate, Column}
use Rattle.queues.specs.declared.Queues.{Queues}
use Rattle.flight.specs.declared.Flight.{Flight}
use Rattle.requests.proofs.Word.{place-small}
use Rattle.rules.proofs.Range.{sound-kind, BusRange, goes-waits, waiting-sound}
use Rattle.rules.proofs.Step.{drive-column, drive-nothing, drive-activate}
use Rattle.rules.proofs.Queue.{dequeue-passed, dequeue-else-passed, dequeue-closes, dequeue_beside}
use Rattle.rules.proofs.PendingWords.{inside}
use Rattle.rules.proofs.Wire.{gap-shift}
use Rattle.extract.specs.Extract.{hide_word}
use Rattle.noninterference.proofs.Low.{QueueAgrees, QueuesAgree, PendingAgree, LastAgree, LastsAgree}
use Rattle.noninterference.proofs.Offers.{same_length}
use Rattle.noninterference.proofs.Flights.{stored-both, same_gaps}

last-later : (dead t x y : ℕ) → LastAgree dead t x y → LastAgree dead (t + 1) x y
last-later dead t x y h = ⊎_elim (λ e. inl e) (λ old. inr (gap-shift x dead dead t (t + 1) (omega arith) old.0, gap-shift y dead dead t (t + 1) (omega arith) old.1)) h

-- the bus of another run, at the same cycle and with the same owner
abbrev pub beside : Bus → Queues → Flight → Bus
beside b r g = record { timing = b.timing; cycle = b.cycle; owner = b.owner; elided = b.elided; queues = r; flight = g }

module _ (low : ℕ → Bool) (n : ℕ) (b : Bus) (r : Queues) (g : Flight) where
  abbrev c : Bus
  c = beside b r g

  abbrev t : ℕ
  t = b.cycle

  abbrev dead : ℕ
  dead = b.timing.dead

  -- what both runs have after it
  pub record Shared (d e : Driven) : Type 0 where
    pub wires : d.wires ≡ e.wires
    pub queues : QueuesAgree low d.queues e.queues
    pub columns : PendingAgree low d.flight.columns e.flight.columns
    pub responses : PendingAgree low d.flight.responses e.flight.responses
    pub lasts : LastsAgree dead (t + 1) d.flight e.flight

  module _ (one : BusRange n b) (two : BusRange n c) (queues : QueuesAgree low b.queues r) (columns : PendingAgree low b.flight.columns g.columns) (responses : PendingAgree low b.flight.responses g.responses) (lasts : LastsAgree dead t b.flight g) (is-low : low b.owner ≡ true) (due : due_column b ≡ due_column c) where
    abbrev q : Queues
    q = b.queues

    abbrev f : Flight
    f = b.flight

    abbrev owner : ℕ
    owner = b.owner

    -- as many wait in both
    as_many : length_of q owner ≡ length_of r owner
    as_many = same_length q r owner (queues owner is-low).requests

    -- so a place that is taken in the first is taken in the second
    waits-too : (k : ℕ) → k < length_of q owner → k < length_of r owner
    waits-too k some = subst (λ (i : ℕ). k < i) as_many some

    -- the same word waits at each place
    same_word : (k : ℕ) → k < length_of q owner → waiting_at q owner k ≡ waiting_at r owner k
    unfolding waiting
    same_word k some =
        sym (get_or-list_of (waiting_at q owner) (length_of q owner) k some)
        ∙ ap (λ (l : List ℕ). get_or l k 0) (queues owner is-low).requests
        ∙ get_or-list_of (waiting_at r owner) (length_of r owner) k (waits-too k some)

    -- it may go in both or in neither: as many have passed the oldest, and its gaps are met in both or in neither
    same-may : (k : ℕ) → k < length_of q owner → may_go b k ≡ may_go c k
    unfolding may_go
    same-may k some =
        let w = waiting_at q owner k in
        let sound = waiting-sound n b one k some in
        ap₂ (λ (passed : ℕ) (met : Bool). (eqb k 0 || ltb passed most_passed) && met) (queues owner is-low).passed
        (same_gaps b.timing t f g w one.timed (sound-kind n b.timing.ranks w sound) lasts ∙ ap (λ (x : ℕ). gaps_met b.timing g x t) (same_word k some))

    -- so the first that may go is at the same place
    same_place : goes_at b ≡ goes_at c
    unfolding goes_at
    same_place = first-same (may_go b) (may_go c) (length_of q owner) same-may ∙ ap (λ (k : ℕ). first k (may_go c)) as_many

    -- there is one in both or in neither
    same-can : can_activate b ≡ can_activate c
    unfolding can_activate
    same-can = ap₂ (λ (k m : ℕ). offset_allows b.timing b.elided t && ltb k m) same_place as_many

    -- and it is the same one
    same-going : goes_at b < length_of q owner → going b ≡ going c
    unfolding going
    same-going some = same_word (goes_at b) some ∙ ap (waiting_at r owner) same_place

    -- the queues agree once it has gone: both close up from the same place, and the count of both goes on or starts anew
    same-rest-at : (k : ℕ) → k < length_of q owner → QueuesAgree low (dequeue q owner k) (dequeue r owner k)
    same-rest-at k some d i =
        let qr = one.queues in
        let rr = two.queues in
        let small = one.owner_small in
        same-or-other (QueueAgrees (dequeue q owner k) (dequeue r owner k)) owner d
        (record {
          requests =
              dequeue-closes q owner small qr.slots_long qr.heads_long qr.lengths_long k some (qr.queue owner small).short
              ∙ ap (λ (l : List ℕ). take k l ++ drop (k + 1) l) (queues owner is-low).requests
              ∙ sym (dequeue-closes r owner small rr.slots_long rr.heads_long rr.lengths_long k (waits-too k some) (rr.queue owner small).short);
          passed =
              dequeue-passed q owner k (subst (λ (m : ℕ). owner < m) (sym qr.passed_long) small)
              ∙ ap (passed_after k) (queues owner is-low).passed
              ∙ sym (dequeue-passed r owner k (subst (λ (m : ℕ). owner < m) (sym rr.passed_long) small));
        })
        (λ apart.
        record {
          requests = dequeue_beside q owner d apart k ∙ (queues d i).requests ∙ sym (dequeue_beside r owner d apart k);
          passed = dequeue-else-passed q owner k d apart ∙ (queues d i).passed ∙ sym (dequeue-else-passed r owner k d apart);
        })

    same_rest : goes_at b < length_of q owner → QueuesAgree low (dequeue q owner (goes_at b)) (dequeue r owner (goes_at c))
    same_rest some = subst (λ (k : ℕ). QueuesAgree low (dequeue q owner (goes_at b)) (dequeue r owner k)) same_place (same-rest-at (goes_at b) some)

    later : LastsAgree dead (t + 1) f g
    later =
        record {
          of_all = last-later dead t f.last g.last lasts.of_all;
          of-bank = λ i l. last-later dead t (get_or f.banks i 0) (get_or g.banks i 0) (lasts.of-bank i l);
        }

    -- a column command goes out in both
    column-shared : Shared (column_sent b) (column_sent c)
    unfolding sent_at
    column-shared =
        record {
          wires = ap (λ (w : ℕ). Column (request_of w)) due;
          queues = queues;
          columns = stored-both low f.columns g.columns (t % 32) 0 0 (inside f.columns one.flight.columns_long t) (inside g.columns two.flight.columns_long t) refl columns;
          responses = responses;
          lasts = record { of_all = later.of_all; of-bank = later.of-bank };
        }

    nothing-shared : Shared (nothing_sent b) (nothing_sent c)
    nothing-shared = record { wires = refl; queues = queues; columns = columns; responses = responses; lasts = later }

    -- the same request is activated in both
    request-shared : goes_at b < length_of q owner → Shared (request_sent b) (request_sent c)
    unfolding activated
    request-shared some =
        let w = going b in
        let v = going c in
        let same = same-going some in
        let fr = one.flight in
        let gr = two.flight in
        let at = activate_at t (rank_of w) (kind_of w) in
        let column = t + b.timing.column in
        let response = t + b.timing.response in
        let bank-f = subst (λ (k : ℕ). bank_place w < k) (sym fr.banks_long) (place-small w) in
        let bank-g = subst (λ (k : ℕ). bank_place w < k) (sym gr.banks_long) (place-small w) in
        let same-banks : set g.banks (bank_place w) at ≡ set g.banks (bank_place v) (activate_at t (rank_of v) (kind_of v)) = ap (λ (x : ℕ). set g.banks (bank_place x) (activate_at t (rank_of x) (kind_of x))) same in
        record {
          wires = ap (λ (x : ℕ). Activate (request_of x)) same;
          queues = same_rest some;
          columns = stored-both low f.columns g.columns (column % 32) w v (inside f.columns fr.columns_long column) (inside g.columns gr.columns_long column) (ap (hide_word low) same) columns;
          responses = stored-both low f.responses g.responses (response % 32) w v (inside f.responses fr.responses_long response) (inside g.responses gr.responses_long response) (ap (hide_word low) same) responses;
          lasts =
              record {
                of_all = inl (ap (λ (x : ℕ). activate_at t (rank_of x) (kind_of x)) same);
                of-bank =
                    λ i l.
                    subst (λ (x : List ℕ). LastAgree dead (t + 1) (get_or (set f.banks (bank_place w) at) i 0) (get_or x i 0)) same-banks
                    (stored-in-both (LastAgree dead (t + 1)) f.banks g.banks (bank_place w) at at i bank-f bank-g (λ here. inl refl) (λ other. later.of-bank i l));
              };
        }

    pub shared : Shared (drive b) (drive c)
    shared =
        ⊎_elim
        (λ none.
        let none-c = ap (λ (k : ℕ). eqb k 0) (sym due) ∙ none in
        ⊎_elim
        (λ goes.
        subst (λ (d : Driven). Shared d (drive c)) (sym (drive-activate b none goes))
        (subst (Shared (request_sent b)) (sym (drive-activate c none-c (sym same-can ∙ goes))) (request-shared (goes-waits n b one goes))))
        (λ stays.
        subst (λ (d : Driven). Shared d (drive c)) (sym (drive-nothing b none stays))
        (subst (Shared (nothing_sent b)) (sym (drive-nothing c none-c (sym same-can ∙ stays))) nothing-shared))
        (either (can_activate b)))
        (λ some.
        subst (λ (d : Driven). Shared d (drive c)) (sym (drive-column b some))
        (subst (Shared (column_sent b)) (sym (drive-column c (ap (λ (k : ℕ). eqb k 0) (sym due) ∙ some))) column-shared))
        (either (eqb (due_column b) 0))
