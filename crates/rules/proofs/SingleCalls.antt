-- A call made singly is the call of one trace number: a tick that of 0, an offer that of its request's word. What the word says of a number too large for its field, 9 or 10
-- refuses as well; of a request that they do not refuse it says every number as it is.
-- Assumes nothing.
use mathlib.Core.Path.{◌≡◌, refl, sym, ap, ap₂, ◌∙◌, subst}
use mathlib.Core.Logic.{◌⊎◌, inl, inr, ⊎_elim}
use mathlib.Core.Bool.{Bool, true, false, cond}
use mathlib.Core.List.{List}
use Prim.Native.Nat.{ℕ, ◌≤◌, ◌<◌}
use native.Mathlib.Nat.{lt_irrefl}
use native.Mathlib.Omega.{arith}
use borrow.Author.Tests.{eqb-true, ne_eqb}
use lib.Dec.{eqb, ltb}
use lib.ListN.{get_or}
use Rattle.order.specs.Order.{is_class_in}
use Rattle.order.specs.Laws.{SmallClasses}
use Rattle.policy.specs.declared.Policy.{Policy}
use Rattle.basics.proofs.Truth.{false-unless, either, same_truth, on-true, on-false}
use Rattle.basics.proofs.Below.{lt-or-ge}
use Rattle.policy.proofs.Laws.{policy-laws}
use Rattle.requests.specs.Sizes.{last_cycle}
use Rattle.requests.specs.Word.{class_of, is_offer, request_of, word_of, class_fits, bank_kind_rank_fit}
use Rattle.rules.specs.Queue.{enqueue, offer_status, queues_after}
use Rattle.state.specs.Range.{in_range}
use Rattle.rules.specs.Call.{offer_on, offer, silent, tick, after_tick}
use Rattle.rules.specs.Calls.{Answer, ticked, offered, answer_to}
use Rattle.requests.specs.declared.Request.{Request}
use Rattle.queues.specs.declared.Queues.{Queues}
use Rattle.state.specs.declared.State.{State}
use Rattle.state.specs.declared.Offered.{Offered}
use Rattle.requests.proofs.Word.{bank-held, bank-told, class_back, rank-back, kind-back, bank-back, is-offer, word_back}
use Rattle.requests.proofs.Trace.{told-tick, told-offer, told-malformed}
use Rattle.rules.proofs.Range.{fit-bounds, fit-back, ranks-few, ranged, small-classes}
use Rattle.rules.proofs.Call.{called-tick, called-offer, called-malformed, offer-is, tick_is, tick-late}
use Rattle.rules.proofs.CallsKept.{taken}

-- the classes of a state in range are among the sixteen
few-classes : (p : Policy) (s : State) → in_range p s ≡ true → SmallClasses s.classes
few-classes p s e = small-classes p s (ranged p s e)

-- and it has four ranks at most
few-ranks : (p : Policy) (s : State) → in_range p s ≡ true → p.timing.ranks ≤ 4
few-ranks p s e = ranks-few p.timing (policy-laws p (ranged p s e).fit).timed

-- ---- the request that a request's word names, beside the request

module _ (n ranks : ℕ) (few : SmallClasses n) (four : ranks ≤ 4) (r : Request) where
  -- 9 refuses both or neither: a number up to which the field does not reach is no class
  class_same : class_fits n (request_of (word_of r)) ≡ class_fits n r
  unfolding class_fits request_of
  class_same =
      same_truth (is_class_in n (class_of (word_of r))) (is_class_in n r.class)
      (λ e. subst (λ (c : ℕ). is_class_in n c ≡ true) (omega (arith, class_back r, few (class_of (word_of r)) e)) e)
      (λ e. subst (λ (c : ℕ). is_class_in n c ≡ true) (omega (arith, class_back r, few r.class e)) e)

  -- and where it does not, they have one class
  class-kept : class_fits n r ≡ true → class_of (word_of r) ≡ r.class
  unfolding class_fits
  class-kept e = omega (arith, class_back r, few r.class e)

  -- 10 refuses both or neither: a rank that the field does not hold is told by the bank
  rest-same : bank_kind_rank_fit ranks (request_of (word_of r)) ≡ bank_kind_rank_fit ranks r
  unfolding request_of
  rest-same =
      same_truth (bank_kind_rank_fit ranks (request_of (word_of r))) (bank_kind_rank_fit ranks r)
      (λ e.
      let fits = fit-bounds ranks (request_of (word_of r)) e in
      ⊎_elim
      (λ held.
      fit-back ranks r (omega (arith, bank-back r, bank-held r held, fits.0)) (omega (arith, kind-back r, fits.1)) (omega (arith, rank-back r, fits.2, held)))
      (λ large. absurd (lt_irrefl 7 (omega (arith, bank-back r, bank-told r large, fits.0))))
      (lt-or-ge r.rank 4))
      (λ e.
      let fits = fit-bounds ranks r e in
      let held : r.rank < 4 = omega (arith, fits.2, four) in
      fit-back ranks (request_of (word_of r)) (omega (arith, bank-back r, bank-held r held, fits.0)) (omega (arith, kind-back r, fits.1)) (omega (arith, rank-back r, fits.2, held)))

  status-same : (lengths : List ℕ) → offer_status n ranks lengths (request_of (word_of r)) ≡ offer_status n ranks lengths r
  unfolding offer_status request_of
  status-same lengths =
      let by : Bool → Bool → ℕ → ℕ = λ a b c. cond a (cond b (cond (ltb (get_or lengths c 0) 8) 0 11) 10) 9 in
      ap₂ (λ (a b : Bool). by a b (class_of (word_of r))) class_same rest-same
      ∙ ⊎_elim
      (λ e. ap (by (class_fits n r) (bank_kind_rank_fit ranks r)) (class-kept e))
      (λ e. ap (λ (a : Bool). by a (bank_kind_rank_fit ranks r) (class_of (word_of r))) e ∙ sym (ap (λ (a : Bool). by a (bank_kind_rank_fit ranks r) r.class) e))
      (either (class_fits n r))

  queues-same : (q : Queues) → queues_after n ranks q (request_of (word_of r)) ≡ queues_after n ranks q r
  unfolding queues_after offer_status request_of
  queues-same q =
      let held = request_of (word_of r) in
      let goes = eqb (offer_status n ranks q.lengths r) 0 in
      let same : eqb (offer_status n ranks q.lengths held) 0 ≡ goes = ap (λ (k : ℕ). eqb k 0) (status-same q.lengths) in
      ⊎_elim
      (λ e.
      let fits = taken (class_fits n r) (bank_kind_rank_fit ranks r) (ltb (get_or q.lengths r.class 0) 8) e in
      on-true (eqb (offer_status n ranks q.lengths held) 0) (enqueue q held.class (word_of held)) q (same ∙ e)
      ∙ ap₂ (enqueue q) (class-kept fits.0) (word_back (word_of r) (is-offer r))
      ∙ sym (on-true goes (enqueue q r.class (word_of r)) q e))
      (λ e. on-false (eqb (offer_status n ranks q.lengths held) 0) (enqueue q held.class (word_of held)) q (same ∙ e) ∙ sym (on-false goes (enqueue q r.class (word_of r)) q e))
      (either goes)

-- ---- a number that does not fit its field

-- 9 refuses such a class, 10 such a rank, kind or bank
refused : (n ranks : ℕ) → SmallClasses n → ranks ≤ 4 → (r : Request) → (32 ≤ r.class) ⊎ (4 ≤ r.rank) ⊎ (4 ≤ r.kind) ⊎ (16 ≤ r.bank) → (lengths : List ℕ) → (offer_status n ranks lengths r ≡ 9) ⊎ (offer_status n ranks lengths r ≡ 10)
unfolding offer_status class_fits
refused n ranks few four r large lengths =
    let room = ltb (get_or lengths r.class 0) 8 in
    let nine : class_fits n r ≡ false → (offer_status n ranks lengths r ≡ 9) ⊎ (offer_status n ranks lengths r ≡ 10) =
    λ c. inl (ap (λ (a : Bool). cond a (cond (bank_kind_rank_fit ranks r) (cond room 0 11) 10) 9) c)
    in
    let ten : ((r.bank ≤ 7) × (r.kind ≤ 1) × (r.rank < ranks) → ⊥) → (offer_status n ranks lengths r ≡ 9) ⊎ (offer_status n ranks lengths r ≡ 10) =
    λ none.
    let b = false-unless (bank_kind_rank_fit ranks r) (λ e. none (fit-bounds ranks r e)) in
    ⊎_elim (λ c. inr (ap₂ (λ (x y : Bool). cond x (cond y (cond room 0 11) 10) 9) c b)) nine (either (class_fits n r))
    in
    ⊎_elim
    (λ class. nine (false-unless (is_class_in n r.class) (λ e. lt_irrefl 16 (omega (arith, few r.class e, class)))))
    (⊎_elim
    (λ rank. ten (λ fits. lt_irrefl 4 (omega (arith, fits.2, rank, four))))
    (⊎_elim (λ kind. ten (λ fits. lt_irrefl 1 (omega (arith, fits.1, kind)))) (λ bank. ten (λ fits. lt_irrefl 7 (omega (arith, fits.0, bank))))))
    large

stays : (n ranks : ℕ) (r : Request) (q : Queues) → (offer_status n ranks q.lengths r ≡ 9) ⊎ (offer_status n ranks q.lengths r ≡ 10) → queues_after n ranks q r ≡ q
unfolding queues_after
stays n ranks r q out =
    on-false (eqb (offer_status n ranks q.lengths r) 0) (enqueue q r.class (word_of r)) q
    (⊎_elim (λ e. ap (λ (k : ℕ). eqb k 0) e) (λ e. ap (λ (k : ℕ). eqb k 0) e) out)

-- ---- single calls

module _ (p : Policy) (s : State) where
  -- an offer of either is answered alike
  offer-same : (r : Request) → offer p s (request_of (word_of r)) ≡ offer p s r
  unfolding offer offer_on
  offer-same r =
      let held = request_of (word_of r) in
      let refused : Offered = record { status = 13; state = s } in
      ⊎_elim
      (λ e.
      offer-is p s e held
      ∙ ap₂
      (λ (status : ℕ) (queues : Queues). record { status = status; state = record { cycle = s.cycle; classes = s.classes; queues = queues; turns = s.turns; flight = s.flight } })
      (status-same s.classes p.timing.ranks (few-classes p s e) (few-ranks p s e) r s.queues.lengths) (queues-same s.classes p.timing.ranks (few-classes p s e) (few-ranks p s e) r s.queues)
      ∙ sym (offer-is p s e r))
      (λ e. on-false (in_range p s) (offer_on p.timing.ranks s held) refused e ∙ sym (on-false (in_range p s) (offer_on p.timing.ranks s r) refused e))
      (either (in_range p s))

  pub tick_called : answer_to p s 0 ≡ ticked (tick p s)
  tick_called = called-tick p s 0 (told-tick 0 refl)

  -- on a state in range with a tick left
  pub tick-answered : in_range p s ≡ true → ltb s.cycle last_cycle ≡ true → answer_to p s 0 ≡ ticked (after_tick p s)
  tick-answered fits left = tick_called ∙ ap ticked (tick_is p s fits left)

  pub offer_called : (r : Request) → answer_to p s (word_of r) ≡ offered (offer p s r)
  unfolding word_of
  offer_called r =
      called-offer p s (word_of r) (request_of (word_of r)) (told-offer (word_of r) (ne_eqb (word_of r) 0 (λ e. omega (arith, e))) (is-offer r)) ∙ ap offered (offer-same r)

  pub too_large : (r : Request) → in_range p s ≡ true → (32 ≤ r.class) ⊎ (4 ≤ r.rank) ⊎ (4 ≤ r.kind) ⊎ (16 ≤ r.bank) → (((offer p s r).status ≡ 9) ⊎ ((offer p s r).status ≡ 10)) × ((offer p s r).state ≡ s)
  unfolding offer_on
  too_large r e large =
      let out = refused s.classes p.timing.ranks (few-classes p s e) (few-ranks p s e) r large s.queues.lengths in
      let at = offer-is p s e r in (
        ⊎_elim (λ t. inl (ap (λ (o : Offered). o.status) at ∙ t)) (λ t. inr (ap (λ (o : Offered). o.status) at ∙ t)) out,
        ap (λ (o : Offered). o.state) at
            ∙ ap (λ (q : Queues). record { cycle = s.cycle; classes = s.classes; queues = q; turns = s.turns; flight = s.flight }) (stays s.classes p.timing.ranks r s.queues out),
      )

-- what holds of every call on a state in range, from what holds of a tick that is made, of one that is not, of an offer and of a malformed word
pub any-call : (p : Policy) (s : State) → in_range p s ≡ true → (P : ℕ → Answer → Type 0)
    → (ltb s.cycle last_cycle ≡ true → P 0 (ticked (after_tick p s)))
    → (ltb s.cycle last_cycle ≡ false → P 0 (ticked (record { status = 12; state = s; shown = silent })))
    → ((w : ℕ) → eqb w 0 ≡ false → is_offer w ≡ true → P w (offered (offer_on p.timing.ranks s (request_of w))))
    → ((w : ℕ) → eqb w 0 ≡ false → is_offer w ≡ false → P w (record { state = s; status = 14; command = 0; response = 0; turn = 0 })) → (w : ℕ) → P w (answer_to p s w)
any-call p s fits P made late offers malformed w =
    ⊎_elim
    (λ tick.
    subst (λ (x : ℕ). P x (answer_to p s x)) (sym (eqb-true w 0 tick))
    (⊎_elim
    (λ left. subst (P 0) (sym (tick-answered p s fits left)) (made left))
    (λ none. subst (P 0) (sym (tick_called p s ∙ ap ticked (tick-late p s fits none))) (late none))
    (either (ltb s.cycle last_cycle))))
    (λ other.
    ⊎_elim
    (λ offer. subst (P w) (sym (called-offer p s w (request_of w) (told-offer w other offer) ∙ ap offered (offer-is p s fits (request_of w)))) (offers w other offer))
    (λ none. subst (P w) (sym (called-malformed p s w (told-malformed w other none))) (malformed w other none))
    (either (is_offer w)))
    (either (eqb w 0))
