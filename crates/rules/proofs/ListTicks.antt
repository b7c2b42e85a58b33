-- The ticks of a list of calls: each number below the list's count of ticks is that of one tick, which is made in a state of that cycle. Between two ticks there are offers and malformed words alone, so
-- what one tick leaves the next one finds, but for requests that have come to the queues' ends. Each by going through the list.
-- Assumes nothing.
use mathlib.Core.Path.{◌≡◌, refl, sym, ap, ◌∙◌, subst}
use mathlib.Core.Logic.{⊎_elim}
use mathlib.Core.Bool.{true, false, ◌&&◌}
use mathlib.Core.List.{List, [], ◌∷◌, ◌++◌}
use Prim.Native.Nat.{ℕ, ◌+◌, ◌≤◌, ◌<◌, zero-le}
use native.Mathlib.Nat.{lt_irrefl, le_refl, le_trans}
use native.Mathlib.Omega.{arith}
use borrow.Author.Tests.{eqb-true, eqb-false, eq-eqb, ne_eqb, ltb-true, lt-ltb}
use lib.Arith.{lt_of_le-ne}
use lib.Dec.{ltb, eqb}
use lib.ListN.{length, get_or}
use Rattle.order.specs.Laws.{SmallClasses}
use Rattle.policy.specs.declared.Policy.{Policy}
use Rattle.basics.proofs.Truth.{either, and_both, and-fails-left, and-fails-right, on-true, on-false}
use Rattle.requests.specs.Sizes.{last_cycle}
use Rattle.requests.specs.Word.{is_offer, request_of, word_of, class_fits, bank_kind_rank_fit}
use Rattle.requests.specs.Trace.{call_of}
use Rattle.requests.specs.declared.Request.{Request}
use Rattle.queues.specs.Waiting.{length_of, waiting_at}
use Rattle.queues.specs.declared.Queues.{Queues}
use Rattle.state.specs.Range.{in_range}
use Rattle.state.specs.declared.State.{State}
use Rattle.rules.specs.Queue.{enqueue, offer_status, queues_after}
use Rattle.rules.specs.Call.{offer_on, after_tick}
use Rattle.rules.specs.Calls.{Answer, ticked, offered, answer_to, state_after}
use Rattle.rules.specs.Guarantees.{state_at_tick}
use Rattle.rules.proofs.Queue.{enqueue-longer, enqueue-else, enqueue-before, enqueue-apart}
use Rattle.rules.proofs.Range.{Ranged, ranged, small-classes}
use Rattle.rules.proofs.Call.{offer-is, tick-late, called-offer, called-malformed}
use Rattle.rules.proofs.CallsKept.{below-sixteen, room, taken}
use Rattle.rules.proofs.SingleCalls.{tick_called, tick-answered}
use Rattle.rules.proofs.Calls.{answered-in-range, after-in-range}

-- ---- queues that grow at their ends

-- the class has no fewer requests waiting, and if it had some its oldest is the same
pub record Grown (q r : Queues) (c : ℕ) : Type 0 where
  pub longer : length_of q c ≤ length_of r c
  pub oldest : ((length_of q c ≡ 0) → ⊥) → waiting_at r c 0 ≡ waiting_at q c 0

pub grown-none : (q : Queues) (c : ℕ) → Grown q q c
grown-none q c = record { longer = le_refl (length_of q c); oldest = λ some. refl }

pub grown-more : (q r u : Queues) (c : ℕ) → Grown q r c → Grown r u c → Grown q u c
grown-more q r u c g h =
    record {
      longer = le_trans g.longer h.longer;
      oldest = λ some. h.oldest (λ e. let none : length_of q c ≡ 0 = omega (arith, g.longer, e) in some none) ∙ g.oldest some;
    }

-- an offer that is taken, and one that is not
offer-grown : (n ranks : ℕ) (q : Queues) (r : Request) → SmallClasses n → length q.lengths ≡ 16 → (c : ℕ) → Grown q (queues_after n ranks q r) c
unfolding queues_after offer_status
offer-grown n ranks q r few long c =
    let status = eqb (offer_status n ranks q.lengths r) 0 in
    let d = r.class in
    let w = word_of r in
    ⊎_elim
    (λ e.
    let fits = taken (class_fits n r) (bank_kind_rank_fit ranks r) (ltb (get_or q.lengths d 0) 8) e in
    let short = room q d fits.2 in
    let inside : d < length q.lengths = subst (λ (k : ℕ). d < k) (sym long) (below-sixteen n r few fits.0) in
    subst (λ (after : Queues). Grown q after c) (sym (on-true status (enqueue q d w) q e))
    (⊎_elim
    (λ same.
    subst (Grown q (enqueue q d w)) (sym (eqb-true c d same))
    (record {
      longer = omega (arith, enqueue-longer q d w inside);
      oldest = λ some. enqueue-before q d w 0 (lt_of_le-ne zero-le (λ z. some (sym z))) short;
    }))
    (λ other.
    let apart = eqb-false c d other in
    record { longer = omega (arith, enqueue-else q d w c apart); oldest = λ some. enqueue-apart q d w c 0 apart })
    (either (eqb c d))))
    (λ e. subst (λ (after : Queues). Grown q after c) (sym (on-false status (enqueue q d w) q e)) (grown-none q c))
    (either status)

-- ---- between two ticks

-- what calls that are no ticks leave: the cycle, the turns and what is in flight stay, and the queues grow
pub record Waited (s r : State) : Type 0 where
  pub cycle : r.cycle ≡ s.cycle
  pub turns : r.turns ≡ s.turns
  pub flight : r.flight ≡ s.flight
  pub queues : (c : ℕ) → Grown s.queues r.queues c

waited-none : (s : State) → Waited s s
waited-none s = record { cycle = refl; turns = refl; flight = refl; queues = grown-none s.queues }

waited-more : (s r u : State) → Waited s r → Waited r u → Waited s u
waited-more s r u g h =
    record {
      cycle = h.cycle ∙ g.cycle;
      turns = h.turns ∙ g.turns;
      flight = h.flight ∙ g.flight;
      queues = λ c. grown-more s.queues r.queues u.queues c (g.queues c) (h.queues c);
    }

module _ (p : Policy) where
  offer-waited : (s : State) (r : Request) → Ranged p s → Waited s (offer_on p.timing.ranks s r).state
  unfolding offer_on
  offer-waited s r w =
      record { cycle = refl; turns = refl; flight = refl; queues = offer-grown s.classes p.timing.ranks s.queues r (small-classes p s w) w.queues.lengths_long }

  quiet-call : (s : State) (w : ℕ) → in_range p s ≡ true → eqb w 0 ≡ false → Waited s (answer_to p s w).state
  unfolding call_of
  quiet-call s w fits e =
      ⊎_elim
      (λ offer.
      let r = request_of w in
      subst (λ (a : Answer). Waited s a.state) (sym (called-offer p s w r (on-false (eqb w 0) _ _ e ∙ on-true (is_offer w) _ _ offer) ∙ ap offered (offer-is p s fits r)))
      (offer-waited s r (ranged p s fits)))
      (λ none.
      subst (λ (a : Answer). Waited s a.state) (sym (called-malformed p s w (on-false (eqb w 0) _ _ e ∙ on-false (is_offer w) _ _ none))) (waited-none s))
      (either (is_offer w))

  -- a tick that is not refused
  tick-counts : (s : State) → in_range p s ≡ true → s.cycle < last_cycle → (answer_to p s 0).state.cycle ≡ s.cycle + 1
  unfolding after_tick
  tick-counts s fits left = ap (λ (a : Answer). a.state.cycle) (tick-answered p s fits (lt-ltb s.cycle last_cycle left))

  -- and any tick
  tick-near : (s : State) → in_range p s ≡ true → (answer_to p s 0).state.cycle ≤ s.cycle + 1
  tick-near s fits =
      ⊎_elim
      (λ left. omega (arith, tick-counts s fits (ltb-true s.cycle last_cycle left)))
      (λ late. let stays : (answer_to p s 0).state.cycle ≡ s.cycle = ap (λ (a : Answer). a.state.cycle) (tick_called p s ∙ ap ticked (tick-late p s fits late)) in omega (arith, stays))
      (either (ltb s.cycle last_cycle))

  -- ---- going through a list

  module _ (s : State) (w : ℕ) (ws : List ℕ) (t : ℕ) where
    made-here : w ≡ 0 → s.cycle ≡ t → state_at_tick p s (w ∷ ws) t ≡ s
    unfolding state_at_tick
    made-here e c = on-true (eqb w 0 && eqb s.cycle t) _ _ (and_both (eq-eqb w 0 e) (eq-eqb s.cycle t c))

    made-later : (eqb w 0 && eqb s.cycle t) ≡ false → state_at_tick p s (w ∷ ws) t ≡ state_at_tick p (answer_to p s w).state ws t
    unfolding state_at_tick
    made-later e = on-false (eqb w 0 && eqb s.cycle t) _ _ e

  -- the tick of the state's own cycle: what stands before it are no ticks
  at_once : (ws : List ℕ) (s : State) (t : ℕ) → in_range p s ≡ true → s.cycle ≡ t → Waited s (state_at_tick p s ws t)
  unfolding state_at_tick
  at_once [] s t fits same = waited-none s
  at_once (w ∷ ws) s t fits same =
      ⊎_elim
      (λ tick. subst (Waited s) (sym (made-here s w ws t (eqb-true w 0 tick) same)) (waited-none s))
      (λ other.
      let next = (answer_to p s w).state in
      let here = quiet-call s w fits other in
      subst (Waited s) (sym (made-later s w ws t (and-fails-left (eqb w 0) (eqb s.cycle t) other)))
      (waited-more s next (state_at_tick p next ws t) here (at_once ws next t (answered-in-range p s w fits) (here.cycle ∙ same))))
      (either (eqb w 0))

  -- tick number t of a list from a state on
  pub record Made (s : State) (ws : List ℕ) (t : ℕ) : Type 0 where
    pub fits : in_range p (state_at_tick p s ws t) ≡ true
    pub number : (state_at_tick p s ws t).cycle ≡ t
    pub next : Waited (answer_to p (state_at_tick p s ws t) 0).state (state_at_tick p s ws (t + 1))
    pub before : List ℕ
    pub after : List ℕ
    pub parts : ws ≡ before ++ (0 ∷ after)
    pub reached : state_after p s before ≡ state_at_tick p s ws t

  -- one call more before it
  made_after : (s : State) (w : ℕ) (ws : List ℕ) (t : ℕ) → state_at_tick p s (w ∷ ws) t ≡ state_at_tick p (answer_to p s w).state ws t → state_at_tick p s (w ∷ ws) (t + 1) ≡ state_at_tick p (answer_to p s w).state ws (t + 1) → Made (answer_to p s w).state ws t → Made s (w ∷ ws) t
  unfolding state_after
  made_after s w ws t now then m =
      record {
        fits = subst (λ (u : State). in_range p u ≡ true) (sym now) m.fits;
        number = ap (λ (u : State). u.cycle) now ∙ m.number;
        next = subst (λ (u : State). Waited (answer_to p u 0).state (state_at_tick p s (w ∷ ws) (t + 1))) (sym now) (subst (Waited (answer_to p (state_at_tick p (answer_to p s w).state ws t) 0).state) (sym then) m.next);
        before = w ∷ m.before;
        after = m.after;
        parts = ap (λ (l : List ℕ). w ∷ l) m.parts;
        reached = m.reached ∙ sym now;
      }

  -- the first call is it
  made-first : (s : State) (ws : List ℕ) (t : ℕ) → in_range p s ≡ true → s.cycle ≡ t → t < last_cycle → Made s (0 ∷ ws) t
  unfolding state_after
  made-first s ws t fits same left =
      let next = (answer_to p s 0).state in
      let now = made-here s 0 ws t refl same in
      let apart : (s.cycle ≡ t + 1) → ⊥ = λ e. lt_irrefl t (omega (arith, same, e)) in
      let then = made-later s 0 ws (t + 1) (and-fails-right (eqb 0 0) (eqb s.cycle (t + 1)) (ne_eqb s.cycle (t + 1) apart)) in
      let counted : next.cycle ≡ t + 1 = tick-counts s fits (subst (λ (k : ℕ). k < last_cycle) (sym same) left) ∙ ap (λ (k : ℕ). k + 1) same in
      record {
        fits = subst (λ (u : State). in_range p u ≡ true) (sym now) fits;
        number = ap (λ (u : State). u.cycle) now ∙ same;
        next =
            subst (λ (u : State). Waited (answer_to p u 0).state (state_at_tick p s (0 ∷ ws) (t + 1))) (sym now)
            (subst (Waited next) (sym then) (at_once ws next (t + 1) (answered-in-range p s 0 fits) counted));
        before = [];
        after = ws;
        parts = refl;
        reached = sym now;
      }

  pub made : (ws : List ℕ) (s : State) (t : ℕ) → in_range p s ≡ true → s.cycle ≤ t → t < (state_after p s ws).cycle → Made s ws t
  unfolding state_after
  made [] s t fits from under = absurd (lt_irrefl t (omega (arith, from, under)))
  made (w ∷ ws) s t fits from under =
      let next = (answer_to p s w).state in
      let kept = answered-in-range p s w fits in
      let left : t < last_cycle = omega (arith, under, (ranged p (state_after p next ws) (after-in-range p next ws kept)).cycle_bound) in
      let later : (eqb w 0 && eqb s.cycle t) ≡ false → (eqb w 0 && eqb s.cycle (t + 1)) ≡ false → next.cycle ≤ t → Made s (w ∷ ws) t =
      λ now then near. made_after s w ws t (made-later s w ws t now) (made-later s w ws (t + 1) then) (made ws next t kept near under)
      in
      ⊎_elim
      (λ tick.
      let zero = eqb-true w 0 tick in
      ⊎_elim
      (λ here. subst (λ (x : ℕ). Made s (x ∷ ws) t) (sym zero) (made-first s ws t fits (eqb-true s.cycle t here) left))
      (λ apart.
      let early : s.cycle < t = lt_of_le-ne from (eqb-false s.cycle t apart) in
      let not-next : (s.cycle ≡ t + 1) → ⊥ = λ e. lt_irrefl t (omega (arith, early, e)) in
      later (and-fails-right (eqb w 0) (eqb s.cycle t) apart)
      (and-fails-right (eqb w 0) (eqb s.cycle (t + 1)) (ne_eqb s.cycle (t + 1) not-next))
      (omega (arith, early, subst (λ (x : ℕ). (answer_to p s x).state.cycle ≤ s.cycle + 1) (sym zero) (tick-near s fits))))
      (either (eqb s.cycle t)))
      (λ other.
      later (and-fails-left (eqb w 0) (eqb s.cycle t) other) (and-fails-left (eqb w 0) (eqb s.cycle (t + 1)) other) (omega (arith, from, (quiet-call s w fits other).cycle)))
      (either (eqb w 0))
