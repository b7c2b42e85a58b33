-- W-201's promises hold of every policy in range: a traversal only rises, so it passes on from a class once at most, and each class's pointer moves by one for each turn that the class passes on; and before a turn
-- that is no home turn its traversal follows the trial walk, while before a home turn the owner's row decides. And what W-202 says of who takes a home turn and who is charged.
-- Assumes nothing.
use mathlib.Core.Path.{◌≡◌, refl, sym, ap, ◌∙◌, subst}
use mathlib.Core.Logic.{◌⊎◌, inl, inr, ⊎_elim}
use mathlib.Core.Bool.{Bool, true, false, cond, ◌&&◌, ◌||◌}
use mathlib.Core.List.{List, [], ◌∷◌}
use Prim.Native.Nat.{ℕ, zero, suc, ◌+◌, ◌-◌, ◌^◌, ◌%◌, ◌<◌}
use native.Mathlib.Nat.{lt_irrefl, mod-lt, zero-mod}
use native.Mathlib.Omega.{arith}
use borrow.Author.Tests.{eqb-true, eqb-false, ne_eqb, lt-ltb, le-ltb}
use lib.Dec.{ltb, eqb}
use lib.ListN.{length, get_or, length-set}
use lib.Seq.{get_or-set_same, get_or-set_other}
use Rattle.masks.specs.Mask.{size, nth}
use Rattle.order.specs.Order.{above_in}
use Rattle.policy.specs.Policy.{flows, least, covers_of, cover_count, cover, home_turn, home_class, in_range as policy_in_range}
use Rattle.policy.specs.declared.Policy.{Policy}
use Rattle.basics.proofs.Truth.{either, not-both, and_left, and_right, and_both, and-fails-right, on-true, on-false}
use Rattle.basics.proofs.Below.{lt-or-ge}
use Rattle.policy.proofs.Laws.{policy-laws}
use Rattle.requests.specs.Sizes.{last_cycle}
use Rattle.requests.specs.Trace.{call_of}
use Rattle.requests.specs.declared.Call.{Call}
use Rattle.requests.specs.declared.Call.TheVariants.{Tick, Offer, Malformed}
use Rattle.state.specs.Fresh.{state_at_start, fresh_state}
use Rattle.state.specs.Range.{in_range}
use Rattle.state.specs.declared.State.{State}
use Rattle.state.specs.declared.Turns.{Turns}
use Rattle.state.specs.declared.Offered.{Offered}
use Rattle.state.specs.declared.Ticked.{Ticked}
use Rattle.rules.specs.Traversal.{first_class, Candidates, candidates, moved, moved_pointer, passed_at, named, takes, Reached, ends_at, try_class, left_tried, charge, takes_home, charged}
use Rattle.rules.specs.Lookahead.{reaches, next_left, ahead_of}
use Rattle.rules.specs.Step.{turn_starts, turn_number, left_at_start, turn_word, TurnStart, owned_by, start_turn, turns_at}
use Rattle.rules.specs.Call.{offer_on, after_tick, tick}
use Rattle.rules.specs.Calls.{Answer, answer, answer_to, state_after}
use Rattle.rules.specs.RoundRobin.{passes_on, passes_to, seen_at, tried_first, tick_starts, tick_passes, tick_passes_to, tick_tries, turns_after, Shows, call_passes, passed_turns, in_turn, RoundRobin, Tries, TriesOwner, next_turn, TrialFollows, HomeTurns}
use Rattle.rules.proofs.Traversal.{moved-names, try-takes, try-passes, falls, climbs, first-least, tried_other, first_home, home-takes}
use Rattle.rules.proofs.Passing.{on-takes, on-passes, to-passes, on-later, first-tried, next-tried, passes-full, never_back, owner-keeps}
use Rattle.rules.proofs.Lookahead.{elides-home, elides-other, follows, leads}
use Rattle.rules.proofs.TurnsKept.{start-within}
use Rattle.rules.proofs.Range.{ranged}
use Rattle.rules.proofs.Call.{offer-is, tick_is, tick-late}
use Rattle.rules.proofs.SingleCalls.{tick_called, tick-answered}
use Rattle.rules.proofs.CallsKept.{zero-at, fresh-fits}
use Rattle.rules.proofs.Calendar.{next-within, next-wraps}
use Rattle.rules.proofs.Calls.{answered-in-range}

-- ---- the numbers in turn

-- once a turn has been passed on
some_turn : (k i : ℕ) → in_turn k (i + 1) ≡ i % k + 1
unfolding in_turn
some_turn k i =
    let apart : (i + 1 ≡ 0) → ⊥ = λ e. lt_irrefl 0 (omega (arith, e)) in
    let back : i + 1 - 1 ≡ i = omega arith in
    rw (ne_eqb (i + 1) 0 apart) (ap (λ (x : ℕ). x % k + 1) back)

-- a pointer that is moved is the next in turn
next-turn : (set m : ℕ) → set < 2 ^ 16 → ((set ≡ 0) → ⊥) → moved set (in_turn (size set) m) ≡ in_turn (size set) (m + 1)
unfolding moved in_turn
next-turn set zero small full =
    let range = moved-names set 0 small full in
    let some : 0 < size set = omega (arith, range.some, range.within) in
    rw (ne_eqb set 0 full, lt-ltb 0 (size set) some) (sym (ap (λ (x : ℕ). x + 1) (zero-mod (size set))))
next-turn set (suc i) small full =
    let k = size set in
    let range = moved-names set 0 small full in
    let some : 0 < k = omega (arith, range.some, range.within) in
    let one : suc i ≡ i + 1 = omega arith in
    let bound = mod-lt i {m = k} some in
    let step : moved set (i % k + 1) ≡ (i + 1) % k + 1 =
    ⊎_elim
    (λ l. rw (ne_eqb set 0 full, lt-ltb (i % k + 1) k l) (sym (ap (λ (x : ℕ). x + 1) (next-within i k l))))
    (λ l. rw (ne_eqb set 0 full, le-ltb (i % k + 1) k l) (sym (ap (λ (x : ℕ). x + 1) (next-wraps i k (omega (arith, l, bound))))))
    (lt-or-ge (i % k + 1) k)
    in
    ap (λ (m : ℕ). moved set (in_turn k m)) one ∙ ap (moved set) (some_turn k i) ∙ step ∙ sym (some_turn k (i + 1)) ∙ ap (λ (m : ℕ). in_turn k (m + 1)) (sym one)

module _ (p : Policy) (given : policy_in_range p ≡ true) where
  -- ---- one traversal

  module _ (lengths left : List ℕ) where
    abbrev all : Candidates
    all = candidates p.covers lengths left

    abbrev after : List ℕ → ℕ → List ℕ
    after pointers from = passed_at p.covers pointers from

    abbrev next : List ℕ → ℕ → ℕ
    next pointers from = named p.covers pointers from

    -- a pointer elsewhere stays
    beside : (pointers : List ℕ) (from c : ℕ) → eqb from c ≡ false → get_or (after pointers from) c 0 ≡ get_or pointers c 0
    unfolding passed_at
    beside pointers from c e = get_or-set_other pointers from c (moved_pointer p.covers pointers from) 0 (λ i. eqb-false from c e (sym i))

    here : (pointers : List ℕ) (from : ℕ) → length pointers ≡ 16 → from < 16 → get_or (after pointers from) from 0 ≡ moved_pointer p.covers pointers from
    unfolding passed_at
    here pointers from long small = get_or-set_same pointers from (moved_pointer p.covers pointers from) 0 (omega (arith, long))

    still-long : (pointers : List ℕ) (from : ℕ) → length pointers ≡ 16 → length (after pointers from) ≡ 16
    unfolding passed_at
    still-long pointers from long = length-set pointers from (moved_pointer p.covers pointers from) ∙ long

    pub pointer-after : (bound : ℕ) (pointers : List ℕ) (from c : ℕ) → length pointers ≡ 16 → c < 16 → get_or (try_class bound all pointers from).pointers c 0 ≡ cond (passes_on bound all pointers from c) (moved_pointer p.covers pointers c) (get_or pointers c 0)
    unfolding passes_on try_class ends_at moved_pointer
    pointer-after zero pointers from c long small = refl
    pointer-after (suc bound) pointers from c long small =
        let now : Bool → ℕ = λ b. cond b (moved_pointer p.covers pointers c) (get_or pointers c 0) in
        ⊎_elim
        (λ t. ap (λ (r : Reached). get_or r.pointers c 0) (try-takes all (suc bound) pointers from t) ∙ sym (ap now (on-takes all (suc bound) pointers from c t)))
        (λ t.
        let later = passes_on bound all (after pointers from) (next pointers from) c in
        ap (λ (r : Reached). get_or r.pointers c 0) (try-passes all bound pointers from t)
        ∙ pointer-after bound (after pointers from) (next pointers from) c (still-long pointers from long) small
        ∙ ⊎_elim
        (λ e.
        let same = eqb-true from c e in
        let none : later ≡ false = never_back all p.rows (climbs p given) bound (after pointers from) (next pointers from) c (subst (λ (x : ℕ). above_in p.rows (next pointers from) < above_in p.rows x) same (falls all p.rows (climbs p given) pointers from t)) in
        ap (λ (b : Bool). cond b (moved_pointer p.covers (after pointers from) c) (get_or (after pointers from) c 0)) none
        ∙ subst (λ (x : ℕ). get_or (after pointers from) x 0 ≡ moved_pointer p.covers pointers x) same (here pointers from long (subst (λ (x : ℕ). x < 16) (sym same) small))
        ∙ sym (ap (λ (b : Bool). now (b || later)) e))
        (λ e.
        ap (λ (v : ℕ). cond later (moved (get_or p.covers c 0) v) v) (beside pointers from c e)
        ∙ sym (ap (λ (b : Bool). now (b || later)) e))
        (either (eqb from c))
        ∙ sym (ap now (on-passes all bound pointers from c t)))
        (either (takes all from))

    -- where it passes on from a class, the class that it then tries is the one that the moved pointer names
    pub passes-named : (bound : ℕ) (pointers : List ℕ) (from c : ℕ) → passes_on bound all pointers from c ≡ true → passes_to bound all pointers from c ≡ named p.covers pointers c
    unfolding passes_on passes_to named moved_pointer
    passes-named zero pointers from c h = absurd (not-both h refl)
    passes-named (suc bound) pointers from c h =
        ⊎_elim
        (λ t. absurd (not-both h (on-takes all (suc bound) pointers from c t)))
        (λ t.
        let onward = passes_to bound all (after pointers from) (next pointers from) c in
        to-passes all bound pointers from c t
        ∙ ⊎_elim
        (λ e. ap (λ (b : Bool). cond b (next pointers from) onward) e ∙ ap (next pointers) (eqb-true from c e))
        (λ e.
        ap (λ (b : Bool). cond b (next pointers from) onward) e
        ∙ passes-named bound (after pointers from) (next pointers from) c (on-later all bound pointers from c t e h)
        ∙ ap (λ (v : ℕ). nth (get_or p.covers c 0) (moved (get_or p.covers c 0) v)) (beside pointers from c e))
        (either (eqb from c)))
        (either (takes all from))

  -- ---- one call

  -- the pointer of a class after a call
  abbrev moves-on : State → ℕ → Bool → ℕ
  moves-on s c b = cond b (moved_pointer p.covers s.turns.pointers c) (get_or s.turns.pointers c 0)

  module _ (s : State) (fits : in_range p s ≡ true) (c : ℕ) (small : c < 16) where
    long : length s.turns.pointers ≡ 16
    long = (ranged p s fits).turns.pointers_fit.sixteen

    abbrev number : ℕ
    number = turn_number p s.cycle

    tick-moves : get_or (tick p s).state.turns.pointers c 0 ≡ moves-on s c (tick_passes p s c)
    unfolding tick_passes after_tick turns_at start_turn owned_by
    tick-moves =
        let passed = passes_on 16 (seen_at p s) s.turns.pointers (first_class p number) c in
        ⊎_elim
        (λ l.
        ap (λ (t : Ticked). get_or t.state.turns.pointers c 0) (tick_is p s fits l)
        ∙ ⊎_elim
        (λ e.
        ap (λ (t : TurnStart). get_or t.turns.pointers c 0) (on-true (turn_starts p s.cycle) _ _ e)
        ∙ pointer-after s.queues.lengths (left_tried p number (left_at_start p number s.turns.left)) 16 s.turns.pointers (first_class p number) c long small
        ∙ sym (ap (λ (b : Bool). moves-on s c (b && turn_starts p s.cycle && passed)) l ∙ ap (λ (b : Bool). moves-on s c (b && passed)) e))
        (λ e.
        ap (λ (t : TurnStart). get_or t.turns.pointers c 0) (on-false (turn_starts p s.cycle) _ _ e)
        ∙ sym (ap (λ (b : Bool). moves-on s c (b && turn_starts p s.cycle && passed)) l ∙ ap (λ (b : Bool). moves-on s c (b && passed)) e))
        (either (turn_starts p s.cycle)))
        (λ l.
        ap (λ (t : Ticked). get_or t.state.turns.pointers c 0) (tick-late p s fits l)
        ∙ sym (ap (λ (b : Bool). moves-on s c (b && turn_starts p s.cycle && passed)) l))
        (either (ltb s.cycle last_cycle))

    answer-moves : (t : Call) → get_or (answer p s t).state.turns.pointers c 0 ≡ moves-on s c (call_passes p s t c)
    unfolding answer call_passes offer_on
    answer-moves Tick = tick-moves
    answer-moves (Offer r) = ap (λ (o : Offered). get_or o.state.turns.pointers c 0) (offer-is p s fits r)
    answer-moves Malformed = refl

    -- a class that a call passes on from has a child
    call-full : (t : Call) → call_passes p s t c ≡ true → covers_of p c ≡ 0 → ⊥
    unfolding call_passes tick_passes covers_of
    call-full Tick h none =
        passes-full (seen_at p s) 16 s.turns.pointers (first_class p number) c
        (and_right (tick_starts p s) _ h)
        none
    call-full (Offer r) h none = not-both h refl
    call-full Malformed h none = not-both h refl

    -- from one in turn to the next
    call-turn : (m : ℕ) → get_or s.turns.pointers c 0 ≡ in_turn (cover_count p c) m → (w : ℕ) → get_or (answer_to p s w).state.turns.pointers c 0 ≡ in_turn (cover_count p c) (m + cond (call_passes p s (call_of w) c) 1 0)
    unfolding answer_to moved_pointer cover_count covers_of
    call-turn m h w =
        let passed = call_passes p s (call_of w) c in
        let k = size (get_or p.covers c 0) in
        let none : m ≡ m + 0 = omega arith in
        answer-moves (call_of w)
        ∙ ⊎_elim
        (λ e.
        ap (moves-on s c) e
        ∙ ap (moved (get_or p.covers c 0)) h
        ∙ next-turn (get_or p.covers c 0) m ((climbs p given).sets c) (call-full (call_of w) e)
        ∙ sym (ap (λ (b : Bool). in_turn k (m + cond b 1 0)) e))
        (λ e. ap (moves-on s c) e ∙ h ∙ ap (in_turn k) none ∙ sym (ap (λ (b : Bool). in_turn k (m + cond b 1 0)) e))
        (either passed)

  -- ---- the log

  module _ (s : State) (fits : in_range p s ≡ true) where
    abbrev owner : ℕ
    owner = (try_class 16 (seen_at p s) s.turns.pointers (tried_first p s)).owner

    abbrev started : TurnStart
    started = start_turn p (turn_number p s.cycle) s.queues.lengths s.turns.left s.turns.pointers

    -- what holds of a turn's start holds of the tick's turns and its turn number
    pub at-start : tick_starts p s ≡ true → (P : Turns → ℕ → Type 0) → P started.turns started.shown → P (turns_after p s) (answer_to p s 0).turn
    unfolding after_tick turns_at
    at-start h P holds =
        subst (λ (a : Answer). P a.state.turns a.turn) (sym (tick-answered p s fits (and_left (ltb s.cycle last_cycle) (turn_starts p s.cycle) h)))
        (subst (λ (t : TurnStart). P t.turns t.shown) (sym (on-true (turn_starts p s.cycle) _ _ (and_right (ltb s.cycle last_cycle) (turn_starts p s.cycle) h))) holds)

    pub owner-shown : tick_starts p s ≡ true → (d : ℕ) → owner ≡ d → Shows p s d
    unfolding start_turn owned_by tick_tries
    owner-shown h d o = at-start h (λ turns shown. shown ≡ turn_word d turns.elided (tick_tries p s)) (ap (λ (x : ℕ). turn_word x started.turns.elided (tick_tries p s)) o)

    -- from the traversal to the log
    seen : tick_starts p s ≡ true → (d : ℕ) → Tries 16 (seen_at p s) s.turns.pointers (tried_first p s) d → Shows p s d ⊎ (tick_passes p s d ≡ true)
    unfolding tick_passes
    seen h d = ⊎_elim (λ o. inl (owner-shown h d o)) (λ o. inr (and_both h o))

    -- and back: the owner is the class that is shown, and has not passed the turn on
    shown-stays : tick_starts p s ≡ true → (d : ℕ) → Shows p s d → tick_passes p s d ≡ false
    unfolding tick_passes turn_word
    shown-stays h d shows =
        let same : owner ≡ d = omega (arith, sym (owner-shown h owner refl) ∙ shows) in
        and-fails-right (tick_starts p s) _
        (subst (λ (c : ℕ). passes_on 16 (seen_at p s) s.turns.pointers (tried_first p s) c ≡ false) same
        (owner-keeps (seen_at p s) p.rows (climbs p given) 16 s.turns.pointers (tried_first p s)))

    -- ---- the trial walk

    -- what the trial walk says, before a turn that is no home turn
    trial : home_turn p (next_turn p s) ≡ false → started.turns.elided ≡ reaches 16 (ahead_of p (turn_number p s.cycle) started.turns.left started.turns.pointers) started.turns.owner (least p)
    unfolding start_turn owned_by
    trial = elides-other p (turn_number p s.cycle) started.turns.left started.turns.pointers started.turns.owner

    -- and the traversal of that turn, from the least class by the turns left as they are
    from_least : home_turn p (next_turn p s) ≡ false → (lengths : List ℕ) → TriesOwner p (next_turn p s) started.turns lengths ≡ Tries 16 (candidates p.covers lengths (next_left p (turn_number p s.cycle) started.turns.left)) started.turns.pointers (least p) started.turns.owner
    unfolding next_left left_at_start
    from_least other lengths = rw (first-least p (next_turn p s) other, tried_other p (next_turn p s) (left_at_start p (next_turn p s) started.turns.left) other)

    trial-dropped : tick_starts p s ≡ true → home_turn p (next_turn p s) ≡ false → (turns_after p s).elided ≡ true → (lengths : List ℕ) → TriesOwner p (next_turn p s) (turns_after p s) lengths
    trial-dropped h other =
        at-start h (λ turns shown. turns.elided ≡ true → (lengths : List ℕ) → TriesOwner p (next_turn p s) turns lengths)
        (λ e lengths.
        rw (from_least other lengths)
        (follows p given lengths (next_left p (turn_number p s.cycle) started.turns.left) started.turns.pointers started.turns.owner 16 (least p) started.turns.pointers (λ j b. refl) (sym (trial other) ∙ e)))

    trial-kept : tick_starts p s ≡ true → home_turn p (next_turn p s) ≡ false → (turns_after p s).elided ≡ false → (lengths : List ℕ) → ((c : ℕ) → c < 16 → (get_or lengths c 0 ≡ 0) → ⊥) → TriesOwner p (next_turn p s) (turns_after p s) lengths → ⊥
    trial-kept h other =
        at-start h (λ turns shown. turns.elided ≡ false → (lengths : List ℕ) → ((c : ℕ) → c < 16 → (get_or lengths c 0 ≡ 0) → ⊥) → TriesOwner p (next_turn p s) turns lengths → ⊥)
        (λ e lengths waits tries.
        not-both
        (leads p given lengths (next_left p (turn_number p s.cycle) started.turns.left) started.turns.pointers started.turns.owner waits 16 (least p) started.turns.pointers (policy-laws p given).lowest.is-class (λ j b. refl)
        (rw (sym (from_least other lengths)) tries))
        (sym (trial other) ∙ e))

    home-next : tick_starts p s ≡ true → home_turn p (next_turn p s) ≡ true → (turns_after p s).elided ≡ flows p (turns_after p s).owner (home_class p (next_turn p s))
    unfolding start_turn owned_by
    home-next h home =
        at-start h (λ turns shown. turns.elided ≡ flows p turns.owner (home_class p (next_turn p s)))
        (elides-home p (turn_number p s.cycle) started.turns.left started.turns.pointers started.turns.owner home)

    -- ---- home turns

    home-taken : tick_starts p s ≡ true → takes_home p (turn_number p s.cycle) s.queues.lengths ≡ true → Shows p s (home_class p (turn_number p s.cycle)) × ((turns_after p s).left ≡ left_at_start p (turn_number p s.cycle) s.turns.left)
    unfolding start_turn owned_by charged takes_home ends_at
    home-taken h taken =
        let k = turn_number p s.cycle in
        let left = left_at_start p k s.turns.left in
        let long = (start-within p given k s.turns.left (ranged p s fits).turns.left_within).sixteen in
        let home = first_home p k (and_left (home_turn p k) _ taken) in (
          owner-shown h (home_class p k) (ap (λ (r : Reached). r.owner) (home-takes p given k s.queues.lengths left long taken 16 s.turns.pointers) ∙ home),
          at-start h (λ turns shown. turns.left ≡ left) (ap (λ (b : Bool). cond b left (charge left owner)) taken),
        )

    home-charged : tick_starts p s ≡ true → takes_home p (turn_number p s.cycle) s.queues.lengths ≡ false → (turns_after p s).left ≡ charge (left_at_start p (turn_number p s.cycle) s.turns.left) (turns_after p s).owner
    unfolding start_turn owned_by charged
    home-charged h idle =
        let left = left_at_start p (turn_number p s.cycle) s.turns.left in
        at-start h (λ turns shown. turns.left ≡ charge left turns.owner) (ap (λ (b : Bool). cond b left (charge left owner)) idle)

  -- ---- a list of calls

  list-turn : (s : State) → in_range p s ≡ true → (c : ℕ) → c < 16 → (m : ℕ) → get_or s.turns.pointers c 0 ≡ in_turn (cover_count p c) m → (ws : List ℕ) → get_or (state_after p s ws).turns.pointers c 0 ≡ in_turn (cover_count p c) (m + passed_turns p s ws c)
  unfolding state_after passed_turns
  list-turn s fits c small m h [] = let none : m ≡ m + 0 = omega arith in h ∙ ap (in_turn (cover_count p c)) none
  list-turn s fits c small m h (w ∷ ws) =
      let one : ℕ = cond (call_passes p s (call_of w) c) 1 0 in
      let rest = passed_turns p (answer_to p s w).state ws c in
      let sum : m + one + rest ≡ m + (one + rest) = omega arith in
      list-turn (answer_to p s w).state (answered-in-range p s w fits) c small (m + one) (call-turn s fits c small m h w) ws ∙ ap (in_turn (cover_count p c)) sum

  fresh-turn : (c : ℕ) → get_or (fresh_state p).turns.pointers c 0 ≡ in_turn (cover_count p c) 0
  unfolding fresh_state state_at_start in_turn
  fresh-turn c = zero-at 16 c

  pointer-turn : (ws : List ℕ) (c : ℕ) → c < 16 → get_or (state_after p (fresh_state p) ws).turns.pointers c 0 ≡ in_turn (cover_count p c) (passed_turns p (fresh_state p) ws c)
  pointer-turn ws c small =
      let none : 0 + passed_turns p (fresh_state p) ws c ≡ passed_turns p (fresh_state p) ws c = omega arith in
      list-turn (fresh_state p) (fresh-fits p given) c small 0 (fresh-turn c) ws ∙ ap (in_turn (cover_count p c)) none

  pub round-robin : RoundRobin p
  unfolding tick_passes tick_passes_to named moved_pointer cover_count cover covers_of
  round-robin =
      record {
        moves = λ s fits c small. ap (λ (a : Answer). get_or a.state.turns.pointers c 0) (tick_called p s) ∙ tick-moves s fits c small;
        pointer = pointer-turn;
        goes =
            λ ws c small h.
            let s = state_after p (fresh_state p) ws in
            let number = turn_number p s.cycle in
            let passed = and_right (tick_starts p s) _ h in
            let lengths = s.queues.lengths in
            let left = left_tried p number (left_at_start p number s.turns.left) in
            passes-named lengths left 16 s.turns.pointers (first_class p number) c passed
            ∙ ap (λ (v : ℕ). nth (get_or p.covers c 0) (moved (get_or p.covers c 0) v)) (pointer-turn ws c small)
            ∙ ap (nth (get_or p.covers c 0))
            (next-turn (get_or p.covers c 0) (passed_turns p (fresh_state p) ws c) ((climbs p given).sets c)
            (passes-full (seen_at p s) 16 s.turns.pointers (first_class p number) c passed));
        starts = λ s fits h. seen s fits h (tried_first p s) (first-tried (seen_at p s) 16 s.turns.pointers (tried_first p s));
        ends =
            λ s fits c h.
            seen s fits (and_left (tick_starts p s) _ h) (tick_passes_to p s c) (next-tried (seen_at p s) 16 s.turns.pointers (tried_first p s) c (and_right (tick_starts p s) _ h));
        stays = shown-stays;
      }

  pub trial-follows : TrialFollows p
  trial-follows = record { dropped = trial-dropped; kept = trial-kept; before_home = home-next }

  pub home-turns : HomeTurns p
  home-turns = record { taken = home-taken; charged = home-charged }
