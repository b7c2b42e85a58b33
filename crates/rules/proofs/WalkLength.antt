-- W-212's promises hold of every policy in range. A walk passes the turn on from a class to one strictly above, so the classes that it tries are a rising chain from the first, and no longer than the longest. Where nobody
-- waits, and each mark is such that it next names the child from which the longest chain goes on, the walk from every class goes along one. What a turn number shows beside the field is what the turns are, and the count is
-- no part of them.
-- Assumes nothing.
use mathlib.Core.Path.{◌≡◌, refl, sym, ap, ap₂, ◌∙◌, subst}
use mathlib.Core.Logic.{⊎_elim}
use mathlib.Core.Bool.{Bool, true, false, cond, ◌&&◌}
use mathlib.Core.List.{List, [], ◌∷◌}
use Prim.Native.Nat.{ℕ, ◌+◌, ◌-◌, ◌≤◌, ◌<◌}
use native.Mathlib.Nat.{le_refl, le_trans, le_of_lt, not-suc-le-zero}
use native.Mathlib.Omega.{arith}
use borrow.Author.Tests.{eqb-true, eq-eqb, ne_eqb, lt-ltb}
use lib.Dec.{eqb}
use lib.ListN.{length, get_or}
use lib.Seq.{get_or-set_other}
use Rattle.basics.specs.Below.{some, first, count, list_of}
use Rattle.masks.specs.Mask.{member, size}
use Rattle.order.specs.Chains.{rising}
use Rattle.policy.specs.Policy.{is_class, flows, strictly, least, above, covers_of, cover_count, cover, walk_bound, in_range as policy_in_range}
use Rattle.policy.specs.declared.Policy.{Policy}
use Rattle.basics.proofs.Truth.{either, not-both, and_both}
use Rattle.basics.proofs.Below.{some_at, First, first_found, first-none, count_same, length-list_of, get_or-list_of}
use Rattle.masks.proofs.Masks.{member-zero}
use Rattle.order.proofs.Orders.{strictly-flows, strictly-apart}
use Rattle.policy.proofs.Laws.{policy-laws}
use Rattle.requests.specs.Sizes.{last_cycle}
use Rattle.requests.proofs.Trace.{told-offer, told-malformed}
use Rattle.requests.specs.Trace.{call_of}
use Rattle.requests.specs.declared.Call.TheVariants.{Tick}
use Rattle.state.specs.Fresh.{zeros, empty_queues, fresh_state}
use Rattle.state.specs.Range.{in_range}
use Rattle.state.specs.declared.State.{State}
use Rattle.rules.specs.Traversal.{first_class, candidates, moved, moved_pointer, passed_at, named, takes, Reached, ends_at, try_class}
use Rattle.rules.specs.Step.{turn_starts, turn_number, turn_word, owned_by, start_turn}
use Rattle.rules.specs.Call.{offer_on, silent, after_tick}
use Rattle.rules.specs.Calls.{answer_to, log_of}
use Rattle.rules.specs.RoundRobin.{passes_on, seen_at, tried_first, tick_starts, tick_passes, tick_tries, turns_after}
use Rattle.rules.specs.Guarantees.{first_tick, Started}
use Rattle.rules.specs.WalkLength.{tried_shown, walk_shown, LongWalks, turn_without, log_without, without_tried, field_cleared, WalkLength}
use Rattle.rules.proofs.Traversal.{named-covers, passes-on, idle-top, tried-some, tried-few, traverse, traversed, falls, climbs, first-class, first_small, ascends}
use Rattle.rules.proofs.Passing.{tried-counted}
use Rattle.rules.proofs.Step.{turn-shown}
use Rattle.rules.proofs.Range.{Within, in-range}
use Rattle.rules.proofs.CallsKept.{zero-at, idle_at, idle-ranged, fresh-fits}
use Rattle.rules.proofs.SingleCalls.{any-call}
use Rattle.rules.proofs.Calls.{answered-in-range}
use Rattle.rules.proofs.RoundRobin.{at-start, owner-shown}
use Rattle.rules.proofs.ListTurns as list

-- ---- what a turn number shows

-- the field has the count, and the rest of the number the owner and the elision
shows-tried : (o : ℕ) (b : Bool) (n : ℕ) → o < 16 → n ≤ 17 → tried_shown (turn_word o b n) ≡ n
unfolding tried_shown turn_word
shows-tried o true n small few = omega (arith, small, few)
shows-tried o false n small few = omega (arith, small, few)

rest-shown : (o : ℕ) (b : Bool) (n : ℕ) → o < 16 → n ≤ 17 → without_tried (turn_word o b n) ≡ 1 + o + cond b 256 0
unfolding without_tried turn_word
rest-shown o true n small few = omega (arith, small, few)
rest-shown o false n small few = omega (arith, small, few)

nothing-without : without_tried 0 ≡ 0
unfolding without_tried
nothing-without = refl

module _ (p : Policy) (given : policy_in_range p ≡ true) where
  -- ---- one tick

  module _ (s : State) (fits : in_range p s ≡ true) (starts : tick_starts p s ≡ true) where
    abbrev reached : Reached
    reached = try_class 16 (seen_at p s) s.turns.pointers (tried_first p s)

    owner_small : reached.owner < 16
    owner_small =
        let order = (policy-laws p given).order in
        order.class_small reached.owner (order.to_class (tried_first p s) reached.owner (ascends p given 16 _ _ s.turns.pointers (tried_first p s) (first-class p given (turn_number p s.cycle))))

    shown : (answer_to p s 0).turn ≡ turn_word reached.owner (turns_after p s).elided (tick_tries p s)
    shown = owner-shown p given s fits starts reached.owner refl

    few : tick_tries p s ≤ 17
    unfolding tick_tries
    few = tried-few (seen_at p s) 16 s.turns.pointers (tried_first p s)

    shows-tries : tried_shown (answer_to p s 0).turn ≡ tick_tries p s
    shows-tries = ap tried_shown shown ∙ shows-tried reached.owner (turns_after p s).elided (tick_tries p s) owner_small few

    counted : tried_shown (answer_to p s 0).turn ≡ count 16 (tick_passes p s) + 1
    unfolding tick_tries tick_passes
    counted =
        shows-tries
        ∙ tried-counted (seen_at p s) p.rows (climbs p given) 16 s.turns.pointers (tried_first p s) (first_small p given (turn_number p s.cycle))
        ∙ ap (λ (n : ℕ). n + 1) (count_same _ (tick_passes p s) 16 (λ c l. sym (ap (λ (b : Bool). b && passes_on 16 (seen_at p s) s.turns.pointers (tried_first p s) c) starts)))

  -- ---- the bound

  -- the classes that a traversal tries after the first are a rising chain from it
  record Tried (c : ℕ) (r : Reached) : Type 0 where
    chain : List ℕ
    rises : rising p.rows c chain ≡ true
    all : length chain + 1 ≡ r.tried

  tried-rises : (lengths left : List ℕ) (bound : ℕ) (pointers : List ℕ) (c : ℕ) → Tried c (try_class bound (candidates p.covers lengths left) pointers c)
  unfolding ends_at rising covers_of strictly
  tried-rises lengths left =
      let all = candidates p.covers lengths left in
      traversed all (λ pointers c r. Tried c r) (λ pointers c. record { chain = []; rises = refl; all = refl })
      (λ bound pointers c t rest.
      let next = named p.covers pointers c in
      let up = (((policy-laws p given).covering.exactly c next).0 (named-covers p.covers pointers c ((climbs p given).sets c) (passes-on all c t))).strict in
      record { chain = next ∷ rest.chain; rises = and_both up rest.rises; all = omega (arith, rest.all) })

  within-bound : (lengths left : List ℕ) (bound : ℕ) (pointers : List ℕ) (c : ℕ) → is_class p c ≡ true → (try_class bound (candidates p.covers lengths left) pointers c).tried ≤ walk_bound p c
  within-bound lengths left bound pointers c class =
      let tried = tried-rises lengths left bound pointers c in
      subst (λ (n : ℕ). n ≤ walk_bound p c) tried.all (((policy-laws p given).chains.longest c class).none_longer tried.chain tried.rises)

  bounded_anywhere : (s : State) → in_range p s ≡ true → tick_starts p s ≡ true → tried_shown (answer_to p s 0).turn ≤ walk_bound p (tried_first p s)
  unfolding tick_tries
  bounded_anywhere s fits starts =
      subst (λ (n : ℕ). n ≤ walk_bound p (tried_first p s)) (sym (shows-tries s fits starts))
      (within-bound _ _ 16 s.turns.pointers (tried_first p s) (first-class p given (turn_number p s.cycle)))

  module _ (ws : List ℕ) (k : ℕ) (started : Started p ws k) where
    shows-walk : walk_shown p ws k ≡ (list.walk p given ws k).tried
    shows-walk =
        ap tried_shown (list.shows p given ws k started)
        ∙ shows-tried (list.owner p given ws k) (list.started p given ws k).turns.elided (list.walk p given ws k).tried (list.owner_here p given ws k) (tried-few _ 16 _ (first_class p k))

    bounded : (1 ≤ walk_shown p ws k) × (walk_shown p ws k ≤ walk_bound p (first_class p k))
    bounded = (
      subst (λ (n : ℕ). 1 ≤ n) (sym shows-walk) (tried-some _ 16 _ (first_class p k)),
      subst (λ (n : ℕ). n ≤ walk_bound p (first_class p k)) (sym shows-walk) (within-bound _ _ 16 _ (first_class p k) (first-class p given k)),
    )

    one_cycle : walk_shown p ws k ≤ walk_bound p (least p)
    one_cycle = le_trans bounded.1 ((policy-laws p given).chains.from_least (first_class p k) (first-class p given k))

  -- ---- it is met

  -- the child with number m + 1 is one from which the longest chain goes on
  goes-on : ℕ → ℕ → Bool
  goes-on c m = eqb (walk_bound p (cover p c (m + 1)) + 1) (walk_bound p c)

  -- a class's mark before the first such child, and all marks so
  before-it : ℕ → ℕ
  before-it c = first (cover_count p c) (goes-on c)

  marks : List ℕ
  marks = list_of 16 before-it

  marks-fit : Within (cover_count p) marks
  unfolding marks before-it
  marks-fit =
      record {
        sixteen = length-list_of before-it 16;
        within =
            λ j l.
            subst (λ (n : ℕ). n ≤ cover_count p j) (sym (get_or-list_of before-it 16 j l))
            (⊎_elim (λ t. le_of_lt (first_found (goes-on j) (cover_count p j) t).below) (λ t. subst (λ (n : ℕ). n ≤ cover_count p j) (sym (first-none (goes-on j) (cover_count p j) t)) (le_refl (cover_count p j))) (either (some (cover_count p j) (goes-on j))));
      }

  -- where a class has a cover, its mark is before one from which the longest chain goes on
  mark-leads : (c : ℕ) → is_class p c ≡ true → ((covers_of p c ≡ 0) → ⊥) → First (goes-on c) (cover_count p c) (before-it c)
  unfolding before-it goes-on
  mark-leads c class full =
      ⊎_elim
      (λ none. absurd (full none.0))
      (λ on.
      let number = (policy-laws p given).covering.numbered c on.0 on.1 in
      let place : number.0 - 1 + 1 ≡ number.0 = omega (arith, number.1) in
      first_found (goes-on c) (cover_count p c)
      (some_at (goes-on c) (cover_count p c) (number.0 - 1) (omega (arith, number.1, number.2))
      (eq-eqb _ (walk_bound p c) (ap (λ (m : ℕ). walk_bound p (cover p c m) + 1) place ∙ ap (λ (j : ℕ). walk_bound p j + 1) number.3 ∙ on.2))))
      ((policy-laws p given).chains.to_cover c class)

  -- so it names that child
  named-on : (c : ℕ) (pointers : List ℕ) → is_class p c ≡ true → ((covers_of p c ≡ 0) → ⊥) → get_or pointers c 0 ≡ before-it c → walk_bound p (named p.covers pointers c) + 1 ≡ walk_bound p c
  unfolding named moved_pointer moved cover covers_of cover_count goes-on
  named-on c pointers class full same =
      let leads = mark-leads c class full in
      rw (ne_eqb (get_or p.covers c 0) 0 full, same, lt-ltb (before-it c) (size (get_or p.covers c 0)) leads.below) (eqb-true _ (walk_bound p c) leads.passes)

  -- a class without a cover is alone on its chain
  alone : (c : ℕ) → is_class p c ≡ true → covers_of p c ≡ 0 → walk_bound p c ≡ 1
  alone c class none =
      ⊎_elim (λ only. only.1) (λ on. absurd (not-both on.1 (ap (λ (m : ℕ). member m on.0) none ∙ member-zero on.0))) ((policy-laws p given).chains.to_cover c class)

  -- the marks from a class on, where the walk has not yet come
  abbrev Ahead : List ℕ → ℕ → Type 0
  Ahead pointers c = (d : ℕ) → flows p c d ≡ true → get_or pointers d 0 ≡ before-it d

  long-walk : (left : List ℕ) (bound : ℕ) (pointers : List ℕ) (c : ℕ) → Ahead pointers c → is_class p c ≡ true → above p c ≤ bound → (try_class bound (candidates p.covers (zeros 16) left) pointers c).tried ≡ walk_bound p c
  unfolding ends_at passed_at above covers_of strictly flows
  long-walk left =
      let all = candidates p.covers (zeros 16) left in
      let laws = policy-laws p given in
      traverse all (λ bound pointers c r. Ahead pointers c → is_class p c ≡ true → above p c ≤ bound → r.tried ≡ walk_bound p c)
      (λ pointers c ahead class h.
      ⊎_elim (λ t. sym (alone c class (idle-top all c (zero-at 16 c) t))) (λ t. absurd (not-suc-le-zero {n = 0} (omega (arith, falls all p.rows (climbs p given) pointers c t, h)))) (either (takes all c)))
      (λ bound pointers c t ahead class h. sym (alone c class (idle-top all c (zero-at 16 c) t)))
      (λ bound pointers c t rest ahead class h.
      let next = named p.covers pointers c in
      let full = passes-on all c t in
      let strict = ((laws.covering.exactly c next).0 (named-covers p.covers pointers c ((climbs p given).sets c) full)).strict in
      let up = strictly-flows p.rows c next strict in
      let still : Ahead (passed_at p.covers pointers c) next =
      λ d on.
      get_or-set_other pointers c d (moved_pointer p.covers pointers c) 0
      (λ e. strictly-apart p.rows c next strict (laws.order.antisymmetric c next up (subst (λ (x : ℕ). flows p next x ≡ true) e on)))
      ∙ ahead d (laws.order.transitive c next d up on)
      in
      omega (arith, rest still (laws.order.to_class c next up) (omega (arith, falls all p.rows (climbs p given) pointers c t, h)), named-on c pointers class full (ahead c (laws.order.reflexive c class))))

  sharp : (k : ℕ) → first_tick p k < last_cycle → LongWalks p k
  unfolding marks empty_queues tick_tries
  sharp k early =
      let s = idle_at p (first_tick p k) marks in
      let laws = policy-laws p given in
      let fits = in-range p s (idle-ranged p given (first_tick p k) (le_of_lt early) marks marks-fit) in
      let starts : tick_starts p s ≡ true = and_both (lt-ltb (first_tick p k) last_cycle early) (list.starts-there p given k) in
      let ahead : (c : ℕ) → Ahead marks c = λ c d on. get_or-list_of before-it 16 d (laws.order.class_small d (laws.order.to_class c d on)) in
      let walks : (c : ℕ) → is_class p c ≡ true → (try_class 16 (seen_at p s) marks c).tried ≡ walk_bound p c = λ c class. long-walk _ 16 marks c (ahead c) class (le_of_lt (laws.higher.few c)) in
      record {
        state = s;
        ranges = fits;
        cycle_is = refl;
        from_each = walks;
        shown = shows-tries s fits starts ∙ walks (tried_first p s) (first-class p given (turn_number p (first_tick p k))) ∙ ap (λ (j : ℕ). walk_bound p (first_class p j)) (list.number-there p given k);
      }

  -- ---- the field alone

  -- where no turn starts a tick shows none
  no-turn : (s : State) → in_range p s ≡ true → tick_starts p s ≡ false → (answer_to p s 0).turn ≡ 0
  unfolding after_tick silent
  no-turn s fits =
      any-call p s fits (λ w a. tick_starts p s ≡ false → a.turn ≡ 0)
      (λ left none.
      let other : turn_starts p s.cycle ≡ false = rw left at none in
      let shown = turn-shown p s.cycle s.queues.lengths s.turns in
      rw other at shown)
      (λ late none. refl) (λ w other offer none. refl) (λ w other malformed none. refl) 0

  -- a tick's turn number, and any call's
  tick-without : (s : State) → in_range p s ≡ true → without_tried (answer_to p s 0).turn ≡ turn_without p s Tick
  unfolding turn_without start_turn owned_by
  tick-without s fits =
      let now = turns_after p s in
      ⊎_elim
      (λ starts.
      at-start p given s fits starts (λ turns shown. without_tried shown ≡ 1 + turns.owner + cond turns.elided 256 0)
      (rest-shown (reached s fits starts).owner _ (reached s fits starts).tried (owner_small s fits starts) (tried-few (seen_at p s) 16 s.turns.pointers (tried_first p s)))
      ∙ sym (ap (λ (b : Bool). cond b (1 + now.owner + cond now.elided 256 0) 0) starts))
      (λ none. ap without_tried (no-turn s fits none) ∙ nothing-without ∙ sym (ap (λ (b : Bool). cond b (1 + now.owner + cond now.elided 256 0) 0) none))
      (either (tick_starts p s))

  turn-without : (s : State) → in_range p s ≡ true → (w : ℕ) → without_tried (answer_to p s w).turn ≡ turn_without p s (call_of w)
  unfolding turn_without call_of offer_on
  turn-without s fits w =
      ⊎_elim
      (λ tick. subst (λ (x : ℕ). without_tried (answer_to p s x).turn ≡ turn_without p s (call_of x)) (sym (eqb-true w 0 tick)) (tick-without s fits))
      (any-call p s fits (λ x a. eqb x 0 ≡ false → without_tried a.turn ≡ turn_without p s (call_of x))
      (λ left other. absurd (not-both (eq-eqb 0 0 refl) other))
      (λ late other. absurd (not-both (eq-eqb 0 0 refl) other))
      (λ x other offer again. nothing-without ∙ sym (ap (turn_without p s) (told-offer x other offer)))
      (λ x other malformed again. nothing-without ∙ sym (ap (turn_without p s) (told-malformed x other malformed)))
      w)
      (either (eqb w 0))

  log-without : (ws : List ℕ) (s : State) → in_range p s ≡ true → field_cleared (length ws) (log_of p s ws) ≡ log_without p s ws
  unfolding field_cleared log_of log_without
  log-without [] s fits = refl
  log-without (w ∷ ws) s fits =
      let a = answer_to p s w in
      ap₂ (λ (turn : ℕ) (rest : List ℕ). a.status ∷ a.command ∷ a.response ∷ turn ∷ rest) (turn-without s fits w) (log-without ws a.state (answered-in-range p s w fits))

  pub walk-length : WalkLength p
  unfolding owned_by
  walk-length =
      record {
        counted = counted;
        bounded = bounded;
        bounded_anywhere = bounded_anywhere;
        one_cycle = one_cycle;
        sharp = sharp;
        field_alone = λ ws. log-without ws (fresh_state p) (fresh-fits p given);
        decides_nothing = λ k more lengths left r. refl;
      }
