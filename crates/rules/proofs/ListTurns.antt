-- The turns of a list of calls from fresh, by their numbers. In an epoch a traversal can come to a class in no more turns than the class's cap, since the home turns of classes strictly above are not among them. A turn's start
-- picks an owner that its first class may flow to: a home turn's class if a request of it waits, and at another turn the least class if one of it waits and it has a turn left. The log names the owner, who has every tick of the turn.
-- So a class that does not own a turn loses no request in it.
-- Assumes nothing.
use mathlib.Core.Path.{◌≡◌, sym, ap, ◌∙◌, subst}
use mathlib.Core.Logic.{◌≢◌}
use mathlib.Core.Bool.{Bool, true, false, not, ◌&&◌}
use mathlib.Core.List.{List}
use Prim.Native.Nat.{ℕ, zero, suc, ◌+◌, ◌*◌, ◌%◌, ◌≤◌, ◌<◌, zero-le}
use native.Mathlib.Nat.{lt_of_le_of_lt, le_refl, not-suc-le-zero, mul-mod_left, mul-div_cancel, mul-add-mod_self_right, mod-eq_of_lt, mul-le-mul_right}
use native.Mathlib.Omega.{arith}
use borrow.Author.Tests.{eqb-true, eq-eqb, ne_eqb, ltb-true, lt-ltb}
use lib.Dec.{ltb, eqb}
use lib.ListN.{get_or}
use Rattle.basics.specs.Below.{count}
use Rattle.turns.specs.Turns.{minimums_above}
use Rattle.policy.specs.Policy.{is_class, flows, strictly, least, cap, minimum, home_turn, home_class, in_range as policy_in_range}
use Rattle.policy.specs.declared.Policy.{Policy}
use Rattle.basics.proofs.Truth.{and_left, and_right, and_both, on-true, on-false}
use Rattle.basics.proofs.Below.{count-apart}
use Rattle.order.proofs.Orders.{strictly-flows, strictly-apart}
use Rattle.policy.proofs.Laws.{policy-laws}
use Rattle.requests.specs.Sizes.{last_cycle}
use Rattle.queues.specs.Waiting.{length_of}
use Rattle.state.specs.Fresh.{state_at_start, fresh_state}
use Rattle.state.specs.declared.State.{State}
use Rattle.state.specs.declared.Turns.{Turns}
use Rattle.rules.specs.Traversal.{first_class, Reached, ends_at, left_tried, takes_home}
use Rattle.rules.specs.Step.{turn_starts, turn_number, left_at_start, turn_word, TurnStart, owned_by, traversal, start_turn, turns_at, Bus, goes_at, drive}
use Rattle.rules.specs.Call.{bus_at, after_tick}
use Rattle.rules.specs.Calls.{Answer, ticked, answer_to, state_after}
use Rattle.rules.specs.RoundRobin.{tick_tries}
use Rattle.rules.specs.Guarantees.{ticks_in, at_tick, first_tick, Started, Waits, owns}
use Rattle.rules.proofs.Traversal.{first_home, first-least, least-takes, first-class, home-takes, ascends}
use Rattle.rules.proofs.Queue.{dequeue-else, dequeue-apart}
use Rattle.rules.proofs.Step.{word-owner, outcome}
use Rattle.rules.proofs.TurnsKept.{start-within}
use Rattle.rules.proofs.Range.{ranged}
use Rattle.rules.proofs.CallsKept.{fresh-fits}
use Rattle.rules.proofs.SingleCalls.{tick-answered}
use Rattle.rules.proofs.Calls.{after-in-range}
use Rattle.rules.proofs.ListTicks.{Grown, grown-none, grown-more, Made, made}

-- the wires leave the queue of a class that does not own the turn
driven-beside : (b : Bus) (c : ℕ) → ((b.owner ≡ c) → ⊥) → Grown b.queues (drive b).queues c
driven-beside b c apart =
    let other : c ≢ b.owner = λ e. apart (sym e) in
    outcome b (λ d. Grown b.queues d.queues c)
    (λ due. grown-none b.queues c)
    (λ due goes. record { longer = omega (arith, dequeue-else b.queues b.owner (goes_at b) c other); oldest = λ some. dequeue-apart b.queues b.owner (goes_at b) c 0 other })
    (λ due stays. grown-none b.queues c)

module _ (p : Policy) (given : policy_in_range p ≡ true) where
  abbrev pub turn : ℕ
  turn = p.timing.turn

  pub some_turn : 0 < turn
  some_turn = omega (arith, (policy-laws p given).timed.turn_bounds.0)

  -- ---- turns and ticks

  pub starts-there : (k : ℕ) → turn_starts p (first_tick p k) ≡ true
  unfolding turn_starts
  starts-there k = eq-eqb (k * turn % turn) 0 (mul-mod_left k turn)

  pub number-there : (k : ℕ) → turn_number p (first_tick p k) ≡ k
  unfolding turn_number
  number-there k = mul-div_cancel k some_turn

  goes-on : (k i : ℕ) → suc i < turn → turn_starts p (first_tick p k + suc i) ≡ false
  unfolding turn_starts
  goes-on k i l =
      let offset : (k * turn + suc i) % turn ≡ suc i = mul-add-mod_self_right k turn (suc i) ∙ mod-eq_of_lt l in
      ne_eqb ((k * turn + suc i) % turn) 0 (λ e. not-suc-le-zero {n = i} (omega (arith, sym offset ∙ e)))

  -- ---- the plan

  -- the traversal of turn number k can come to class c
  abbrev pub comes : ℕ → ℕ → Bool
  comes c k = flows p (first_class p k) c

  -- in a turn that is no home turn it can come to the least class
  pub comes-to-least : (k : ℕ) → home_turn p k ≡ false → comes (least p) k ≡ true
  comes-to-least k other =
      let laws = policy-laws p given in
      subst (λ (x : ℕ). flows p x (least p) ≡ true) (sym (first-least p k other)) (laws.order.reflexive (least p) laws.lowest.is-class)

  -- turn j of epoch e is in the plan what turn j is
  pub in-epoch : (e j : ℕ) → (home_turn p (e * p.epoch + j) ≡ home_turn p j) × (home_class p (e * p.epoch + j) ≡ home_class p j)
  in-epoch e j = (policy-laws p given).homes.every_epoch (e * p.epoch + j) j (mul-add-mod_self_right e p.epoch j)

  -- turn j of an epoch is a home turn of a class strictly above class c
  abbrev pub higher-home : ℕ → ℕ → Bool
  higher-home c j = home_turn p j && strictly p c (home_class p j)

  -- in such a turn the traversal does not come to class c
  not-above : (e c j : ℕ) → comes c (e * p.epoch + j) ≡ true → higher-home c j ≡ true → ⊥
  unfolding strictly flows
  not-above e c j comes-there t =
      let there = e * p.epoch + j in
      let home : home_turn p there ≡ true = (in-epoch e j).0 ∙ and_left (home_turn p j) _ t in
      let higher = and_right (home_turn p j) _ t in
      let down : flows p (home_class p j) c ≡ true = subst (λ (x : ℕ). flows p x c ≡ true) (first_home p there home ∙ (in-epoch e j).1) comes-there in
      strictly-apart p.rows c (home_class p j) higher ((policy-laws p given).order.antisymmetric c (home_class p j) (strictly-flows p.rows c (home_class p j) higher) down)

  -- a class's cap and the home turns of classes strictly above make up the epoch
  pub all-but-higher : (c : ℕ) → is_class p c ≡ true → cap p c + count p.epoch (higher-home c) ≡ p.epoch
  unfolding strictly minimums_above minimum
  all-but-higher c class =
      let laws = policy-laws p given in
      let theirs : count p.epoch (higher-home c) ≡ minimums_above p.rows p.minimums c = laws.homes.as_often (strictly p c) in
      omega (arith, theirs, laws.capped.is_rest c class)

  -- so in an epoch it comes to a class in no more turns than the class's cap
  pub few-come : (e c : ℕ) → is_class p c ≡ true → count p.epoch (λ j. comes c (e * p.epoch + j)) ≤ cap p c
  few-come e c class =
      let apart = count-apart (λ j. comes c (e * p.epoch + j)) (higher-home c) p.epoch (λ j l. not-above e c j) in
      omega (arith, apart, all-but-higher c class)

  -- ---- the turns of a list

  module _ (ws : List ℕ) where
    pub at : (t : ℕ) → t < ticks_in p ws → Made p (fresh_state p) ws t
    unfolding fresh_state state_at_start
    at t l = made p ws (fresh_state p) t (fresh-fits p given) zero-le l

    not_late : (t : ℕ) → t < ticks_in p ws → t < last_cycle
    not_late t l = omega (arith, l, (ranged p (state_after p (fresh_state p) ws) (after-in-range p (fresh_state p) ws (fresh-fits p given))).cycle_bound)

    -- the tick is not refused
    pub answered : (t : ℕ) → t < ticks_in p ws → answer_to p (at_tick p ws t) 0 ≡ ticked (after_tick p (at_tick p ws t))
    answered t l = let m = at t l in tick-answered p (at_tick p ws t) m.fits (lt-ltb (at_tick p ws t).cycle last_cycle (subst (λ (k : ℕ). k < last_cycle) (sym m.number) (not_late t l)))

    -- the turns that it leaves, and the number that it shows of them
    abbrev pub begun : ℕ → TurnStart
    begun t = turns_at p t (at_tick p ws t).queues.lengths (at_tick p ws t).turns

    abbrev pub turns-after : ℕ → Turns
    turns-after t = (answer_to p (at_tick p ws t) 0).state.turns

    after_is : (t : ℕ) → t < ticks_in p ws → turns-after t ≡ (begun t).turns
    unfolding after_tick
    after_is t l =
        let s = at_tick p ws t in
        ap (λ (a : Answer). a.state.turns) (answered t l) ∙ ap (λ (k : ℕ). (turns_at p k s.queues.lengths s.turns).turns) (at t l).number

    pub shown-is : (t : ℕ) → t < ticks_in p ws → (answer_to p (at_tick p ws t) 0).turn ≡ (begun t).shown
    unfolding after_tick
    shown-is t l =
        let s = at_tick p ws t in
        ap (λ (a : Answer). a.turn) (answered t l) ∙ ap (λ (k : ℕ). (turns_at p k s.queues.lengths s.turns).shown) (at t l).number

    -- where a turn starts, those before it have started
    pub earlier : (j k : ℕ) → j ≤ k → Started p ws k → Started p ws j
    earlier j k h l = lt_of_le_of_lt (mul-le-mul_right turn h) l

    -- ---- a turn's start

    module _ (k : ℕ) where
      abbrev pub there : State
      there = at_tick p ws (first_tick p k)

      -- its traversal
      abbrev pub walk : Reached
      walk = traversal p k there.queues.lengths there.turns.left there.turns.pointers

      abbrev pub started : TurnStart
      started = start_turn p k there.queues.lengths there.turns.left there.turns.pointers

      abbrev pub owner : ℕ
      owner = started.turns.owner

      pub begun-is : begun (first_tick p k) ≡ started
      unfolding turns_at
      begun-is =
          on-true (turn_starts p (first_tick p k)) _ _ (starts-there k)
          ∙ ap (λ (j : ℕ). start_turn p j there.queues.lengths there.turns.left there.turns.pointers) (number-there k)

      -- it is owned by a class that the first one may flow to
      pub from_first : flows p (first_class p k) owner ≡ true
      unfolding start_turn owned_by
      from_first = ascends p given 16 there.queues.lengths (left_tried p k (left_at_start p k there.turns.left)) there.turns.pointers (first_class p k) (first-class p given k)

      pub owner_here : owner < 16
      owner_here = (policy-laws p given).order.class_small owner ((policy-laws p given).order.to_class (first_class p k) owner from_first)

      -- the log's number of it
      pub shows : Started p ws k → (answer_to p there 0).turn ≡ turn_word owner started.turns.elided walk.tried
      unfolding start_turn owned_by
      shows l = shown-is (first_tick p k) l ∙ ap (λ (r : TurnStart). r.shown) begun-is

      pub tries : Started p ws k → tick_tries p there ≡ walk.tried
      unfolding tick_tries
      tries l =
          ap (λ (j : ℕ). (traversal p j there.queues.lengths there.turns.left there.turns.pointers).tried)
          (ap (turn_number p) (at (first_tick p k) l).number ∙ number-there k)

      -- names it
      named : Started p ws k → (answer_to p there 0).turn % 256 ≡ owner + 1
      named l = ap (λ (x : ℕ). x % 256) (shows l) ∙ word-owner owner started.turns.elided walk.tried owner_here

      pub owned : (c : ℕ) → owns p ws c k ≡ true → owner ≡ c
      unfolding owns
      owned c e =
          let l = ltb-true (first_tick p k) (ticks_in p ws) (and_left (ltb (first_tick p k) (ticks_in p ws)) _ e) in
          let is = eqb-true ((answer_to p there 0).turn % 256) (c + 1) (and_right (ltb (first_tick p k) (ticks_in p ws)) _ e) in
          omega (arith, sym (named l) ∙ is)

      pub owning : (c : ℕ) → Started p ws k → owner ≡ c → owns p ws c k ≡ true
      unfolding owns
      owning c l e = and_both (lt-ltb (first_tick p k) (ticks_in p ws) l) (eq-eqb ((answer_to p there 0).turn % 256) (c + 1) (named l ∙ ap (λ (x : ℕ). x + 1) e))

      -- a class with a request waiting owns its home turn
      pub owns-home : Started p ws k → home_turn p k ≡ true → Waits p ws k (home_class p k) → owner ≡ home_class p k
      unfolding start_turn owned_by ends_at takes_home length_of
      owns-home l home waits =
          let lengths = there.queues.lengths in
          let left = left_at_start p k there.turns.left in
          let long = (start-within p given k there.turns.left (ranged p there (at (first_tick p k) l).fits).turns.left_within).sixteen in
          let taken : takes_home p k lengths ≡ true = and_both home (ap not (ne_eqb (get_or lengths (home_class p k) 0) 0 waits)) in
          ap (λ (r : Reached). r.owner) (home-takes p given k lengths left long taken 16 there.turns.pointers) ∙ first_home p k home

      -- so the log names the class
      pub owns-at-home : (c : ℕ) → Started p ws k → home_turn p k ≡ true → home_class p k ≡ c → Waits p ws k c → owns p ws c k ≡ true
      owns-at-home c l home its waits = owning c l (owns-home l home (subst (Waits p ws k) (sym its) waits) ∙ its)

      -- and a turn that is no home turn is the least class's, if a request of it waits and it has a turn left
      pub least_owns : Started p ws k → home_turn p k ≡ false → Waits p ws k (least p) → 1 ≤ get_or (left_at_start p k there.turns.left) (least p) 0 → owns p ws (least p) k ≡ true
      unfolding start_turn owned_by ends_at length_of
      least_owns l other waits some =
          let lengths = there.queues.lengths in
          let left = left_at_start p k there.turns.left in
          let has_left : eqb (get_or left (least p) 0) 0 ≡ false = ne_eqb (get_or left (least p) 0) 0 (λ none. not-suc-le-zero {n = 0} (omega (arith, some, none))) in
          owning (least p) l
          (ap (λ (r : Reached). r.owner) (least-takes p k lengths left other (ne_eqb (get_or lengths (least p) 0) 0 waits) has_left 16 there.turns.pointers) ∙ first-least p k other)

    -- ---- from tick to tick

    -- a tick leaves the queue of a class that does not own its turn
    not_taken : (t c : ℕ) → t < ticks_in p ws → (((turns-after t).owner ≡ c) → ⊥) → Grown (at_tick p ws t).queues (at_tick p ws (t + 1)).queues c
    unfolding after_tick
    not_taken t c l apart =
        let s = at_tick p ws t in
        let m = at t l in
        let kept =
        subst (λ (a : Answer). ((a.state.turns.owner ≡ c) → ⊥) → Grown s.queues a.state.queues c) (sym (answered t l))
        (driven-beside (bus_at p s (turns_at p s.cycle s.queues.lengths s.turns).turns) c)
        apart
        in
        grown-more s.queues (answer_to p s 0).state.queues (at_tick p ws (t + 1)).queues c kept (m.next.queues c)

    module _ (k : ℕ) where
      -- the turn's owner has every tick of it
      pub throughout : (i : ℕ) → i < turn → first_tick p k + i < ticks_in p ws → turns-after (first_tick p k + i) ≡ (started k).turns
      unfolding turns_at
      throughout zero short l =
          let here : first_tick p k + 0 ≡ first_tick p k = omega arith in
          subst (λ (t : ℕ). t < ticks_in p ws → turns-after t ≡ (started k).turns) (sym here) (λ under. after_is (first_tick p k) under ∙ ap (λ (r : TurnStart). r.turns) (begun-is k)) l
      throughout (suc i) short l =
          let before : first_tick p k + i < ticks_in p ws = omega (arith, l) in
          let next : first_tick p k + i + 1 ≡ first_tick p k + suc i = omega arith in
          let same = subst (λ (t : ℕ). (at_tick p ws t).turns ≡ turns-after (first_tick p k + i)) next (at (first_tick p k + i) before).next.turns in
          after_is (first_tick p k + suc i) l
          ∙ ap (λ (r : TurnStart). r.turns) (on-false (turn_starts p (first_tick p k + suc i)) _ _ (goes-on k i short))
          ∙ same
          ∙ throughout i (omega (arith, short)) before

      -- so a class that does not own it loses nothing in it
      module _ (c : ℕ) (apart : (owner k ≡ c) → ⊥) where
        untaken : (i : ℕ) → i ≤ turn → first_tick p k + i ≤ ticks_in p ws → Grown (at_tick p ws (first_tick p k)).queues (at_tick p ws (first_tick p k + i)).queues c
        untaken zero short l =
            let here : first_tick p k + 0 ≡ first_tick p k = omega arith in
            subst (λ (t : ℕ). Grown (at_tick p ws (first_tick p k)).queues (at_tick p ws t).queues c) (sym here) (grown-none (at_tick p ws (first_tick p k)).queues c)
        untaken (suc i) short l =
            let under : first_tick p k + i < ticks_in p ws = omega (arith, l) in
            let next : first_tick p k + i + 1 ≡ first_tick p k + suc i = omega arith in
            let whose = throughout i (omega (arith, short)) under in
            let more = not_taken (first_tick p k + i) c under (λ e. apart (sym (ap (λ (t : Turns). t.owner) whose) ∙ e)) in
            subst (λ (t : ℕ). Grown (at_tick p ws (first_tick p k)).queues (at_tick p ws t).queues c) next
            (grown-more (at_tick p ws (first_tick p k)).queues (at_tick p ws (first_tick p k + i)).queues (at_tick p ws (first_tick p k + i + 1)).queues c (untaken i (omega (arith, short)) (omega (arith, l))) more)

        pub over-a-turn : Started p ws (k + 1) → Grown (at_tick p ws (first_tick p k)).queues (at_tick p ws (first_tick p (k + 1))).queues c
        over-a-turn l =
            let next : first_tick p k + turn ≡ first_tick p (k + 1) = omega arith in
            subst (λ (t : ℕ). Grown (at_tick p ws (first_tick p k)).queues (at_tick p ws t).queues c) next (untaken turn (le_refl turn) (omega (arith, next, l)))
