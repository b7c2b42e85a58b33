-- A turn's start in two runs that agree on the low classes: the owners agree, and so do turns left and pointers of the low classes; at a low owner the elision too, and how many classes were tried, since all of them are low.
-- Assumes nothing.
use mathlib.Core.Path.{◌≡◌, refl, sym, ap, ap₂, ◌∙◌, subst}
use mathlib.Core.Logic.{inl, inr, ⊎_elim}
use mathlib.Core.Bool.{Bool, true, false, cond, not, ◌&&◌}
use mathlib.Core.List.{List}
use Prim.Native.Nat.{ℕ, suc, ◌+◌, ◌-◌, ◌%◌, ◌<◌}
use lib.Dec.{eqb}
use lib.ListN.{length, get_or, set, length-set}
use lib.Seq.{get_or-set_other}
use Rattle.masks.specs.Mask.{nth}
use Rattle.order.specs.Order.{flows_in}
use Rattle.policy.specs.Policy.{flows, least, home_turn, home_class, in_range}
use Rattle.policy.specs.declared.Policy.{Policy}
use Rattle.basics.proofs.Truth.{either, false-unless, not-both, and_left, and-fails-left, on_both}
use Rattle.basics.proofs.Stores.{stored-in-both}
use Rattle.rules.specs.Traversal.{first_class, Candidates, candidates, moved, moved_pointer, passed_at, named, takes_by, takes, Reached, ends_at, also_tried, try_class, charge, takes_home, left_tried, charged}
use Rattle.rules.specs.Lookahead.{Ahead, looking_ahead, goes_on, reaches, next_left, elides}
use Rattle.rules.specs.Step.{left_at_start, owned_by, traversal, start_turn}
use Rattle.state.specs.declared.Turns.{Turns}
use Rattle.rules.proofs.Traversal.{passes-on, try-takes, try-passes, onward, traverse, traversed, passes-small, owner_small, climbs, first_home, first_small, to_cover}
use Rattle.rules.proofs.Lookahead.{elides-home, elides-other, reach_here, reach-fails, reach-on, look}
use Rattle.rules.proofs.Range.{TurnsRange}
use Rattle.rules.proofs.TurnsKept.{start-within}
use Rattle.noninterference.proofs.Low.{Downward, EntriesAgree, OwnersAgree, TurnsAgree}

-- ---- lists

-- a store of equal numbers at one place keeps two lists in agreement
set-agree : (low : ℕ → Bool) (xs ys : List ℕ) (c x y : ℕ) → c < length xs → c < length ys → x ≡ y → EntriesAgree low xs ys → EntriesAgree low (set xs c x) (set ys c y)
set-agree low xs ys c x y l m e h d i =
    stored-in-both (λ a b. a ≡ b) xs ys c x y d l m (λ same. e) (λ other. h d i)

-- a store at a high place is not seen
set-unseen : (low : ℕ → Bool) (xs : List ℕ) (c x : ℕ) → low c ≡ false → EntriesAgree low (set xs c x) xs
set-unseen low xs c x high d i = get_or-set_other xs c d x 0 (λ e. not-both i (ap low e ∙ high))

module _ (p : Policy) (given : in_range p ≡ true) (low : ℕ → Bool) (closed : Downward p low) where
  -- ---- from a high class on, all is high

  record Unseen (pointers : List ℕ) (r : Reached) : Type 0 where
    owner : low r.owner ≡ false
    same : EntriesAgree low r.pointers pointers

  high-walk : (lengths left : List ℕ) (bound : ℕ) (pointers : List ℕ) (c : ℕ) → low c ≡ false → Unseen pointers (try_class bound (candidates p.covers lengths left) pointers c)
  unfolding ends_at passed_at
  high-walk lengths left =
      let all = candidates p.covers lengths left in
      let unseen : (pointers : List ℕ) (c : ℕ) → low c ≡ false → EntriesAgree low (passed_at p.covers pointers c) pointers = λ pointers c high. set-unseen low pointers c (moved_pointer p.covers pointers c) high in
      traversed all (λ pointers c r. low c ≡ false → Unseen pointers r)
      (λ pointers c high. record { owner = high; same = λ d i. refl })
      (λ bound pointers c t rest high.
      let next = named p.covers pointers c in
      let up = to_cover p given pointers c (passes-on all c t) in
      let after = rest (false-unless (low next) (λ i. not-both (closed c next up i) high)) in
      record { owner = after.owner; same = λ d i. after.same d i ∙ unseen pointers c high d i })

  -- ---- the traversal

  pub record Walked (r q : Reached) : Type 0 where
    pub owners : OwnersAgree low r.owner q.owner
    pub pointers : EntriesAgree low r.pointers q.pointers
    pub tried : low r.owner ≡ true → r.tried ≡ q.tried

  module _ (lengths-1 lengths-2 left-1 left-2 : List ℕ) (same-lengths : EntriesAgree low lengths-1 lengths-2) (same_left : EntriesAgree low left-1 left-2) where
    abbrev all-1 : Candidates
    all-1 = candidates p.covers lengths-1 left-1

    abbrev all-2 : Candidates
    all-2 = candidates p.covers lengths-2 left-2

    same_takes : (c : ℕ) → low c ≡ true → takes all-1 c ≡ takes all-2 c
    unfolding takes
    same_takes c i = ap₂ (takes_by (get_or p.covers c 0)) (same-lengths c i) (same_left c i)

    -- both high from here on
    apart : (bound : ℕ) (pointers-1 pointers-2 : List ℕ) (c : ℕ) → EntriesAgree low pointers-1 pointers-2 → low c ≡ false → Walked (try_class bound all-1 pointers-1 c) (try_class bound all-2 pointers-2 c)
    apart bound pointers-1 pointers-2 c agree high =
        let one = high-walk lengths-1 left-1 bound pointers-1 c high in
        let two = high-walk lengths-2 left-2 bound pointers-2 c high in
        record { owners = inr (one.owner, two.owner); pointers = λ d j. one.same d j ∙ agree d j ∙ sym (two.same d j); tried = λ i. absurd (not-both i one.owner) }

    -- both have tried one class more
    one_more : (r q : Reached) → Walked r q → Walked (also_tried 1 r) (also_tried 1 q)
    one_more r q walked = record { owners = walked.owners; pointers = walked.pointers; tried = λ i. ap (λ (n : ℕ). 1 + n) (walked.tried i) }

    -- at a low class both do the same
    module _ (pointers-1 pointers-2 : List ℕ) (c : ℕ) (l : c < 16) (long-1 : length pointers-1 ≡ 16) (long-2 : length pointers-2 ≡ 16) (h : EntriesAgree low pointers-1 pointers-2) (i : low c ≡ true) where
      same_move : moved_pointer p.covers pointers-1 c ≡ moved_pointer p.covers pointers-2 c
      unfolding moved_pointer
      same_move = ap (moved (get_or p.covers c 0)) (h c i)

      same_next : named p.covers pointers-1 c ≡ named p.covers pointers-2 c
      unfolding named
      same_next = ap (nth (get_or p.covers c 0)) same_move

      still : EntriesAgree low (passed_at p.covers pointers-1 c) (passed_at p.covers pointers-2 c)
      unfolding passed_at
      still = set-agree low pointers-1 pointers-2 c _ _ (subst (λ (n : ℕ). c < n) (sym long-1) l) (subst (λ (n : ℕ). c < n) (sym long-2) l) same_move h

      ends : Walked (ends_at pointers-1 c) (ends_at pointers-2 c)
      unfolding ends_at
      ends = record { owners = inl (refl, i); pointers = h; tried = λ i. refl }

    same-walk : (bound : ℕ) (pointers-1 : List ℕ) (c : ℕ) (pointers-2 : List ℕ) → c < 16 → length pointers-1 ≡ 16 → length pointers-2 ≡ 16 → EntriesAgree low pointers-1 pointers-2 → low c ≡ true → Walked (try_class bound all-1 pointers-1 c) (try_class bound all-2 pointers-2 c)
    unfolding try_class passed_at
    same-walk =
        traverse all-1 (λ bound pointers-1 c r. (pointers-2 : List ℕ) → c < 16 → length pointers-1 ≡ 16 → length pointers-2 ≡ 16 → EntriesAgree low pointers-1 pointers-2 → low c ≡ true → Walked r (try_class bound all-2 pointers-2 c))
        (λ pointers-1 c pointers-2 l long-1 long-2 h i. ends pointers-1 pointers-2 c l long-1 long-2 h i)
        (λ bound pointers-1 c t pointers-2 l long-1 long-2 h i.
        subst (Walked (ends_at pointers-1 c)) (sym (try-takes all-2 (suc bound) pointers-2 c (sym (same_takes c i) ∙ t))) (ends pointers-1 pointers-2 c l long-1 long-2 h i))
        (λ bound pointers-1 c t rest pointers-2 l long-1 long-2 h i.
        let next = named p.covers pointers-1 c in
        let after-1 = passed_at p.covers pointers-1 c in
        let after-2 = passed_at p.covers pointers-2 c in
        let agree = still pointers-1 pointers-2 c l long-1 long-2 h i in
        let second =
        try-passes all-2 bound pointers-2 c (sym (same_takes c i) ∙ t)
        ∙ ap (λ (d : ℕ). also_tried 1 (try_class bound all-2 after-2 d)) (sym (same_next pointers-1 pointers-2 c l long-1 long-2 h i))
        in
        subst (Walked (also_tried 1 (onward all-1 bound pointers-1 c))) (sym second)
        (one_more (onward all-1 bound pointers-1 c) (try_class bound all-2 after-2 next)
        (⊎_elim
        (rest after-2 (passes-small all-1 p.rows (climbs p given) pointers-1 c t) (length-set pointers-1 c _ ∙ long-1) (length-set pointers-2 c _ ∙ long-2) agree)
        (apart bound after-1 after-2 next agree)
        (either (low next)))))

  walk-agrees : (k : ℕ) (lengths-1 lengths-2 left-1 left-2 pointers-1 pointers-2 : List ℕ) → EntriesAgree low lengths-1 lengths-2 → EntriesAgree low left-1 left-2 → EntriesAgree low pointers-1 pointers-2 → length pointers-1 ≡ 16 → length pointers-2 ≡ 16 → Walked (try_class 16 (candidates p.covers lengths-1 left-1) pointers-1 (first_class p k)) (try_class 16 (candidates p.covers lengths-2 left-2) pointers-2 (first_class p k))
  walk-agrees k lengths-1 lengths-2 left-1 left-2 pointers-1 pointers-2 same-lengths same_left same-pointers long-1 long-2 =
      ⊎_elim
      (λ i. same-walk lengths-1 lengths-2 left-1 left-2 same-lengths same_left 16 pointers-1 (first_class p k) pointers-2 (first_small p given k) long-1 long-2 same-pointers i)
      (λ high. apart lengths-1 lengths-2 left-1 left-2 same-lengths same_left 16 pointers-1 pointers-2 (first_class p k) same-pointers high)
      (either (low (first_class p k)))

  -- ---- the lookahead at a low owner: it goes on only from classes that may flow to the owner, and those are low

  module _ (left-1 left-2 pointers-1 pointers-2 : List ℕ) (same_left : EntriesAgree low left-1 left-2) (same-pointers : EntriesAgree low pointers-1 pointers-2) (owner : ℕ) (low-owner : low owner ≡ true) where
    abbrev ahead-1 : Ahead
    ahead-1 = looking_ahead p.rows p.covers left-1 pointers-1

    abbrev ahead-2 : Ahead
    ahead-2 = looking_ahead p.rows p.covers left-2 pointers-2

    same-on : (c : ℕ) → goes_on ahead-1 owner c ≡ goes_on ahead-2 owner c
    unfolding goes_on flows
    same-on c =
        ⊎_elim
        (λ f. ap (λ (k : ℕ). flows_in p.rows c owner && eqb k 0) (same_left c (closed c owner f low-owner)))
        (λ f. and-fails-left (flows_in p.rows c owner) (eqb (get_or left-1 c 0) 0) f ∙ sym (and-fails-left (flows_in p.rows c owner) (eqb (get_or left-2 c 0) 0) f))
        (either (flows_in p.rows c owner))

    same-named : (c : ℕ) → goes_on ahead-1 owner c ≡ true → named p.covers pointers-1 c ≡ named p.covers pointers-2 c
    unfolding goes_on flows named moved_pointer
    same-named c t =
        let i = closed c owner (and_left (flows_in p.rows c owner) (eqb (get_or left-1 c 0) 0) t) low-owner in
        ap (λ (k : ℕ). nth (get_or p.covers c 0) (moved (get_or p.covers c 0) k)) (same-pointers c i)

    same-reach : (bound c : ℕ) → reaches bound ahead-1 owner c ≡ reaches bound ahead-2 owner c
    unfolding reaches
    same-reach =
        look ahead-1 owner (λ bound c. reaches bound ahead-1 owner c ≡ reaches bound ahead-2 owner c)
        (λ c. refl)
        (λ bound c e. reach_here ahead-1 owner (suc bound) c e ∙ sym (reach_here ahead-2 owner (suc bound) c e))
        (λ bound c e f. reach-fails ahead-1 owner (suc bound) c e f ∙ sym (reach-fails ahead-2 owner (suc bound) c e (sym (same-on c) ∙ f)))
        (λ bound c e t rest.
        reach-on ahead-1 owner bound c e t
        ∙ rest
        ∙ ap (reaches bound ahead-2 owner) (same-named c t)
        ∙ sym (reach-on ahead-2 owner bound c e (sym (same-on c) ∙ t)))

  -- ---- a turn's start

  -- one of two, by the same test in both
  cond-agree : (b : Bool) (xs ys vs ws : List ℕ) → ((b ≡ true) → EntriesAgree low xs ys) → EntriesAgree low vs ws → EntriesAgree low (cond b xs vs) (cond b ys ws)
  cond-agree true xs ys vs ws h g = h refl
  cond-agree false xs ys vs ws h g = g

  -- caps in both, or what was left in both
  caps-agree : (b : Bool) (xs ys : List ℕ) → EntriesAgree low xs ys → EntriesAgree low (cond b p.caps xs) (cond b p.caps ys)
  caps-agree b xs ys h = cond-agree b p.caps p.caps xs ys (λ t c i. refl) h

  -- the class of a home turn is tried as one with a turn left in both
  tried-agree : (k : ℕ) (xs ys : List ℕ) → length xs ≡ 16 → length ys ≡ 16 → EntriesAgree low xs ys → EntriesAgree low (left_tried p k xs) (left_tried p k ys)
  unfolding left_tried
  tried-agree k xs ys long-1 long-2 h =
      let c = home_class p k in
      cond-agree (home_turn p k) (set xs c 1) (set ys c 1) xs ys
      (λ home.
      let small : c < 16 = subst (λ (d : ℕ). d < 16) (first_home p k home) (first_small p given k) in
      set-agree low xs ys c 1 1 (subst (λ (n : ℕ). c < n) (sym long-1) small) (subst (λ (n : ℕ). c < n) (sym long-2) small) refl h)
      h

  -- the same low owner is charged in both, or a high one in each, which is not seen
  charge-agree : (xs ys : List ℕ) (o u : ℕ) → o < length xs → u < length ys → OwnersAgree low o u → EntriesAgree low xs ys → EntriesAgree low (charge xs o) (charge ys u)
  unfolding charge
  charge-agree xs ys o u l m owners h =
      ⊎_elim
      (λ same.
      subst (λ (k : ℕ). EntriesAgree low (set xs o (get_or xs o 0 - 1)) (set ys k (get_or ys k 0 - 1))) same.0
      (set-agree low xs ys o (get_or xs o 0 - 1) (get_or ys o 0 - 1) l (subst (λ (k : ℕ). k < length ys) (sym same.0) m) (ap (λ (k : ℕ). k - 1) (h o same.1)) h))
      (λ high d i. set-unseen low xs o (get_or xs o 0 - 1) high.0 d i ∙ h d i ∙ sym (set-unseen low ys u (get_or ys u 0 - 1) high.1 d i))
      owners

  -- where the traversal starts at a low class: at a home turn that is its class, which has a request waiting in both or in neither; at another turn no class takes a home turn
  same_home : (k : ℕ) (lengths-1 lengths-2 : List ℕ) → EntriesAgree low lengths-1 lengths-2 → low (first_class p k) ≡ true → takes_home p k lengths-1 ≡ takes_home p k lengths-2
  unfolding takes_home
  same_home k lengths-1 lengths-2 h i =
      ⊎_elim
      (λ home. ap (λ (n : ℕ). home_turn p k && not (eqb n 0)) (h (home_class p k) (sym (ap low (first_home p k home)) ∙ i)))
      (λ other. and-fails-left (home_turn p k) _ other ∙ sym (and-fails-left (home_turn p k) _ other))
      (either (home_turn p k))

  -- so both charge or neither does
  charged-alike : (k : ℕ) (lengths-1 lengths-2 xs ys : List ℕ) (o u : ℕ) → takes_home p k lengths-1 ≡ takes_home p k lengths-2 → EntriesAgree low xs ys → EntriesAgree low (charge xs o) (charge ys u) → EntriesAgree low (charged p k lengths-1 xs o) (charged p k lengths-2 ys u)
  unfolding charged
  charged-alike k lengths-1 lengths-2 xs ys o u same h after =
      subst (λ (b : Bool). EntriesAgree low (charged p k lengths-1 xs o) (cond b ys (charge ys u))) same (cond-agree (takes_home p k lengths-1) xs ys (charge xs o) (charge ys u) (λ t. h) after)

  -- whether a high owner is charged is not seen
  charged-unseen : (k : ℕ) (lengths xs : List ℕ) (o : ℕ) → low o ≡ false → EntriesAgree low (charged p k lengths xs o) xs
  unfolding charged charge
  charged-unseen k lengths xs o high =
      on_both (λ (l : List ℕ). EntriesAgree low l xs) (takes_home p k lengths) xs (charge xs o) (λ d i. refl) (set-unseen low xs o (get_or xs o 0 - 1) high)

  -- where the traversal starts at a low class both charge or neither does, and where it starts at a high one both owners are high
  charged-agree : (k : ℕ) (lengths-1 lengths-2 xs ys : List ℕ) (o u : ℕ) → EntriesAgree low lengths-1 lengths-2 → EntriesAgree low xs ys → EntriesAgree low (charge xs o) (charge ys u) → ((low (first_class p k) ≡ false) → (low o ≡ false) × (low u ≡ false)) → EntriesAgree low (charged p k lengths-1 xs o) (charged p k lengths-2 ys u)
  charged-agree k lengths-1 lengths-2 xs ys o u same-lengths h after highs =
      ⊎_elim
      (λ i. charged-alike k lengths-1 lengths-2 xs ys o u (same_home k lengths-1 lengths-2 same-lengths i) h after)
      (λ high d i. charged-unseen k lengths-1 xs o (highs high).0 d i ∙ h d i ∙ sym (charged-unseen k lengths-2 ys u (highs high).1 d i))
      (either (low (first_class p k)))

  -- the elision at a low owner: before a home turn the owner alone decides, and before another the lookahead
  same-elides : (k : ℕ) (left-1 left-2 pointers-1 pointers-2 : List ℕ) → EntriesAgree low left-1 left-2 → EntriesAgree low pointers-1 pointers-2 → (owner : ℕ) → low owner ≡ true → elides p k left-1 pointers-1 owner ≡ elides p k left-2 pointers-2 owner
  unfolding next_left
  same-elides k left-1 left-2 pointers-1 pointers-2 same_left same-pointers owner i =
      ⊎_elim
      (λ home. elides-home p k left-1 pointers-1 owner home ∙ sym (elides-home p k left-2 pointers-2 owner home))
      (λ other.
      elides-other p k left-1 pointers-1 owner other
      ∙ same-reach (next_left p k left-1) (next_left p k left-2) pointers-1 pointers-2 (caps-agree (eqb ((k + 1) % p.epoch) 0) left-1 left-2 same_left) same-pointers owner i 16 (least p)
      ∙ sym (elides-other p k left-2 pointers-2 owner other))
      (either (home_turn p (k + 1)))

  -- the traversal of a turn
  pub traversal-agrees : (k : ℕ) (lengths-1 lengths-2 : List ℕ) (t u : Turns) → TurnsRange p t → TurnsRange p u → EntriesAgree low lengths-1 lengths-2 → EntriesAgree low t.left u.left → EntriesAgree low t.pointers u.pointers → Walked (traversal p k lengths-1 t.left t.pointers) (traversal p k lengths-2 u.left u.pointers)
  unfolding left_at_start
  traversal-agrees k lengths-1 lengths-2 t u range-1 range-2 same-lengths same_left same-pointers =
      let left-1 = left_at_start p k t.left in
      let left-2 = left_at_start p k u.left in
      let long-1 = (start-within p given k t.left range-1.left_within).sixteen in
      let long-2 = (start-within p given k u.left range-2.left_within).sixteen in
      walk-agrees k lengths-1 lengths-2 (left_tried p k left-1) (left_tried p k left-2) t.pointers u.pointers same-lengths
      (tried-agree k left-1 left-2 long-1 long-2 (caps-agree (eqb (k % p.epoch) 0) t.left u.left same_left)) same-pointers range-1.pointers_fit.sixteen range-2.pointers_fit.sixteen

  pub start-agrees : (k : ℕ) (lengths-1 lengths-2 : List ℕ) (t u : Turns) → TurnsRange p t → TurnsRange p u → EntriesAgree low lengths-1 lengths-2 → EntriesAgree low t.left u.left → EntriesAgree low t.pointers u.pointers → TurnsAgree low (start_turn p k lengths-1 t.left t.pointers).turns (start_turn p k lengths-2 u.left u.pointers).turns
  unfolding start_turn owned_by left_at_start
  start-agrees k lengths-1 lengths-2 t u range-1 range-2 same-lengths same_left same-pointers =
      let first = first_class p k in
      let left-1 = left_at_start p k t.left in
      let left-2 = left_at_start p k u.left in
      let long-1 = (start-within p given k t.left range-1.left_within).sixteen in
      let long-2 = (start-within p given k u.left range-2.left_within).sixteen in
      let tried-1 = left_tried p k left-1 in
      let tried-2 = left_tried p k left-2 in
      let all-1 = candidates p.covers lengths-1 tried-1 in
      let all-2 = candidates p.covers lengths-2 tried-2 in
      let Agree-left = caps-agree (eqb (k % p.epoch) 0) t.left u.left same_left in
      let walked = traversal-agrees k lengths-1 lengths-2 t u range-1 range-2 same-lengths same_left same-pointers in
      let r = try_class 16 all-1 t.pointers first in
      let q = try_class 16 all-2 u.pointers first in
      let owner-1 = owner_small all-1 p.rows (climbs p given) 16 t.pointers first (first_small p given k) in
      let owner-2 = owner_small all-2 p.rows (climbs p given) 16 u.pointers first (first_small p given k) in
      let after-1 = charged p k lengths-1 left-1 r.owner in
      let after-2 = charged p k lengths-2 left-2 q.owner in
      let agree-charge = charge-agree left-1 left-2 r.owner q.owner (subst (λ (n : ℕ). r.owner < n) (sym long-1) owner-1) (subst (λ (n : ℕ). q.owner < n) (sym long-2) owner-2) walked.owners Agree-left in
      let Agree-after =
      charged-agree k lengths-1 lengths-2 left-1 left-2 r.owner q.owner same-lengths Agree-left agree-charge
      (λ high. ((high-walk lengths-1 tried-1 16 t.pointers first high).owner, (high-walk lengths-2 tried-2 16 u.pointers first high).owner))
      in
      record {
        owners = walked.owners;
        elisions =
            λ i.
            ⊎_elim
            (λ same. same-elides k after-1 after-2 r.pointers q.pointers Agree-after walked.pointers r.owner i ∙ ap (elides p k after-2 q.pointers) same.0)
            (λ high. absurd (not-both i high.0))
            walked.owners;
        left = Agree-after;
        pointers = walked.pointers;
      }
