-- The laws of the traversal: where a moved pointer leads; the one induction over its ascents by which the rest is proved; and that its bound is never met, since a class
-- that passes the turn on has a cover, its moved pointer names one, and a cover has fewer classes above it. Every policy in range has what this rests on. And of a home turn (W-202): where the traversal
-- starts, and that its class takes it where a request waits, whatever turns it has left, and is tried like any class where none does.
-- Assumes nothing.
use mathlib.Core.Path.{◌≡◌, refl, sym, ap, ◌∙◌, subst}
use mathlib.Core.Logic.{⊎_elim}
use mathlib.Core.Bool.{true, false, not, ◌&&◌}
use mathlib.Core.List.{List}
use Prim.Native.Nat.{ℕ, zero, suc, ◌+◌, ◌^◌, ◌≤◌, ◌<◌}
use native.Mathlib.Nat.{not-suc-le-zero}
use native.Mathlib.Omega.{arith}
use borrow.Author.Tests.{eqb-true, eqb-false, eq-eqb, ne_eqb, lt-ltb, le-ltb}
use lib.Dec.{eqb}
use lib.ListN.{length, get_or}
use lib.Seq.{get_or-set_same, get_or-set_other}
use Rattle.masks.specs.Mask.{member, size}
use Rattle.order.specs.Order.{above_in}
use Rattle.policy.specs.Policy.{is_class, flows, strictly, least, above, covers_of, home_turn, home_class, in_range}
use Rattle.policy.specs.declared.Policy.{Policy}
use Rattle.basics.proofs.Truth.{either, not-both, and_left, and_right, and-fails-left, or_right, or_cases, not-not, on-true, on-false}
use Rattle.basics.proofs.Below.{lt-or-ge, count_yes, count-mono}
use Rattle.masks.proofs.Masks.{some-member, member-zero, member-small}
use Rattle.masks.proofs.Numbered as numbered
use Rattle.order.proofs.Orders.{apart-strictly, strictly-flows}
use Rattle.policy.proofs.Laws.{policy-laws}
use Rattle.rules.specs.Traversal.{first_class, Candidates, candidates, moved, moved_pointer, passed_at, named, takes_by, takes, Reached, ends_at, also_tried, try_class, takes_home, left_tried}
use Rattle.rules.specs.Climb.{Climbs}
use Rattle.rules.specs.Laws.{Ascends}

-- ---- where a moved pointer leads

-- a set that is not empty has a member, so its size is at least 1
some_size : (m : ℕ) → m < 2 ^ 16 → ((m ≡ 0) → ⊥) → 1 ≤ size m
unfolding size
some_size m small full =
    let w = some-member m small full in
    omega (arith, count_yes (member m) w.0 w.2, count-mono (member m) (w.0 + 1) 16 (omega (arith, w.1)))

-- a pointer is the number of one of the covers
pub record Names (covers pointer : ℕ) : Type 0 where
  pub some : 1 ≤ pointer
  pub within : pointer ≤ size covers

-- the moved pointer of a class with a cover is one of the covers' numbers
pub moved-names : (m pointer : ℕ) → m < 2 ^ 16 → ((m ≡ 0) → ⊥) → Names m (moved m pointer)
unfolding moved
moved-names m pointer small full =
    ⊎_elim
    (λ l. rw (ne_eqb m 0 full, lt-ltb pointer (size m) l) (record { some = omega arith; within = omega arith }))
    (λ l. rw (ne_eqb m 0 full, le-ltb pointer (size m) l) (record { some = omega arith; within = some_size m small full }))
    (lt-or-ge pointer (size m))

-- so the cover that it names is one
pub named-covers : (covers pointers : List ℕ) (c : ℕ) → get_or covers c 0 < 2 ^ 16 → ((get_or covers c 0 ≡ 0) → ⊥) → member (get_or covers c 0) (named covers pointers c) ≡ true
unfolding named moved_pointer
named-covers covers pointers c small full =
    let range = moved-names (get_or covers c 0) (get_or pointers c 0) small full in
    (numbered.named (get_or covers c 0) (moved (get_or covers c 0) (get_or pointers c 0)) range.some range.within).in_set

-- a class that does not take the turn has a cover
pub passes-on : (all : Candidates) (c : ℕ) → takes all c ≡ false → get_or all.covers c 0 ≡ 0 → ⊥
unfolding takes takes_by
passes-on all c e none =
    not-both (or_right (not (eqb (get_or all.lengths c 0) 0) && not (eqb (get_or all.left c 0) 0)) (eqb (get_or all.covers c 0) 0) (eq-eqb (get_or all.covers c 0) 0 none)) e

-- one that takes it though none of its requests waits has none
pub idle-top : (all : Candidates) (c : ℕ) → get_or all.lengths c 0 ≡ 0 → takes all c ≡ true → get_or all.covers c 0 ≡ 0
unfolding takes takes_by
idle-top all c idle t =
    let waits = not (eqb (get_or all.lengths c 0) 0) in
    let left = not (eqb (get_or all.left c 0) 0) in
    ⊎_elim
    (λ w. absurd (not-both w (and-fails-left waits left (ap not (eq-eqb (get_or all.lengths c 0) 0 idle)))))
    (λ z. eqb-true (get_or all.covers c 0) 0 z)
    (or_cases (waits && left) (eqb (get_or all.covers c 0) 0) t)

-- ---- the induction

module _ (all : Candidates) where
  pub try-takes : (bound : ℕ) (pointers : List ℕ) (c : ℕ) → takes all c ≡ true → try_class bound all pointers c ≡ ends_at pointers c
  unfolding try_class
  try-takes zero pointers c e = refl
  try-takes (suc bound) pointers c e = on-true (takes all c) _ _ e

  pub try-passes : (bound : ℕ) (pointers : List ℕ) (c : ℕ) → takes all c ≡ false → try_class (suc bound) all pointers c ≡ also_tried 1 (try_class bound all (passed_at all.covers pointers c) (named all.covers pointers c))
  unfolding try_class
  try-passes bound pointers c e = on-false (takes all c) _ _ e

  -- where the traversal ends from the class that is named on
  abbrev pub onward : ℕ → List ℕ → ℕ → Reached
  onward bound pointers c = try_class bound all (passed_at all.covers pointers c) (named all.covers pointers c)

  -- if it holds of that, it holds of the class
  abbrev pub Next : (ℕ → List ℕ → ℕ → Reached → Type 0) → ℕ → List ℕ → ℕ → Type 0
  Next P bound pointers c = P bound (passed_at all.covers pointers c) (named all.covers pointers c) (onward bound pointers c) → P (suc bound) pointers c (also_tried 1 (onward bound pointers c))

  -- what holds of where the traversal ends: where no ascent is left, where a class takes the turn, and, if it holds from the class that is named on, where one passes
  -- it on
  pub traverse : (P : ℕ → List ℕ → ℕ → Reached → Type 0) → ((pointers : List ℕ) (c : ℕ) → P zero pointers c (ends_at pointers c)) → ((bound : ℕ) (pointers : List ℕ) (c : ℕ) → takes all c ≡ true → P (suc bound) pointers c (ends_at pointers c)) → ((bound : ℕ) (pointers : List ℕ) (c : ℕ) → takes all c ≡ false → Next P bound pointers c) → (bound : ℕ) (pointers : List ℕ) (c : ℕ) → P bound pointers c (try_class bound all pointers c)
  unfolding try_class
  traverse P none takes-it passes zero pointers c = none pointers c
  traverse P none takes-it passes (suc bound) pointers c =
      ⊎_elim
      (λ t. subst (P (suc bound) pointers c) (sym (try-takes (suc bound) pointers c t)) (takes-it bound pointers c t))
      (λ t.
      subst (P (suc bound) pointers c) (sym (try-passes bound pointers c t))
      (passes bound pointers c t (traverse P none takes-it passes bound (passed_at all.covers pointers c) (named all.covers pointers c))))
      (either (takes all c))

  -- the same where the bound does not count
  pub traversed : (P : List ℕ → ℕ → Reached → Type 0) → ((pointers : List ℕ) (c : ℕ) → P pointers c (ends_at pointers c)) → ((bound : ℕ) (pointers : List ℕ) (c : ℕ) → takes all c ≡ false → Next (λ bound. P) bound pointers c) → (bound : ℕ) (pointers : List ℕ) (c : ℕ) → P pointers c (try_class bound all pointers c)
  traversed P ends passes = traverse (λ bound. P) ends (λ bound pointers c t. ends pointers c) passes

  -- it tries the class where it starts, and one more for each ascent
  pub tried-some : (bound : ℕ) (pointers : List ℕ) (c : ℕ) → 1 ≤ (try_class bound all pointers c).tried
  unfolding ends_at
  tried-some = traversed (λ pointers c r. 1 ≤ r.tried) (λ pointers c. omega arith) (λ bound pointers c t next. omega (arith, next))

  pub tried-few : (bound : ℕ) (pointers : List ℕ) (c : ℕ) → (try_class bound all pointers c).tried ≤ suc bound
  unfolding ends_at
  tried-few =
      traverse (λ bound pointers c r. r.tried ≤ suc bound) (λ pointers c. omega arith) (λ bound pointers c t. omega arith) (λ bound pointers c t next. omega (arith, next))

  -- ---- it ends before its bound

  module _ (rows : List ℕ) (order : Climbs rows all.covers) where
    -- where a class passes the turn on, the class that it names is a cover
    pub passes-to : (pointers : List ℕ) (c : ℕ) → takes all c ≡ false → member (get_or all.covers c 0) (named all.covers pointers c) ≡ true
    passes-to pointers c e = named-covers all.covers pointers c (order.sets c) (passes-on all c e)

    -- it has fewer above it
    pub falls : (pointers : List ℕ) (c : ℕ) → takes all c ≡ false → above_in rows (named all.covers pointers c) < above_in rows c
    falls pointers c e = order.falls c (named all.covers pointers c) (passes-to pointers c e)

    -- and is one of the sixteen
    pub passes-small : (pointers : List ℕ) (c : ℕ) → takes all c ≡ false → named all.covers pointers c < 16
    passes-small pointers c e = member-small (get_or all.covers c 0) (named all.covers pointers c) (order.sets c) (passes-to pointers c e)

    -- one ascent more than there are classes above changes nothing
    pub enough : (bound : ℕ) (pointers : List ℕ) (c : ℕ) → above_in rows c ≤ bound → try_class bound all pointers c ≡ try_class (suc bound) all pointers c
    enough =
        traverse (λ bound pointers c r. above_in rows c ≤ bound → r ≡ try_class (suc bound) all pointers c)
        (λ pointers c h.
        ⊎_elim
        (λ t. sym (try-takes 1 pointers c t))
        (λ t. absurd (not-suc-le-zero {n = 0} (omega (arith, falls pointers c t))))
        (either (takes all c)))
        (λ bound pointers c t h. sym (try-takes (suc (suc bound)) pointers c t))
        (λ bound pointers c t next h. ap (also_tried 1) (next (omega (arith, falls pointers c t))) ∙ sym (try-passes (suc bound) pointers c t))

    -- it ends at one of the sixteen
    pub owner_small : (bound : ℕ) (pointers : List ℕ) (c : ℕ) → c < 16 → (try_class bound all pointers c).owner < 16
    unfolding ends_at
    owner_small =
        traversed (λ pointers c r. c < 16 → r.owner < 16) (λ pointers c l. l) (λ bound pointers c t next l. next (passes-small pointers c t))

-- ---- of two traversals on the same covers: where the same classes take the turn, they are the same

same_takes : (covers lengths left others rest : List ℕ) → ((c : ℕ) → takes (candidates covers lengths left) c ≡ takes (candidates covers others rest) c) → (bound : ℕ) (pointers : List ℕ) (c : ℕ) → try_class bound (candidates covers lengths left) pointers c ≡ try_class bound (candidates covers others rest) pointers c
unfolding try_class
same_takes covers lengths left others rest same =
    let all = candidates covers others rest in
    traverse (candidates covers lengths left) (λ bound pointers c r. r ≡ try_class bound all pointers c) (λ pointers c. refl)
    (λ bound pointers c t. sym (try-takes all (suc bound) pointers c (sym (same c) ∙ t)))
    (λ bound pointers c t next. ap (also_tried 1) next ∙ sym (try-passes all bound pointers c (sym (same c) ∙ t)))

-- ---- of a policy in range

-- rows and covers are what the traversal rests on
pub climbs : (p : Policy) → in_range p ≡ true → Climbs p.rows p.covers
unfolding covers_of above flows strictly
climbs p given =
    let laws = policy-laws p given in
    record {
      sets = laws.covering.sets;
      falls = laws.higher.falls_to_cover;
      upward =
          λ c owner f apart none.
          let w = laws.covering.some_cover c owner (apart-strictly p.rows c owner f apart) in
          not-both w.1 (ap (λ (m : ℕ). member m w.0) none ∙ member-zero w.0);
    }

-- ---- home turns, and others

module _ (p : Policy) where
  -- the traversal of a home turn starts at its class, and of another at the least one
  pub first_home : (k : ℕ) → home_turn p k ≡ true → first_class p k ≡ home_class p k
  unfolding first_class
  first_home k e = rw e

  pub first-least : (k : ℕ) → home_turn p k ≡ false → first_class p k ≡ least p
  unfolding first_class
  first-least k e = rw e

  -- at another turn than a home turn the traversal goes by the turns left as they are
  pub tried_other : (k : ℕ) (left : List ℕ) → home_turn p k ≡ false → left_tried p k left ≡ left
  unfolding left_tried
  tried_other k left e = rw e

  -- such a turn is taken by the least class where a request of it waits and it has a turn left
  pub least-takes : (k : ℕ) (lengths left : List ℕ) → home_turn p k ≡ false → eqb (get_or lengths (least p) 0) 0 ≡ false → eqb (get_or left (least p) 0) 0 ≡ false → (bound : ℕ) (pointers : List ℕ) → try_class bound (candidates p.covers lengths (left_tried p k left)) pointers (first_class p k) ≡ ends_at pointers (first_class p k)
  unfolding takes takes_by
  least-takes k lengths left other waits some bound pointers =
      try-takes (candidates p.covers lengths (left_tried p k left)) bound pointers (first_class p k) (rw (first-least k other, tried_other k left other, waits, some) refl)

  -- where none waits its turns left make no difference, so the traversal is the one by the turns left as they are
  idle-takes : (k : ℕ) (lengths left : List ℕ) → takes_home p k lengths ≡ false → (c : ℕ) → takes (candidates p.covers lengths (left_tried p k left)) c ≡ takes (candidates p.covers lengths left) c
  unfolding takes_home left_tried takes takes_by
  idle-takes k lengths left e c =
      ⊎_elim
      (λ home.
      let idle : eqb (get_or lengths (home_class p k) 0) 0 ≡ true = not-not _ (rw home at e) in
      rw home
      (⊎_elim
      (λ here. rw (eqb-true c (home_class p k) here, idle))
      (λ apart. rw (get_or-set_other left (home_class p k) c _ 0 (eqb-false c (home_class p k) apart)))
      (either (eqb c (home_class p k)))))
      (λ other. rw other)
      (either (home_turn p k))

  pub home-idle : (k : ℕ) (lengths left : List ℕ) → takes_home p k lengths ≡ false → (bound : ℕ) (pointers : List ℕ) (c : ℕ) → try_class bound (candidates p.covers lengths (left_tried p k left)) pointers c ≡ try_class bound (candidates p.covers lengths left) pointers c
  home-idle k lengths left e = same_takes p.covers lengths (left_tried p k left) lengths left (idle-takes k lengths left e)

-- ---- where it starts, and where it ends

module _ (p : Policy) (given : in_range p ≡ true) where
  -- the traversal starts at a class
  pub first-class : (k : ℕ) → is_class p (first_class p k) ≡ true
  first-class k =
      ⊎_elim
      (λ e. rw (first_home p k e) ((policy-laws p given).homes.of-class k e))
      (λ e. rw (first-least p k e) (policy-laws p given).lowest.is-class)
      (either (home_turn p k))

  pub first_small : (k : ℕ) → first_class p k < 16
  first_small k = (policy-laws p given).order.class_small (first_class p k) (first-class k)

  -- a home turn is taken by its class where a request of it waits, whatever turns it has left
  pub home-takes : (k : ℕ) (lengths left : List ℕ) → length left ≡ 16 → takes_home p k lengths ≡ true → (bound : ℕ) (pointers : List ℕ) → try_class bound (candidates p.covers lengths (left_tried p k left)) pointers (first_class p k) ≡ ends_at pointers (first_class p k)
  unfolding takes_home left_tried takes takes_by
  home-takes k lengths left long e bound pointers =
      let home = and_left (home_turn p k) (not (eqb (get_or lengths (home_class p k) 0) 0)) e in
      let waits = and_right (home_turn p k) (not (eqb (get_or lengths (home_class p k) 0) 0)) e in
      let first = first_home p k home in
      let small : home_class p k < length left = omega (arith, first_small k, first, long) in
      try-takes (candidates p.covers lengths (left_tried p k left)) bound pointers (first_class p k)
      (rw (first, home, waits, get_or-set_same left (home_class p k) 1 0 small) refl)

  -- a class may flow to the cover that its pointer names
  pub to_cover : (pointers : List ℕ) (c : ℕ) → ((get_or p.covers c 0 ≡ 0) → ⊥) → flows p c (named p.covers pointers c) ≡ true
  unfolding covers_of flows strictly
  to_cover pointers c full =
      strictly-flows p.rows c (named p.covers pointers c)
      (((policy-laws p given).covering.exactly c (named p.covers pointers c)).0 (named-covers p.covers pointers c ((climbs p given).sets c) full)).strict

  pub ascends : Ascends p
  unfolding ends_at
  ascends bound lengths left =
      let all = candidates p.covers lengths left in
      let order = (policy-laws p given).order in
      traversed all (λ pointers c r. is_class p c ≡ true → flows p c r.owner ≡ true) (λ pointers c l. order.reflexive c l)
      (λ rest pointers c t next l.
      let step = to_cover pointers c (passes-on all c t) in
      order.transitive c (named p.covers pointers c) (onward all rest pointers c).owner step (next (order.to_class c (named p.covers pointers c) step)))
      bound
