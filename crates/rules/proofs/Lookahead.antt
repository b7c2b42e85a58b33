-- The laws of the lookahead: its steps, and that it ends before its bound, since it goes on only to covers, which have fewer classes above them. The next turn's traversal follows it: where the
-- lookahead reached the owner, the traversal tries the owner as well, whatever waits, and the other way round where every class waits. Hence the elision lemma: it ends there or above. Before a home turn
-- it does so since the owner may flow to the class where the traversal starts.
-- Assumes nothing.
use mathlib.Core.Path.{◌≡◌, refl, sym, ap, ◌∙◌, subst}
use mathlib.Core.Logic.{inl, ⊎_elim}
use mathlib.Core.Bool.{true, false, not, ◌&&◌}
use mathlib.Core.List.{List}
use Prim.Native.Nat.{ℕ, zero, suc, ◌+◌, ◌≤◌, ◌<◌}
use native.Mathlib.Nat.{not-suc-le-zero, lt_of_le_of_lt, lt_irrefl, le_refl, le_of_lt}
use native.Mathlib.Omega.{arith}
use borrow.Author.Tests.{eqb-true, eqb-false, eq-eqb, ne_eqb}
use lib.Dec.{eqb}
use lib.ListN.{get_or}
use lib.Seq.{get_or-set_other}
use Rattle.masks.specs.Mask.{member, nth}
use Rattle.order.specs.Order.{flows_in, above_in}
use Rattle.policy.specs.Policy.{is_class, flows, least, above, covers_of, home_turn, home_class, in_range}
use Rattle.policy.specs.declared.Policy.{Policy}
use Rattle.basics.proofs.Truth.{either, not-both, and_left, and_right, and_both, and-fails-right, or_left, or-fails, on-true, on-false}
use Rattle.policy.proofs.Laws.{policy-laws}
use Rattle.rules.specs.Traversal.{first_class, Candidates, candidates, moved, moved_pointer, passed_at, named, takes_by, takes, Reached, ends_at, try_class, left_tried}
use Rattle.rules.specs.Climb.{Climbs}
use Rattle.rules.specs.Lookahead.{Ahead, looking_ahead, goes_on, reaches, next_left, ahead_of, elides}
use Rattle.rules.specs.Step.{left_at_start, owned_by, start_turn}
use Rattle.rules.specs.Laws.{Elision}
use Rattle.rules.specs.RoundRobin.{passes_on, Tries}
use Rattle.rules.proofs.Traversal.{named-covers, passes-on, try-passes, climbs, first_home, first-least, first-class, tried_other, to_cover, ascends}
use Rattle.rules.proofs.Passing.{on-takes, on-later, first-tried, later-tried, tried-later, taken-tried}

-- ---- which rule decides: what the next turn is

module _ (p : Policy) (k : ℕ) (left pointers : List ℕ) (owner : ℕ) where
  pub elides-home : home_turn p (k + 1) ≡ true → elides p k left pointers owner ≡ flows p owner (home_class p (k + 1))
  unfolding elides
  elides-home home = rw home

  pub elides-other : home_turn p (k + 1) ≡ false → elides p k left pointers owner ≡ reaches 16 (ahead_of p k left pointers) owner (least p)
  unfolding elides
  elides-other other = rw other

module _ (ahead : Ahead) (owner : ℕ) where
  abbrev next : ℕ → ℕ
  next c = named ahead.covers ahead.pointers c

  pub reach_here : (bound c : ℕ) → eqb c owner ≡ true → reaches bound ahead owner c ≡ true
  unfolding reaches
  reach_here zero c e = e
  reach_here (suc bound) c e = on-true (eqb c owner) _ _ e

  pub reach-fails : (bound c : ℕ) → eqb c owner ≡ false → goes_on ahead owner c ≡ false → reaches bound ahead owner c ≡ false
  unfolding reaches
  reach-fails zero c e f = e
  reach-fails (suc bound) c e f = on-false (eqb c owner) _ _ e ∙ on-false (goes_on ahead owner c) _ _ f

  pub reach-on : (bound c : ℕ) → eqb c owner ≡ false → goes_on ahead owner c ≡ true → reaches (suc bound) ahead owner c ≡ reaches bound ahead owner (next c)
  unfolding reaches
  reach-on bound c e t = on-false (eqb c owner) _ _ e ∙ on-true (goes_on ahead owner c) _ _ t

  -- what holds of its answer: where no ascent is left, at the owner, where it fails, and, if it holds from the class that is named on, where it goes on
  pub look : (P : ℕ → ℕ → Type 0) → ((c : ℕ) → P zero c) → ((bound c : ℕ) → eqb c owner ≡ true → P (suc bound) c) → ((bound c : ℕ) → eqb c owner ≡ false → goes_on ahead owner c ≡ false → P (suc bound) c) → ((bound c : ℕ) → eqb c owner ≡ false → goes_on ahead owner c ≡ true → P bound (next c) → P (suc bound) c) → (bound c : ℕ) → P bound c
  look P none here fails on zero c = none c
  look P none here fails on (suc bound) c =
      ⊎_elim (here bound c)
      (λ e. ⊎_elim (λ t. on bound c e t (look P none here fails on bound (next c))) (fails bound c e) (either (goes_on ahead owner c)))
      (either (eqb c owner))

  -- ---- it ends before its bound

  module _ (order : Climbs ahead.rows ahead.covers) where
    -- a class from which it goes on has a cover
    pub on-full : (c : ℕ) → eqb c owner ≡ false → goes_on ahead owner c ≡ true → get_or ahead.covers c 0 ≡ 0 → ⊥
    unfolding goes_on
    on-full c e t = order.upward c owner (and_left (flows_in ahead.rows c owner) (eqb (get_or ahead.left c 0) 0) t) (eqb-false c owner e)

    -- the one that it names
    pub on-covers : (c : ℕ) → eqb c owner ≡ false → goes_on ahead owner c ≡ true → member (get_or ahead.covers c 0) (next c) ≡ true
    on-covers c e t = named-covers ahead.covers ahead.pointers c (order.sets c) (on-full c e t)

    pub reach-enough : (bound c : ℕ) → above_in ahead.rows c ≤ bound → reaches bound ahead owner c ≡ reaches (suc bound) ahead owner c
    reach-enough =
        look (λ bound c. above_in ahead.rows c ≤ bound → reaches bound ahead owner c ≡ reaches (suc bound) ahead owner c)
        (λ c h.
        ⊎_elim
        (λ e. reach_here 0 c e ∙ sym (reach_here 1 c e))
        (λ e.
        ⊎_elim
        (λ t. absurd (not-suc-le-zero {n = 0} (omega (arith, order.falls c (next c) (on-covers c e t)))))
        (λ f. reach-fails 0 c e f ∙ sym (reach-fails 1 c e f))
        (either (goes_on ahead owner c)))
        (either (eqb c owner)))
        (λ bound c e h. reach_here (suc bound) c e ∙ sym (reach_here (suc (suc bound)) c e))
        (λ bound c e f h. reach-fails (suc bound) c e f ∙ sym (reach-fails (suc (suc bound)) c e f))
        (λ bound c e t rest h. reach-on bound c e t ∙ rest (omega (arith, order.falls c (next c) (on-covers c e t))) ∙ sym (reach-on (suc bound) c e t))

-- ---- the next turn's traversal

-- a class with no turns left and a cover passes the turn on, whatever waits
spent-passes : (all : Candidates) (c : ℕ) → get_or all.left c 0 ≡ 0 → ((get_or all.covers c 0 ≡ 0) → ⊥) → takes all c ≡ false
unfolding takes takes_by
spent-passes all c none full =
    or-fails (not (eqb (get_or all.lengths c 0) 0) && not (eqb (get_or all.left c 0) 0)) (eqb (get_or all.covers c 0) 0)
    (and-fails-right (not (eqb (get_or all.lengths c 0) 0)) (not (eqb (get_or all.left c 0) 0)) (ap not (eq-eqb (get_or all.left c 0) 0 none)))
    (ne_eqb (get_or all.covers c 0) 0 full)

-- and one that waits and passes the turn on has none left
passes-spent : (all : Candidates) (c : ℕ) → ((get_or all.lengths c 0 ≡ 0) → ⊥) → takes all c ≡ false → eqb (get_or all.left c 0) 0 ≡ true
unfolding takes takes_by
passes-spent all c waits t =
    let idle = eqb (get_or all.lengths c 0) 0 in
    let spent = eqb (get_or all.left c 0) 0 in
    ⊎_elim (λ e. e)
    (λ e.
    absurd (not-both (or_left (not idle && not spent) (eqb (get_or all.covers c 0) 0) (and_both (ap not (ne_eqb (get_or all.lengths c 0) 0 waits)) (ap not e))) t))
    (either spent)

module _ (p : Policy) (given : in_range p ≡ true) where
  module _ (lengths left pointers : List ℕ) (owner : ℕ) where
    abbrev all : Candidates
    all = candidates p.covers lengths left

    abbrev ahead : Ahead
    ahead = looking_ahead p.rows p.covers left pointers

    -- the traversal's pointers at a class and above are those of the lookahead
    abbrev Alike : List ℕ → ℕ → Type 0
    Alike moving c = (j : ℕ) → above p j ≤ above p c → get_or moving j 0 ≡ get_or pointers j 0

    -- so it passes on to the class that the lookahead names, and they are alike from there on
    module _ (moving : List ℕ) (c : ℕ) (full : (get_or p.covers c 0 ≡ 0) → ⊥) (same : Alike moving c) where
      abbrev then : ℕ
      then = named p.covers pointers c

      to-then : named p.covers moving c ≡ then
      unfolding named moved_pointer
      to-then = ap (λ (k : ℕ). nth (get_or p.covers c 0) (moved (get_or p.covers c 0) k)) (same c (le_refl (above p c)))

      alike_then : Alike (passed_at p.covers moving c) then
      unfolding passed_at covers_of
      alike_then =
          let falls = (policy-laws p given).higher.falls_to_cover c then (named-covers p.covers pointers c ((climbs p given).sets c) full) in
          λ j h.
          get_or-set_other moving c j (moved_pointer p.covers moving c) 0 (λ i. lt_irrefl (above p c) (lt_of_le_of_lt (subst (λ (x : ℕ). above p x ≤ above p then) i h) falls))
          ∙ same j (le_of_lt (lt_of_le_of_lt h falls))

    -- it follows the lookahead to the owner
    pub follows : (bound c : ℕ) (moving : List ℕ) → Alike moving c → reaches bound ahead owner c ≡ true → Tries bound all moving c owner
    unfolding reaches goes_on try_class ends_at
    follows =
        look ahead owner (λ bound c. (moving : List ℕ) → Alike moving c → reaches bound ahead owner c ≡ true → Tries bound all moving c owner)
        (λ c moving same r. inl (eqb-true c owner r))
        (λ bound c e moving same r. subst (Tries (suc bound) all moving c) (eqb-true c owner e) (first-tried all (suc bound) moving c))
        (λ bound c e f moving same r. absurd (not-both r (reach-fails ahead owner (suc bound) c e f)))
        (λ bound c e t rest moving same r.
        let full = on-full ahead owner (climbs p given) c e t in
        let spent = eqb-true (get_or left c 0) 0 (and_right (flows_in p.rows c owner) (eqb (get_or left c 0) 0) t) in
        later-tried all bound moving c owner (spent-passes all c spent full)
        (subst (λ (x : ℕ). Tries bound all (passed_at p.covers moving c) x owner) (sym (to-then moving c full same))
        (rest (passed_at p.covers moving c) (alike_then moving c full same) (sym (reach-on ahead owner bound c e t) ∙ r))))

    -- where the lookahead reaches the owner, it comes from a class that may flow to it
    reach-flows : (bound c : ℕ) → is_class p c ≡ true → reaches bound ahead owner c ≡ true → flows p c owner ≡ true
    unfolding goes_on flows
    reach-flows bound c l r =
        ⊎_elim (λ e. subst (λ (o : ℕ). flows p c o ≡ true) (eqb-true c owner e) ((policy-laws p given).order.reflexive c l))
        (λ e.
        ⊎_elim (λ t. and_left (flows_in p.rows c owner) (eqb (get_or left c 0) 0) t) (λ f. absurd (not-both r (reach-fails ahead owner bound c e f)))
        (either (goes_on ahead owner c)))
        (either (eqb c owner))

    -- and where every class waits, the lookahead follows the traversal
    pub leads : ((c : ℕ) → c < 16 → (get_or lengths c 0 ≡ 0) → ⊥) → (bound c : ℕ) (moving : List ℕ) → is_class p c ≡ true → Alike moving c → Tries bound all moving c owner → reaches bound ahead owner c ≡ true
    unfolding reaches goes_on passes_on try_class ends_at flows
    leads waits zero c moving l same h = ⊎_elim (eq-eqb c owner) (λ o. absurd (not-both o refl)) h
    leads waits (suc bound) c moving l same h =
        let order = (policy-laws p given).order in
        ⊎_elim (reach_here ahead owner (suc bound) c)
        (λ e.
        ⊎_elim (λ t. absurd (eqb-false c owner e (taken-tried all (suc bound) moving c owner t h)))
        (λ t.
        let full = passes-on all c t in
        let then = named p.covers pointers c in
        let step = to_cover p given pointers c full in
        let there = order.to_class c then step in
        let rest : reaches bound ahead owner then ≡ true =
        leads waits bound then (passed_at p.covers moving c) there (alike_then moving c full same)
        (subst (λ (x : ℕ). Tries bound all (passed_at p.covers moving c) x owner) (to-then moving c full same) (tried-later all bound moving c owner t e h))
        in
        let on : goes_on ahead owner c ≡ true = and_both (order.transitive c then owner step (reach-flows bound then there rest)) (passes-spent all c (waits c (order.class_small c l)) t) in
        reach-on ahead owner bound c e on ∙ rest)
        (either (takes all c)))
        (either (eqb c owner))

    -- ---- the elision lemma

    -- it ends at each class that it passes on from, or above
    ends_above : (bound : ℕ) (moving : List ℕ) (c : ℕ) → is_class p c ≡ true → passes_on bound all moving c owner ≡ true → flows p owner (try_class bound all moving c).owner ≡ true
    unfolding passes_on
    ends_above zero moving c l h = absurd (not-both h refl)
    ends_above (suc bound) moving c l h =
        ⊎_elim (λ e. subst (λ (o : ℕ). flows p o (try_class (suc bound) all moving c).owner ≡ true) (eqb-true c owner e) (ascends p given (suc bound) lengths left moving c l))
        (λ e.
        ⊎_elim (λ t. absurd (not-both h (on-takes all (suc bound) moving c owner t)))
        (λ t.
        subst (λ (r : Reached). flows p owner r.owner ≡ true) (sym (try-passes all bound moving c t))
        (ends_above bound (passed_at p.covers moving c) (named p.covers moving c)
        ((policy-laws p given).order.to_class c (named p.covers moving c) (to_cover p given moving c (passes-on all c t)))
        (on-later all bound moving c owner t e h)))
        (either (takes all c)))
        (either (eqb c owner))

  -- before a home turn the owner may flow to the class where the traversal starts, and it goes only up from there; before another the traversal follows the lookahead to the owner
  pub elision : Elision p
  unfolding next_left start_turn owned_by left_at_start
  elision k left pointers owner l e lengths =
      let order = (policy-laws p given).order in
      let then = first_class p (k + 1) in
      let tried = left_tried p (k + 1) (next_left p k left) in
      let ends : ℕ → List ℕ → ℕ = λ from left. (try_class 16 (candidates p.covers lengths left) pointers from).owner in
      ⊎_elim
      (λ home.
      order.transitive owner then (ends then tried)
      (rw (first_home p (k + 1) home) (sym (elides-home p k left pointers owner home) ∙ e))
      (ascends p given 16 lengths tried pointers then (first-class p given (k + 1))))
      (λ other.
      rw (first-least p (k + 1) other, tried_other p (k + 1) (next_left p k left) other)
      (⊎_elim
      (λ o. subst (λ (x : ℕ). flows p owner x ≡ true) (sym o) (order.reflexive owner l))
      (ends_above lengths (next_left p k left) pointers owner 16 pointers (least p) (policy-laws p given).lowest.is-class)
      (follows lengths (next_left p k left) pointers owner 16 (least p) pointers (λ j h. refl) (sym (elides-other p k left pointers owner other) ∙ e))))
      (either (home_turn p (k + 1)))
