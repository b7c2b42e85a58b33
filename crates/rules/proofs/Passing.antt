-- What a traversal tries and what it passes on from: its steps, that it ends at each class that it tries or passes on from it, that it passes on from a class once at most, since it only rises, and so how many it tries.
-- Assumes nothing.
use mathlib.Core.Path.{◌≡◌, refl, sym, ap, ◌∙◌, subst}
use mathlib.Core.Logic.{inl, inr, ⊎_elim}
use mathlib.Core.Bool.{Bool, true, false, cond, ◌||◌}
use mathlib.Core.List.{List}
use Prim.Native.Nat.{ℕ, zero, suc, ◌+◌, ◌≤◌, ◌<◌}
use native.Mathlib.Nat.{lt_irrefl, le_refl}
use native.Mathlib.Omega.{arith}
use borrow.Author.Tests.{eqb-true, eq-eqb, ne_eqb}
use lib.Dec.{eqb}
use lib.ListN.{get_or}
use Rattle.order.specs.Order.{above_in}
use Rattle.basics.specs.Below.{count}
use Rattle.basics.proofs.Below.{count-all-fail, count-added}
use Rattle.basics.proofs.Truth.{either, not-both, or_left, or_right, or-fails, or_cases, on-true, on-false}
use Rattle.rules.specs.Traversal.{Candidates, passed_at, named, takes, Reached, ends_at, try_class}
use Rattle.rules.specs.Climb.{Climbs}
use Rattle.rules.specs.RoundRobin.{passes_on, passes_to, Tries}
use Rattle.rules.proofs.Traversal.{passes-on, try-takes, try-passes, traversed, falls, passes-small}

module _ (all : Candidates) where
  abbrev after : List ℕ → ℕ → List ℕ
  after pointers from = passed_at all.covers pointers from

  abbrev next : List ℕ → ℕ → ℕ
  next pointers from = named all.covers pointers from

  -- ---- the steps

  pub on-takes : (bound : ℕ) (pointers : List ℕ) (from c : ℕ) → takes all from ≡ true → passes_on bound all pointers from c ≡ false
  unfolding passes_on
  on-takes zero pointers from c t = refl
  on-takes (suc bound) pointers from c t = on-true (takes all from) _ _ t

  pub on-passes : (bound : ℕ) (pointers : List ℕ) (from c : ℕ) → takes all from ≡ false → passes_on (suc bound) all pointers from c ≡ (eqb from c || passes_on bound all (after pointers from) (next pointers from) c)
  unfolding passes_on
  on-passes bound pointers from c t = on-false (takes all from) _ _ t

  pub to-passes : (bound : ℕ) (pointers : List ℕ) (from c : ℕ) → takes all from ≡ false → passes_to (suc bound) all pointers from c ≡ cond (eqb from c) (next pointers from) (passes_to bound all (after pointers from) (next pointers from) c)
  unfolding passes_to
  to-passes bound pointers from c t = on-false (takes all from) _ _ t

  -- if it passes on from a class, but not from the one where it is, it does so from the next one on
  pub on-later : (bound : ℕ) (pointers : List ℕ) (from c : ℕ) → takes all from ≡ false → eqb from c ≡ false → passes_on (suc bound) all pointers from c ≡ true → passes_on bound all (after pointers from) (next pointers from) c ≡ true
  on-later bound pointers from c t e h =
      let later = passes_on bound all (after pointers from) (next pointers from) c in
      sym (ap (λ (b : Bool). b || later) e) ∙ sym (on-passes bound pointers from c t) ∙ h

  -- ---- what it tries

  -- the class where it starts
  pub first-tried : (bound : ℕ) (pointers : List ℕ) (from : ℕ) → Tries bound all pointers from from
  unfolding try_class ends_at
  first-tried zero pointers from = inl refl
  first-tried (suc bound) pointers from =
      ⊎_elim
      (λ t. inl (ap (λ (r : Reached). r.owner) (try-takes all (suc bound) pointers from t)))
      (λ t. inr (on-passes bound pointers from from t ∙ or_left (eqb from from) _ (eq-eqb from from refl)))
      (either (takes all from))

  -- what it tries from the next class on
  pub later-tried : (bound : ℕ) (pointers : List ℕ) (from c : ℕ) → takes all from ≡ false → Tries bound all (after pointers from) (next pointers from) c → Tries (suc bound) all pointers from c
  later-tried bound pointers from c t =
      ⊎_elim
      (λ o. inl (ap (λ (r : Reached). r.owner) (try-passes all bound pointers from t) ∙ o))
      (λ o. inr (on-passes bound pointers from c t ∙ or_right (eqb from c) _ o))

  -- and the other way round, of another class than the one where it is
  pub tried-later : (bound : ℕ) (pointers : List ℕ) (from c : ℕ) → takes all from ≡ false → eqb from c ≡ false → Tries (suc bound) all pointers from c → Tries bound all (after pointers from) (next pointers from) c
  tried-later bound pointers from c t e =
      ⊎_elim
      (λ o. inl (sym (ap (λ (r : Reached). r.owner) (try-passes all bound pointers from t)) ∙ o))
      (λ o. inr (on-later bound pointers from c t e o))

  -- where a class takes the turn, it tries no other
  pub taken-tried : (bound : ℕ) (pointers : List ℕ) (from c : ℕ) → takes all from ≡ true → Tries bound all pointers from c → from ≡ c
  unfolding ends_at
  taken-tried bound pointers from c t =
      ⊎_elim (λ o. sym (ap (λ (r : Reached). r.owner) (try-takes all bound pointers from t)) ∙ o) (λ o. absurd (not-both o (on-takes bound pointers from c t)))

  -- each class that it passes the turn on to
  pub next-tried : (bound : ℕ) (pointers : List ℕ) (from c : ℕ) → passes_on bound all pointers from c ≡ true → Tries bound all pointers from (passes_to bound all pointers from c)
  unfolding passes_on
  next-tried zero pointers from c h = absurd (not-both h refl)
  next-tried (suc bound) pointers from c h =
      ⊎_elim
      (λ t. absurd (not-both h (on-takes (suc bound) pointers from c t)))
      (λ t.
      let onward = passes_to bound all (after pointers from) (next pointers from) c in
      let to : (b : Bool) → eqb from c ≡ b → passes_to (suc bound) all pointers from c ≡ cond b (next pointers from) onward = λ b e. to-passes bound pointers from c t ∙ ap (λ (x : Bool). cond x (next pointers from) onward) e in
      ⊎_elim
      (λ e.
      subst (Tries (suc bound) all pointers from) (sym (to true e)) (later-tried bound pointers from (next pointers from) t (first-tried bound (after pointers from) (next pointers from))))
      (λ e.
      subst (Tries (suc bound) all pointers from) (sym (to false e))
      (later-tried bound pointers from onward t (next-tried bound (after pointers from) (next pointers from) c (on-later bound pointers from c t e h))))
      (either (eqb from c)))
      (either (takes all from))

  -- a class that it passes on from has a child
  pub passes-full : (bound : ℕ) (pointers : List ℕ) (from c : ℕ) → passes_on bound all pointers from c ≡ true → get_or all.covers c 0 ≡ 0 → ⊥
  unfolding passes_on
  passes-full zero pointers from c h none = not-both h refl
  passes-full (suc bound) pointers from c h none =
      ⊎_elim
      (λ t. not-both h (on-takes (suc bound) pointers from c t))
      (λ t.
      ⊎_elim
      (λ e. passes-on all from t (ap (λ (x : ℕ). get_or all.covers x 0) (eqb-true from c e) ∙ none))
      (λ later. passes-full bound (after pointers from) (next pointers from) c later none)
      (or_cases (eqb from c) (passes_on bound all (after pointers from) (next pointers from) c) (sym (on-passes bound pointers from c t) ∙ h)))
      (either (takes all from))

  -- ---- it only rises

  module _ (rows : List ℕ) (order : Climbs rows all.covers) where
    -- it never passes on from a class that has more above it than where it is
    pub never_back : (bound : ℕ) (pointers : List ℕ) (from c : ℕ) → above_in rows from < above_in rows c → passes_on bound all pointers from c ≡ false
    unfolding passes_on
    never_back zero pointers from c l = refl
    never_back (suc bound) pointers from c l =
        ⊎_elim (on-takes (suc bound) pointers from c)
        (λ t.
        on-passes bound pointers from c t
        ∙ or-fails (eqb from c) (passes_on bound all (after pointers from) (next pointers from) c)
        (ne_eqb from c (λ e. lt_irrefl (above_in rows c) (subst (λ (x : ℕ). above_in rows x < above_in rows c) e l)))
        (never_back bound (after pointers from) (next pointers from) c (omega (arith, falls all rows order pointers from t, l))))
        (either (takes all from))

    -- it ends at a class with no more above it
    ends-higher : (bound : ℕ) (pointers : List ℕ) (from : ℕ) → above_in rows (try_class bound all pointers from).owner ≤ above_in rows from
    unfolding ends_at
    ends-higher =
        traversed all (λ pointers from r. above_in rows r.owner ≤ above_in rows from) (λ pointers from. le_refl (above_in rows from)) (λ bound pointers from t rest. omega (arith, falls all rows order pointers from t, rest))

    -- and does not pass on from there
    pub owner-keeps : (bound : ℕ) (pointers : List ℕ) (from : ℕ) → passes_on bound all pointers from (try_class bound all pointers from).owner ≡ false
    unfolding passes_on
    owner-keeps zero pointers from = refl
    owner-keeps (suc bound) pointers from =
        ⊎_elim (λ t. on-takes (suc bound) pointers from (try_class (suc bound) all pointers from).owner t)
        (λ t.
        let owner = (try_class bound all (after pointers from) (next pointers from)).owner in
        ap (λ (r : Reached). passes_on (suc bound) all pointers from r.owner) (try-passes all bound pointers from t)
        ∙ on-passes bound pointers from owner t
        ∙ or-fails (eqb from owner) (passes_on bound all (after pointers from) (next pointers from) owner)
        (ne_eqb from owner (λ e. lt_irrefl (above_in rows from) (omega (arith, ap (above_in rows) e, falls all rows order pointers from t, ends-higher bound (after pointers from) (next pointers from)))))
        (owner-keeps bound (after pointers from) (next pointers from)))
        (either (takes all from))

    -- W-212: it tries each class that it passes on from, and the owner
    pub tried-counted : (bound : ℕ) (pointers : List ℕ) (from : ℕ) → from < 16 → (try_class bound all pointers from).tried ≡ count 16 (passes_on bound all pointers from) + 1
    unfolding try_class ends_at passes_on
    tried-counted zero pointers from small = sym (ap (λ (n : ℕ). n + 1) (count-all-fail (passes_on zero all pointers from) 16 (λ c l. refl)))
    tried-counted (suc bound) pointers from small =
        ⊎_elim
        (λ t.
        ap (λ (r : Reached). r.tried) (try-takes all (suc bound) pointers from t)
        ∙ sym (ap (λ (n : ℕ). n + 1) (count-all-fail (passes_on (suc bound) all pointers from) 16 (λ c l. on-takes (suc bound) pointers from c t))))
        (λ t.
        let onward = passes_on bound all (after pointers from) (next pointers from) in
        let higher = falls all rows order pointers from t in
        let rest = tried-counted bound (after pointers from) (next pointers from) (passes-small all rows order pointers from t) in
        let others : (c : ℕ) → ((c ≡ from) → ⊥) → passes_on (suc bound) all pointers from c ≡ onward c =
        λ c apart. on-passes bound pointers from c t ∙ ap (λ (b : Bool). b || onward c) (ne_eqb from c (λ e. apart (sym e)))
        in
        let here = on-passes bound pointers from from t ∙ or_left (eqb from from) (onward from) (eq-eqb from from refl) in
        let more = count-added onward (passes_on (suc bound) all pointers from) 16 from small (never_back bound (after pointers from) (next pointers from) from higher) here others in
        ap (λ (r : Reached). r.tried) (try-passes all bound pointers from t) ∙ omega (arith, rest, more))
        (either (takes all from))
