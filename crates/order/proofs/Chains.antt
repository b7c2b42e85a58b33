-- `longest_in` is the number of classes on the longest rising chain from a class, in every order. A class is in `risen_to rows i k` exactly if a rising chain of k steps from i
-- ends there; how many classes are strictly above falls along a chain, so none has more than fifteen steps, and the first number of steps that none has is the longest chain's
-- number of classes.
-- Assumes nothing.
use mathlib.Core.Path.{◌≡◌, refl, sym, ap, ◌∙◌, subst}
use mathlib.Core.Logic.{⊎_elim}
use mathlib.Core.Bool.{Bool, true, ◌&&◌}
use mathlib.Core.List.{List, [], ◌∷◌, ◌++◌}
use Prim.Native.Nat.{ℕ, zero, suc, ◌+◌, ◌-◌, ◌^◌, ◌≤◌, ◌<◌, zero-le}
use native.Mathlib.Nat.{le_refl, add-zero}
use native.Mathlib.Numerals.{add-one}
use native.Mathlib.Omega.{arith}
use borrow.Author.Tests.{eqb-true, eq-eqb, lt-ltb, le-ltb}
use lib.Dec.{eqb, lit<}
use lib.Pow.{pow-lt}
use lib.ListN.{length}
use Rattle.basics.specs.Below.{some, first}
use Rattle.masks.specs.Mask.{member, class_mask}
use Rattle.order.specs.Order.{strictly_in, above_some, above_in, risen_to, longest_in}
use Rattle.order.specs.Chains.{rising, Longest}
use Rattle.basics.proofs.Truth.{either, false-unless, not-both, and_left, and_right, and_both}
use Rattle.basics.proofs.Below.{First, lt-or-ge, some_at, some-found, none-at, first_found, first-none}
use Rattle.masks.proofs.Masks.{member-small, member-zero, no-members, some-member, set_of-below, member-set_of, member-class_mask}

-- ---- sets

class_mask-small : (c : ℕ) → class_mask c < 2 ^ 16
unfolding class_mask
class_mask-small c = ⊎_elim (λ l. rw (lt-ltb c 16 l) (pow-lt l)) (λ l. rw (le-ltb c 16 l) (lit< tt)) (lt-or-ge c 16)

-- ---- where chains end

-- the last class of a chain from class i: i itself, where the chain is empty
end : ℕ → List ℕ → ℕ
end i [] = i
end i (j ∷ js) = end j js

module _ (rows : List ℕ) where
  pub risen-none : (i : ℕ) → risen_to rows i 0 ≡ class_mask i
  unfolding risen_to
  risen-none i = refl

  pub risen-more : (i k : ℕ) → risen_to rows i (k + 1) ≡ above_some rows (risen_to rows i k)
  unfolding risen_to
  risen-more i k = rw add-one refl

  risen-small : (i k : ℕ) → risen_to rows i k < 2 ^ 16
  unfolding risen_to above_some
  risen-small i zero = class_mask-small i
  risen-small i (suc k) = set_of-below (λ j. some 16 (λ h. member (risen_to rows i k) h && strictly_in rows h j)) 16

  member-risen : (i k j : ℕ) → j < 16 → member (risen_to rows i (suc k)) j ≡ some 16 (λ h. member (risen_to rows i k) h && strictly_in rows h j)
  unfolding risen_to above_some
  member-risen i k j l = member-set_of (λ c. some 16 (λ h. member (risen_to rows i k) h && strictly_in rows h c)) 16 j l

  -- one class more at a chain's end
  longer : (js : List ℕ) (i j : ℕ) → rising rows i js ≡ true → strictly_in rows (end i js) j ≡ true → (rising rows i (js ++ (j ∷ [])) ≡ true) × (length (js ++ (j ∷ [])) ≡ length js + 1) × (end i (js ++ (j ∷ [])) ≡ j)
  unfolding rising end
  longer [] i j rises s = (and_both s refl, refl, refl)
  longer (h ∷ js) i j rises s =
      let rest = longer js h j (and_right (strictly_in rows i h) (rising rows h js) rises) s in
      (and_both (and_left (strictly_in rows i h) (rising rows h js) rises) rest.0, omega (arith, rest.1), rest.2)

  -- a class that is risen to in k steps is the end of a chain of k steps
  chain-to : (i k j : ℕ) → member (risen_to rows i k) j ≡ true → (js : List ℕ) × (rising rows i js ≡ true) × (length js ≡ k) × (end i js ≡ j)
  unfolding risen_to rising end
  chain-to i zero j e =
      let small = member-small (class_mask i) j (class_mask-small i) e in
      ([], refl, refl, eqb-true i j (sym (member-class_mask i j small) ∙ e))
  chain-to i (suc k) j e =
      let small = member-small (risen_to rows i (suc k)) j (risen-small i (suc k)) e in
      let w = some-found (λ h. member (risen_to rows i k) h && strictly_in rows h j) 16 (sym (member-risen i k j small) ∙ e) in
      let before = chain-to i k w.0 (and_left (member (risen_to rows i k) w.0) (strictly_in rows w.0 j) w.2) in
      let step = and_right (member (risen_to rows i k) w.0) (strictly_in rows w.0 j) w.2 in
      let all = longer before.0 i j before.1 (subst (λ (h : ℕ). strictly_in rows h j ≡ true) (sym before.3) step) in
      (before.0 ++ (j ∷ []), all.0, omega (arith, all.1, before.2), all.2)

  -- where no class is risen to in so many steps, none is in more
  none-on : (i k d : ℕ) → risen_to rows i k ≡ 0 → risen_to rows i (k + d) ≡ 0
  none-on i k zero e = ap (risen_to rows i) (add-zero k) ∙ e
  none-on i k (suc d) e =
      let next : risen_to rows i (suc (k + d)) ≡ 0 =
      no-members (risen_to rows i (suc (k + d))) (risen-small i (suc (k + d)))
      (false-unless (some 16 (member (risen_to rows i (suc (k + d)))))
      (λ t.
      let w = some-found (member (risen_to rows i (suc (k + d)))) 16 t in
      let from = some-found (λ h. member (risen_to rows i (k + d)) h && strictly_in rows h w.0) 16 (sym (member-risen i (k + d) w.0 w.1) ∙ w.2) in
      let there = and_left (member (risen_to rows i (k + d)) from.0) (strictly_in rows from.0 w.0) from.2 in
      not-both there (ap (λ (m : ℕ). member m from.0) (none-on i k d e) ∙ member-zero from.0)))
      in
      let step : k + suc d ≡ suc (k + d) = omega arith in
      ap (risen_to rows i) step ∙ next

  module _ (falls : (i j : ℕ) → strictly_in rows i j ≡ true → above_in rows j < above_in rows i) (few : (i : ℕ) → above_in rows i < 16) (small : (i j : ℕ) → strictly_in rows i j ≡ true → j < 16) where
    -- a chain's end is risen to in as many steps as it has, after those to where it starts
    reached : (js : List ℕ) (i k c : ℕ) → member (risen_to rows i k) c ≡ true → rising rows c js ≡ true → member (risen_to rows i (k + length js)) (end c js) ≡ true
    unfolding rising end
    reached [] i k c e rises = subst (λ (n : ℕ). member (risen_to rows i n) c ≡ true) (sym (add-zero k)) e
    reached (j ∷ js) i k c e rises =
        let step = and_left (strictly_in rows c j) (rising rows j js) rises in
        let rest = and_right (strictly_in rows c j) (rising rows j js) rises in
        let here = member-risen i k j (small c j step) ∙ some_at (λ h. member (risen_to rows i k) h && strictly_in rows h j) 16 c (member-small (risen_to rows i k) c (risen-small i k) e) (and_both e step) in
        let count : suc k + length js ≡ k + length (j ∷ js) = omega arith in
        subst (λ (n : ℕ). member (risen_to rows i n) (end j js) ≡ true) count (reached js i (suc k) j here rest)

    -- a chain has no more steps than there are classes above its first
    pub few-steps : (js : List ℕ) (i : ℕ) → rising rows i js ≡ true → length js ≤ above_in rows i
    unfolding rising
    few-steps [] i rises = zero-le
    few-steps (j ∷ js) i rises =
        omega (arith, falls i j (and_left (strictly_in rows i j) (rising rows j js) rises), few-steps js j (and_right (strictly_in rows i j) (rising rows j js) rises))

    -- the class itself is risen to in no steps
    own : (i : ℕ) → i < 16 → member (risen_to rows i 0) i ≡ true
    own i l = ap (λ (m : ℕ). member m i) (risen-none i) ∙ member-class_mask i i l ∙ eq-eqb i i refl

    -- where there are chains of k steps and none has more, the longest has k + 1 classes, the first counted
    longest-at : (i k : ℕ) → i < 16 → ((risen_to rows i k ≡ 0) → ⊥) → ((js : List ℕ) → rising rows i js ≡ true → length js ≤ k) → Longest rows i (k + 1)
    longest-at i k l there none =
        let at = some-member (risen_to rows i k) (risen-small i k) there in
        let w = chain-to i k at.0 at.2 in
        record { chain = w.0; rises = w.1; so_many = ap (λ (n : ℕ). n + 1) w.2; none_longer = λ js rises. omega (arith, none js rises) }

    -- a chain of more than k steps would end in a set that is empty
    at_most : (i k : ℕ) → i < 16 → risen_to rows i (k + 1) ≡ 0 → (js : List ℕ) → rising rows i js ≡ true → length js ≤ k
    at_most i k l empty js rises =
        ⊎_elim
        (λ (more : k < length js).
        let steps : 0 + length js ≡ k + 1 + (length js - (k + 1)) = omega (arith, more) in
        let none = ap (risen_to rows i) steps ∙ none-on i (k + 1) (length js - (k + 1)) empty in
        absurd (not-both (reached js i 0 i (own i l) rises) (ap (λ (m : ℕ). member m (end i js)) none ∙ member-zero (end i js))))
        (λ h. h)
        (lt-or-ge k (length js))

    -- the first number of steps that no chain has
    abbrev ended : ℕ → ℕ → Bool
    ended i steps = eqb (risen_to rows i steps) 0

    found : (i k : ℕ) → i < 16 → First (ended i) 16 k → Longest rows i k
    found i zero l w = absurd (not-both (own i l) (ap (λ (m : ℕ). member m i) (eqb-true (risen_to rows i 0) 0 w.passes) ∙ member-zero i))
    found i (suc k) l w =
        let empty = eqb-true (risen_to rows i (suc k)) 0 w.passes in
        subst (Longest rows i) (add-one k)
        (longest-at i k l (λ z. not-both (eq-eqb (risen_to rows i k) 0 z) (w.fails_before k (le_refl (suc k)))) (at_most i k l (ap (risen_to rows i) (add-one k) ∙ empty)))

    pub longest : (i : ℕ) → i < 16 → Longest rows i (longest_in rows i)
    unfolding longest_in
    longest i l =
        ⊎_elim
        (λ t. found i (first 16 (ended i)) l (first_found (ended i) 16 t))
        (λ t.
        subst (Longest rows i) (sym (first-none (ended i) 16 t))
        (longest-at i 15 l (λ z. not-both (eq-eqb (risen_to rows i 15) 0 z) (none-at (ended i) 16 t 15 (lit< tt))) (λ js rises. omega (arith, few-steps js i rises, few i))))
        (either (some 16 (ended i)))
