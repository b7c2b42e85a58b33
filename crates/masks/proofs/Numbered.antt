-- The classes of a set are numbered from 1 by rising class number: each number up to the set's size names a class of it, a greater number a greater class, and each
-- class of the set has one. The number of a class is how many classes of the set there are up to it, and that count rises at each of them.
-- Assumes nothing.
use mathlib.Core.Path.{◌≡◌, refl, sym, ap}
use mathlib.Core.Logic.{⊎_elim}
use mathlib.Core.Bool.{Bool, true, ◌&&◌}
use Prim.Native.Nat.{ℕ, zero, suc, ◌+◌, ◌≤◌, ◌<◌}
use native.Mathlib.Nat.{le_refl, not-suc-le-zero}
use native.Mathlib.Numerals.{add-one}
use native.Mathlib.Omega.{arith}
use borrow.Author.Tests.{eq-eqb, eqb-true}
use lib.Dec.{eqb}
use Rattle.basics.specs.Below.{count}
use Rattle.masks.specs.Mask.{member, size, nth}
use Rattle.basics.proofs.Truth.{either, and_left, and_right, and_both}
use Rattle.basics.proofs.Below.{lt-or-ge, count_yes, count_no, count_none, count-mono, some_at, first_found}

-- among the numbers below n, one of each number up to the count
numbered_below : (f : ℕ → Bool) (n k : ℕ) → 1 ≤ k → k ≤ count n f → (j : ℕ) × (j < n) × (f j ≡ true) × (count (j + 1) f ≡ k)
numbered_below f zero k one h = absurd (not-suc-le-zero {n = 0} (omega (arith, count_none f)))
numbered_below f (suc n) k one h =
    let step : count (suc n) f ≡ count (n + 1) f = ap (λ (m : ℕ). count m f) (sym (add-one n)) in
    ⊎_elim
    (λ t.
    ⊎_elim
    (λ l. (n, le_refl (suc n), t, omega (arith, step, count_yes f n t)))
    (λ l. let w = numbered_below f n k one l in (w.0, omega (arith, w.1), w.2, w.3))
    (lt-or-ge (count n f) k))
    (λ t. let w = numbered_below f n k one (omega (arith, step, count_no f n t)) in (w.0, omega (arith, w.1), w.2, w.3))
    (either (f n))

module _ (m : ℕ) where
  is_nth : ℕ → ℕ → Bool
  is_nth k j = member m j && eqb (count (j + 1) (member m)) k

  pub record Nth (k j : ℕ) : Type 0 where
    pub small : j < 16
    pub in_set : member m j ≡ true
    pub number : count (j + 1) (member m) ≡ k

  pub named : (k : ℕ) → 1 ≤ k → k ≤ size m → Nth k (nth m k)
  unfolding is_nth nth size
  named k one h =
      let w = numbered_below (member m) 16 k one h in
      let found = first_found (is_nth k) 16 (some_at (is_nth k) 16 w.0 w.1 (and_both w.2 (eq-eqb _ k w.3))) in
      record {
        small = found.below;
        in_set = and_left (member m (nth m k)) _ found.passes;
        number = eqb-true _ k (and_right (member m (nth m k)) _ found.passes);
      }

  -- of two classes of the set, the greater has the greater number
  number-rises : (i j : ℕ) → i < j → member m j ≡ true → count (i + 1) (member m) < count (j + 1) (member m)
  number-rises i j l t = omega (arith, count_yes (member m) j t, count-mono (member m) (i + 1) j (omega arith))

  pub rising : (k l i j : ℕ) → k < l → Nth k i → Nth l j → i < j
  rising k l i j less a b =
      ⊎_elim (λ h. h)
      (λ h.
      absurd
      (not-suc-le-zero {n = 0}
      (omega (arith, count-mono (member m) (j + 1) (i + 1) (omega arith), a.number, b.number))))
      (lt-or-ge i j)

  pub same_number : (k i j : ℕ) → Nth k i → Nth k j → i ≡ j
  same_number k i j a b =
      ⊎_elim
      (λ h. absurd (not-suc-le-zero {n = 0} (omega (arith, number-rises i j h b.in_set, a.number, b.number))))
      (λ h.
      ⊎_elim
      (λ g. absurd (not-suc-le-zero {n = 0} (omega (arith, number-rises j i g a.in_set, a.number, b.number))))
      (λ g. omega arith)
      (lt-or-ge j i))
      (lt-or-ge i j)

  pub has-number : (j : ℕ) → j < 16 → member m j ≡ true → (k : ℕ) × (1 ≤ k) × (k ≤ size m) × (nth m k ≡ j)
  unfolding size
  has-number j l t =
      let k = count (j + 1) (member m) in
      let one : 1 ≤ k = omega (arith, count_yes (member m) j t) in
      let few : k ≤ size m = count-mono (member m) (j + 1) 16 (omega arith) in
      (k, one, few, same_number k (nth m k) j (named k one few) (record { small = l; in_set = t; number = refl }))
