-- Laws of the order. The tests 3 to 6, said of every class: the test passes exactly if the law holds. A test goes over the sixteen numbers, and a law over the classes;
-- the two agree since the rows of numbers that are no classes are 0. And the sets of classes above a class and covering it, made by operations on masks, are those that
-- the definitions name by their members.
-- Assumes nothing.
use mathlib.Core.Path.{◌≡◌, sym, ap, ◌∙◌, ap₂}
use mathlib.Core.Logic.{⊎_elim}
use mathlib.Core.Bool.{true, false, not, ◌&&◌, ◌||◌, Bool}
use mathlib.Core.List.{List}
use Prim.Native.Nat.{ℕ, ◌^◌, ◌≤◌, ◌<◌}
use native.Mathlib.Nat.{lt_of_lt_of_le}
use borrow.Author.Tests.{lt-ltb, ltb-true, eq-eqb, ne_eqb, eqb-true}
use lib.Dec.{eqb}
use lib.ListN.{get_or}
use Rattle.basics.specs.Below.{some}
use Rattle.masks.specs.Mask.{member, includes, difference, size, class_mask}
use Rattle.order.specs.Order.{is_class_in, class_set, flows_in, strictly_in, row_fits, rows_fit, antisymmetric_at, antisymmetric, transitive_at, transitive, least_at, has_least, above_set, above_some, between_in, covers_in, cover_set, above_in}
use Rattle.order.specs.Laws.{Reflexive, Antisymmetric, Transitive, Least, SmallClasses}
use Rattle.basics.proofs.Truth.{either, false-unless, true-unless, not-both, and_left, and_right, and_both, implies, implication, not-true, not-false, and_comm}
use Rattle.basics.proofs.Below.{lt-or-ge, every-at, every-all, some_at, some-found, some_same, count_same, set_of-same}
use Rattle.masks.proofs.Masks.{member-zero, member-over, member-below_mask, includes-at, includes-all, member-set_of, member-class_mask}

-- ---- classes

-- the classes of n are the numbers below n
pub class-below : (n i : ℕ) → is_class_in n i ≡ true → i < n
unfolding is_class_in
class-below n i e = ltb-true i n e

pub below-class : (n i : ℕ) → i < n → is_class_in n i ≡ true
unfolding is_class_in
below-class n i l = lt-ltb i n l

pub past-classes : (n i : ℕ) → is_class_in n i ≡ false → n ≤ i
past-classes n i e = ⊎_elim (λ l. absurd (not-both (below-class n i l) e)) (λ l. l) (lt-or-ge i n)

-- where n is at most 16, each is one of the sixteen numbers
pub classes-small : (n : ℕ) → n ≤ 16 → SmallClasses n
classes-small n few i e = lt_of_lt_of_le (class-below n i e) few

-- and the set of them has just those
member-classes : (n j : ℕ) → j < 16 → member (class_set n) j ≡ is_class_in n j
unfolding is_class_in
member-classes = member-below_mask

-- ---- strictly above

pub strictly-flows : (rows : List ℕ) (i j : ℕ) → strictly_in rows i j ≡ true → flows_in rows i j ≡ true
unfolding strictly_in
strictly-flows rows i j e = and_right (not (eqb i j)) (flows_in rows i j) e

pub strictly-apart : (rows : List ℕ) (i j : ℕ) → strictly_in rows i j ≡ true → i ≡ j → ⊥
unfolding strictly_in
strictly-apart rows i j e q = not-both (eq-eqb i j q) (not-true (eqb i j) (and_left (not (eqb i j)) (flows_in rows i j) e))

pub apart-strictly : (rows : List ℕ) (i j : ℕ) → flows_in rows i j ≡ true → ((i ≡ j) → ⊥) → strictly_in rows i j ≡ true
unfolding strictly_in
apart-strictly rows i j e h = and_both (not-false (eqb i j) (ne_eqb i j h)) e

-- ---- the tests

-- an order as it is stored: rows of 16 bits, and 0 for the numbers that are no classes
pub record Stored (n : ℕ) (rows : List ℕ) : Type 0 where
  pub class_small : SmallClasses n
  pub small : (i : ℕ) → get_or rows i 0 < 2 ^ 16
  pub void : (i : ℕ) → is_class_in n i ≡ false → get_or rows i 0 ≡ 0

module _ (n : ℕ) (rows : List ℕ) (given : Stored n rows) where
  -- only classes flow
  pub from_class : (i j : ℕ) → flows_in rows i j ≡ true → is_class_in n i ≡ true
  unfolding flows_in
  from_class i j e =
      true-unless (is_class_in n i) (λ l. absurd (not-both e (ap (λ (m : ℕ). member m j) (given.void i l) ∙ member-zero j)))

  to-small : (i j : ℕ) → flows_in rows i j ≡ true → j < 16
  unfolding flows_in
  to-small i j e = ⊎_elim (λ l. l) (λ l. absurd (not-both e (member-over (get_or rows i 0) 16 j (given.small i) l))) (lt-or-ge j 16)

  from-small : (i j : ℕ) → flows_in rows i j ≡ true → i < 16
  from-small i j e = given.class_small i (from_class i j e)

  -- 3: no bit but those of classes, and each class its own
  pub record RowsFit : Type 0 where
    pub to_class : (i j : ℕ) → is_class_in n i ≡ true → flows_in rows i j ≡ true → is_class_in n j ≡ true
    pub own : Reflexive (is_class_in n) (flows_in rows)

  row-at : rows_fit n rows ≡ true → (i : ℕ) → is_class_in n i ≡ true → (includes (class_set n) (get_or rows i 0) && member (get_or rows i 0) i) ≡ true
  unfolding rows_fit row_fits
  row-at e i l =
      let at = every-at (λ k. row_fits n k (get_or rows k 0)) 16 e i (given.class_small i l) in
      rw l at at

  pub rows-said : rows_fit n rows ≡ true → RowsFit
  unfolding flows_in
  rows-said e =
      record {
        to_class =
            λ i j l t.
            let small = to-small i j t in
            sym (member-classes n j small)
            ∙ includes-at (class_set n) (get_or rows i 0) (and_left _ _ (row-at e i l)) j small t;
        own = λ i l. and_right (includes (class_set n) (get_or rows i 0)) (member (get_or rows i 0) i) (row-at e i l);
      }

  pub rows-tested : RowsFit → rows_fit n rows ≡ true
  unfolding rows_fit row_fits flows_in
  rows-tested law =
      every-all (λ k. row_fits n k (get_or rows k 0)) 16
      (λ i l.
      ⊎_elim
      (λ b.
      rw b
      (and_both
      (includes-all (class_set n) (get_or rows i 0) (λ j m t. member-classes n j m ∙ law.to_class i j b t))
      (law.own i b)))
      (λ b. rw b (eq-eqb (get_or rows i 0) 0 (given.void i b)))
      (either (is_class_in n i)))

  -- 4: no two classes flow to each other
  pub antisymmetric-said : antisymmetric rows ≡ true → Antisymmetric (is_class_in n) (flows_in rows)
  unfolding antisymmetric antisymmetric_at
  antisymmetric-said e i j li lj there back =
      ⊎_elim (λ q. eqb-true i j q)
      (λ q.
      let apart : strictly_in rows i j ≡ true = apart-strictly rows i j there (λ p. not-both (eq-eqb i j p) q) in
      let at =
      every-at (λ k. not (strictly_in rows i k && flows_in rows k i)) 16
      (every-at (antisymmetric_at rows) 16 e i (from-small i j there)) j (from-small j i back)
      in
      absurd (not-both (and_both apart back) (not-true _ at)))
      (either (eqb i j))

  pub antisymmetric-tested : Antisymmetric (is_class_in n) (flows_in rows) → antisymmetric rows ≡ true
  unfolding antisymmetric antisymmetric_at
  antisymmetric-tested law =
      every-all (antisymmetric_at rows) 16
      (λ i l.
      every-all (λ k. not (strictly_in rows i k && flows_in rows k i)) 16
      (λ j m.
      not-false (strictly_in rows i j && flows_in rows j i)
      (false-unless (strictly_in rows i j && flows_in rows j i)
      (λ t.
      let s = and_left (strictly_in rows i j) (flows_in rows j i) t in
      let back = and_right (strictly_in rows i j) (flows_in rows j i) t in
      let there = strictly-flows rows i j s in
      strictly-apart rows i j s (law i j (from_class i j there) (from_class j i back) there back)))))

  -- 5: where i may flow to j and j to k, i may flow to k
  pub transitive-said : transitive rows ≡ true → (i j k : ℕ) → flows_in rows i j ≡ true → flows_in rows j k ≡ true → flows_in rows i k ≡ true
  unfolding transitive transitive_at flows_in
  transitive-said e i j k first second =
      let at =
      every-at (λ h. not (flows_in rows i h) || includes (get_or rows i 0) (get_or rows h 0)) 16
      (every-at (transitive_at rows) 16 e i (from-small i j first)) j (from-small j k second)
      in
      includes-at (get_or rows i 0) (get_or rows j 0) (implies (flows_in rows i j) _ at first) k (to-small j k second) second

  pub transitive-tested : RowsFit → Transitive (is_class_in n) (flows_in rows) → transitive rows ≡ true
  unfolding transitive transitive_at flows_in
  transitive-tested fit law =
      every-all (transitive_at rows) 16
      (λ i l.
      every-all (λ h. not (flows_in rows i h) || includes (get_or rows i 0) (get_or rows h 0)) 16
      (λ j m.
      implication (flows_in rows i j) (includes (get_or rows i 0) (get_or rows j 0))
      (λ first.
      includes-all (get_or rows i 0) (get_or rows j 0)
      (λ k b second.
      law i j k (from_class i j first) (from_class j k second) (fit.to_class j k (from_class j k second) second) first second))))

  -- 6: a class that may flow to every class
  pub least-said : (i : ℕ) → least_at n rows i ≡ true → (is_class_in n i ≡ true) × Least (is_class_in n) (flows_in rows) i
  unfolding least_at flows_in
  least-said i e = (
    and_left _ _ e,
    λ j l.
        let small = given.class_small j l in
        includes-at (get_or rows i 0) (class_set n) (and_right (is_class_in n i) _ e) j small (member-classes n j small ∙ l),
  )

  pub least-tested : (i : ℕ) → is_class_in n i ≡ true → Least (is_class_in n) (flows_in rows) i → least_at n rows i ≡ true
  unfolding least_at flows_in
  least-tested i l law =
      and_both l
      (includes-all (get_or rows i 0) (class_set n) (λ j small t. law j (sym (member-classes n j small) ∙ t)))

  pub has-least-said : has_least n rows ≡ true → (i : ℕ) × (is_class_in n i ≡ true) × Least (is_class_in n) (flows_in rows) i
  unfolding has_least
  has-least-said e =
      let w = some-found (least_at n rows) 16 e in
      let law = least-said w.0 w.2 in
      (w.0, law.0, law.1)

  pub has-least-tested : (i : ℕ) → is_class_in n i ≡ true → Least (is_class_in n) (flows_in rows) i → has_least n rows ≡ true
  unfolding has_least
  has-least-tested i l law = some_at (least_at n rows) 16 i (given.class_small i l) (least-tested i l law)

-- ---- the sets of classes above a class and covering it

module _ (rows : List ℕ) (i : ℕ) where
  -- a row without its own bit
  pub above_is : difference (get_or rows i 0) (class_mask i) ≡ above_set rows i
  unfolding difference above_set strictly_in flows_in
  above_is =
      set_of-same (λ j. member (get_or rows i 0) j && not (member (class_mask i) j)) (strictly_in rows i) 16
      (λ j l. ap (λ (b : Bool). member (get_or rows i 0) j && not b) (member-class_mask i j l) ∙ and_comm (member (get_or rows i 0) j) (not (eqb i j)))

  pub member-above : (j : ℕ) → j < 16 → member (above_set rows i) j ≡ strictly_in rows i j
  unfolding above_set
  member-above j l = member-set_of (strictly_in rows i) 16 j l

  member-above_some : (j : ℕ) → j < 16 → member (above_some rows (above_set rows i)) j ≡ between_in rows i j
  unfolding above_some between_in
  member-above_some j l =
      member-set_of (λ k. some 16 (λ h. member (above_set rows i) h && strictly_in rows h k)) 16 j l
      ∙ some_same (λ k. member (above_set rows i) k && strictly_in rows k j) (λ k. strictly_in rows i k && strictly_in rows k j) 16
      (λ k m. ap (λ (b : Bool). b && strictly_in rows k j) (member-above k m))

  -- what is above the class and above nothing that is above it
  pub covers_are : difference (above_set rows i) (above_some rows (above_set rows i)) ≡ cover_set rows i
  unfolding difference cover_set covers_in
  covers_are =
      set_of-same (λ j. member (above_set rows i) j && not (member (above_some rows (above_set rows i)) j)) (covers_in rows i) 16
      (λ j l. ap₂ (λ (a b : Bool). a && not b) (member-above j l) (member-above_some j l))

  pub above_size : size (above_set rows i) ≡ above_in rows i
  unfolding size above_in
  above_size = count_same (member (above_set rows i)) (strictly_in rows i) 16 member-above
