-- Each legal order of 1 to 4 classes is listed. The checker tries all lists of rows below 2 ^ n, row by row, and goes on only with a row that agrees with those before it, as the
-- rows of every legal order do; each list with a least class that it comes to is listed. That the listed ones are legal, and their values rise, it computes of each.
-- Assumes nothing.
use mathlib.Core.Path.{◌≡◌, refl, sym, ap, ap₂, ◌∙◌, subst}
use mathlib.Core.Logic.{⊎_elim}
use mathlib.Core.Bool.{Bool, true, false, cond, not, ◌&&◌, ◌||◌}
use mathlib.Core.List.{List, [], ◌∷◌, ◌++◌, append_assoc, append-nil}
use Prim.Native.Nat.{ℕ, zero, suc, ◌-◌, ◌^◌, ◌≤◌, ◌<◌}
use native.Mathlib.Nat.{lt_irrefl, not-suc-le-zero, eq-or-lt_of_le}
use native.Mathlib.Omega.{arith}
use borrow.Author.Tests.{lt-ltb, le-ltb, ltb-true, eqb-true}
use lib.Dec.{ltb, eqb, lit<}
use lib.ListN.{length, get_or, length-append, get_or-append}
use lib.Seq.{ext_get_or, get_or-append_seam}
use Rattle.basics.specs.Below.{every, some, sum, list_of, set_of}
use Rattle.masks.specs.Mask.{member, includes, below_mask}
use Rattle.order.specs.Order.{is_class_in, flows_in, strictly_in, row_fits, rows_fit, antisymmetric_at, antisymmetric, transitive_at, transitive, least_at, has_least}
use Rattle.orders.specs.Listed.{count_of, first_of, small_orders, digit_of, row_at, rows_at}
use Rattle.orders.specs.EveryOrder.{LegalOrder, value, EveryOrder, Counts}
use Rattle.basics.proofs.Truth.{false-unless, not-both, and_left, and_right, and_both, and-four, implication, not-false, on_both}
use Rattle.basics.proofs.Below.{lt-or-ge, at-or-below, every-at, every-all, some_at, some-found, sum-cut, length-list_of, get_or-list_of}
use Rattle.basics.proofs.Stores.{past_end}
use Rattle.masks.proofs.Masks.{is-set_of, set_of-below}
use Rattle.order.proofs.Orders as orders

-- ---- the search

-- the test is asked only where another has passed
only_if : Bool → (ℕ → Bool) → Bool
only_if true f = f 0
only_if false f = true

only-if : (b : Bool) (f : ℕ → Bool) → only_if b f ≡ true → b ≡ true → f 0 ≡ true
unfolding only_if
only-if true f e t = e
only-if false f e t = absurd (not-both t refl)

-- of the classes below n, those of the one set are in the other
inside : ℕ → ℕ → ℕ → Bool
inside n part m = every n (λ j. not (member part j) || member m j)

-- row a of class i and row b of class k agree: the two do not flow to each other, and where one flows to the other its row has all that the other's has
agree : ℕ → ℕ → ℕ → ℕ → ℕ → Bool
agree n i k a b = not (member a k && member b i) && (not (member a k) || inside n b a) && (not (member b i) || inside n a b)

-- a row may come after others: it has its own class, and agrees with each
follows : ℕ → List ℕ → ℕ → Bool
follows n rows row = member row (length rows) && every (length rows) (λ i. agree n i (length rows) (get_or rows i 0) row)

-- some class flows to all
lowest_in : ℕ → List ℕ → Bool
lowest_in n rows = some n (λ i. every n (λ j. member (get_or rows i 0) j))

-- the rows stand at some place
is_listed : ℕ → List ℕ → Bool
is_listed n rows = some (count_of n) (λ place. every n (λ i. eqb (row_at n place i) (get_or rows i 0)))

-- whatever rows come after these, so many, they are listed, where each agrees with those before it and there is a least class
searched : ℕ → ℕ → List ℕ → Bool
searched n zero rows = only_if (lowest_in n rows) (λ u. is_listed n rows)
searched n (suc left) rows = every (2 ^ n) (λ row. only_if (follows n rows row) (λ u. searched n left (rows ++ row ∷ [])))

-- the checker makes the search
all-searched : every 5 (λ n. searched n n []) ≡ true
unfolding every some searched only_if inside agree follows lowest_in is_listed member row_at digit_of first_of count_of small_orders
all-searched = refl

-- ---- the rows of a legal order agree

module _ (n : ℕ) (small : n ≤ 4) (rows : List ℕ) (order : LegalOrder n rows) where
  class : (i : ℕ) → i < n → is_class_in n i ≡ true
  class i l = orders.below-class n i l

  -- no row has a bit at n or above
  over : (i j : ℕ) → i < n → n ≤ j → member (get_or rows i 0) j ≡ false
  unfolding flows_in
  over i j l h = false-unless (member (get_or rows i 0) j) (λ t. lt_irrefl n (omega (arith, orders.class-below n j (order.no_other_bit i j (class i l) t), h)))

  row_below : (i : ℕ) → i < n → get_or rows i 0 < 2 ^ n
  unfolding set_of
  row_below i l =
      let row = get_or rows i 0 in
      let whole : row ≡ set_of 16 (member row) = is-set_of (member row) row (order.sixteen_bits i) (λ j b. refl) in
      let cut : set_of 16 (member row) ≡ set_of n (member row) = sum-cut (λ j. cond (member row j) (2 ^ j) 0) n 16 (omega arith) (λ j past. rw (over i j l past)) in
      subst (λ (m : ℕ). m < 2 ^ n) (sym (whole ∙ cut)) (set_of-below (member row) n)

  -- what flows to a class flows to all that it flows to
  rows_inside : (i k : ℕ) → i < n → k < n → member (get_or rows i 0) k ≡ true → inside n (get_or rows k 0) (get_or rows i 0) ≡ true
  unfolding inside flows_in
  rows_inside i k li lk t =
      every-all (λ j. not (member (get_or rows k 0) j) || member (get_or rows i 0) j) n
      (λ j lj. implication (member (get_or rows k 0) j) (member (get_or rows i 0) j) (λ on. order.transitive i k j (class i li) (class k lk) (class j lj) t on))

  rows_agree : (i k : ℕ) → i < k → k < n → agree n i k (get_or rows i 0) (get_or rows k 0) ≡ true
  unfolding agree flows_in
  rows_agree i k less lk =
      let a = get_or rows i 0 in
      let b = get_or rows k 0 in
      let li : i < n = omega arith in
      let apart : (member a k && member b i) ≡ false
      = false-unless (member a k && member b i)
      (λ both. lt_irrefl k (omega (arith, less, order.antisymmetric i k (class i li) (class k lk) (and_left (member a k) (member b i) both) (and_right (member a k) (member b i) both)))) in
      and_both (and_both (not-false (member a k && member b i) apart) (implication (member a k) (inside n b a) (rows_inside i k li lk)))
      (implication (member b i) (inside n a b) (rows_inside k i lk li))

  has-lowest : lowest_in n rows ≡ true
  unfolding lowest_in flows_in
  has-lowest =
      let least = order.lowest in
      some_at (λ i. every n (λ j. member (get_or rows i 0) j)) n least.0 (orders.class-below n least.0 least.1)
      (every-all (λ j. member (get_or rows least.0 0) j) n (λ j l. least.2 j (class j l)))

-- ---- the search comes to every legal order

-- a part of the rows, and the row after it
module _ (n : ℕ) (small : n ≤ 4) (rows : List ℕ) (row : ℕ) (rest : List ℕ) (order : LegalOrder n (rows ++ row ∷ rest)) where
  inside-n : length rows < n
  inside-n = omega (arith, order.so_many, length-append rows (row ∷ rest))

  row_is : get_or (rows ++ row ∷ rest) (length rows) 0 ≡ row
  row_is = get_or-append_seam rows row rest 0

  row_small : row < 2 ^ n
  row_small = subst (λ (m : ℕ). m < 2 ^ n) row_is (row_below n small (rows ++ row ∷ rest) order (length rows) inside-n)

  row-follows : follows n rows row ≡ true
  unfolding follows flows_in
  row-follows =
      and_both
      (subst (λ (m : ℕ). member m (length rows) ≡ true) row_is (order.reflexive (length rows) (orders.below-class n (length rows) inside-n)))
      (every-all (λ i. agree n i (length rows) (get_or rows i 0) row) (length rows)
      (λ i l.
      sym (ap₂ (λ (a b : ℕ). agree n i (length rows) a b) (get_or-append rows (row ∷ rest) 0 i l) row_is)
      ∙ rows_agree n small (rows ++ row ∷ rest) order i (length rows) l inside-n))

comes-to : (n : ℕ) → n ≤ 4 → (left : ℕ) (rows rest : List ℕ) → length rest ≡ left → searched n left rows ≡ true → LegalOrder n (rows ++ rest) → is_listed n (rows ++ rest) ≡ true
unfolding searched
comes-to n small zero rows [] e found order =
    subst (λ (l : List ℕ). is_listed n l ≡ true) (sym (append-nil rows))
    (only-if (lowest_in n rows) (λ u. is_listed n rows) found
    (subst (λ (l : List ℕ). lowest_in n l ≡ true) (append-nil rows) (has-lowest n small (rows ++ []) order)))
comes-to n small zero rows (row ∷ rest) e found order = absurd (omega (arith, e))
comes-to n small (suc left) rows [] e found order = absurd (omega (arith, e))
comes-to n small (suc left) rows (row ∷ rest) e found order =
    let here = every-at (λ r. only_if (follows n rows r) (λ u. searched n left (rows ++ r ∷ []))) (2 ^ n) found row (row_small n small rows row rest order) in
    let on = only-if (follows n rows row) (λ u. searched n left (rows ++ row ∷ [])) here (row-follows n small rows row rest order) in
    subst (λ (l : List ℕ). is_listed n l ≡ true) (append_assoc rows (row ∷ []) rest)
    (comes-to n small left (rows ++ row ∷ []) rest (omega (arith, e)) on (subst (LegalOrder n) (sym (append_assoc rows (row ∷ []) rest)) order))

is-there : (n : ℕ) → n ≤ 4 → (rows : List ℕ) → LegalOrder n rows → (place : ℕ) × (place < count_of n) × (rows_at n place ≡ rows)
unfolding is_listed rows_at
is-there n small rows order =
    let listed = comes-to n small n [] rows order.so_many (every-at (λ m. searched m m []) 5 all-searched n (omega arith)) order in
    let w = some-found (λ place. every n (λ i. eqb (row_at n place i) (get_or rows i 0))) (count_of n) listed in
    let long = length-list_of (row_at n w.0) n in (
      w.0,
      w.1,
      ext_get_or 0 (list_of n (row_at n w.0)) rows (long ∙ sym order.so_many)
          (λ i b.
          let l : i < n = omega (arith, long) in
          get_or-list_of (row_at n w.0) n i l ∙ eqb-true (row_at n w.0 i) (get_or rows i 0) (every-at (λ j. eqb (row_at n w.0 j) (get_or rows j 0)) n w.2 i l)),
    )

-- ---- each listed order is legal

-- the sixteen rows of a policy, in which a number that is no class has none
unfoldable pub sixteen : ℕ → ℕ → List ℕ
sixteen n place = list_of 16 (λ i. cond (ltb i n) (row_at n place i) 0)

-- 3 to 6 of "What is turned down" pass
passes : ℕ → List ℕ → Bool
passes n rows = rows_fit n rows && antisymmetric rows && transitive rows && has_least n rows

-- the checker tests each
all_pass : every 5 (λ n. every (count_of n) (λ place. passes n (sixteen n place))) ≡ true
unfolding every some sum list_of sixteen passes member includes below_mask is_class_in flows_in strictly_in row_fits rows_fit antisymmetric_at antisymmetric transitive_at transitive least_at has_least row_at digit_of first_of count_of small_orders
all_pass = refl

module _ (n : ℕ) (small : n ≤ 4) (place : ℕ) where
  pub row_bits : (i : ℕ) → get_or (sixteen n place) i 0 < 2 ^ 16
  unfolding sixteen row_at digit_of
  row_bits i =
      ⊎_elim
      (λ l.
      rw (get_or-list_of (λ j. cond (ltb j n) (row_at n place j) 0) 16 i l)
      (on_both (λ m. m < 2 ^ 16) (ltb i n) (row_at n place i) 0 (omega arith) (lit< tt)))
      (λ h. rw (sym (past_end (sixteen n place) i (length-list_of (λ j. cond (ltb j n) (row_at n place j) 0) 16) h)) (lit< tt))
      (lt-or-ge i 16)

  -- they are the n rows, and then 0
  same_row : (i : ℕ) → get_or (sixteen n place) i 0 ≡ get_or (rows_at n place) i 0
  unfolding sixteen rows_at
  same_row i =
      ⊎_elim
      (λ l.
      let inside : i < 16 = omega arith in
      get_or-list_of (λ j. cond (ltb j n) (row_at n place j) 0) 16 i inside ∙ rw (lt-ltb i n l) (sym (get_or-list_of (row_at n place) n i l)))
      (λ h.
      ⊎_elim
      (λ inside. get_or-list_of (λ j. cond (ltb j n) (row_at n place j) 0) 16 i inside ∙ rw (le-ltb i n h) (past_end (list_of n (row_at n place)) i (length-list_of (row_at n place) n) h))
      (λ past. sym (past_end (sixteen n place) i (length-list_of (λ j. cond (ltb j n) (row_at n place j) 0) 16) past) ∙ past_end (list_of n (row_at n place)) i (length-list_of (row_at n place) n) h)
      (lt-or-ge i 16))
      (lt-or-ge i n)

  same-flows : (i j : ℕ) → flows_in (sixteen n place) i j ≡ flows_in (rows_at n place) i j
  unfolding flows_in
  same-flows i j = ap (λ (m : ℕ). member m j) (same_row i)

  void : (i : ℕ) → is_class_in n i ≡ false → get_or (sixteen n place) i 0 ≡ 0
  unfolding rows_at
  void i e = same_row i ∙ sym (past_end (list_of n (row_at n place)) i (length-list_of (row_at n place) n) (orders.past-classes n i e))

  stored : orders.Stored n (sixteen n place)
  stored = record { class_small = orders.classes-small n (omega arith); small = row_bits; void = void }

  pub passed : place < count_of n → (rows_fit n (sixteen n place) ≡ true) × (antisymmetric (sixteen n place) ≡ true) × (transitive (sixteen n place) ≡ true) × (has_least n (sixteen n place) ≡ true)
  unfolding passes
  passed below =
      and-four (rows_fit n (sixteen n place)) (antisymmetric (sixteen n place)) (transitive (sixteen n place)) (has_least n (sixteen n place))
      (every-at (λ k. passes n (sixteen n k)) (count_of n) (every-at (λ m. every (count_of m) (λ k. passes m (sixteen m k))) 5 all_pass n (omega arith)) place below)

  is-legal : place < count_of n → LegalOrder n (rows_at n place)
  unfolding rows_at
  is-legal below =
      let tests = passed below in
      let fit = orders.rows-said n (sixteen n place) stored tests.0 in
      let least = orders.has-least-said n (sixteen n place) stored tests.3 in
      record {
        so_many = length-list_of (row_at n place) n;
        sixteen_bits = λ i. subst (λ (m : ℕ). m < 2 ^ 16) (same_row i) (row_bits i);
        no_other_bit = λ i j l t. fit.to_class i j l (same-flows i j ∙ t);
        reflexive = λ i l. sym (same-flows i i) ∙ fit.own i l;
        antisymmetric = λ i j li lj there back. orders.antisymmetric-said n (sixteen n place) stored tests.1 i j li lj (same-flows i j ∙ there) (same-flows j i ∙ back);
        transitive =
            λ i j k li lj lk first second.
            sym (same-flows i k) ∙ orders.transitive-said n (sixteen n place) stored tests.2 i j k (same-flows i j ∙ first) (same-flows j k ∙ second);
        lowest = (least.0, least.1, λ j l. sym (same-flows least.0 j) ∙ least.2 j l);
      }

-- ---- by rising value

-- the checker compares each with the next
all-rise : every 5 (λ n. every (count_of n - 1) (λ place. ltb (value (rows_at n place)) (value (rows_at n (suc place))))) ≡ true
unfolding every list_of value rows_at row_at digit_of first_of count_of small_orders
all-rise = refl

-- so each is less than any that comes later
rises : (g : ℕ → ℕ) (n : ℕ) → every (n - 1) (λ k. ltb (g k) (g (suc k))) ≡ true → (i j : ℕ) → i < j → j < n → g i < g j
rises g n e i zero less below = absurd (not-suc-le-zero less)
rises g n e i (suc j) less below =
    let next : g j < g (suc j) = ltb-true (g j) (g (suc j)) (every-at (λ k. ltb (g k) (g (suc k))) (n - 1) e j (omega arith)) in
    ⊎_elim (λ same. subst (λ (k : ℕ). g k < g (suc j)) (sym same) next)
    (λ before. let first : g i < g j = rises g n e i j before (omega arith) in omega arith)
    (at-or-below less)

module _ (n : ℕ) (small : n ≤ 4) where
  values-rise : (place later : ℕ) → place < later → later < count_of n → value (rows_at n place) < value (rows_at n later)
  values-rise place later less below =
      rises (λ k. value (rows_at n k)) (count_of n) (every-at (λ m. every (count_of m - 1) (λ k. ltb (value (rows_at m k)) (value (rows_at m (suc k))))) 5 all-rise n (omega arith)) place later less below

  -- and none stands at two places
  stands-once : (place other : ℕ) → place < count_of n → other < count_of n → rows_at n place ≡ rows_at n other → place ≡ other
  stands-once place other a b same =
      ⊎_elim (λ less. absurd (lt_irrefl (value (rows_at n place)) (omega (arith, values-rise place other less b, ap value same))))
      (λ h.
      ⊎_elim (λ e. sym e) (λ less. absurd (lt_irrefl (value (rows_at n place)) (omega (arith, values-rise other place less a, ap value same)))) (eq-or-lt_of_le h))
      (lt-or-ge place other)

pub every-order : (n : ℕ) → 1 ≤ n → n ≤ 4 → EveryOrder n
every-order n some small = record { legal = is-legal n small; there = is-there n small; once = stands-once n small; rising = values-rise n small }

pub counts : Counts
unfolding count_of
counts = record { one = refl; two = refl; three = refl; four = refl }
