-- Laws of the words of `specs/Below.antt`: what "every" and "some" say of each number below the bound, that the first is the first, and what a list and a
-- sum hold. Each is an induction on the bound; the forms at `n + 1` are those that a counting loop asks.
-- Assumes nothing.
use mathlib.Core.Path.{◌≡◌, refl, sym, ap, ap₂, ◌∙◌, subst}
use mathlib.Core.Logic.{◌⊎◌, inl, inr, ⊎_elim}
use mathlib.Core.Bool.{Bool, true, false, cond, ◌&&◌, ◌||◌, false≢true}
use mathlib.Core.List.{◌∷◌}
use Prim.Native.Nat.{ℕ, zero, suc, ◌+◌, ◌^◌, ◌-◌, ◌≤◌, ◌<◌, zero-le, suc-le-suc}
use native.Mathlib.Nat.{lt_irrefl, le_of_suc-le-suc, not-suc-le-zero, eq-or-lt_of_le, le_refl, add-zero, add-le-add, add-lt-add_of_le_of_lt, add-lt-add_of_lt_of_le}
use native.Mathlib.Numerals.{add-one}
use native.Mathlib.Omega.{arith}
use borrow.Author.Tests.{lt-ltb, le-ltb}
use lib.Dec.{ltb}
use lib.ListN.{length, get_or}
use Rattle.basics.specs.Below.{every, some, first, sum, count, set_of, list_of}
use Rattle.basics.proofs.Truth.{either, false-unless, not-both, and_left, and_right, and_both, or_left, or_right, or_cases}

-- of two numbers, the first is below the second or not
pub lt-or-ge : (a b : ℕ) → (a < b) ⊎ (b ≤ a)
lt-or-ge a zero = inr zero-le
lt-or-ge zero (suc b) = inl (suc-le-suc zero-le)
lt-or-ge (suc a) (suc b) = ⊎_elim (λ p. inl (suc-le-suc p)) (λ q. inr (suc-le-suc q)) (lt-or-ge a b)

-- a number below `suc n` is n or below n
pub at-or-below : {i n : ℕ} → i < suc n → (i ≡ n) ⊎ (i < n)
at-or-below h = eq-or-lt_of_le (le_of_suc-le-suc h)

module _ (f : ℕ → Bool) where
  -- ---- every

  pub every-at : (n : ℕ) → every n f ≡ true → (i : ℕ) → i < n → f i ≡ true
  unfolding every
  every-at zero e i h = absurd (not-suc-le-zero h)
  every-at (suc n) e i h =
      ⊎_elim (λ q. subst (λ (k : ℕ). f k ≡ true) (sym q) (and_right (every n f) (f n) e)) (λ l. every-at n (and_left (every n f) (f n) e) i l) (at-or-below h)

  pub every-all : (n : ℕ) → ((i : ℕ) → i < n → f i ≡ true) → every n f ≡ true
  unfolding every
  every-all zero h = refl
  every-all (suc n) h = and_both (every-all n (λ i l. h i (omega arith))) (h n (le_refl (suc n)))

  pub every-fails : (n i : ℕ) → i < n → f i ≡ false → every n f ≡ false
  every-fails n i h e = false-unless (every n f) (λ t. not-both (every-at n t i h) e)

  pub every-none : every 0 f ≡ true
  unfolding every
  every-none = refl

  pub every_more : (n : ℕ) → every n f ≡ true → f n ≡ true → every (n + 1) f ≡ true
  unfolding every
  every_more n p q = rw add-one (and_both p q)

  -- ---- some

  pub some_at : (n i : ℕ) → i < n → f i ≡ true → some n f ≡ true
  unfolding some
  some_at zero i h e = absurd (not-suc-le-zero h)
  some_at (suc n) i h e =
      ⊎_elim (λ q. or_right (some n f) (f n) (subst (λ (k : ℕ). f k ≡ true) q e)) (λ l. or_left (some n f) (f n) (some_at n i l e)) (at-or-below h)

  pub some-found : (n : ℕ) → some n f ≡ true → (i : ℕ) × (i < n) × (f i ≡ true)
  unfolding some
  some-found zero e = absurd (false≢true e)
  some-found (suc n) e =
      ⊎_elim (λ p. let w = some-found n p in (w.0, omega (arith, w.1), w.2)) (λ q. (n, le_refl (suc n), q)) (or_cases (some n f) (f n) e)

  pub none-at : (n : ℕ) → some n f ≡ false → (i : ℕ) → i < n → f i ≡ false
  none-at n e i h = false-unless (f i) (λ t. not-both (some_at n i h t) e)

  pub some-none : some 0 f ≡ false
  unfolding some
  some-none = refl

  pub some_more : (n : ℕ) → some n f ≡ false → f n ≡ false → some (n + 1) f ≡ false
  unfolding some
  some_more n p q = rw (add-one, p) q

  pub some-step : (n : ℕ) → some (n + 1) f ≡ (some n f || f n)
  unfolding some
  some-step n = rw (add-one n) refl

  -- ---- the first

  pub first-is : (n i : ℕ) → i < n → some i f ≡ false → f i ≡ true → first n f ≡ i
  unfolding some first
  first-is zero i h p q = absurd (not-suc-le-zero h)
  first-is (suc n) i h p q =
      ⊎_elim
      (λ e.
      let none : some n f ≡ false = subst (λ (k : ℕ). some k f ≡ false) e p in
      let here : f n ≡ true = subst (λ (k : ℕ). f k ≡ true) e q in
      rw (none, here) (sym e))
      (λ l. rw (some_at n i l q) (first-is n i l p q))
      (at-or-below h)

  pub first-none : (n : ℕ) → some n f ≡ false → first n f ≡ n
  unfolding some first
  first-none zero e = refl
  first-none (suc n) e =
      let p : some n f ≡ false = false-unless (some n f) (λ t. not-both (or_left (some n f) (f n) t) e) in
      let q : f n ≡ false = false-unless (f n) (λ t. not-both (or_right (some n f) (f n) t) e) in
      rw (p, q)

  -- ---- how many

  pub count_none : count 0 f ≡ 0
  unfolding count sum
  count_none = refl

  pub count_yes : (n : ℕ) → f n ≡ true → count (n + 1) f ≡ count n f + 1
  unfolding count sum
  count_yes n t = rw (add-one n, t) refl

  pub count_no : (n : ℕ) → f n ≡ false → count (n + 1) f ≡ count n f
  unfolding count sum
  count_no n t = rw (add-one n, t) (omega arith)

  pub count-le : (n : ℕ) → count n f ≤ n
  unfolding count sum
  count-le zero = zero-le
  count-le (suc n) = ⊎_elim (λ t. rw t (omega (arith, count-le n))) (λ t. rw t (omega (arith, count-le n))) (either (f n))

  -- a number that does not pass leaves fewer, and one that passes leaves some
  pub count-few : (n i : ℕ) → i < n → f i ≡ false → count n f < n
  unfolding count sum
  count-few zero i h e = absurd (not-suc-le-zero h)
  count-few (suc n) i h e =
      ⊎_elim
      (λ q. let here : f n ≡ false = subst (λ (k : ℕ). f k ≡ false) q e in rw here (omega (arith, count-le n)))
      (λ (l : i < n). ⊎_elim (λ t. rw t (omega (arith, count-few n i l e))) (λ t. rw t (omega (arith, count-few n i l e))) (either (f n)))
      (at-or-below h)

  pub count-all-fail : (n : ℕ) → ((i : ℕ) → i < n → f i ≡ false) → count n f ≡ 0
  unfolding count sum
  count-all-fail zero h = refl
  count-all-fail (suc n) h = rw (h n (le_refl (suc n))) (omega (arith, count-all-fail n (λ i l. h i (omega arith))))

  pub count-all-pass : (n : ℕ) → ((i : ℕ) → i < n → f i ≡ true) → count n f ≡ n
  unfolding count sum
  count-all-pass zero h = refl
  count-all-pass (suc n) h = rw (h n (le_refl (suc n))) (omega (arith, count-all-pass n (λ i l. h i (omega arith))))

-- where it passes somewhere, the first is below the bound, passes, and nothing before it does
pub record First (f : ℕ → Bool) (n i : ℕ) : Type 0 where
  pub below : i < n
  pub passes : f i ≡ true
  pub fails_before : (k : ℕ) → k < i → f k ≡ false

pub first_found : (f : ℕ → Bool) (n : ℕ) → some n f ≡ true → First f n (first n f)
unfolding some first
first_found f zero e = absurd (false≢true e)
first_found f (suc n) e = ⊎_elim (λ t. earlier t (first_found f n t)) here (either (some n f))
  where
    earlier : some n f ≡ true → First f n (first n f) → First f (suc n) (first (suc n) f)
    earlier t w =
        let at : first (suc n) f ≡ first n f = rw t refl in
        subst (λ (k : ℕ). First f (suc n) k) (sym at) (record { below = omega (arith, w.below); passes = w.passes; fails_before = w.fails_before })

    here : some n f ≡ false → First f (suc n) (first (suc n) f)
    here t =
        let p : f n ≡ true = ⊎_elim (λ q. absurd (not-both q t)) (λ q. q) (or_cases (some n f) (f n) e) in
        let at : first (suc n) f ≡ n = rw (t, p) refl in
        subst (λ (k : ℕ). First f (suc n) k) (sym at) (record { below = le_refl (suc n); passes = p; fails_before = none-at f n t })

-- it passes somewhere exactly if the first is below the bound
pub first_some : (f : ℕ → Bool) (n : ℕ) → ltb (first n f) n ≡ some n f
first_some f n =
    ⊎_elim
    (λ t. lt-ltb (first n f) n (first_found f n t).below ∙ sym t)
    (λ t. le-ltb (first n f) n (omega (arith, first-none f n t)) ∙ sym t)
    (either (some n f))

-- ---- tests that agree below the bound

module _ (f g : ℕ → Bool) where
  pub every-same : (n : ℕ) → ((i : ℕ) → i < n → f i ≡ g i) → every n f ≡ every n g
  unfolding every
  every-same zero h = refl
  every-same (suc n) h = ap₂ ◌&&◌ (every-same n (λ i l. h i (omega arith))) (h n (le_refl (suc n)))

  pub some_same : (n : ℕ) → ((i : ℕ) → i < n → f i ≡ g i) → some n f ≡ some n g
  unfolding some
  some_same zero h = refl
  some_same (suc n) h = ap₂ ◌||◌ (some_same n (λ i l. h i (omega arith))) (h n (le_refl (suc n)))

  pub first-same : (n : ℕ) → ((i : ℕ) → i < n → f i ≡ g i) → first n f ≡ first n g
  unfolding first
  first-same zero h = refl
  first-same (suc n) h =
      let below : (i : ℕ) → i < n → f i ≡ g i = λ i l. h i (omega arith) in
      ap₂ (λ (b : Bool) (k : ℕ). cond b k (cond (f n) n (suc n))) (some_same n below) (first-same n below)
      ∙ ap (λ (b : Bool). cond (some n g) (first n g) (cond b n (suc n))) (h n (le_refl (suc n)))

pub sum_same : (f g : ℕ → ℕ) (n : ℕ) → ((i : ℕ) → i < n → f i ≡ g i) → sum n f ≡ sum n g
unfolding sum
sum_same f g zero h = refl
sum_same f g (suc n) h = ap₂ ◌+◌ (sum_same f g n (λ i l. h i (omega arith))) (h n (le_refl (suc n)))

pub count_same : (f g : ℕ → Bool) (n : ℕ) → ((i : ℕ) → i < n → f i ≡ g i) → count n f ≡ count n g
unfolding count
count_same f g n h = sum_same (λ i. cond (f i) 1 0) (λ i. cond (g i) 1 0) n (λ i l. ap (λ (b : Bool). cond b 1 0) (h i l))

pub set_of-same : (f g : ℕ → Bool) (n : ℕ) → ((i : ℕ) → i < n → f i ≡ g i) → set_of n f ≡ set_of n g
unfolding set_of
set_of-same f g n h = sum_same (λ i. cond (f i) (2 ^ i) 0) (λ i. cond (g i) (2 ^ i) 0) n (λ i l. ap (λ (b : Bool). cond b (2 ^ i) 0) (h i l))

-- a test that passes only where another does passes no more often, and less often if there is a number where only the other passes
one-under : (a b : Bool) → ((a ≡ true) → b ≡ true) → cond a 1 0 ≤ cond b 1 0
one-under true b h = rw (h refl) (le_refl 1)
one-under false b h = zero-le

one_less : (a b : Bool) → a ≡ false → b ≡ true → cond a 1 0 < cond b 1 0
one_less a b p q = rw (p, q) (le_refl 1)

module _ (f g : ℕ → Bool) where
  pub count_under : (n : ℕ) → ((i : ℕ) → i < n → f i ≡ true → g i ≡ true) → count n f ≤ count n g
  unfolding count sum
  count_under zero h = zero-le
  count_under (suc n) h = add-le-add (count_under n (λ i l. h i (omega arith))) (one-under (f n) (g n) (h n (le_refl (suc n))))

  pub count_less : (n : ℕ) → ((i : ℕ) → i < n → f i ≡ true → g i ≡ true) → (k : ℕ) → k < n → f k ≡ false → g k ≡ true → count n f < count n g
  unfolding count sum
  count_less zero h k l fails passes = absurd (not-suc-le-zero l)
  count_less (suc n) h k l fails passes =
      ⊎_elim
      (λ q.
      let less = one_less (f n) (g n) (subst (λ (m : ℕ). f m ≡ false) q fails) (subst (λ (m : ℕ). g m ≡ true) q passes) in
      add-lt-add_of_le_of_lt (count_under n (λ i b. h i (omega arith))) less)
      (λ b. add-lt-add_of_lt_of_le (count_less n (λ i m. h i (omega arith)) k b fails passes) (one-under (f n) (g n) (h n (le_refl (suc n)))))
      (at-or-below l)

-- a test that passes where another does, and at one number more, passes once more
pub count-added : (f g : ℕ → Bool) (n k : ℕ) → k < n → f k ≡ false → g k ≡ true → ((i : ℕ) → ((i ≡ k) → ⊥) → g i ≡ f i) → count n g ≡ count n f + 1
unfolding count sum
count-added f g zero k l fails passes same = absurd (not-suc-le-zero l)
count-added f g (suc n) k l fails passes same =
    ⊎_elim
    (λ q.
    let here : g n ≡ true = subst (λ (m : ℕ). g m ≡ true) q passes in
    let gone : f n ≡ false = subst (λ (m : ℕ). f m ≡ false) q fails in
    let below = count_same g f n (λ i b. same i (λ e. not-suc-le-zero {n = 0} (omega (arith, e, q, b)))) in
    rw (here, gone) (omega (arith, below)))
    (λ b.
    let other : g n ≡ f n = same n (λ e. not-suc-le-zero {n = 0} (omega (arith, e, b))) in
    rw other (omega (arith, count-added f g n k b fails passes same)))
    (at-or-below l)

-- ---- sums

-- where two tests never pass together, they pass at no more numbers than there are
pub count-apart : (f g : ℕ → Bool) (n : ℕ) → ((i : ℕ) → i < n → f i ≡ true → g i ≡ true → ⊥) → count n f + count n g ≤ n
unfolding count sum
count-apart f g zero h = zero-le
count-apart f g (suc n) h =
    let rest = count-apart f g n (λ i l. h i (omega arith)) in
    ⊎_elim
    (λ t. let other : g n ≡ false = false-unless (g n) (h n (le_refl (suc n)) t) in rw (t, other) (omega (arith, rest)))
    (λ (t : f n ≡ false). ⊎_elim (λ (u : g n ≡ true). rw (t, u) (omega (arith, rest))) (λ (u : g n ≡ false). rw (t, u) (omega (arith, rest))) (either (g n)))
    (either (f n))

-- where one of two tests passes at each number, they pass at no fewer numbers than there are
pub count-either : (f g : ℕ → Bool) (n : ℕ) → ((i : ℕ) → i < n → (f i ≡ true) ⊎ (g i ≡ true)) → n ≤ count n f + count n g
unfolding count sum
count-either f g zero h = zero-le
count-either f g (suc n) h =
    let rest = count-either f g n (λ i l. h i (omega arith)) in
    ⊎_elim (λ t. rw t (omega (arith, rest))) (λ t. rw t (omega (arith, rest))) (h n (le_refl (suc n)))

pub sum-under : (f g : ℕ → ℕ) (n : ℕ) → ((i : ℕ) → i < n → f i ≤ g i) → sum n f ≤ sum n g
unfolding sum
sum-under f g zero h = zero-le
sum-under f g (suc n) h = omega (arith, sum-under f g n (λ i l. h i (omega arith)), h n (le_refl (suc n)))

-- a sum that leaves one number out
pub sum-without : (f g : ℕ → ℕ) (n : ℕ) → ((i : ℕ) → i < n → f i ≤ g i) → (k : ℕ) → k < n → f k ≡ 0 → sum n f + g k ≤ sum n g
unfolding sum
sum-without f g zero h k l e = absurd (not-suc-le-zero l)
sum-without f g (suc n) h k l e =
    ⊎_elim
    (λ q.
    let none : f n ≡ 0 = subst (λ (m : ℕ). f m ≡ 0) q e in
    subst (λ (m : ℕ). sum n f + f n + g m ≤ sum n g + g n) (sym q) (omega (arith, none, sum-under f g n (λ i b. h i (omega arith)))))
    (λ b. omega (arith, sum-without f g n (λ i m. h i (omega arith)) k b e, h n (le_refl (suc n))))
    (at-or-below l)

module _ (g : ℕ → ℕ) where
  pub sum-none : sum 0 g ≡ 0
  unfolding sum
  sum-none = refl

  pub sum_more : (n : ℕ) → sum (n + 1) g ≡ sum n g + g n
  unfolding sum
  sum_more n = rw add-one refl

-- a sum in two parts: of the first m numbers, and of those after them
pub sum-split : (g : ℕ → ℕ) (m n : ℕ) → sum (m + n) g ≡ sum m g + sum n (λ i. g (m + i))
unfolding sum
sum-split g m zero = ap (λ (k : ℕ). sum k g) (add-zero m) ∙ sym (add-zero (sum m g))
sum-split g m (suc n) =
    let step : m + suc n ≡ m + n + 1 = omega arith in
    ap (λ (k : ℕ). sum k g) step ∙ omega (arith, sum_more g (m + n), sum-split g m n)

pub count-split : (f : ℕ → Bool) (m n : ℕ) → count (m + n) f ≡ count m f + count n (λ i. f (m + i))
unfolding count
count-split f m n = sum-split (λ i. cond (f i) 1 0) m n

-- more numbers, no smaller sum
pub sum_mono : (g : ℕ → ℕ) (m n : ℕ) → m ≤ n → sum m g ≤ sum n g
sum_mono g m n l =
    let rest : m + (n - m) ≡ n = omega arith in
    subst (λ (k : ℕ). sum m g ≤ sum k g) rest (omega (arith, sum-split g m (n - m)))

pub count-mono : (f : ℕ → Bool) (m n : ℕ) → m ≤ n → count m f ≤ count n f
unfolding count
count-mono f = sum_mono (λ i. cond (f i) 1 0)

-- one number
pub count-one : (f : ℕ → Bool) → count 1 f ≡ cond (f 0) 1 0
unfolding count
count-one f = let g : ℕ → ℕ = λ i. cond (f i) 1 0 in omega (arith, sum_more g 0, sum-none g)

-- a test that is the same at every number
pub count-constant : (n : ℕ) (b : Bool) → count n (λ i. b) ≡ cond b n 0
count-constant n true = count-all-pass (λ i. true) n (λ i l. refl)
count-constant n false = count-all-fail (λ i. false) n (λ i l. refl)

-- a sum that leaves out exactly one number
pub sum-except : (f g : ℕ → ℕ) (n k : ℕ) → k < n → f k ≡ 0 → ((i : ℕ) → i < n → ((i ≡ k) → ⊥) → f i ≡ g i) → sum n f + g k ≡ sum n g
unfolding sum
sum-except f g zero k l e h = absurd (not-suc-le-zero l)
sum-except f g (suc n) k l e h =
    ⊎_elim
    (λ q.
    let none : f n ≡ 0 = subst (λ (m : ℕ). f m ≡ 0) q e in
    let before : sum n f ≡ sum n g = sum_same f g n (λ i b. h i (omega arith) (λ p. lt_irrefl i (subst (λ (m : ℕ). i < m) (sym (p ∙ q)) b))) in
    subst (λ (m : ℕ). sum n f + f n + g m ≡ sum n g + g n) (sym q) (omega arith))
    (λ b.
    let last : f n ≡ g n = h n (le_refl (suc n)) (λ p. lt_irrefl k (subst (λ (m : ℕ). k < m) p b)) in
    omega (arith, sum-except f g n k b e (λ i m. h i (omega arith))))
    (at-or-below l)

-- a sum to which one number alone adds
sum_zeros : (n : ℕ) → sum n (λ i. 0) ≡ 0
unfolding sum
sum_zeros zero = refl
sum_zeros (suc n) = omega (arith, sum_zeros n)

pub sum-single : (g : ℕ → ℕ) (n k : ℕ) → k < n → ((i : ℕ) → i < n → ((i ≡ k) → ⊥) → g i ≡ 0) → sum n g ≡ g k
sum-single g n k l h = omega (arith, sum_zeros n, sum-except (λ i. 0) g n k l refl (λ i b a. sym (h i b a)))

-- numbers from n on that add nothing
sum-cut-at : (g : ℕ → ℕ) (n k : ℕ) → ((i : ℕ) → n ≤ i → g i ≡ 0) → sum (n + k) g ≡ sum n g
sum-cut-at g n zero h = ap (λ (m : ℕ). sum m g) (add-zero n)
sum-cut-at g n (suc k) h =
    let step : n + suc k ≡ n + k + 1 = omega arith in
    ap (λ (m : ℕ). sum m g) step ∙ omega (arith, sum_more g (n + k), sum-cut-at g n k h, h (n + k) (omega arith))

pub sum-cut : (g : ℕ → ℕ) (n k : ℕ) → n ≤ k → ((i : ℕ) → n ≤ i → g i ≡ 0) → sum k g ≡ sum n g
sum-cut g n k l h =
    let rest : k ≡ n + (k - n) = omega arith in
    ap (λ (m : ℕ). sum m g) rest ∙ sum-cut-at g n (k - n) h

-- ---- lists

pub length-list_of : (g : ℕ → ℕ) (n : ℕ) → length (list_of n g) ≡ n
unfolding list_of
length-list_of g zero = refl
length-list_of g (suc n) = ap suc (length-list_of (λ i. g (suc i)) n)

pub get_or-list_of : (g : ℕ → ℕ) (n i : ℕ) → i < n → get_or (list_of n g) i 0 ≡ g i
unfolding list_of
get_or-list_of g zero i h = absurd (not-suc-le-zero h)
get_or-list_of g (suc n) zero h = refl
get_or-list_of g (suc n) (suc i) h = get_or-list_of (λ k. g (suc k)) n i (le_of_suc-le-suc h)

pub list_of-same : (f g : ℕ → ℕ) (n : ℕ) → ((i : ℕ) → i < n → f i ≡ g i) → list_of n f ≡ list_of n g
unfolding list_of
list_of-same f g zero h = refl
list_of-same f g (suc n) h = ap₂ ◌∷◌ (h zero (suc-le-suc zero-le)) (list_of-same (λ i. f (suc i)) (λ i. g (suc i)) n (λ i l. h (suc i) (suc-le-suc l)))
