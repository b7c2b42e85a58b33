-- What the library's `all`, `any` and `find` over the numbers below a bound or over a list, and `from_fn`, answer in the words of `specs/Below.antt`, where the closure that they are given
-- computes a test or a function of the number. So a function that is one such call has one answer: which test it is, what the call ensures, and that the closure computes it.
-- Assumes nothing.
use mathlib.Core.Path.{◌≡◌, refl, sym, subst, ◌∙◌}
use mathlib.Core.Logic.{⊎_elim}
use mathlib.Core.Bool.{Bool, true, false}
use mathlib.Core.List.{List}
use Prim.Native.Nat.{ℕ, zero, suc, ◌+◌, ◌-◌, ◌≤◌, ◌<◌, zero-le}
use native.Mathlib.Nat.{not-suc-le-zero, eq-or-lt_of_le}
use native.Mathlib.Omega.{arith}
use lib.ListN.{length, get_or}
use lib.Seq.{ext_get_or}
use denote.Ref.{Bor}
use denote.Param.Members.{Mut, Called}
use Rattle.std.specs.declared.ops.Range.{Range}
use Rattle.std.specs.declared.option.Option.{Option}
use Rattle.std.specs.declared.option.Option.TheVariants.{None, Some}
use Rattle.std.specs.Array.{IsFromFnResult, IsFromFnResultFrom}
use Rattle.std.specs.Bool.{MatchBool}
use Rattle.std.specs.Fn.{CalledAt}
use Rattle.std.specs.Iterator.{ChecksAll, ChecksAny, FindsItem}
use Rattle.std.specs.List.{AllWithin, HoldsAt, range_with_len}
use Rattle.std.specs.Option.{MatchOption, unwrap_or}
use Rattle.std.specs.Range.{range_steps}
use Rattle.std.proofs.lemmas.Iterator.{YieldsList, YieldsList-from_range, cases_from_all, cases_from_any, first_from_Range}
use Rattle.std.proofs.lemmas.List.FromFn.{length-range_with_len, get_or-range_with_len}
use Rattle.basics.specs.Below.{every, some, first, list_of}
use Rattle.basics.proofs.Truth.{false-unless, not-both}
use Rattle.basics.proofs.Below.{every-all, every-fails, some_at, some-found, first-is, first-none, length-list_of, get_or-list_of}

-- the numbers from 0 up to n, and the calls of `next` that give them
abbrev pub below : ℕ → Range ℕ
below n = record { start = 0; end = n }

abbrev pub steps : Range ℕ → Option ℕ → Range ℕ → Type 0
steps = range_steps (λ a b. b - a) (λ a b. b ≡ a + 1)

-- ---- every number, or some

-- a closure computes the test of each number that it is given, and stays as it is
abbrev pub Tests : {F : Type 0} → Mut F (ℕ × Unit {0}) Bool → F → (ℕ → Bool) → Type 0
Tests {F} g h f = (x : ℕ) (b : Bool) (q : F) → Called g h (x, tt) b q → (q ≡ h) × (b ≡ f x)

-- the same of one that is given a `&` to the number
abbrev pub TestsAt : {F : Type 0} → Mut F (Bor ℕ × Unit {0}) Bool → F → (ℕ → Bool) → Type 0
TestsAt {F} g h f = (x : ℕ) (b : Bool) (q : F) → CalledAt g h x b q → (q ≡ h) × (b ≡ f x)

module _ (f : ℕ → Bool) (n : ℕ) where
  at : (i : ℕ) → i < n → get_or (range_with_len 0 n) i 0 ≡ i
  at i l = omega (arith, get_or-range_with_len 0 n i 0 l)

  -- what is so of each of the numbers in the list of them, and of one
  each-number : (b : Bool) → AllWithin (λ x. b ≡ f x) (range_with_len 0 n) 0 (length (range_with_len 0 n)) → (i : ℕ) → i < n → f i ≡ b
  each-number b h i l = sym (subst (λ k. b ≡ f k) (at i l) (h i 0 zero-le (omega (arith, length-range_with_len 0 n))))

  one-number : (b : Bool) → (k : ℕ) × (k < length (range_with_len 0 n)) × HoldsAt (λ x. b ≡ f x) (range_with_len 0 n) k → (i : ℕ) × (i < n) × (f i ≡ b)
  one-number b h =
      let l : h.0 < n = omega (arith, h.1, length-range_with_len 0 n) in
      (h.0, l, sym (subst (λ k. b ≡ f k) (at h.0 l) (h.2 0)))

  abbrev AllCases : Bool → Type 0
  AllCases r = MatchBool r (AllWithin (λ x. true ≡ f x) (range_with_len 0 n) 0 (length (range_with_len 0 n))) ((k : ℕ) × (k < length (range_with_len 0 n)) × HoldsAt (λ x. false ≡ f x) (range_with_len 0 n) k)

  all-cases : (r : Bool) → AllCases r → r ≡ every n f
  all-cases true h = sym (every-all f n (each-number true h))
  all-cases false h = let w = one-number false h in sym (every-fails f n w.0 w.1 w.2)

  pub all_below : {F : Type 0} {g : Mut F (ℕ × Unit {0}) Bool} (r : Bool) (h : F) (u : Range ℕ) → ChecksAll steps g (below n) h r u → Tests g h f → r ≡ every n f
  all_below r h u ran tests =
      all-cases r (cases_from_all u h r (λ x. true ≡ f x) (λ x. false ≡ f x) ran (YieldsList-from_range 0 n n refl (omega arith)) (λ x q. tests x true q) (λ x q c. (tests x false q c).1))

  abbrev AnyCases : Bool → Type 0
  AnyCases r = MatchBool r ((k : ℕ) × (k < length (range_with_len 0 n)) × HoldsAt (λ x. true ≡ f x) (range_with_len 0 n) k) (AllWithin (λ x. false ≡ f x) (range_with_len 0 n) 0 (length (range_with_len 0 n)))

  any-cases : (r : Bool) → AnyCases r → r ≡ some n f
  any-cases true h = let w = one-number true h in sym (some_at f n w.0 w.1 w.2)
  any-cases false h =
      let fails = each-number false h in
      sym (false-unless (some n f) (λ t. let w = some-found f n t in not-both w.2 (fails w.0 w.1)))

  pub any_below : {F : Type 0} {g : Mut F (ℕ × Unit {0}) Bool} (r : Bool) (h : F) (u : Range ℕ) → ChecksAny steps g (below n) h r u → Tests g h f → r ≡ some n f
  any_below r h u ran tests =
      any-cases r (cases_from_any u h r (λ x. true ≡ f x) (λ x. false ≡ f x) ran (YieldsList-from_range 0 n n refl (omega arith)) (λ x q c. (tests x true q c).1) (λ x q. tests x false q))

-- ---- the first number

module _ (f : ℕ → Bool) (n : ℕ) where
  first-cases : (r : Option ℕ) → MatchOption r ((k : ℕ) → 0 ≤ k → k < n → false ≡ f k) (λ i. (0 ≤ i) × (i < n) × (true ≡ f i) × ((k : ℕ) → 0 ≤ k → k < i → false ≡ f k)) → unwrap_or r n ≡ first n f
  first-cases None h = sym (first-none f n (false-unless (some n f) (λ t. let w = some-found f n t in not-both w.2 (sym (h w.0 zero-le w.1)))))
  first-cases (Some i) h =
      let before : some i f ≡ false = false-unless (some i f) (λ t. let w = some-found f i t in not-both w.2 (sym (h.3 w.0 zero-le w.1))) in
      sym (first-is f n i h.1 before (sym h.2))

  pub first_below : {F : Type 0} {g : Mut F (Bor ℕ × Unit {0}) Bool} (r : Option ℕ) (h : F) (u : Range ℕ) → FindsItem steps g (below n) h r u → TestsAt g h f → unwrap_or r n ≡ first n f
  first_below r h u ran tests =
      first-cases r (first_from_Range (below n) u h r (λ x. true ≡ f x) (λ x. false ≡ f x) ran (λ x q c. (tests x true q c).1) (λ x q. tests x false q))

-- ---- every entry of a list, where the closure computes a test of the entry

module _ (f : ℕ → Bool) (n : ℕ) (xs : List ℕ) (long : length xs ≡ n) where
  abbrev EntryCases : Bool → Type 0
  EntryCases r = MatchBool r (AllWithin (λ x. true ≡ f x) xs 0 (length xs)) ((k : ℕ) × (k < length xs) × HoldsAt (λ x. false ≡ f x) xs k)

  entry-cases : (r : Bool) → EntryCases r → r ≡ every n (λ i. f (get_or xs i 0))
  entry-cases true h = sym (every-all (λ i. f (get_or xs i 0)) n (λ i l. sym (h i 0 zero-le (omega (arith, long)))))
  entry-cases false h = sym (every-fails (λ i. f (get_or xs i 0)) n h.0 (omega (arith, h.1, long)) (sym (h.2 0)))

  pub all_entries : {S A F : Type 0} {steps : S → Option A → S → Type 0} {v : A → ℕ} {g : Mut F (A × Unit {0}) Bool} {s : S} (r : Bool) (h : F) (u : S) → ChecksAll steps g s h r u → YieldsList steps v s xs
      → ((x : A) (b : Bool) (q : F) → Called g h (x, tt) b q → (q ≡ h) × (b ≡ f (v x))) → r ≡ every n (λ i. f (get_or xs i 0))
  all_entries r h u ran yields tests =
      entry-cases r (cases_from_all u h r (λ x. true ≡ f x) (λ x. false ≡ f x) ran yields (λ x q. tests x true q) (λ x q c. (tests x false q c).1))

-- ---- an array that `from_fn` fills: which function of the place it is, what the call ensures, and that the closure computes it

-- a closure computes a number of each place that it is given, and stays as it is
abbrev pub Computes : {F : Type 0} → Mut F (ℕ × Unit {0}) ℕ → F → (ℕ → ℕ) → Type 0
Computes {F} g h f = (x y : ℕ) (q : F) → Called g h (x, tt) y q → (q ≡ h) × (y ≡ f x)

module _ {F : Type 0} {g : Mut F (ℕ × Unit {0}) ℕ} (f : ℕ → ℕ) (ys : List ℕ) (h : F) (computes : Computes g h f) where
  -- what stands at a place from i on, where the closure is called at the n places from there
  each-place : (n i : ℕ) (p : F) → p ≡ h → IsFromFnResultFrom g p ys i n → (k : ℕ) → i ≤ k → k < i + n → get_or ys k 0 ≡ f k
  each-place zero i p same made k a b = absurd (not-suc-le-zero {n = 0} (omega (arith, a, b)))
  each-place (suc n) i p same made k a b =
      let told = computes i made.1 made.0 (subst (λ (s : F). Called g s (i, tt) made.1 made.0) same made.3) in
      ⊎_elim
      (λ e. subst (λ (j : ℕ). get_or ys j 0 ≡ f j) e (made.2.1 0 ∙ told.1))
      (λ l. each-place n (i + 1) made.0 told.0 made.4 k (omega (arith, l)) (omega (arith, b)))
      (eq-or-lt_of_le a)

pub filled_below : {F : Type 0} {g : Mut F (ℕ × Unit {0}) ℕ} (f : ℕ → ℕ) (n : ℕ) (ys : List ℕ) (h : F) → IsFromFnResult g h ys n → Computes g h f → ys ≡ list_of n f
filled_below f n ys h made computes =
    ext_get_or 0 ys (list_of n f) (made.long ∙ sym (length-list_of f n))
    (λ i l.
    let below : i < n = omega (arith, made.long, l) in
    each-place f ys h computes n 0 h refl made.each i zero-le (omega (arith, below)) ∙ sym (get_or-list_of f n i below))
