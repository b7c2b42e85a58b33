-- What a loop over the numbers below a bound knows once it is done with those below i, of any test f and any function g: at its start, after one number more, where it
-- stops early and at its end. A proof of such a loop says which test or function it goes over and what the code's own test told, and cites the rest from here.
-- Assumes nothing.
use mathlib.Core.Path.{◌≡◌, sym, ap, ◌∙◌, subst}
use mathlib.Core.Logic.{⊎_elim}
use mathlib.Core.Bool.{Bool, true, false}
use mathlib.Core.List.{List}
use Prim.Native.Nat.{ℕ, ◌+◌, ◌≤◌, ◌<◌, zero-le}
use native.Mathlib.Nat.{lt_irrefl, not-suc-le-zero}
use native.Mathlib.Numerals.{add-one}
use native.Mathlib.Omega.{arith}
use lib.ListN.{length, get_or, set, replicate, length-set, length-replicate}
use lib.Seq.{ext_get_or, get_or-set_same, get_or-set_other}
use Rattle.basics.specs.Below.{every, some, first, sum, list_of}
use Rattle.basics.proofs.Below.{at-or-below, every-none, every_more, every-fails, some-none, some_more, some_at, first-is, first-none, sum-none, sum_more, length-list_of, get_or-list_of}

-- the bound is reached
at_end : {n i : ℕ} → i ≤ n → n ≤ i → i ≡ n
at_end h l = omega arith

-- ---- a loop that tests each number and stops at the first that fails

module _ (f : ℕ → Bool) (n : ℕ) where
  -- every number below i passed
  abbrev pub Passed : ℕ → Type 0
  Passed i = (every i f ≡ true) × (i ≤ n)

  pub passed_none : Passed 0
  passed_none = (every-none f, zero-le)

  pub passed-more : (i : ℕ) → Passed i → i < n → f i ≡ true → Passed (i + 1)
  passed-more i h l t = (every_more f i h.0 t, omega arith)

  pub passed-all : (i : ℕ) → Passed i → n ≤ i → true ≡ every n f
  passed-all i h l = sym (subst (λ (k : ℕ). every k f ≡ true) (at_end h.1 l) h.0)

  pub passed-not : (i : ℕ) → i < n → f i ≡ false → false ≡ every n f
  passed-not i l t = sym (every-fails f n i l t)

  -- the same where the code asks for the opposite of an answer r, and r is the test's
  pub goes-on : {r : Bool} (i : ℕ) → Passed i → i < n → r ≡ f i → r ≡ true → Passed (i + 1)
  goes-on i h l e t = passed-more i h l (sym e ∙ t)

  pub stops : {r : Bool} (i : ℕ) → i < n → r ≡ f i → r ≡ false → false ≡ every n f
  stops i l e t = passed-not i l (sym e ∙ t)

-- ---- a loop that looks for the first number that passes

module _ (f : ℕ → Bool) (n : ℕ) where
  -- no number below i passed
  abbrev pub Missed : ℕ → Type 0
  Missed i = (some i f ≡ false) × (i ≤ n)

  pub missed-none : Missed 0
  missed-none = (some-none f, zero-le)

  pub missed_more : (i : ℕ) → Missed i → i < n → f i ≡ false → Missed (i + 1)
  missed_more i h l t = (some_more f i h.0 t, omega arith)

  pub missed-all : (i : ℕ) → Missed i → n ≤ i → n ≡ first n f
  missed-all i h l = sym (first-none f n (subst (λ (k : ℕ). some k f ≡ false) (at_end h.1 l) h.0))

  pub found_at : (i : ℕ) → Missed i → i < n → f i ≡ true → i ≡ first n f
  found_at i h l t = sym (first-is f n i l h.0 t)

  -- the same where it is asked whether one passes
  pub none_passes : (i : ℕ) → Missed i → n ≤ i → false ≡ some n f
  none_passes i h l = sym (subst (λ (k : ℕ). some k f ≡ false) (at_end h.1 l) h.0)

  pub one_passes : (i : ℕ) → i < n → f i ≡ true → true ≡ some n f
  one_passes i l t = sym (some_at f n i l t)

-- ---- a loop that adds up

module _ (g : ℕ → ℕ) (n : ℕ) where
  -- the total is the sum of g below i
  abbrev pub Summed : ℕ → ℕ → Type 0
  Summed total i = (total ≡ sum i g) × (i ≤ n)

  pub summed-none : Summed 0 0
  summed-none = (sym (sum-none g), zero-le)

  pub summed-more : {next : ℕ} (total i : ℕ) → Summed total i → i < n → next ≡ total + g i → Summed next (i + 1)
  summed-more total i h l e = (e ∙ ap (λ (k : ℕ). k + g i) h.0 ∙ sym (sum_more g i), omega arith)

  pub summed-all : (total i : ℕ) → Summed total i → n ≤ i → total ≡ sum n g
  summed-all total i h l = h.0 ∙ ap (λ (k : ℕ). sum k g) (at_end h.1 l)

-- ---- a loop that fills a list from the front

module _ (g : ℕ → ℕ) (n : ℕ) where
  -- the list has n entries, and those below i are g of their number
  abbrev pub Filled : List ℕ → ℕ → Type 0
  Filled l i = (length l ≡ n) × ((k : ℕ) → k < i → get_or l k 0 ≡ g k) × (i ≤ n)

  -- at first it is all zeros
  pub filled_none : Filled (replicate n 0) 0
  filled_none = (length-replicate n 0, λ k h. absurd (not-suc-le-zero h), zero-le)

  -- an entry v is stored, and it is g of its number
  pub filled_more : {v : ℕ} (l : List ℕ) (i : ℕ) → Filled l i → i < n → v ≡ g i → Filled (set l i v) (i + 1)
  filled_more {v} l i h below e = (length-set l i v ∙ h.0, stored, omega arith)
    where
      inside : i < length l
      inside = omega (arith, h.0)

      stored : (k : ℕ) → k < i + 1 → get_or (set l i v) k 0 ≡ g k
      stored k b =
          ⊎_elim
          (λ q. subst (λ (m : ℕ). get_or (set l i v) m 0 ≡ g m) (sym q) (get_or-set_same l i v 0 inside ∙ e))
          (λ c. get_or-set_other l i k v 0 (λ q. absurd (lt_irrefl i (subst (λ (m : ℕ). m < i) q c))) ∙ h.1 k c)
          (at-or-below (subst (λ (m : ℕ). k < m) (add-one i) b))

  pub filled-all : (l : List ℕ) (i : ℕ) → Filled l i → n ≤ i → l ≡ list_of n g
  filled-all l i h end =
      ext_get_or 0 l (list_of n g) (h.0 ∙ sym (length-list_of g n))
      (λ k b. let c : k < n = omega (arith, h.0) in h.1 k (omega (arith, h.2)) ∙ sym (get_or-list_of g n k c))
