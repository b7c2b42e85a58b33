-- Words for the numbers below a bound: every one of them, some, the first, how many, their sum, and the set of them.
-- A class is a number below 16, so "every class .." is `every 16 ..`.
use Rattle.std.specs.Prelude.{Bool, true, false, cond, ◌&&◌, ◌||◌, List, [], ◌∷◌, ℕ, zero, suc, ◌+◌, ◌^◌}

-- the test passes at every number below the bound
unfoldable pub every : ℕ → (ℕ → Bool) → Bool
every zero f = true
every (suc n) f = every n f && f n

-- it passes at some number below the bound
unfoldable pub some : ℕ → (ℕ → Bool) → Bool
some zero f = false
some (suc n) f = some n f || f n

-- the first number below the bound at which it passes, and the bound itself where it passes at none
unfoldable pub first : ℕ → (ℕ → Bool) → ℕ
unfolding some
first zero f = zero
first (suc n) f = cond (some n f) (first n f) (cond (f n) n (suc n))

-- the sum of what stands at the numbers below the bound
unfoldable pub sum : ℕ → (ℕ → ℕ) → ℕ
sum zero g = zero
sum (suc n) g = sum n g + g n

-- at how many numbers below the bound it passes
unfoldable pub count : ℕ → (ℕ → Bool) → ℕ
unfolding sum
count n f = sum n (λ i. cond (f i) 1 0)

-- the set of the numbers below the bound at which it passes, as a number: bit i for the number i
unfoldable pub set_of : ℕ → (ℕ → Bool) → ℕ
unfolding sum
set_of n f = sum n (λ i. cond (f i) (2 ^ i) 0)

-- the list of what stands at the numbers below the bound, in their order
unfoldable pub list_of : ℕ → (ℕ → ℕ) → List ℕ
list_of zero g = []
list_of (suc n) g = g zero ∷ list_of n (λ i. g (suc i))
