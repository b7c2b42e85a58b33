-- What an order is, and what is stored of the classes.
use Rattle.std.specs.Prelude.{◌≡◌, Bool, true, ℕ, ◌<◌}
use Rattle.order.specs.Order.{is_class_in}

-- ---- what an order is, of any relation among the numbers that pass a test

abbrev pub Reflexive : (ℕ → Bool) → (ℕ → ℕ → Bool) → Type 0
Reflexive among R = (i : ℕ) → among i ≡ true → R i i ≡ true

abbrev pub Antisymmetric : (ℕ → Bool) → (ℕ → ℕ → Bool) → Type 0
Antisymmetric among R = (i j : ℕ) → among i ≡ true → among j ≡ true → R i j ≡ true → R j i ≡ true → i ≡ j

abbrev pub Transitive : (ℕ → Bool) → (ℕ → ℕ → Bool) → Type 0
Transitive among R = (i j k : ℕ) → among i ≡ true → among j ≡ true → among k ≡ true → R i j ≡ true → R j k ≡ true → R i k ≡ true

-- i may flow to every one of them
abbrev pub Least : (ℕ → Bool) → (ℕ → ℕ → Bool) → ℕ → Type 0
Least among R i = (j : ℕ) → among j ≡ true → R i j ≡ true

-- ---- the classes

-- what is stored of the classes makes each of them one of the sixteen numbers
abbrev pub SmallClasses : ℕ → Type 0
SmallClasses n = (i : ℕ) → is_class_in n i ≡ true → i < 16
