-- Sets of classes as 16-bit numbers, bit i for class i, as in a row of the order. (`member` is of a number of any length: the sets of W-211 have 32 bits.)
use Rattle.std.specs.Prelude.{Bool, cond, not, ◌&&◌, ◌||◌, ℕ, ◌+◌, ◌-◌, ◌/◌, ◌%◌, ◌^◌, min, ltb, eqb}
use Rattle.basics.specs.Below.{every, first, count, set_of}

-- "Bit j of row i is set": class j is in the set m
unfoldable pub member : ℕ → ℕ → Bool
member m j = eqb (m / 2 ^ j % 2) 1

-- every class of `part` is in the set m
unfoldable pub includes : ℕ → ℕ → Bool
includes m part = every 16 (λ j. not (member part j) || member m j)

-- the classes of the set m that are not in `part`
unfoldable pub difference : ℕ → ℕ → ℕ
difference m part = set_of 16 (λ j. member m j && not (member part j))

-- how many classes are in the set m
unfoldable pub size : ℕ → ℕ
size m = count 16 (member m)

-- "numbered from 1 by rising class number": the class of m with number k is the one up to which, itself counted, m has k. 16, which is no class, where there is none.
unfoldable pub nth : ℕ → ℕ → ℕ
nth m k = first 16 (λ j. member m j && eqb (count (j + 1) (member m)) k)

-- "The mask of a class (its bit alone, as in a row)". Of the numbers at or above 16, which are no classes, the papers say nothing: the empty set.
unfoldable pub class_mask : ℕ → ℕ
class_mask c = cond (ltb c 16) (2 ^ c) 0

-- "the mask of all classes below a number (a number of 1 to 16)". Of other numbers the papers say nothing: 0 has none below it, and past 16 there are no more.
unfoldable pub below_mask : ℕ → ℕ
below_mask n = 2 ^ min n 16 - 1
