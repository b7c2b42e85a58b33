-- The order: rows of 16 bits, "Bit j of row i is set if class i may flow to class j". A list of rows has one for each of the sixteen class numbers;
-- those of numbers that are no classes are 0.
use Rattle.std.specs.Prelude.{Bool, cond, not, ◌&&◌, ◌||◌, List, ℕ, zero, suc, ltb, eqb, get_or}
use Rattle.basics.specs.Below.{every, some, first, count, set_of}
use Rattle.masks.specs.Mask.{member, below_mask, includes, class_mask}

-- "n (1 to 16)": a class is a number below the class count. What a policy stores of its classes is n, and this alone says which numbers are among them.
unfoldable pub is_class_in : ℕ → ℕ → Bool
is_class_in n i = ltb i n

-- all of them, as a set
abbrev pub class_set : ℕ → ℕ
class_set n = below_mask n

-- class i may flow to class j
unfoldable pub flows_in : List ℕ → ℕ → ℕ → Bool
flows_in rows i j = member (get_or rows i 0) j

-- class i is strictly below class j, and j strictly above i
unfoldable pub strictly_in : List ℕ → ℕ → ℕ → Bool
strictly_in rows i j = not (eqb i j) && flows_in rows i j

-- 3: "a row has a bit at n or above, or lacks its own"; a number that is no class has no row
unfoldable pub row_fits : ℕ → ℕ → ℕ → Bool
row_fits n i row = cond (is_class_in n i) (includes (class_set n) row && member row i) (eqb row 0)

unfoldable pub rows_fit : ℕ → List ℕ → Bool
rows_fit n rows = every 16 (λ i. row_fits n i (get_or rows i 0))

-- 4: "two classes flow to each other"
unfoldable pub antisymmetric_at : List ℕ → ℕ → Bool
antisymmetric_at rows i = every 16 (λ j. not (strictly_in rows i j && flows_in rows j i))

unfoldable pub antisymmetric : List ℕ → Bool
antisymmetric rows = every 16 (antisymmetric_at rows)

-- 5: "not transitive": where i may flow to j, whatever j may flow to, i may flow to as well
unfoldable pub transitive_at : List ℕ → ℕ → Bool
transitive_at rows i = every 16 (λ j. not (flows_in rows i j) || includes (get_or rows i 0) (get_or rows j 0))

unfoldable pub transitive : List ℕ → Bool
transitive rows = every 16 (transitive_at rows)

-- class i may flow to every class
unfoldable pub least_at : ℕ → List ℕ → ℕ → Bool
least_at n rows i = is_class_in n i && includes (get_or rows i 0) (class_set n)

-- 6: "no least class"
unfoldable pub has_least : ℕ → List ℕ → Bool
has_least n rows = some 16 (least_at n rows)

-- the least class; 16, which is no class, where there is none
unfoldable pub least_in : ℕ → List ℕ → ℕ
least_in n rows = first 16 (least_at n rows)

-- the classes strictly above i
unfoldable pub above_set : List ℕ → ℕ → ℕ
above_set rows i = set_of 16 (strictly_in rows i)

-- the classes strictly above some class of a set
unfoldable pub above_some : List ℕ → ℕ → ℕ
above_some rows m = set_of 16 (λ j. some 16 (λ k. member m k && strictly_in rows k j))

-- something lies between i and j
unfoldable pub between_in : List ℕ → ℕ → ℕ → Bool
between_in rows i j = some 16 (λ k. strictly_in rows i k && strictly_in rows k j)

-- "The children of a class are those directly above it (nothing lies between)": j covers i
unfoldable pub covers_in : List ℕ → ℕ → ℕ → Bool
covers_in rows i j = strictly_in rows i j && not (between_in rows i j)

-- the classes that cover i
unfoldable pub cover_set : List ℕ → ℕ → ℕ
cover_set rows i = set_of 16 (covers_in rows i)

-- how many classes are strictly above i
unfoldable pub above_in : List ℕ → ℕ → ℕ
above_in rows i = count 16 (strictly_in rows i)

-- ---- W-212: rising chains

-- the classes at the end of the rising chains of so many steps from class i, each step from a class to one strictly above it
unfoldable pub risen_to : List ℕ → ℕ → ℕ → ℕ
risen_to rows i zero = class_mask i
risen_to rows i (suc steps) = above_some rows (risen_to rows i steps)

-- W-212: "the number of classes on the longest rising chain from" class i, the class counted: the first number of steps that no such chain has
unfoldable pub longest_in : List ℕ → ℕ → ℕ
longest_in rows i = first 16 (λ steps. eqb (risen_to rows i steps) 0)
