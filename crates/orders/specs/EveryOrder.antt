-- W-208: "Each legal order is there, and none twice." `proofs/EveryOrder.antt` proves it of n from 1 to 4: of every list of rows, and of every place.
use Rattle.std.specs.Prelude.{◌≡◌, true, List, [], ◌∷◌, ℕ, ◌+◌, ◌*◌, ◌^◌, ◌<◌, length, get_or}
use Rattle.order.specs.Order.{is_class_in, flows_in}
use Rattle.order.specs.Laws.{Reflexive, Antisymmetric, Transitive, Least}
use Rattle.orders.specs.Listed.{count_of, rows_at}

-- a legal order of n classes, as n rows of 16 bits: "The order must be reflexive, antisymmetric and transitive with a least class", and no row has a bit at n or above
pub record LegalOrder (n : ℕ) (rows : List ℕ) : Type 0 where
  pub so_many : length rows ≡ n
  pub sixteen_bits : (i : ℕ) → get_or rows i 0 < 2 ^ 16
  pub no_other_bit : (i j : ℕ) → is_class_in n i ≡ true → flows_in rows i j ≡ true → is_class_in n j ≡ true
  pub reflexive : Reflexive (is_class_in n) (flows_in rows)
  pub antisymmetric : Antisymmetric (is_class_in n) (flows_in rows)
  pub transitive : Transitive (is_class_in n) (flows_in rows)
  pub lowest : (i : ℕ) × (is_class_in n i ≡ true) × Least (is_class_in n) (flows_in rows) i

-- "the rows read as one number, row 0 most significant, 16 bits a row"
unfoldable pub value : List ℕ → ℕ
value [] = 0
value (row ∷ rows) = row * 65536 ^ length rows + value rows

-- the orders of n classes that are fetched
pub record EveryOrder (n : ℕ) : Type 0 where
  -- each is legal
  pub legal : (place : ℕ) → place < count_of n → LegalOrder n (rows_at n place)
  -- "Each legal order is there"
  pub there : (rows : List ℕ) → LegalOrder n rows → (place : ℕ) × (place < count_of n) × (rows_at n place ≡ rows)
  -- "and none twice"
  pub once : (place other : ℕ) → place < count_of n → other < count_of n → rows_at n place ≡ rows_at n other → place ≡ other
  -- "They come by rising value of the rows"
  pub rising : (place later : ℕ) → place < later → later < count_of n → value (rows_at n place) < value (rows_at n later)

-- "There are 1, 2, 9 and 76." By `EveryOrder` these are the numbers of legal orders.
pub record Counts : Type 0 where
  pub one : count_of 1 ≡ 1
  pub two : count_of 2 ≡ 2
  pub three : count_of 3 ≡ 9
  pub four : count_of 4 ≡ 76
