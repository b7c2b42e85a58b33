-- The turns: "epoch length E in turns (1 to 64), then n minimums, one byte each, their sum at most E". A list of minimums has one for each of the
-- sixteen class numbers; those of numbers that are no classes are 0.
use Rattle.std.specs.Prelude.{Bool, cond, ◌&&◌, List, ℕ, ◌+◌, ◌-◌, ◌%◌, ltb, leb, get_or}
use Rattle.basics.specs.Below.{first, sum}
use Rattle.order.specs.Order.{is_class_in, strictly_in}

-- the sum of the minimums of the classes below a number, and of all
unfoldable pub minimums_below : List ℕ → ℕ → ℕ
minimums_below minimums c = sum c (λ i. get_or minimums i 0)

unfoldable pub minimums_sum : List ℕ → ℕ
minimums_sum minimums = minimums_below minimums 16

-- 7: "E or the sum of minimums out of range"
unfoldable pub turns_sound : ℕ → List ℕ → Bool
turns_sound epoch minimums = leb 1 epoch && leb epoch 64 && leb (minimums_sum minimums) epoch

-- the sum of the minimums of all classes strictly above i
unfoldable pub minimums_above : List ℕ → List ℕ → ℕ → ℕ
minimums_above rows minimums i = sum 16 (λ j. cond (strictly_in rows i j) (get_or minimums j 0) 0)

-- "A class's cap is E less the minimums of all classes strictly above it." A number that is no class has none: 0.
unfoldable pub cap_in : ℕ → List ℕ → ℕ → List ℕ → ℕ → ℕ
cap_in n rows epoch minimums i = cond (is_class_in n i) (epoch - minimums_above rows minimums i) 0

-- ---- W-202: home turns

-- "Let S be the sum of minimums. The last S turns of each epoch become home turns": how many turns of an epoch come before them
unfoldable pub free_turns : ℕ → List ℕ → ℕ
free_turns epoch minimums = epoch - minimums_sum minimums

-- turn number k is one of them
unfoldable pub home_turn_in : ℕ → List ℕ → ℕ → Bool
home_turn_in epoch minimums k = leb (free_turns epoch minimums) (k % epoch)

-- its place among the home turns of its epoch, counted from 0
unfoldable pub home_place : ℕ → List ℕ → ℕ → ℕ
home_place epoch minimums k = k % epoch - free_turns epoch minimums

-- "class by class in rising number, each as often as its minimum": the class of the home turn with this place, the first that has used up its minimum only past it; 16, which is no class, where there are
-- not so many
unfoldable pub home_at : List ℕ → ℕ → ℕ
home_at minimums place = first 16 (λ c. ltb place (minimums_below minimums (c + 1)))
