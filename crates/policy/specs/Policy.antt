-- The policy as a value: what of it is refused, and when it is in range.
use Rattle.std.specs.Prelude.{Bool, true, false, cond, ◌&&◌, ◌||◌, List, [], ◌∷◌, ℕ, suc, ltb, eqb, length, get_or, replicate}
use Rattle.basics.specs.Below.{every, list_of}
use Rattle.masks.specs.Mask.{size, nth}
use Rattle.order.specs.Order.{is_class_in, flows_in, strictly_in, rows_fit, antisymmetric, transitive, has_least, least_in, cover_set, above_in, longest_in}
use Rattle.turns.specs.Turns.{turns_sound, cap_in, home_turn_in, home_place, home_at}
use Rattle.timing.specs.Timing.{timing_sound, within}
use Rattle.timing.specs.declared.Timing.{Timing}
use Rattle.std.specs.declared.result.Result.{Result}
use Rattle.std.specs.declared.result.Result.TheVariants.{Ok, Err}
use Rattle.refusals.specs.Refusal.{number}
use Rattle.refusals.specs.declared.Refusal.{Refusal}
use Rattle.policy.specs.declared.Policy.{Policy}

-- i is a class of this policy
unfoldable pub is_class : Policy → ℕ → Bool
is_class p i = is_class_in p.classes i

-- class i may flow to class j
unfoldable pub flows : Policy → ℕ → ℕ → Bool
flows p i j = flows_in p.rows i j

-- class i is strictly below class j
unfoldable pub strictly : Policy → ℕ → ℕ → Bool
strictly p i j = strictly_in p.rows i j

-- the least class; 16, which is no class, where there is none
unfoldable pub least : Policy → ℕ
least p = least_in p.classes p.rows

-- how many classes are strictly above a class
unfoldable pub above : Policy → ℕ → ℕ
above p i = above_in p.rows i

-- the stored set of the classes that cover a class
unfoldable pub covers_of : Policy → ℕ → ℕ
covers_of p i = get_or p.covers i 0

-- how many classes cover a class
unfoldable pub cover_count : Policy → ℕ → ℕ
cover_count p i = size (covers_of p i)

-- "numbered from 1 by rising class number": the cover with number k; 16, which is no class, where there is none
unfoldable pub cover : Policy → ℕ → ℕ → ℕ
cover p i k = nth (covers_of p i) k

-- the stored cap of a class
unfoldable pub cap : Policy → ℕ → ℕ
cap p i = get_or p.caps i 0

-- the minimum of a class
unfoldable pub minimum : Policy → ℕ → ℕ
minimum p i = get_or p.minimums i 0

-- W-202: "The last S turns of each epoch become home turns": turn number k is one
unfoldable pub home_turn : Policy → ℕ → Bool
home_turn p k = home_turn_in p.epoch p.minimums k

-- its home class: "class by class in rising number, each as often as its minimum"
unfoldable pub home_class : Policy → ℕ → ℕ
home_class p k = home_at p.minimums (home_place p.epoch p.minimums k)

-- ---- what a policy is made of

-- the policy of these numbers: its children are those of the order, and "A class's cap is E less the minimums of all classes strictly above it."
unfoldable pub made : ℕ → List ℕ → ℕ → List ℕ → Timing → Policy
made n rows epoch minimums timing =
    record {
      classes = n;
      rows = rows;
      epoch = epoch;
      minimums = minimums;
      timing = timing;
      covers = list_of 16 (cover_set rows);
      caps = list_of 16 (cap_in n rows epoch minimums);
    }

-- "the policy of no classes, all zeros"
unfoldable pub no_policy : Policy
no_policy =
    let zeros : List ℕ = replicate 16 0 in
    record {
      classes = 0;
      rows = zeros;
      epoch = 0;
      minimums = zeros;
      timing = record { turn = 0; dead = 0; gaps = replicate 4 0; bank = replicate 2 0; column = 0; response = 0; ranks = 0; rank = 0 };
      covers = zeros;
      caps = zeros;
    }

-- ---- what is refused

-- where the tests that pass come first: the number of the first that fails, counted from k, and 0 where none does
unfoldable pub first_failing : ℕ → List Bool → ℕ
first_failing k [] = 0
first_failing k (true ∷ tests) = first_failing (suc k) tests
first_failing k (false ∷ tests) = k

-- 3 to 8 of "What is turned down", in its order
unfoldable pub policy_tests : Policy → List Bool
policy_tests p =
    rows_fit p.classes p.rows
    ∷ antisymmetric p.rows
    ∷ transitive p.rows
    ∷ has_least p.classes p.rows
    ∷ turns_sound p.epoch p.minimums
    ∷ timing_sound p.timing
    ∷ []

-- the number of 3 to 8 that refuses the policy, and 0 where none does
unfoldable pub refusal : Policy → ℕ
refusal p = first_failing 3 (policy_tests p)

-- ---- in range

-- "whose stored children or caps are not its order's"; and a number that is no class has no minimum
unfoldable pub stored_fits : Policy → ℕ → Bool
stored_fits p i =
    eqb (covers_of p i) (cover_set p.rows i)
    && eqb (cap p i) (cap_in p.classes p.rows p.epoch p.minimums i)
    && (is_class p i || eqb (minimum p i) 0)

unfoldable pub all_stored_fits : Policy → Bool
all_stored_fits p = every 16 (stored_fits p)

-- what the types of the fields say: sixteen entries in each list, and rows of sixteen bits. No policy that a program can hold breaks it.
unfoldable pub shaped : Policy → Bool
shaped p =
    eqb (length p.rows) 16
    && eqb (length p.minimums) 16
    && eqb (length p.covers) 16
    && eqb (length p.caps) 16
    && every 16 (λ i. ltb (get_or p.rows i 0) 65536)

-- the policy's part of 13: "a policy that 2 to 8 would refuse, or whose stored children or caps are not its order's"
unfoldable pub in_range : Policy → Bool
in_range p = shaped p && within 1 p.classes 16 && eqb (refusal p) 0 && all_stored_fits p

-- ---- W-212: how long a walk is

-- "the number of classes on the longest rising chain from the walk's first class": how many classes a walk from c tries at most, c counted
unfoldable pub walk_bound : Policy → ℕ → ℕ
walk_bound p c = longest_in p.rows c

-- what refuses the question: 13, a policy out of range; then 9, "class not below n". 0 where neither does.
unfoldable pub bound_status : Policy → ℕ → ℕ
bound_status p c = cond (in_range p) (cond (is_class p c) 0 9) 13

-- an answer: how many classes a walk tries at most, and the status: 0, or the number that refuses the question; then the bound is 0
pub record Bound : Type 0 where
  pub status : ℕ
  pub classes : ℕ

unfoldable pub bound_of : Result ℕ Refusal → Bound
bound_of (Ok n) = record { status = 0; classes = n }
bound_of (Err r) = record { status = number r; classes = 0 }

-- the answer: the bound, and 0 where the question is refused
unfoldable pub bound_for : Policy → ℕ → Bound
bound_for p c = record { status = bound_status p c; classes = cond (eqb (bound_status p c) 0) (walk_bound p c) 0 }

-- "Hardware must finish the walk in one cycle": the bound from the least class, since no walk has a greater one. Only 13 refuses it.
unfoldable pub longest_walk : Policy → Bound
longest_walk p = record { status = cond (in_range p) 0 13; classes = cond (in_range p) (walk_bound p (least p)) 0 }
