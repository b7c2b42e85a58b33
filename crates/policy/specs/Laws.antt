-- What holds of every policy in range: the laws by which everything above this crate knows the order, its covers, the caps and the timing.
-- Each record is a statement; `proofs/Laws.antt` proves it of every p with `inRange p ≡ true`, of which every policy that reading hands back is one.
use Rattle.std.specs.Prelude.{◌≡◌, ◌↔◌, ◌⊎◌, Bool, true, false, cond, ◌&&◌, ℕ, ◌+◌, ◌^◌, ◌%◌, ◌≤◌, ◌<◌, eqb, length, get_or}
use Rattle.basics.specs.Below.{sum, count}
use Rattle.masks.specs.Mask.{member}
use Rattle.order.specs.Laws.{Reflexive, Least}
use Rattle.order.specs.Chains.{Longest}
use Rattle.turns.specs.Turns.{minimums_sum, minimums_above, free_turns, home_place, minimums_below}
use Rattle.policy.specs.Policy.{made, refusal, is_class, flows, strictly, least, above, covers_of, cover_count, cover, cap, minimum, home_turn, home_class, walk_bound, bound_for, longest_walk}
use Rattle.timing.specs.declared.Timing.{Timing}
use Rattle.policy.specs.declared.Policy.{Policy}

-- "The order must be reflexive, antisymmetric and transitive"; only classes flow, and only to classes
pub record OrderLaws (p : Policy) : Type 0 where
  pub classes_few : (1 ≤ p.classes) × (p.classes ≤ 16)
  -- a class is one of the sixteen numbers, and 0 is one
  pub class_small : (i : ℕ) → is_class p i ≡ true → i < 16
  pub zero_class : is_class p 0 ≡ true
  pub from_class : (i j : ℕ) → flows p i j ≡ true → is_class p i ≡ true
  pub to_class : (i j : ℕ) → flows p i j ≡ true → is_class p j ≡ true
  pub reflexive : Reflexive (is_class p) (flows p)
  pub antisymmetric : (i j : ℕ) → flows p i j ≡ true → flows p j i ≡ true → i ≡ j
  pub transitive : (i j k : ℕ) → flows p i j ≡ true → flows p j k ≡ true → flows p i k ≡ true

-- "with a least class": it exists, is the one found, and is the only one
pub record LeastLaws (p : Policy) : Type 0 where
  pub is-class : is_class p (least p) ≡ true
  pub is_least : Least (is_class p) (flows p) (least p)
  pub alone : (i : ℕ) → is_class p i ≡ true → Least (is_class p) (flows p) i → i ≡ least p

-- j covers i: it is strictly above, and nothing lies strictly between
pub record Covering (p : Policy) (i j : ℕ) : Type 0 where
  pub strict : strictly p i j ≡ true
  pub direct : (k : ℕ) → strictly p i k ≡ true → strictly p k j ≡ true → ⊥

-- "The children of a class are those directly above it (nothing lies between), numbered from 1 by rising class number."
pub record CoverLaws (p : Policy) : Type 0 where
  -- covers are sets of classes, as 16-bit numbers
  pub sets : (i : ℕ) → covers_of p i < 2 ^ 16
  -- the stored set of covers is the set of covers
  pub exactly : (i j : ℕ) → (member (covers_of p i) j ≡ true) ↔ Covering p i j
  -- a class with something above it has a cover, and one on the way there
  pub some_cover : (i j : ℕ) → strictly p i j ≡ true → (k : ℕ) × (member (covers_of p i) k ≡ true) × (flows p k j ≡ true)
  -- each number from 1 to the number of covers names a cover, a greater number a greater class, and each cover has a number
  pub named : (i k : ℕ) → 1 ≤ k → k ≤ cover_count p i → member (covers_of p i) (cover p i k) ≡ true
  pub rising : (i k l : ℕ) → 1 ≤ k → k < l → l ≤ cover_count p i → cover p i k < cover p i l
  pub numbered : (i j : ℕ) → member (covers_of p i) j ≡ true → (k : ℕ) × (1 ≤ k) × (k ≤ cover_count p i) × (cover p i k ≡ j)

-- how many classes are strictly above: what the traversal's recursion falls by
pub record AboveLaws (p : Policy) : Type 0 where
  pub falls : (i j : ℕ) → strictly p i j ≡ true → above p j < above p i
  pub falls_to_cover : (i j : ℕ) → member (covers_of p i) j ≡ true → above p j < above p i
  pub few : (i : ℕ) → above p i < 16
  -- nothing is above a class exactly if it has no cover
  pub topmost : (i : ℕ) → (above p i ≡ 0) ↔ (cover_count p i ≡ 0)

-- W-212: "the number of classes on the longest rising chain from the walk's first class"
pub record ChainLaws (p : Policy) : Type 0 where
  -- there is a chain of so many, and none is longer
  pub longest : (c : ℕ) → is_class p c ≡ true → Longest p.rows c (walk_bound p c)
  pub bounds : (c : ℕ) → is_class p c ≡ true → (1 ≤ walk_bound p c) × (walk_bound p c ≤ 16)
  -- less remains from a class strictly above
  pub falls : (c j : ℕ) → strictly p c j ≡ true → walk_bound p j < walk_bound p c
  -- a longest chain goes on by a cover, and what is left of it is a longest chain from there; where there is no cover, the class is alone on it
  pub to_cover : (c : ℕ) → is_class p c ≡ true
      → ((covers_of p c ≡ 0) × (walk_bound p c ≡ 1)) ⊎ ((j : ℕ) × (member (covers_of p c) j ≡ true) × (walk_bound p j + 1 ≡ walk_bound p c))
  -- none is longer than that from the least class, and so is no answer greater than the one of it
  pub from_least : (c : ℕ) → is_class p c ≡ true → walk_bound p c ≤ walk_bound p (least p)
  pub greatest : (c : ℕ) → (bound_for p c).classes ≤ (longest_walk p).classes

-- "A class's cap is E less the minimums of all classes strictly above it."
pub record CapLaws (p : Policy) : Type 0 where
  pub epoch_bounds : (1 ≤ p.epoch) × (p.epoch ≤ 64)
  pub is_rest : (i : ℕ) → is_class p i ≡ true → cap p i + minimums_above p.rows p.minimums i ≡ p.epoch
  pub at_least_own : (i : ℕ) → is_class p i ≡ true → get_or p.minimums i 0 ≤ cap p i
  pub at_most_epoch : (i : ℕ) → cap p i ≤ p.epoch
  -- one is stored for each of the sixteen numbers
  pub sixteen : length p.caps ≡ 16

-- W-202: "The last S turns of each epoch become home turns, class by class in rising number, each as often as its minimum."
pub record HomeLaws (p : Policy) : Type 0 where
  -- turn j of an epoch is a home turn exactly if E - S ≤ j, and the others are E - S
  pub the_last : (k : ℕ) → (home_turn p k ≡ true) ↔ (p.epoch ≤ k % p.epoch + minimums_sum p.minimums)
  pub the_others : free_turns p.epoch p.minimums + minimums_sum p.minimums ≡ p.epoch
  -- a home turn's class: its place among the epoch's home turns is at least the sum of the minimums below the class, and less than that sum with the class's own
  pub of-class : (k : ℕ) → home_turn p k ≡ true → is_class p (home_class p k) ≡ true
  pub not_before : (k : ℕ) → home_turn p k ≡ true → minimums_below p.minimums (home_class p k) ≤ home_place p.epoch p.minimums k
  pub not_after : (k : ℕ) → home_turn p k ≡ true → home_place p.epoch p.minimums k < minimums_below p.minimums (home_class p k) + minimum p (home_class p k)
  pub only : (k c : ℕ) → home_turn p k ≡ true → c < 16 → minimums_below p.minimums c ≤ home_place p.epoch p.minimums k
      → home_place p.epoch p.minimums k < minimums_below p.minimums c + minimum p c → home_class p k ≡ c
  -- each class has as many as its minimum: so of the classes of any kind there are as many as their minimums together
  pub as_often : (f : ℕ → Bool) → count p.epoch (λ j. home_turn p j && f (home_class p j)) ≡ sum 16 (λ c. cond (f c) (minimum p c) 0)
  pub as_its_minimum : (c : ℕ) → is_class p c ≡ true → count p.epoch (λ j. home_turn p j && eqb (home_class p j) c) ≡ minimum p c
  -- the plan is the same in every epoch, so a class with a minimum has a home turn among any E turns one after the other
  pub every_epoch : (k j : ℕ) → k % p.epoch ≡ j % p.epoch → (home_turn p k ≡ home_turn p j) × (home_class p k ≡ home_class p j)
  pub comes_round : (k c : ℕ) → is_class p c ≡ true → 1 ≤ minimum p c → (d : ℕ) × (d < p.epoch) × (home_turn p (k + d) ≡ true) × (home_class p (k + d) ≡ c)
  -- the least class may own every turn but the home turns of others: its cap is its minimum and the turns that are no home turns
  pub least_cap : cap p (least p) ≡ free_turns p.epoch p.minimums + minimum p (least p)

-- the timing's bounds: "each gap 1 to the dead time", the answer delay at most the dead time, the dead time below the turn length, the column delay below the answer delay
pub record TimingLaws (t : Timing) : Type 0 where
  pub turn_bounds : (2 ≤ t.turn) × (t.turn ≤ 255)
  pub dead_bounds : (2 ≤ t.dead) × (t.dead ≤ 31)
  pub dead_below_turn : t.dead < t.turn
  pub gaps_bounds : (k : ℕ) → k < 4 → (1 ≤ get_or t.gaps k 0) × (get_or t.gaps k 0 ≤ t.dead)
  pub bank_bounds : (k : ℕ) → k < 2 → (1 ≤ get_or t.bank k 0) × (get_or t.bank k 0 ≤ t.dead)
  pub response_bounds : (2 ≤ t.response) × (t.response ≤ t.dead)
  pub column_bounds : (1 ≤ t.column) × (t.column < t.response)
  -- W-206: "the rank gap (1 to the dead time)", where there are four ranks; one rank has none
  pub rank_bound : t.rank ≤ t.dead
  pub ranks_are : ((t.ranks ≡ 1) × (t.rank ≡ 0)) ⊎ ((t.ranks ≡ 4) × (1 ≤ t.rank))

-- what a policy in range is made of: its covers and caps are those of its other numbers, and a number that is no class has no row and no minimum
pub record NumberLaws (p : Policy) : Type 0 where
  pub is_made : p ≡ made p.classes p.rows p.epoch p.minimums p.timing
  pub not_refused : refusal p ≡ 0
  pub no_row : (i : ℕ) → is_class p i ≡ false → get_or p.rows i 0 ≡ 0
  pub no_minimum : (i : ℕ) → is_class p i ≡ false → minimum p i ≡ 0
  -- what the types of the fields say
  pub row_bits : (i : ℕ) → get_or p.rows i 0 < 2 ^ 16
  pub sixteen_rows : length p.rows ≡ 16
  pub sixteen_minimums : length p.minimums ≡ 16

pub record PolicyLaws (p : Policy) : Type 0 where
  pub order : OrderLaws p
  pub lowest : LeastLaws p
  pub covering : CoverLaws p
  pub higher : AboveLaws p
  pub chains : ChainLaws p
  pub capped : CapLaws p
  pub homes : HomeLaws p
  pub timed : TimingLaws p.timing
  pub numbers : NumberLaws p
