-- The traversal (document 01: the walk) gives a turn its owner. It tries the least class first, or at a home turn (W-202) its class, and ascends by round-robin pointers (document 01: marks).
use Rattle.std.specs.Prelude.{Bool, true, false, cond, not, ◌&&◌, ◌||◌, List, ℕ, zero, suc, ◌+◌, ◌-◌, ltb, eqb, get_or, set}
use Rattle.masks.specs.Mask.{size, nth}
use Rattle.policy.specs.Policy.{least, home_turn, home_class}
use Rattle.policy.specs.declared.Policy.{Policy}

-- W-202: "A home turn's walk starts at its class". "Other turns start at the least class.": the class where the traversal of a turn starts, by the turn's number
unfoldable pub first_class : Policy → ℕ → ℕ
first_class p k = cond (home_turn p k) (home_class p k) (least p)

-- the classes as the traversal sees them, with an entry for each: the set of its covers, how many of its requests wait, its turns left
pub record Candidates : Type 0 where
  pub covers : List ℕ
  pub lengths : List ℕ
  pub left : List ℕ

abbrev pub candidates : List ℕ → List ℕ → List ℕ → Candidates
candidates covers lengths left = record { covers = covers; lengths = lengths; left = left }

-- A mark moves "on by 1, from the number of its children back to 1; marks start at 0, and a class without children has none."
unfoldable pub moved : ℕ → ℕ → ℕ
moved covers pointer = cond (eqb covers 0) 0 (cond (ltb pointer (size covers)) (pointer + 1) 1)

unfoldable pub moved_pointer : List ℕ → List ℕ → ℕ → ℕ
moved_pointer covers pointers c = moved (get_or covers c 0) (get_or pointers c 0)

-- W-201: "a mark moves only when the walk passes on from the class": the pointers once a class has passed the turn on
unfoldable pub passed_at : List ℕ → List ℕ → ℕ → List ℕ
passed_at covers pointers c = set pointers c (moved_pointer covers pointers c)

-- the child of a class that has a number
abbrev pub child_at : List ℕ → ℕ → ℕ → ℕ
child_at covers c number = nth (get_or covers c 0) number

-- W-201: "it moves first and then names the child"
unfoldable pub named : List ℕ → List ℕ → ℕ → ℕ
named covers pointers c = child_at covers c (moved_pointer covers pointers c)

-- "The class takes the turn if it has a request waiting and turns left, or if nothing is above it": it then has no cover, and otherwise it has one.
unfoldable pub takes_by : ℕ → ℕ → ℕ → Bool
takes_by covers length left = not (eqb length 0) && not (eqb left 0) || eqb covers 0

unfoldable pub takes : Candidates → ℕ → Bool
takes all c = takes_by (get_or all.covers c 0) (get_or all.lengths c 0) (get_or all.left c 0)

-- the class at which the traversal ends, the pointers after it, and W-212: "how many classes the walk tried, the owner counted"
pub record Reached : Type 0 where
  pub owner : ℕ
  pub pointers : List ℕ
  pub tried : ℕ

-- where the class that is tried is the owner: its pointer stays
unfoldable pub ends_at : List ℕ → ℕ → Reached
ends_at pointers c = record { owner = c; pointers = pointers; tried = 1 }

-- what the traversal comes to where so many classes were tried before
abbrev pub also_tried : ℕ → Reached → Reached
also_tried before r = record { owner = r.owner; pointers = r.pointers; tried = before + r.tried }

-- a class is tried: it takes the turn or passes it on. "If not, the turn ascends to the child that its mark names, and that child is tried in the
-- same way." The first argument bounds how often the turn ascends; there are never more ascents than classes strictly above.
unfoldable pub try_class : ℕ → Candidates → List ℕ → ℕ → Reached
try_class zero all pointers c = ends_at pointers c
try_class (suc rest) all pointers c =
    elim (takes all c) [
      | true ↦ ends_at pointers c
      | false ↦ also_tried 1 (try_class rest all (passed_at all.covers pointers c) (named all.covers pointers c))
    ]

-- "The owner's turns left fall by 1, not below 0."
unfoldable pub charge : List ℕ → ℕ → List ℕ
charge left owner = set left owner (get_or left owner 0 - 1)

-- ---- W-202: a home turn

-- its class "takes it if a request waits"
unfoldable pub takes_home : Policy → ℕ → List ℕ → Bool
takes_home p k lengths = home_turn p k && not (eqb (get_or lengths (home_class p k) 0) 0)

-- "turns left or not": the traversal of turn number k goes by the turns left, and tries the class of a home turn as one that has a turn left
unfoldable pub left_tried : Policy → ℕ → List ℕ → List ℕ
left_tried p k left = cond (home_turn p k) (set left (home_class p k) 1) left

-- "and is not charged; otherwise the walk ascends as usual and charges. An idle home class with nothing above it owns the turn and is charged."
unfoldable pub charged : Policy → ℕ → List ℕ → List ℕ → ℕ → List ℕ
charged p k lengths left owner = cond (takes_home p k lengths) left (charge left owner)
