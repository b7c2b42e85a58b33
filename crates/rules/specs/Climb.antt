-- What the traversal and the lookahead rest on: rows and covers of one order, as in every policy in range (`proofs/Traversal.antt`).
use Rattle.std.specs.Prelude.{◌≡◌, true, List, ℕ, ◌^◌, ◌<◌, get_or}
use Rattle.masks.specs.Mask.{member}
use Rattle.order.specs.Order.{flows_in, above_in}

pub record Climbs (rows covers : List ℕ) : Type 0 where
  -- covers are sets of classes
  pub sets : (c : ℕ) → get_or covers c 0 < 2 ^ 16
  -- the number of classes strictly above falls from a class to each of its covers
  pub falls : (c j : ℕ) → member (get_or covers c 0) j ≡ true → above_in rows j < above_in rows c
  -- a class that may flow to another has a cover
  pub upward : (c owner : ℕ) → flows_in rows c owner ≡ true → ((c ≡ owner) → ⊥) → get_or covers c 0 ≡ 0 → ⊥
