-- W-212: "the number of classes on the longest rising chain from" a class: what the number promises. `proofs/Chains.antt` proves it of `longest_in`, in every order.
use Rattle.std.specs.Prelude.{◌≡◌, Bool, true, ◌&&◌, List, [], ◌∷◌, ℕ, ◌+◌, ◌≤◌, length}
use Rattle.order.specs.Order.{strictly_in}

-- a rising chain from class i: classes, each strictly above the one before it, the first strictly above i
unfoldable pub rising : List ℕ → ℕ → List ℕ → Bool
rising rows i [] = true
rising rows i (j ∷ js) = strictly_in rows i j && rising rows j js

-- k is the number of classes on the longest rising chain from class i, the class counted: there is a chain of so many, and none is longer
pub record Longest (rows : List ℕ) (i k : ℕ) : Type 0 where
  pub chain : List ℕ
  pub rises : rising rows i chain ≡ true
  pub so_many : length chain + 1 ≡ k
  pub none_longer : (js : List ℕ) → rising rows i js ≡ true → length js + 1 ≤ k
