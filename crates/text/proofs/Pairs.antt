-- The table of a byte's two digits: pair k, at the places 2 * k and 2 * k + 1, is the digits of k.
-- Assumes nothing.
use mathlib.Core.Path.{◌≡◌, refl}
use mathlib.Core.List.{List, [], ◌∷◌}
use Prim.Native.Nat.{ℕ, zero, suc, ◌+◌, ◌*◌, ◌/◌, ◌%◌, ◌<◌}
use native.Mathlib.Nat.{add-zero, zero-add, not-suc-le-zero, le_of_suc-le-suc}
use native.Mathlib.Omega.{arith}
use lib.ListN.{get_or}
use Rattle.text.specs.Lines.{digit}

-- the pairs of n bytes, from the byte k on
unfoldable pub pairs : ℕ → ℕ → List ℕ
pairs zero k = []
pairs (suc n) k = digit (k / 16) ∷ digit (k % 16) ∷ pairs n (suc k)

later : (n k j : ℕ) → j < n → (get_or (pairs n k) (2 * j) 0 ≡ digit ((k + j) / 16)) × (get_or (pairs n k) (2 * j + 1) 0 ≡ digit ((k + j) % 16))
unfolding pairs
later zero k j h = absurd (not-suc-le-zero h)
later (suc n) k zero h = rw (add-zero k) (refl, refl)
later (suc n) k (suc j) h =
    let high : 2 * suc j ≡ suc (suc (2 * j)) = omega arith in
    let low : 2 * suc j + 1 ≡ suc (suc (2 * j + 1)) = omega arith in
    let next : k + suc j ≡ suc k + j = omega arith in
    rw (low, high, next) (later n (suc k) j (le_of_suc-le-suc h))

pub pair : (k : ℕ) → k < 256 → (get_or (pairs 256 0) (2 * k) 0 ≡ digit (k / 16)) × (get_or (pairs 256 0) (2 * k + 1) 0 ≡ digit (k % 16))
pair k h = rw (zero-add k) at (later 256 0 k h)
