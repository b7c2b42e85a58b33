-- The set of the classes below a number that pass a test: of none, and with one class more. A loop that adds up the masks of such classes asks no more.
-- Assumes nothing.
use mathlib.Core.Path.{◌≡◌, refl}
use mathlib.Core.Bool.{Bool, true, false}
use Prim.Native.Nat.{ℕ, ◌+◌, ◌^◌, ◌≤◌, ◌<◌}
use native.Mathlib.Numerals.{add-one}
use native.Mathlib.Omega.{arith}
use native.Mathlib.Nat.{lt_of_lt_of_le}
use borrow.Author.Tests.{lt-ltb}
use lib.Pow.{pow_mono}
use Rattle.basics.specs.Below.{sum, set_of}
use Rattle.masks.specs.Mask.{class_mask}
use Rattle.masks.proofs.Masks.{set_of-below}

mask_is : (c : ℕ) → c < 16 → class_mask c ≡ 2 ^ c
unfolding class_mask
mask_is c h = rw (lt-ltb c 16 h)

one_more : (f : ℕ → Bool) (c : ℕ) → f c ≡ true → set_of (c + 1) f ≡ set_of c f + 2 ^ c
unfolding set_of sum
one_more f c e = rw (add-one c, e)

-- below 0 there is none
pub set_none : (f : ℕ → Bool) → set_of 0 f ≡ 0
unfolding set_of sum
set_none f = refl

-- one more class that is in the set, and one more that is not
pub set_more : (f : ℕ → Bool) (c : ℕ) → c < 16 → f c ≡ true → set_of (c + 1) f ≡ set_of c f + class_mask c
set_more f c small e = rw (mask_is c small) (one_more f c e)

pub set_same : (f : ℕ → Bool) (c : ℕ) → f c ≡ false → set_of (c + 1) f ≡ set_of c f
unfolding set_of sum
set_same f c e = rw (add-one c, e) (omega arith)

-- the set has no bit at 16 or above
pub set_fits : (f : ℕ → Bool) (c : ℕ) → c < 16 → f c ≡ true → set_of c f + class_mask c < 65536
set_fits f c small e =
    let next : c + 1 ≤ 16 = omega arith in
    let fits : set_of (c + 1) f < 2 ^ 16 = lt_of_lt_of_le (set_of-below f (c + 1)) (pow_mono next) in
    omega (arith, fits, set_more f c small e)

pub ruleset masked = (set_none, set_more, set_same, set_fits)
