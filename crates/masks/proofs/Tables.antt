-- What the two tables of masks hold. One test of a whole table, which the checker computes: each entry is the set of the bits that its rule names. One lemma turns the
-- test into the rule at each entry, bit by bit; and the formula gives the same number, since it has the same members.
-- Assumes nothing.
use mathlib.Core.Path.{◌≡◌, refl, sym, ap, ◌∙◌}
use mathlib.Core.Logic.{⊎_elim}
use mathlib.Core.Bool.{Bool, true, false}
use mathlib.Core.List.{List}
use Prim.Native.Nat.{ℕ, ◌+◌, ◌^◌, ◌≤◌, ◌<◌, min}
use native.Mathlib.Nat.{lt_irrefl}
use native.Mathlib.Omega.{arith}
use borrow.Author.Tests.{ne_eqb, eqb-true, lt-ltb, le-ltb}
use lib.Dec.{eqb, ltb}
use lib.ListN.{get_or}
use lib.Pow.{pow_pos, pow_mono, pow-lt}
use Rattle.basics.specs.Below.{every, sum, set_of}
use Rattle.masks.specs.Mask.{member, class_mask, below_mask}
use Rattle.masks.specs.Tables.{class_masks, below_masks, BitAlone, BitsBelow}
use Rattle.basics.proofs.Below.{lt-or-ge, every-at}
use Rattle.masks.proofs.Masks.{member-over, set_of-below, member-set_of, is-set_of, member-class_mask, member-below_mask}

-- entry i of the table is the set of the bits that the rule names for i
is_entry : (ℕ → ℕ → Bool) → List ℕ → ℕ → Bool
is_entry rule table i = eqb (get_or table i 0) (set_of 16 (rule i))

module _ (rule : ℕ → ℕ → Bool) (table : List ℕ) (holds : every 16 (is_entry rule table) ≡ true) where
  entry_at : (i : ℕ) → i < 16 → get_or table i 0 ≡ set_of 16 (rule i)
  unfolding is_entry
  entry_at i l = eqb-true (get_or table i 0) (set_of 16 (rule i)) (every-at (is_entry rule table) 16 holds i l)

  -- the rule names no bit past 15, and the entry has none
  bits_at : ((i j : ℕ) → i < 16 → 16 ≤ j → rule i j ≡ false) → (i j : ℕ) → i < 16 → member (get_or table i 0) j ≡ rule i j
  bits_at past i j l =
      ap (λ (m : ℕ). member m j) (entry_at i l)
      ∙ ⊎_elim
      (λ h. member-set_of (rule i) 16 j h)
      (λ h. member-over (set_of 16 (rule i)) 16 j (set_of-below (rule i) 16) h ∙ sym (past i j l h))
      (lt-or-ge j 16)

  -- a mask whose members are those that the rule names
  mask_at : (i mask : ℕ) → i < 16 → mask < 2 ^ 16 → ((j : ℕ) → j < 16 → member mask j ≡ rule i j) → get_or table i 0 ≡ mask
  mask_at i mask l h e = entry_at i l ∙ sym (is-set_of (rule i) mask h e)

class-test : every 16 (is_entry eqb class_masks) ≡ true
unfolding every is_entry set_of sum class_masks
class-test = refl

class_mask-below : (i : ℕ) → i < 16 → class_mask i < 2 ^ 16
unfolding class_mask
class_mask-below i l = rw (lt-ltb i 16 l) (pow-lt l)

pub class-masks : BitAlone class_masks
unfolding class_masks
class-masks =
    record {
      sixteen = refl;
      bits = bits_at eqb class_masks class-test (λ i j l h. ne_eqb i j (λ e. lt_irrefl i (omega (arith, e))));
      formula = λ i l. mask_at eqb class_masks class-test i (class_mask i) l (class_mask-below i l) (member-class_mask i);
    }

up_to : ℕ → ℕ → Bool
up_to i j = ltb j (i + 1)

below-test : every 16 (is_entry up_to below_masks) ≡ true
unfolding every is_entry set_of sum up_to below_masks
below-test = refl

below_mask-below : (n : ℕ) → below_mask n < 2 ^ 16
unfolding below_mask
below_mask-below n = omega (arith, pow_pos (min n 16), pow_mono few)
  where
    few : min n 16 ≤ 16
    few = omega arith

pub below-masks : BitsBelow below_masks
unfolding below_masks up_to
below-masks =
    record {
      sixteen = refl;
      bits = bits_at up_to below_masks below-test (λ i j l h. le-ltb j (i + 1) (omega arith));
      formula = λ i l. mask_at up_to below_masks below-test i (below_mask (i + 1)) l (below_mask-below (i + 1)) (member-below_mask (i + 1));
    }
