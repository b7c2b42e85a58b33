-- W-205: the two tables of masks, as the code has them, and what is proved over each whole table. The proof of the function that reads a table takes the code's for the
-- one here, so it is refused where an entry differs.
use Rattle.std.specs.Prelude.{◌≡◌, List, [], ◌∷◌, ℕ, ◌+◌, ◌<◌, eqb, ltb, length, get_or}
use Rattle.masks.specs.Mask.{member, class_mask, below_mask}

-- "the formula becomes a table of 16 masks each": `CLASS_MASKS` in the code. Entry i is the mask of class i.
unfoldable pub class_masks : List ℕ
class_masks =
    0x0001 ∷ 0x0002 ∷ 0x0004 ∷ 0x0008
    ∷ 0x0010 ∷ 0x0020 ∷ 0x0040 ∷ 0x0080
    ∷ 0x0100 ∷ 0x0200 ∷ 0x0400 ∷ 0x0800
    ∷ 0x1000 ∷ 0x2000 ∷ 0x4000 ∷ 0x8000
    ∷ []

-- `BELOW_MASKS` in the code. Entry i is the mask of all classes below the number i + 1.
unfoldable pub below_masks : List ℕ
below_masks =
    0x0001 ∷ 0x0003 ∷ 0x0007 ∷ 0x000F
    ∷ 0x001F ∷ 0x003F ∷ 0x007F ∷ 0x00FF
    ∷ 0x01FF ∷ 0x03FF ∷ 0x07FF ∷ 0x0FFF
    ∷ 0x1FFF ∷ 0x3FFF ∷ 0x7FFF ∷ 0xFFFF
    ∷ []

-- "entry i holds bit i alone": of whatever bit j, however high. And so it is what the formula gives of class i. Proved of `class_masks`.
pub record BitAlone (table : List ℕ) : Type 0 where
  pub sixteen : length table ≡ 16
  pub bits : (i j : ℕ) → i < 16 → member (get_or table i 0) j ≡ eqb i j
  pub formula : (i : ℕ) → i < 16 → get_or table i 0 ≡ class_mask i

-- "in the second, for number i + 1, bits 0 to i and no other". And so it is what the formula gives of the number i + 1. Proved of `below_masks`.
pub record BitsBelow (table : List ℕ) : Type 0 where
  pub sixteen : length table ≡ 16
  pub bits : (i j : ℕ) → i < 16 → member (get_or table i 0) j ≡ ltb j (i + 1)
  pub formula : (i : ℕ) → i < 16 → get_or table i 0 ≡ below_mask (i + 1)
