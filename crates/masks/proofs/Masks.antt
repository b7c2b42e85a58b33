-- Laws of sets of classes as numbers: what the operators on bits do to each member, that two sets with the same members are one number, and what the
-- masks of `specs/Mask.antt` hold. A member is a bit, and the library has the laws of single bits.
-- Assumes nothing.
use mathlib.Core.Path.{◌≡◌, refl, sym, ap, ap₂, ◌∙◌, subst}
use mathlib.Core.Logic.{◌⊎◌, inl, inr, ⊎_elim}
use mathlib.Core.Bool.{Bool, true, false, cond, not, ◌&&◌, ◌||◌}
use Prim.Native.Nat.{ℕ, zero, suc, ◌+◌, ◌-◌, ◌*◌, ◌/◌, ◌%◌, ◌^◌, ◌≤◌, ◌<◌, zero-le, min, max}
use native.Mathlib.Nat.{le_refl, lt_of_le_of_lt, le_of_suc-le-suc, mod-lt, mod-eq_of_lt, div-add-mod', add_comm, pow-suc, not-suc-le-zero, lt_irrefl}
use native.Mathlib.Omega.{arith}
use borrow.Author.Tests.{eq-eqb, ne_eqb, eqb-true, eqb-false, lt-ltb, le-ltb}
use lib.Dec.{eqb, ltb, lit<}
use lib.Count.{ones, ones_cat}
use lib.Bits.{bit_and, bit_or, or_lt, and_le_l}
use lib.Pow.{pow_pos, shr_lt}
use mir.Syntax.{w16}
use Rattle.std.specs.Int.{bit_at, bit_not}
use Rattle.std.proofs.lemmas.Nat.Bits.{bit_at_lowest, bit_at-lt, bit_at_above, bit_at_cat_low, bit_at_cat_high, bit_at-pow_same, bit_at-pow_other, bit_at_and, bit_at_or, bit_at_not, same_from_bits_below}
use Rattle.basics.specs.Below.{some, sum, count, set_of}
use Rattle.masks.specs.Mask.{member, includes, difference, size, class_mask, below_mask}
use Rattle.basics.proofs.Truth.{either, not-both, same_truth, implies, implication, or_right, or-implied}
use Rattle.basics.proofs.Below.{lt-or-ge, at-or-below, every-at, every-all, some-found, none-at, count_same}

-- ---- single bits

-- the digit b above n others
bit-top : (b n : ℕ) {a : ℕ} → a < 2 ^ n → b < 2 → bit_at (b * 2 ^ n + a) n ≡ b
bit-top b n {a} h k =
    let none : n - n ≡ 0 = omega arith in
    bit_at_cat_high b n a n h (le_refl n) ∙ ap (bit_at b) none ∙ bit_at_lowest b ∙ mod-eq_of_lt k

-- cutting off the digits from n on changes no bit below n
bit_cut : (m n j : ℕ) → j < n → bit_at (m % 2 ^ n) j ≡ bit_at m j
bit_cut m n j h = sym (bit_at_cat_low (m / 2 ^ n) n (m % 2 ^ n) j h) ∙ ap (λ (x : ℕ). bit_at x j) (div-add-mod' m (2 ^ n))

-- the top digit of a number of n + 1 digits
top_digit : (x n : ℕ) → x < 2 ^ suc n → x / 2 ^ n ≡ bit_at x n
top_digit x n h = sym (mod-eq_of_lt (shr_lt 1 n (subst (λ (k : ℕ). x < 2 ^ k) (omega arith) h)))

-- ---- members

-- a digit is 0 or 1
digit : (x : ℕ) → x < 2 → (x ≡ 0) ⊎ (x ≡ 1)
digit zero h = inl refl
digit (suc zero) h = inr refl
digit (suc (suc x)) h = absurd (not-suc-le-zero (le_of_suc-le-suc (le_of_suc-le-suc h)))

-- two digits that are 1 together are equal
same-digit : (x y : ℕ) → x < 2 → y < 2 → eqb x 1 ≡ eqb y 1 → x ≡ y
same-digit x y hx hy e =
    ⊎_elim
    (λ p. ⊎_elim (λ q. p ∙ sym q) (λ q. absurd (not-both (eq-eqb y 1 q) (sym e ∙ ap (λ (d : ℕ). eqb d 1) p))) (digit y hy))
    (λ p. p ∙ sym (eqb-true y 1 (sym e ∙ eq-eqb x 1 p)))
    (digit x hx)

-- sets with the same members are equal
pub same-members : (m k : ℕ) → m < 2 ^ 16 → k < 2 ^ 16 → ((j : ℕ) → j < 16 → member m j ≡ member k j) → m ≡ k
unfolding member
same-members m k hm hk e = same_from_bits_below 16 m k hm hk (λ j l. same-digit (bit_at m j) (bit_at k j) (bit_at-lt m j) (bit_at-lt k j) (e j l))

-- a set has no member past its number's length, and so none past 15
pub member-over : (m n j : ℕ) → m < 2 ^ n → n ≤ j → member m j ≡ false
unfolding member
member-over m n j h l = ap (λ (x : ℕ). eqb x 1) (bit_at_above m n j h l)

-- so the test that a number is a class's tells what is found past 15
pub no_member : (m j : ℕ) → m < 2 ^ 16 → 16 ≤ j → ltb j 16 ≡ member m j
no_member m j h l = le-ltb j 16 l ∙ sym (member-over m 16 j h l)

-- so a member is a class number
pub member-small : (m j : ℕ) → m < 2 ^ 16 → member m j ≡ true → j < 16
member-small m j h e = ⊎_elim (λ l. l) (λ l. absurd (not-both e (member-over m 16 j h l))) (lt-or-ge j 16)

pub member-zero : (j : ℕ) → member 0 j ≡ false
member-zero j = member-over 0 0 j (lit< tt) zero-le

-- a set without members is the empty one, and another has one
pub no-members : (m : ℕ) → m < 2 ^ 16 → some 16 (member m) ≡ false → m ≡ 0
no-members m h e = same-members m 0 h (lit< tt) (λ j l. none-at (member m) 16 e j l ∙ sym (member-zero j))

pub some-member : (m : ℕ) → m < 2 ^ 16 → ((m ≡ 0) → ⊥) → (j : ℕ) × (j < 16) × (member m j ≡ true)
some-member m h full = ⊎_elim (some-found (member m) 16) (λ t. absurd (full (no-members m h t))) (either (some 16 (member m)))

-- a power of two has one member
pub member-power : (c j : ℕ) → member (2 ^ c) j ≡ eqb c j
unfolding member
member-power c j =
    ⊎_elim
    (λ t. let same : j ≡ c = sym (eqb-true c j t) in ap (λ (x : ℕ). eqb x 1) (ap (bit_at (2 ^ c)) same ∙ bit_at-pow_same c) ∙ sym t)
    (λ t. ap (λ (x : ℕ). eqb x 1) (bit_at-pow_other c j (λ e. eqb-false c j t (sym e))) ∙ sym t)
    (either (eqb c j))

-- what holds at each pair of digits
two_digits : (P : ℕ → ℕ → Type 0) → P 0 0 → P 0 1 → P 1 0 → P 1 1 → (x y : ℕ) → x < 2 → y < 2 → P x y
two_digits P p q r t x y hx hy =
    ⊎_elim
    (λ e. subst (λ (k : ℕ). P k y) (sym e) (⊎_elim (λ d. subst (λ (k : ℕ). P 0 k) (sym d) p) (λ d. subst (λ (k : ℕ). P 0 k) (sym d) q) (digit y hy)))
    (λ e. subst (λ (k : ℕ). P k y) (sym e) (⊎_elim (λ d. subst (λ (k : ℕ). P 1 k) (sym d) r) (λ d. subst (λ (k : ℕ). P 1 k) (sym d) t) (digit y hy)))
    (digit x hx)

or-digit : (x y : ℕ) → x < 2 → y < 2 → eqb (max x y) 1 ≡ (eqb x 1 || eqb y 1)
or-digit = two_digits (λ x y. eqb (max x y) 1 ≡ (eqb x 1 || eqb y 1)) refl refl refl refl

pub member-or : (a b j : ℕ) → member (bit_or a b) j ≡ (member a j || member b j)
unfolding member
member-or a b j = ap (λ (x : ℕ). eqb x 1) (bit_at_or a b j) ∙ or-digit (bit_at a j) (bit_at b j) (bit_at-lt a j) (bit_at-lt b j)

without-digit : (x y : ℕ) → x < 2 → y < 2 → eqb (min x (1 - y)) 1 ≡ (eqb x 1 && not (eqb y 1))
without-digit = two_digits (λ x y. eqb (min x (1 - y)) 1 ≡ (eqb x 1 && not (eqb y 1))) refl refl refl refl

-- what is in the first set alone
pub member-without : (a b j : ℕ) → b < 2 ^ 16 → j < 16 → member (bit_and a (bit_not w16 b)) j ≡ (member a j && not (member b j))
unfolding member
member-without a b j h l =
    ap (λ (x : ℕ). eqb x 1) (bit_at_and a (bit_not w16 b) j ∙ ap (min (bit_at a j)) (bit_at_not w16 b j h l))
    ∙ without-digit (bit_at a j) (bit_at b j) (bit_at-lt a j) (bit_at-lt b j)

-- ---- the set of the numbers at which a test passes

module _ (f : ℕ → Bool) where
  pub set_of-below : (n : ℕ) → set_of n f < 2 ^ n
  unfolding set_of sum
  set_of-below zero = lit< tt
  set_of-below (suc n) = rw (pow-suc 2 n) (⊎_elim (λ t. rw t (omega (arith, set_of-below n))) (λ t. rw t (omega (arith, set_of-below n))) (either (f n)))

  -- its top digit is the test at n
  set_of-digits : (n : ℕ) → set_of (suc n) f ≡ cond (f n) 1 0 * 2 ^ n + set_of n f
  unfolding set_of sum
  set_of-digits n = ⊎_elim (λ t. rw t (omega arith)) (λ t. rw t (omega arith)) (either (f n))

  digit-test : (b : Bool) → eqb (cond b 1 0) 1 ≡ b
  digit-test true = refl
  digit-test false = refl

  digit-below : (b : Bool) → cond b 1 0 < 2
  digit-below true = lit< tt
  digit-below false = lit< tt

  pub member-set_of : (n j : ℕ) → j < n → member (set_of n f) j ≡ f j
  unfolding member
  member-set_of zero j h = absurd (not-suc-le-zero h)
  member-set_of (suc n) j h =
      ap (λ (x : ℕ). eqb (bit_at x j) 1) (set_of-digits n)
      ∙ ⊎_elim
      (λ e.
      subst (λ (k : ℕ). eqb (bit_at (cond (f n) 1 0 * 2 ^ n + set_of n f) k) 1 ≡ f k) (sym e)
      (ap (λ (x : ℕ). eqb x 1) (bit-top (cond (f n) 1 0) n (set_of-below n) (digit-below (f n))) ∙ digit-test (f n)))
      (λ l. ap (λ (x : ℕ). eqb x 1) (bit_at_cat_low (cond (f n) 1 0) n (set_of n f) j l) ∙ member-set_of n j l)
      (at-or-below h)

  -- a set is known by its members
  pub is-set_of : (m : ℕ) → m < 2 ^ 16 → ((j : ℕ) → j < 16 → member m j ≡ f j) → m ≡ set_of 16 f
  is-set_of m h e = same-members m (set_of 16 f) h (set_of-below 16) (λ j l. e j l ∙ sym (member-set_of 16 j l))

-- ---- a set within a set

pub includes-at : (m part : ℕ) → includes m part ≡ true → (j : ℕ) → j < 16 → member part j ≡ true → member m j ≡ true
unfolding includes
includes-at m part e j l t = implies (member part j) (member m j) (every-at (λ k. not (member part k) || member m k) 16 e j l) t

pub includes-all : (m part : ℕ) → ((j : ℕ) → j < 16 → member part j ≡ true → member m j ≡ true) → includes m part ≡ true
unfolding includes
includes-all m part h = every-all (λ k. not (member part k) || member m k) 16 (λ j l. implication (member part j) (member m j) (h j l))

-- adding what is there already changes nothing
pub or_includes : (m part : ℕ) → m < 2 ^ 16 → part < 2 ^ 16 → eqb (bit_or m part) m ≡ includes m part
or_includes m part hm hp =
    same_truth (eqb (bit_or m part) m) (includes m part)
    (λ e. includes-all m part (λ j l t. ap (λ (x : ℕ). member x j) (sym (eqb-true (bit_or m part) m e)) ∙ member-or m part j ∙ or_right (member m j) (member part j) t))
    (λ e.
    eq-eqb (bit_or m part) m
    (same-members (bit_or m part) m (or_lt 16 m part hm hp) hm (λ j l. member-or m part j ∙ or-implied (member m j) (member part j) (includes-at m part e j l))))

pub without_is : (m part : ℕ) → m < 2 ^ 16 → part < 2 ^ 16 → bit_and m (65535 - part) ≡ difference m part
unfolding difference
without_is m part hm hp =
    is-set_of (λ j. member m j && not (member part j)) (bit_and m (65535 - part)) (lt_of_le_of_lt (and_le_l m (65535 - part)) hm) (λ j l. member-without m part j hp l)

-- ---- the masks

all_bits : (n : ℕ) → set_of n (λ j. true) ≡ 2 ^ n - 1
unfolding set_of sum
all_bits zero = refl
all_bits (suc n) = rw (all_bits n, pow-suc 2 n) (omega (arith, pow_pos n))

-- "the mask of all classes below a number": those and no other
pub member-below_mask : (n j : ℕ) → j < 16 → member (below_mask n) j ≡ ltb j n
unfolding below_mask
member-below_mask n j h =
    ap (λ (m : ℕ). member m j) (sym (all_bits (min n 16)))
    ∙ ⊎_elim
    (λ l. member-set_of (λ k. true) (min n 16) j (omega arith) ∙ sym (lt-ltb j n l))
    (λ l. past (min n 16) (omega arith) ∙ sym (le-ltb j n l))
    (lt-or-ge j n)
  where
    past : (k : ℕ) → k ≤ j → member (set_of k (λ i. true)) j ≡ false
    past k l = member-over (set_of k (λ i. true)) k j (set_of-below (λ i. true) k) l

-- "The mask of a class (its bit alone ..)"
pub member-class_mask : (c j : ℕ) → j < 16 → member (class_mask c) j ≡ eqb c j
unfolding class_mask
member-class_mask c j h = ⊎_elim (λ l. rw (lt-ltb c 16 l) (alone l)) (λ l. rw (le-ltb c 16 l) (member-zero j ∙ sym (ne_eqb c j (λ e. absurd (lt_irrefl c (omega (arith, e))))))) (lt-or-ge c 16)
  where
    alone : c < 16 → member (2 ^ c) j ≡ eqb c j
    alone l = member-power c j

-- ---- how many members

-- a digit is as many as it says
digit-ones : (x : ℕ) → x < 2 → ones x ≡ cond (eqb x 1) 1 0
unfolding ones
digit-ones x h = ⊎_elim (λ e. rw e refl) (λ e. rw e refl) (digit x h)

-- the digits 1 of a number are its members: the top digit and those below it
ones-members : (n m : ℕ) → m < 2 ^ n → ones m ≡ count n (member m)
unfolding ones count sum member
ones-members zero m h = let none : m ≡ 0 = omega arith in rw none refl
ones-members (suc n) m h =
    let one_or_none : ℕ → ℕ = λ x. cond (eqb x 1) 1 0 in
    let here = digit-ones (m / 2 ^ n) (shr_lt 1 n (subst (λ (k : ℕ). m < 2 ^ k) (omega arith) h)) ∙ ap one_or_none (top_digit m n h) in
    let below = ones-members n (m % 2 ^ n) (mod-lt m (pow_pos n)) ∙ count_same (member (m % 2 ^ n)) (member m) n (λ j l. ap is_one (bit_cut m n j l)) in
    ap ones (sym (div-add-mod' m (2 ^ n)))
    ∙ ones_cat n (m / 2 ^ n) (m % 2 ^ n) (mod-lt m (pow_pos n))
    ∙ ap₂ ◌+◌ here below
    ∙ add_comm _ _
  where
    is_one : ℕ → Bool
    is_one x = eqb x 1

pub size_is : (m : ℕ) → m < 2 ^ 16 → ones m ≡ size m
unfolding size
size_is m h = ones-members 16 m h
