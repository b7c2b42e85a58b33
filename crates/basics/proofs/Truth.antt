-- Laws of truth values: what a test that passed or failed says of its parts, and what it picks.
-- Assumes nothing.
use mathlib.Core.Path.{◌≡◌, refl, sym, ap, ap₂, ◌∙◌}
use mathlib.Core.Logic.{◌⊎◌, inl, inr}
use mathlib.Core.Bool.{Bool, true, false, cond, not, ◌&&◌, ◌||◌, true≢false, false≢true, and-eq-true_iff}

-- a truth value is one of the two
pub either : (b : Bool) → (b ≡ true) ⊎ (b ≡ false)
either true = inl refl
either false = inr refl

pub false-unless : (b : Bool) → ((b ≡ true) → ⊥) → b ≡ false
false-unless true h = absurd (h refl)
false-unless false h = refl

pub true-unless : (b : Bool) → ((b ≡ false) → ⊥) → b ≡ true
true-unless true h = refl
true-unless false h = absurd (h refl)

pub not-both : {b : Bool} → b ≡ true → b ≡ false → ⊥
not-both p q = true≢false (sym p ∙ q)

-- two truth values of which each makes the other true
pub same_truth : (a b : Bool) → ((a ≡ true) → b ≡ true) → ((b ≡ true) → a ≡ true) → a ≡ b
same_truth true b f g = sym (f refl)
same_truth false true f g = g refl
same_truth false false f g = refl

pub and_left : (a b : Bool) → (a && b) ≡ true → a ≡ true
and_left a b e = ((and-eq-true_iff a b).0 e).0

pub and_right : (a b : Bool) → (a && b) ≡ true → b ≡ true
and_right a b e = ((and-eq-true_iff a b).0 e).1

pub and_both : {a b : Bool} → a ≡ true → b ≡ true → (a && b) ≡ true
and_both {a} {b} p q = (and-eq-true_iff a b).1 (p, q)

pub and-three : (a b c : Bool) → (a && b && c) ≡ true → (a ≡ true) × (b ≡ true) × (c ≡ true)
and-three a b c e = let ab = and_left (a && b) c e in (and_left a b ab, and_right a b ab, and_right (a && b) c e)

pub and-four : (a b c d : Bool) → (a && b && c && d) ≡ true → (a ≡ true) × (b ≡ true) × (c ≡ true) × (d ≡ true)
and-four a b c d e = let abc = and-three a b c (and_left (a && b && c) d e) in (abc.0, abc.1, abc.2, and_right (a && b && c) d e)

pub or_left : (a b : Bool) → a ≡ true → (a || b) ≡ true
or_left true b p = refl
or_left false b p = absurd (false≢true p)

pub or_right : (a b : Bool) → b ≡ true → (a || b) ≡ true
or_right true b p = refl
or_right false b p = p

pub or_cases : (a b : Bool) → (a || b) ≡ true → (a ≡ true) ⊎ (b ≡ true)
or_cases true b e = inl refl
or_cases false b e = inr e

-- an implication, written `not a || b`
pub implies : (a b : Bool) → (not a || b) ≡ true → a ≡ true → b ≡ true
implies true b e p = e
implies false b e p = absurd (false≢true p)

pub implication : (a b : Bool) → ((a ≡ true) → b ≡ true) → (not a || b) ≡ true
implication true b h = h refl
implication false b h = refl

-- what already follows adds nothing
pub or-implied : (a b : Bool) → ((b ≡ true) → a ≡ true) → (a || b) ≡ a
or-implied true b h = refl
or-implied false true h = sym (h refl)
or-implied false false h = refl

pub not-true : (a : Bool) → not a ≡ true → a ≡ false
not-true true e = sym e
not-true false e = refl

pub not-false : (a : Bool) → a ≡ false → not a ≡ true
not-false true e = absurd (true≢false e)
not-false false e = refl

pub not-not : (a : Bool) → not a ≡ false → a ≡ true
not-not true e = refl
not-not false e = absurd (true≢false e)

pub and-fails-left : (a b : Bool) → a ≡ false → (a && b) ≡ false
and-fails-left true b e = absurd (true≢false e)
and-fails-left false b e = refl

pub and-fails-right : (a b : Bool) → b ≡ false → (a && b) ≡ false
and-fails-right true b e = e
and-fails-right false b e = refl

pub or-fails : (a b : Bool) → a ≡ false → b ≡ false → (a || b) ≡ false
or-fails false false e f = refl
or-fails true b e f = absurd (not-both refl e)
or-fails false true e f = absurd (not-both refl f)

pub and_comm : (a b : Bool) → (a && b) ≡ (b && a)
and_comm true true = refl
and_comm true false = refl
and_comm false true = refl
and_comm false false = refl

pub and-true : (a : Bool) → (a && true) ≡ a
and-true true = refl
and-true false = refl

pub or-false : (a : Bool) → (a || false) ≡ a
or-false true = refl
or-false false = refl

-- ---- what a test picks

pub on-true : {A : Type 0} (b : Bool) (x y : A) → b ≡ true → (elim b as (λ z. A) [ true ↦ x | false ↦ y ]) ≡ x
on-true true x y e = refl
on-true false x y e = absurd (not-both e refl)

pub on-false : {A : Type 0} (b : Bool) (x y : A) → b ≡ false → (elim b as (λ z. A) [ true ↦ x | false ↦ y ]) ≡ y
on-false true x y e = absurd (not-both refl e)
on-false false x y e = refl

-- of two equal ones
pub on-either : {A : Type 0} (b : Bool) (x : A) → cond b x x ≡ x
on-either true x = refl
on-either false x = refl

-- of two with a property
pub on_both : {A : Type 0} (P : A → Type 0) (b : Bool) (x y : A) → P x → P y → P (cond b x y)
on_both P true x y v w = v
on_both P false x y v w = w
