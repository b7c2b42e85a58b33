-- Turns and cycles: from one cycle to the next, the turn's number and the ticks until the next turn.
-- Assumes nothing.
use mathlib.Core.Path.{◌≡◌, sym, ap, ◌∙◌}
use mathlib.Core.Logic.{◌≢◌, ⊎_elim}
use mathlib.Core.Bool.{Bool, true, false, cond}
use Prim.Native.Nat.{ℕ, suc, ◌+◌, ◌-◌, ◌/◌, ◌%◌, ◌≤◌, ◌<◌}
use native.Mathlib.Nat.{not-suc-le-zero, mod-lt, mod-eq_of_lt, mod_self, suc-mod, mod-add-div', div-eq_of_lt-le, div-eq_of_eq-mul_left}
use native.Mathlib.Omega.{arith}
use borrow.Author.Tests.{eqb-true, eqb-false, eq-eqb, ne_eqb}
use Rattle.policy.specs.declared.Policy.{Policy}
use Rattle.basics.proofs.Below.{lt-or-ge}
use Rattle.rules.specs.Step.{turn_starts, turn_number}
use Rattle.rules.specs.History.{turn_before, until_turn}

-- ---- remainders

pub next-within : (t m : ℕ) → t % m + 1 < m → (t + 1) % m ≡ t % m + 1
next-within t m l =
    let one : t + 1 ≡ suc t = omega arith in
    let two : suc (t % m) ≡ t % m + 1 = omega arith in
    ap (λ (k : ℕ). k % m) one ∙ suc-mod t m ∙ ap (λ (k : ℕ). k % m) two ∙ mod-eq_of_lt l

pub next-wraps : (t m : ℕ) → t % m + 1 ≡ m → (t + 1) % m ≡ 0
next-wraps t m e =
    let one : t + 1 ≡ suc t = omega arith in
    let two : suc (t % m) ≡ m = omega (arith, e) in
    ap (λ (k : ℕ). k % m) one ∙ suc-mod t m ∙ ap (λ (k : ℕ). k % m) two ∙ mod_self m

-- ---- quotients

same-quotient : (t m : ℕ) → 0 < m → t % m + 1 < m → (t + 1) / m ≡ t / m
same-quotient t m some l =
    let parts = mod-add-div' t m in
    div-eq_of_lt-le m (omega (arith, parts)) (omega (arith, parts, l))

next-quotient : (t m : ℕ) → 0 < m → t % m + 1 ≡ m → (t + 1) / m ≡ t / m + 1
next-quotient t m some e = let parts = mod-add-div' t m in div-eq_of_eq-mul_left some (omega (arith, parts, e))

-- ---- turns

module _ (p : Policy) (long : 2 ≤ p.timing.turn) where
  abbrev turn : ℕ
  turn = p.timing.turn

  some : 0 < turn
  some = omega (arith, long)

  until : (t : ℕ) → t % turn ≢ 0 → until_turn p t ≡ turn - t % turn
  unfolding until_turn turn_starts
  until t apart = ap (λ (b : Bool). cond b 0 (turn - t % turn)) (ne_eqb (t % turn) 0 apart)

  until_none : (t : ℕ) → t % turn ≡ 0 → until_turn p t ≡ 0
  unfolding until_turn turn_starts
  until_none t e = ap (λ (b : Bool). cond b 0 (turn - t % turn)) (eq-eqb (t % turn) 0 e)

  -- how far the next turn is from the next cycle
  next-until : (t : ℕ) → until_turn p (t + 1) + 1 + t % turn ≡ turn
  next-until t =
      ⊎_elim
      (λ l. let r = next-within t turn l in let u = until (t + 1) (λ z. not-suc-le-zero {n = t % turn} (omega (arith, r, z))) in omega (arith, u, r, l))
      (λ l. let last : t % turn + 1 ≡ turn = omega (arith, l, mod-lt t some) in let u = until_none (t + 1) (next-wraps t turn last) in omega (arith, u, last))
      (lt-or-ge (t % turn + 1) turn)

  -- at a turn's first cycle the next turn is a whole turn away from it, and within a turn a cycle nearer each time
  pub until-start : (t : ℕ) → turn_starts p t ≡ true → (until_turn p t ≡ 0) × (until_turn p (t + 1) + 1 ≡ turn)
  unfolding turn_starts
  until-start t e = let z = eqb-true (t % turn) 0 e in (until_none t z, omega (arith, next-until t, z))

  pub until-nearer : (t : ℕ) → turn_starts p t ≡ false → until_turn p t ≡ until_turn p (t + 1) + 1
  unfolding turn_starts
  until-nearer t e = let u = until t (eqb-false (t % turn) 0 e) in omega (arith, u, next-until t, mod-lt t some)

  -- the offsets at which a kept dead time lets the owner activate are that far from the next turn
  pub offset-far : (t dead : ℕ) → t % turn + dead < turn → dead ≤ until_turn p (t + 1)
  offset-far t dead l = omega (arith, next-until t, l)

  -- a turn's number is that of the turn before and one, and within a turn it stays
  pub number-start : (t : ℕ) → 1 ≤ t → turn_starts p t ≡ true → turn_number p t ≡ turn_before p t + 1
  unfolding turn_starts turn_number turn_before
  number-start t h e =
      let before : t - 1 + 1 ≡ t = omega (arith, h) in
      let rest : (t - 1 + 1) % turn ≡ 0 = ap (λ (k : ℕ). k % turn) before ∙ eqb-true (t % turn) 0 e in
      let last : (t - 1) % turn + 1 ≡ turn =
      ⊎_elim
      (λ l. absurd (not-suc-le-zero {n = (t - 1) % turn} (omega (arith, next-within (t - 1) turn l, rest))))
      (λ l. omega (arith, l, mod-lt (t - 1) some))
      (lt-or-ge ((t - 1) % turn + 1) turn)
      in
      ap (λ (k : ℕ). k / turn) (sym before) ∙ next-quotient (t - 1) turn some last

  pub number-stays : (t : ℕ) → 1 ≤ t → turn_starts p t ≡ false → turn_number p t ≡ turn_before p t
  unfolding turn_starts turn_number turn_before
  number-stays t h e =
      let before : t - 1 + 1 ≡ t = omega (arith, h) in
      ap (λ (k : ℕ). k / turn) (sym before)
      ∙ same-quotient (t - 1) turn some
      (⊎_elim
      (λ (l : (t - 1) % turn + 1 < turn). l)
      (λ (l : turn ≤ (t - 1) % turn + 1).
      let last : (t - 1) % turn + 1 ≡ turn = omega (arith, l, mod-lt (t - 1) some) in
      absurd (eqb-false (t % turn) 0 e (ap (λ (k : ℕ). k % turn) (sym before) ∙ next-wraps (t - 1) turn last)))
      (lt-or-ge ((t - 1) % turn + 1) turn))
