-- What is pending, from one cycle to the next: what was due has gone out, what is new is due its delay later, and the rest is one cycle nearer.
-- Assumes nothing.
use mathlib.Core.Path.{◌≡◌, refl, sym, ap, ◌∙◌, subst}
use mathlib.Core.Logic.{◌⊎◌, inl, inr, ⊎_elim}
use mathlib.Core.List.{List}
use Prim.Native.Nat.{ℕ, ◌+◌, ◌%◌, ◌≤◌, ◌<◌}
use native.Mathlib.Nat.{not-suc-le-zero}
use native.Mathlib.Omega.{arith}
use borrow.Author.Tests.{eqb-true, eqb-false}
use lib.Dec.{eqb}
use lib.ListN.{length, get_or, set}
use lib.Seq.{get_or-set_same, get_or-set_other}
use Rattle.basics.proofs.Truth.{either}
use Rattle.basics.proofs.Stores.{stored_at}
use Rattle.basics.proofs.Below.{lt-or-ge}
use Rattle.flight.specs.Flight.{due_at, sent_at}
use Rattle.rules.specs.History.{Each}

-- 32 cycles on is the same place
wraps : (t d : ℕ) → d ≡ 31 → (t + 1 + d) % 32 ≡ t % 32
wraps t d e = omega (arith, e)

not_last : (d : ℕ) → d < 32 → ((d ≡ 31) → ⊥) → d + 1 < 32
not_last d l e =
    ⊎_elim (λ (h : d < 31). omega (arith, h)) (λ (h : 31 ≤ d). let same : d ≡ 31 = omega (arith, l, h) in absurd (e same)) (lt-or-ge d 31)

-- fewer cycles on is another
apart : (t delay : ℕ) → 1 ≤ delay → delay < 32 → t % 32 ≡ (t + delay) % 32 → ⊥
apart t delay some small e = let none : delay ≡ 0 = omega (arith, small, e) in not-suc-le-zero {n = 0} (subst (λ (k : ℕ). 1 ≤ k) none some)

-- every cycle has its place
pub inside : (pending : List ℕ) → length pending ≡ 32 → (k : ℕ) → k % 32 < length pending
inside pending long k = subst (λ (m : ℕ). k % 32 < m) (sym long) (omega arith)

-- ---- what holds of each word that is due, d cycles after the next tick

-- it will hold a cycle later
abbrev pub Later : (ℕ → ℕ → Type 0) → ℕ → ℕ → Type 0
Later Q d w = (e : ℕ) → d ≡ e + 1 → Q e w

module _ (P Q : ℕ → ℕ → Type 0) (t : ℕ) (pending : List ℕ) where
  pub each_map : ((d w : ℕ) → P d w → Q d w) → Each P t pending → Each Q t pending
  each_map f h d l = ⊎_elim inl (λ x. inr (f d (due_at pending (t + d)) x)) (h d l)

module _ (Q : ℕ → ℕ → Type 0) (t : ℕ) (pending : List ℕ) where
  -- a cycle goes by in which nothing is due any more
  pub each_next : due_at pending t ≡ 0 → Each (Later Q) t pending → Each Q (t + 1) pending
  unfolding due_at
  each_next none h d l =
      ⊎_elim
      (λ e. inl (ap (λ (k : ℕ). get_or pending k 0) (wraps t d (eqb-true d 31 e)) ∙ none))
      (λ e.
      let shift : t + (d + 1) ≡ t + 1 + d = omega arith in
      subst (λ (k : ℕ). (due_at pending k ≡ 0) ⊎ Q d (due_at pending k)) shift (⊎_elim inl (λ f. inr (f d refl)) (h (d + 1) (not_last d l (eqb-false d 31 e)))))
      (either (eqb d 31))

module _ (P : ℕ → ℕ → Type 0) (t : ℕ) (pending : List ℕ) (long : length pending ≡ 32) where
  -- what was due has gone out
  pub sent-none : due_at (sent_at pending t) t ≡ 0
  unfolding due_at sent_at
  sent-none = get_or-set_same pending (t % 32) 0 0 (inside pending long t)

  pub each-sent : Each P t pending → Each P t (sent_at pending t)
  unfolding due_at sent_at
  each-sent h d l = stored_at (λ x. (x ≡ 0) ⊎ P d x) pending (t % 32) 0 ((t + d) % 32) (inside pending long t) (λ e. inl refl) (λ e. h d l)

  -- a word is added that is due so many cycles later
  module _ (w delay : ℕ) where
    pub each-added : delay < 32 → P delay w → Each P t pending → Each P t (set pending ((t + delay) % 32) w)
    unfolding due_at
    each-added small new h d l =
        stored_at (λ x. (x ≡ 0) ⊎ P d x) pending ((t + delay) % 32) w ((t + d) % 32) (inside pending long (t + delay))
        (λ e. let same : delay ≡ d = omega (arith, e, small, l) in inr (subst (λ (k : ℕ). P k w) same new))
        (λ e. h d l)

    pub added_none : 1 ≤ delay → delay < 32 → due_at pending t ≡ 0 → due_at (set pending ((t + delay) % 32) w) t ≡ 0
    unfolding due_at
    added_none some small none = get_or-set_other pending ((t + delay) % 32) (t % 32) w 0 (apart t delay some small) ∙ none
