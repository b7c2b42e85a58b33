-- Past a list's end stands 0. A store leaves what was stored at its place, and at any other what stood there; a run of stores, `sets`, behind what is written already adds to it.
-- Assumes nothing.
use mathlib.Core.Path.{◌≡◌, sym, ap, ◌∙◌, subst}
use mathlib.Core.Logic.{◌≢◌, ⊎_elim}
use mathlib.Core.List.{List, [], ◌∷◌, ◌++◌}
use Prim.Native.Nat.{ℕ, suc, ◌+◌, ◌≤◌, ◌<◌}
use native.Mathlib.Nat.{add-zero}
use native.Mathlib.Omega.{arith}
use borrow.Author.Tests.{eqb-true, eqb-false}
use lib.Dec.{eqb}
use lib.ListN.{length, get_or, set, drop, length-append, length-drop, get_or-eq_default}
use lib.Seq.{get_or-set_same, get_or-set_other, sets, sets-eq, take_at, drop-append-add, drop-drop}
use Rattle.basics.proofs.Truth.{either}

-- past the end of a list of so many stands 0
pub past_end : {n : ℕ} (l : List ℕ) (i : ℕ) → length l ≡ n → n ≤ i → 0 ≡ get_or l i 0
past_end l i long past = sym (get_or-eq_default l 0 (omega (arith, long)))

-- what holds of one number, and of a number if it is another, holds of that number
pub same-or-other : (P : ℕ → Type 0) (i j : ℕ) → P i → (j ≢ i → P j) → P j
same-or-other P i j here there = ⊎_elim (λ e. subst P (sym (eqb-true j i e)) here) (λ e. there (eqb-false j i e)) (either (eqb j i))

-- what holds of the number stored, if its place is the one looked at, and of what stood there, if it is another, holds of what is found there
pub stored_at : (P : ℕ → Type 0) (l : List ℕ) (i x j : ℕ) → i < length l → ((j ≡ i) → P x) → (j ≢ i → P (get_or l j 0)) → P (get_or (set l i x) j 0)
stored_at P l i x j inside new old =
    ⊎_elim
    (λ e.
    let here = eqb-true j i e in
    subst P (sym (ap (λ (k : ℕ). get_or (set l i x) k 0) here ∙ get_or-set_same l i x 0 inside)) (new here))
    (λ e. let other = eqb-false j i e in subst P (sym (get_or-set_other l i j x 0 other)) (old other))
    (either (eqb j i))

-- and so with two lists, stored into at one place
pub stored-in-both : (P : ℕ → ℕ → Type 0) (l m : List ℕ) (i x y j : ℕ) → i < length l → i < length m → ((j ≡ i) → P x y) → (j ≢ i → P (get_or l j 0) (get_or m j 0)) → P (get_or (set l i x) j 0) (get_or (set m i y) j 0)
stored-in-both P l m i x y j inside within new old =
    stored_at (λ a. P a (get_or (set m i y) j 0)) l i x j inside
    (λ here. stored_at (P x) m i y j within new (λ other. absurd (other here)))
    (λ other. stored_at (P (get_or l j 0)) m i y j within (λ here. absurd (other here)) old)

-- two runs, the second where the first ends
pub sets-append : (vs ws l : List ℕ) (i : ℕ) → sets (sets l i vs) (i + length vs) ws ≡ sets l i (vs ++ ws)
sets-append [] ws l i = rw (add-zero i)
sets-append (v ∷ vs) ws l i =
    let e : i + suc (length vs) ≡ suc i + length vs = omega arith in
    rw e (sets-append vs ws (set l i v) (suc i))

-- what stands behind a part that is as long as what was dropped
behind : (p l : List ℕ) (n m : ℕ) → length p ≡ n → drop (n + m) (p ++ drop n l) ≡ drop (n + m) l
behind p l n m e = ap (λ (k : ℕ). drop (k + m) (p ++ drop n l)) (sym e) ∙ drop-append-add p (drop n l) m ∙ drop-drop m n l

-- a run of stores behind the n elements that are written already
pub written-more : (p vs l : List ℕ) (n : ℕ) → length p ≡ n → n + length vs ≤ length l → sets (p ++ drop n l) n vs ≡ p ++ vs ++ drop (n + length vs) l
written-more p vs l n e h =
    let whole : length (p ++ drop n l) ≡ length l = simp (length-append, length-drop) (omega (arith, e)) in
    sets-eq vs (p ++ drop n l) n (omega arith)
    ∙ ap (λ (q : List ℕ). q ++ vs ++ drop (n + length vs) (p ++ drop n l)) (take_at p (drop n l) n e)
    ∙ ap (λ (q : List ℕ). p ++ vs ++ q) (behind p l n (length vs) e)

-- four stores in a row are a run
pub four : (l : List ℕ) (i a b c d : ℕ) → set (set (set (set l i a) (i + 1) b) (i + 2) c) (i + 3) d ≡ sets l i (a ∷ b ∷ c ∷ d ∷ [])
four l i a b c d =
    let e1 : i + 1 ≡ suc i = omega arith in
    let e2 : i + 2 ≡ suc (suc i) = omega arith in
    let e3 : i + 3 ≡ suc (suc (suc i)) = omega arith in
    rw (e3, e2, e1)
