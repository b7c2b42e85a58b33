-- What the library's `map` and `sum` over the numbers below a bound answer in the words of basics' `Below`, where the closure gives 1 for a number that passes and 0 for another: at how many of them the test passes.
-- Assumes nothing.
use mathlib.Core.Path.{◌≡◌, refl, sym, ap, ap₂, ◌∙◌}
use mathlib.Core.Logic.{⊎_elim}
use mathlib.Core.Bool.{Bool, true, false, cond}
use mathlib.Core.List.{List}
use mir.Val.{bool_byte}
use Prim.Native.Nat.{ℕ, zero, suc, ◌+◌, ◌*◌, ◌<◌}
use native.Mathlib.Numerals.{add-one}
use native.Mathlib.Omega.{arith}
use denote.Param.Members.{Mut}
use Rattle.std.specs.declared.ops.Range.{Range}
use Rattle.std.specs.Iterator.{Drains}
use Rattle.std.specs.Iterator.Runs.{EachRunFrom}
use Rattle.std.specs.Iterator.Adapters.{map_source, map_callee}
use Rattle.std.specs.Prelude.{⊤, map}
use Rattle.std.specs.List.{fold, range_with_len}
use Rattle.std.specs.List.{sum as total}
use Rattle.std.proofs.lemmas.Iterator.{maps, YieldsList, YieldsList-from_range, YieldsList-from_map}
use Rattle.std.proofs.lemmas.Iterator.Consumers.{sum_from_yields_List, fits_from_yields_list}
use Rattle.std.proofs.lemmas.List.FromFn.{sum_by-map-range_with_len_more}
use Rattle.basics.specs.Below.{sum, count}
use Rattle.basics.proofs.Below.{count-le}
use Rattle.basics.proofs.Truth.{either}
use Rattle.basics.proofs.Ranges.{below, steps, Computes}

-- a test as a number
pub byte-of : (b : Bool) → bool_byte b ≡ cond b 1 0
byte-of true = refl
byte-of false = refl

module _ (f : ℕ → Bool) where
  -- the sum of the tests of the numbers below n is how many of them pass
  tests-total : (n : ℕ) → total (map (λ i. bool_byte (f i)) (range_with_len 0 n)) ≡ count n f
  unfolding count sum
  tests-total zero = refl
  tests-total (suc n) =
      ap (λ (k : ℕ). total (map (λ i. bool_byte (f i)) (range_with_len 0 k))) (sym (add-one n))
      ∙ sum_by-map-range_with_len_more (λ (x : ℕ). x) (λ i. bool_byte (f i)) 0 n n (omega arith)
      ∙ ap₂ ◌+◌ (tests-total n) (byte-of (f n))

  module _ {F : Type 0} {g : Mut F (ℕ × Unit {0}) ℕ} (n : ℕ) (h : F) (s : _) (source : map_source {I = Range ℕ} {F = F} s ≡ below n) (callee : map_callee s ≡ h)
      (tests : Computes g h (λ i. bool_byte (f i))) where
    tests-listed : YieldsList (maps steps g) (λ x. x) s (map (λ i. bool_byte (f i)) (range_with_len 0 n))
    tests-listed = YieldsList-from_map g (λ i. bool_byte (f i)) (YieldsList-from_range 0 n n source (omega arith)) callee tests

    pub counted_below : (r : ℕ) → ((xs : List ℕ) × (⊤ → Drains (maps steps g) s xs) × (r ≡ fold (λ a x. a + x) 0 xs)) → r ≡ count n f
    counted_below r ran = sum_from_yields_List s r ran tests-listed ∙ tests-total n

    -- and it fits, since no more of them pass than there are
    pub count-fits : (top : ℕ) → n < top → EachRunFrom (maps steps g) s (λ p. fold (λ a x. a + x) 0 p.items < top)
    count-fits top small = fits_from_yields_list s top tests-listed (omega (arith, tests-total n, count-le f n, small))

  -- what is 0 at first, and c more after each number that passes
  pub counted_up : (g : ℕ → ℕ) (c n : ℕ) → g 0 ≡ 0 → ((i : ℕ) → i < n → g (i + 1) ≡ g i + cond (f i) c 0) → c * count n f ≡ g n
  unfolding count sum
  counted_up g c zero none more = omega (arith, none)
  counted_up g c (suc n) none more =
      let before = counted_up g c n none (λ i l. more i (omega arith)) in
      let here : g (suc n) ≡ g n + cond (f n) c 0 = ap g (sym (add-one n)) ∙ more n (omega arith) in
      ⊎_elim
      (λ (e : f n ≡ true). let at : g (suc n) ≡ g n + c = here ∙ ap (λ (b : Bool). g n + cond b c 0) e in rw e (grind (arith, at, before)))
      (λ (e : f n ≡ false). let at : g (suc n) ≡ g n + 0 = here ∙ ap (λ (b : Bool). g n + cond b c 0) e in rw e (grind (arith, at, before)))
      (either (f n))
