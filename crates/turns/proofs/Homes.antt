-- Laws of the home turns. Each class has the places from the sum of the minimums below it up to that sum with its own, so no two classes share a place, and every place
-- below the sum of all minimums is some class's. And of the turns of one epoch, the home turns whose classes pass a test are as many as the minimums of those classes together.
-- Assumes nothing.
use mathlib.Core.Path.{◌≡◌, refl, sym, ap, ap₂, ◌∙◌, subst}
use mathlib.Core.Bool.{Bool, true, false, cond, ◌&&◌}
use mathlib.Core.List.{List}
use Prim.Native.Nat.{ℕ, zero, suc, ◌+◌, ◌%◌, ◌≤◌, ◌<◌}
use native.Mathlib.Nat.{mod-lt, mod-eq_of_lt, le_refl, le_trans}
use native.Mathlib.Numerals.{add-one}
use native.Mathlib.Omega.{arith}
use borrow.Author.Tests.{ltb-true, ltb-false, leb-true, lt-ltb, le-ltb, le-leb, lt-leb}
use lib.Dec.{ltb, lit<}
use lib.ListN.{get_or}
use Rattle.basics.specs.Below.{some, sum, count}
use Rattle.turns.specs.Turns.{minimums_sum, free_turns, home_turn_in, home_place, minimums_below, home_at}
use Rattle.basics.proofs.Truth.{false-unless, not-both, and-fails-left}
use Rattle.basics.proofs.Below.{some-found, some_at, first-is, first_found, count_same, count-all-fail, count-split, count-constant, sum_more, sum_mono}

module _ (minimums : List ℕ) where
  -- ---- the sums

  pub below_more : (c : ℕ) → minimums_below minimums (c + 1) ≡ minimums_below minimums c + get_or minimums c 0
  unfolding minimums_below
  below_more c = sum_more (λ i. get_or minimums i 0) c

  pub below_none : minimums_below minimums 0 ≡ 0
  unfolding minimums_below sum
  below_none = refl

  pub below_all : minimums_below minimums 16 ≡ minimums_sum minimums
  unfolding minimums_below minimums_sum
  below_all = refl

  below-mono : (c d : ℕ) → c ≤ d → minimums_below minimums c ≤ minimums_below minimums d
  unfolding minimums_below
  below-mono c d l = sum_mono (λ i. get_or minimums i 0) c d l

  -- ---- whose a place is

  -- place is one of the places of class c
  pub record Homed (place c : ℕ) : Type 0 where
    pub below : c < 16
    pub not_before : minimums_below minimums c ≤ place
    pub not_after : place < minimums_below minimums c + get_or minimums c 0

  -- class c has used up its minimum only past the place: what `home_at` asks of each class in turn
  abbrev pub past : ℕ → ℕ → Bool
  past place c = ltb place (minimums_below minimums (c + 1))

  -- where no class before c is so, they have used up theirs by then
  used-up : (place c : ℕ) → ((k : ℕ) → k < c → past place k ≡ false) → minimums_below minimums c ≤ place
  used-up place zero h = omega (arith, below_none)
  used-up place (suc k) h = rw (add-one k) at (ltb-false place (minimums_below minimums (k + 1)) (h k (le_refl (suc k))))

  -- every place has a class
  pub home_found : (place : ℕ) → place < minimums_sum minimums → Homed place (home_at minimums place)
  unfolding home_at
  home_found place l =
      let within : place < minimums_below minimums 16 = omega (arith, below_all) in
      let w = first_found (past place) 16 (some_at (past place) 16 15 (lit< tt) (lt-ltb place (minimums_below minimums 16) within)) in
      let c = home_at minimums place in
      record {
        below = w.below;
        not_before = used-up place c w.fails_before;
        not_after = omega (arith, below_more c, ltb-true place (minimums_below minimums (c + 1)) w.passes);
      }

  -- and no other
  pub home-is : (place c : ℕ) → Homed place c → home_at minimums place ≡ c
  unfolding home_at
  home-is place c h =
      first-is (past place) 16 c h.below
      (false-unless (some c (past place))
      (λ t.
      let w = some-found (past place) c t in
      not-both w.2 (le-ltb place (minimums_below minimums (w.0 + 1)) (le_trans (below-mono (w.0 + 1) c (omega (arith, w.1))) h.not_before))))
      (lt-ltb place (minimums_below minimums (c + 1)) (omega (arith, below_more c, h.not_after)))

  -- ---- how many places the classes have that pass a test

  module _ (f : ℕ → Bool) where
    -- those of the classes below d: the places of d itself come right after them, and are as many as its minimum
    places-below : (d : ℕ) → d ≤ 16 → count (minimums_below minimums d) (λ i. f (home_at minimums i)) ≡ sum d (λ c. cond (f c) (get_or minimums c 0) 0)
    unfolding minimums_below sum count
    places-below zero l = refl
    places-below (suc d) l =
        let before = minimums_below minimums d in
        let own = get_or minimums d 0 in
        let here : (i : ℕ) → i < own → f (home_at minimums (before + i)) ≡ f d =
        λ i b. ap f (home-is (before + i) d (record { below = l; not_before = omega arith; not_after = omega arith })) in
        count-split (λ i. f (home_at minimums i)) before own
        ∙ ap₂ ◌+◌ (places-below d (omega arith))
        (count_same (λ i. f (home_at minimums (before + i))) (λ i. f d) own here ∙ count-constant own (f d))

    pub places : count (minimums_sum minimums) (λ i. f (home_at minimums i)) ≡ sum 16 (λ c. cond (f c) (get_or minimums c 0) 0)
    places = subst (λ (n : ℕ). count n (λ i. f (home_at minimums i)) ≡ sum 16 (λ c. cond (f c) (get_or minimums c 0) 0)) below_all (places-below 16 (le_refl 16))

  -- ---- the turns of an epoch

  module _ (epoch : ℕ) (fits : minimums_sum minimums ≤ epoch) where
    pub free-and-home : free_turns epoch minimums + minimums_sum minimums ≡ epoch
    unfolding free_turns
    free-and-home = omega arith

    -- the turns before them are none, and those from there on have the places in their order
    free-turn : (j : ℕ) → j < free_turns epoch minimums → home_turn_in epoch minimums j ≡ false
    unfolding home_turn_in
    free-turn j l =
        let within : j < epoch = omega (arith, free-and-home) in
        lt-leb (free_turns epoch minimums) (j % epoch) (omega (arith, mod-eq_of_lt within))

    home-turn : (i : ℕ) → i < minimums_sum minimums → (home_turn_in epoch minimums (free_turns epoch minimums + i) ≡ true) × (home_place epoch minimums (free_turns epoch minimums + i) ≡ i)
    unfolding home_turn_in home_place
    home-turn i l =
        let within : free_turns epoch minimums + i < epoch = omega (arith, free-and-home) in
        let number = mod-eq_of_lt within in
        (le-leb (free_turns epoch minimums) ((free_turns epoch minimums + i) % epoch) (omega arith), omega arith)

    -- a home turn has a place
    pub home-place : (k : ℕ) → 1 ≤ epoch → home_turn_in epoch minimums k ≡ true → home_place epoch minimums k < minimums_sum minimums
    unfolding home_turn_in home_place
    home-place k one t = omega (arith, free-and-home, mod-lt k {m = epoch} one, leb-true (free_turns epoch minimums) (k % epoch) t)

    -- those whose classes pass a test are as many as the minimums of these classes
    pub home-turns : (f : ℕ → Bool) → count epoch (λ j. home_turn_in epoch minimums j && f (home_at minimums (home_place epoch minimums j))) ≡ sum 16 (λ c. cond (f c) (get_or minimums c 0) 0)
    home-turns f =
        let passes : ℕ → Bool = λ j. home_turn_in epoch minimums j && f (home_at minimums (home_place epoch minimums j)) in
        let free = free_turns epoch minimums in
        let none : count free passes ≡ 0 = count-all-fail passes free (λ j l. and-fails-left _ _ (free-turn j l)) in
        let placed : count (minimums_sum minimums) (λ i. passes (free + i)) ≡ count (minimums_sum minimums) (λ i. f (home_at minimums i)) =
        count_same (λ i. passes (free + i)) (λ i. f (home_at minimums i)) (minimums_sum minimums)
        (λ i l. ap₂ (λ (b : Bool) (place : ℕ). b && f (home_at minimums place)) (home-turn i l).0 (home-turn i l).1) in
        ap (λ (n : ℕ). count n passes) (sym free-and-home) ∙ omega (arith, count-split passes free (minimums_sum minimums), places f)
