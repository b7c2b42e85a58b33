-- `turns::minimums_sum` meets its contract: the library's sum of a list is that of what stands at its places, and sixteen numbers of 32 bits fit 64.
use mathlib.Core.Path.{◌≡◌, refl, sym, ap, ◌∙◌}
use mathlib.Core.List.{List}
use Prim.Native.Nat.{ℕ, zero, suc, ◌+◌, ◌*◌, ◌≤◌, ◌<◌, zero-le}
use native.Mathlib.Numerals.{add-one}
use native.Mathlib.Nat.{le_refl}
use native.Mathlib.Omega.{arith}
use mir.Syntax.{w32}
use mir.Val.{Fits}
use lib.ListN.{length, get_or, take}
use lib.Seq.{take-length}
use Rattle.std.proofs.Common.{rules, tests}
use Rattle.std.specs.List.{sum as total}
use Rattle.std.proofs.lemmas.Iterator.{YieldsList-from_slice, YieldsList-from_map}
use Rattle.std.proofs.lemmas.Iterator.Consumers.{YieldsList-at, sum_by_from_yields_List, fits_by_from_yields_list}
use Rattle.std.proofs.lemmas.List.Sums.{sum_by_more}
use Rattle.basics.specs.Below.{sum}
use Rattle.turns.specs.Turns.{minimums_sum, minimums_below}
use Rattle.turns.proofs.minimums_sum.Goals as goal
use Rattle.turns.proofs.minimums_sum.Goals.{After-map}

-- the sum of a list's first numbers
first-total : (xs : List ℕ) (n : ℕ) → n ≤ length xs → total (take n xs) ≡ sum n (λ i. get_or xs i 0)
unfolding sum
first-total xs zero h = refl
first-total xs (suc n) h =
    ap (λ (k : ℕ). total (take k xs)) (sym (add-one n)) ∙ sum_by_more (λ (x : ℕ). x) xs n 0 h ∙ ap (λ (k : ℕ). k + get_or xs n 0) (first-total xs n (omega arith))

listed-total : (xs : List ℕ) → total xs ≡ sum (length xs) (λ i. get_or xs i 0)
listed-total xs = ap total (sym (take-length xs)) ∙ first-total xs (length xs) (le_refl (length xs))

-- numbers of 32 bits
small : (g : ℕ → ℕ) (n : ℕ) → ((i : ℕ) → i < n → g i < 4294967296) → sum n g ≤ n * 4294967296
unfolding sum
small g zero h = zero-le
small g (suc n) h = omega (arith, small g n (λ i l. h i (omega arith)), h n (le_refl (suc n)))

sixteen : (minimums : List ℕ) → length minimums ≡ 16 → total minimums ≡ minimums_sum minimums
unfolding minimums_sum minimums_below
sixteen minimums long = listed-total minimums ∙ ap (λ (k : ℕ). sum k (λ i. get_or minimums i 0)) long

pub sum-requires-clause-fits : goal.sum-requires-clause-fits
unfolding minimums_sum minimums_below
sum-requires-clause-fits c =
    let each : (i : ℕ) → i < 16 → get_or c.args.minimums i 0 < 4294967296 = λ i l. let fits : Fits w32 (get_or c.args.minimums i 0) = search rules in omega arith in
    let top = small (λ i. get_or c.args.minimums i 0) 16 each in
    let same = sixteen c.args.minimums (search rules) in
    fits_by_from_yields_list (λ (x : ℕ). x) c.args.minimums c.map.result _
    (YieldsList-from_map _ (λ (x : ℕ). x) (YieldsList-at c.map.ensures.source (YieldsList-from_slice c.args.minimums (cc))) c.map.ensures.closure (λ x r q k. search (rules, tests)))
    (omega arith)

pub returns : goal.returns
returns c =
    let summed : c.sum.result ≡ minimums_sum c.args.minimums =
    sum_by_from_yields_List (λ (x : ℕ). x) c.args.minimums c.map.result c.sum.result c.sum.ensures.ran
    (YieldsList-from_map _ (λ (x : ℕ). x) (YieldsList-at c.map.ensures.source (YieldsList-from_slice c.args.minimums (cc))) c.map.ensures.closure (λ x r q k. search (rules, tests)))
    ∙ sixteen c.args.minimums (search rules)
    in
    grind (arith, summed)
