-- `masks::below_mask` meets its contract: the code's table is `below_masks`, and the entry before a number is what the formula gives of that number. Past 16 the formula
-- gives what it gives of 16.
use mathlib.Core.Path.{◌≡◌, sym, ap, ◌∙◌}
use Prim.Native.Nat.{ℕ, ◌+◌, ◌-◌, ◌^◌, ◌<◌, min}
use native.Mathlib.Omega.{arith}
use Rattle.std.proofs.lemmas.Bool.Decides.{nat_tests}
use Rattle.masks.specs.Mask.{below_mask}
use Rattle.masks.specs.Tables.{below_masks}
use Rattle.masks.proofs.Tables.{below-masks}
use Rattle.masks.proofs.below_mask.Goals as goal

pub returns-then-number-eq0 : goal.returns-then-number-eq0
unfolding below_mask
returns-then-number-eq0 c = ap (λ (n : ℕ). 2 ^ min n 16 - 1) (sym c.if-number-eq0.true)

pub returns-else-number-eq0 : goal.returns-else-number-eq0
unfolding below_masks below_mask
returns-else-number-eq0 c =
    let n = c.args.number in
    let k = c.min.result in
    let few : k - 1 < 16 = grind (arith, nat_tests) in
    let back : min (k - 1 + 1) 16 ≡ min n 16 = grind (arith, nat_tests) in
    below-masks.formula (k - 1) few ∙ ap (λ (x : ℕ). 2 ^ x - 1) back
