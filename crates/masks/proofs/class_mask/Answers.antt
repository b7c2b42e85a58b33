-- `masks::class_mask` meets its contract: the code's table is `class_masks`, and each of its entries is what the formula gives. Past the table's end both give 0.
use mathlib.Core.Path.{◌≡◌, sym, ap, ◌∙◌}
use mathlib.Core.Logic.{⊎_elim}
use Prim.Native.Nat.{ℕ}
use borrow.Author.Rules.{rules}
use borrow.Author.Tests.{le-ltb}
use lib.ListN.{get_or, get_or-eq_default}
use Rattle.std.specs.Prelude.{Option, unwrap_or, slice_get}
use Rattle.std.proofs.lemmas.Option.{unwrap_or-slice_get, gets}
use Rattle.basics.proofs.Below.{lt-or-ge}
use Rattle.masks.specs.Mask.{class_mask}
use Rattle.masks.specs.Tables.{class_masks}
use Rattle.masks.proofs.Tables.{class-masks}
use Rattle.masks.proofs.class_mask.Goals as goal

formula : (i : ℕ) → get_or class_masks i 0 ≡ class_mask i
unfolding class_mask
formula i = ⊎_elim (class-masks.formula i) (λ past. get_or-eq_default class_masks 0 (rw class-masks.sixteen past) ∙ sym (rw (le-ltb i 16 past))) (lt-or-ge i 16)

pub returns : goal.returns
unfolding class_masks
returns c =
    let found : c.copied.result ≡ slice_get class_masks c.args.class = search (rules, gets) in
    c.unwrap_or.ensures ∙ ap (λ (o : Option ℕ). unwrap_or o 0) found ∙ unwrap_or-slice_get class_masks c.args.class 0 ∙ formula c.args.class
