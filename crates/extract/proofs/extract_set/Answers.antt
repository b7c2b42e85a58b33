-- `extract::extract_set` meets its contract: the set that it holds is that of the classes which may flow to a member, wherever the call is not refused before.
use mathlib.Core.Path.{ap, ap₂, ◌∙◌}
use mathlib.Core.Bool.{Bool}
use Prim.Native.Nat.{ℕ}
use Rattle.basics.specs.Below.{set_of}
use Rattle.masks.specs.Mask.{member}
use Rattle.extract.specs.Seen.{seen_by_any}
use Rattle.extract.specs.Extract.{are_classes, seen_answer, seen_out, extract_set, out_after_set}
use Rattle.extract.proofs.Answers.{seen-is, same-answers}
use Rattle.extract.proofs.extract_set.Goals as goal

pub returns : goal.returns
unfolding extract_set out_after_set
returns c =
    let a = c.args in
    let p = a.p in
    let named = c.are_classes-named.ensures in
    let set = ap member c.seen_by-seen.ensures in
    let same = same-answers p (are_classes p a.set) a.trace.now a.log.now a.out.now (member (set_of 16 (seen_by_any p a.set))) (seen_by_any p a.set) (λ given class. seen-is p given a.set) in record { value = c.extract_seen.ensures.value ∙ ap₂ (λ (b : Bool) (f : ℕ → Bool). seen_answer p b f a.trace.now a.log.now a.out.now) named set ∙ same.0; out_after = c.extract_seen.ensures.out_after ∙ ap₂ (λ (b : Bool) (f : ℕ → Bool). seen_out p b f a.trace.now a.log.now a.out.now) named set ∙ same.1 }
