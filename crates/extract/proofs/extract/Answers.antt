-- `extract::extract` meets its contract: the class is asked for as the set of it alone, to which the same classes may flow wherever the call is not refused before.
use mathlib.Core.Path.{ap, ap₂, ◌∙◌}
use mathlib.Core.Bool.{Bool}
use Prim.Native.Nat.{ℕ}
use Rattle.basics.specs.Below.{set_of}
use Rattle.masks.specs.Mask.{member, class_mask}
use Rattle.policy.specs.Policy.{is_class}
use Rattle.extract.specs.Seen.{seen_by, seen_by_any}
use Rattle.extract.specs.Extract.{seen_answer, seen_out, extract, out_after}
use Rattle.extract.proofs.Answers.{seen-masked, same-answers}
use Rattle.extract.proofs.extract.Goals as goal

pub returns : goal.returns
unfolding extract out_after is_class
returns c =
    let a = c.args in
    let p = a.p in
    let l = a.class in
    let named = c.is_class-named.ensures in
    let set = ap member (c.seen_by-seen.ensures ∙ ap (λ (m : ℕ). set_of 16 (seen_by_any p m)) (c.from.ensures ∙ c.class_mask.ensures)) in
    let same = same-answers p (is_class p l) a.trace.now a.log.now a.out.now (member (set_of 16 (seen_by_any p (class_mask l)))) (seen_by p l) (λ given class. seen-masked p given l class) in record { value = c.extract_seen.ensures.value ∙ ap₂ (λ (b : Bool) (f : ℕ → Bool). seen_answer p b f a.trace.now a.log.now a.out.now) named set ∙ same.0; out_after = c.extract_seen.ensures.out_after ∙ ap₂ (λ (b : Bool) (f : ℕ → Bool). seen_out p b f a.trace.now a.log.now a.out.now) named set ∙ same.1 }
