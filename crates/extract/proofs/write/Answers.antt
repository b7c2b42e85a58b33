-- `extract::write` meets its contract. The invariant: the extract of the first `i` calls stands at the start of `out`, up to `at`, and what is past it is as it was.
use mathlib.Core.Path.{◌≡◌, refl, ap, ◌∙◌}
use mathlib.Core.List.{List, ◌++◌}
use Prim.Native.Nat.{ℕ}
use native.Mathlib.Omega.{arith}
use lib.ListN.{length, take, drop}
use lib.Seq.{take_all}
use Rattle.masks.specs.Mask.{member}
use Rattle.extract.specs.Extract.{extract_of}
use Rattle.extract.proofs.Grown.{line-fits, line-more}
use Rattle.extract.proofs.write.Goals as goal

pub loop-i-init : goal.loop-i-init
unfolding extract_of
loop-i-init c = (refl, refl)

pub put_call-at-requires : goal.put_call-at-requires
put_call-at-requires c =
    let a = c.args in (
      omega arith,
      omega (arith, line-fits (member a.seen) a.trace.now a.log.now c.loop-i.i (length a.out.now) (omega arith) c.requires.1),
    )

pub loop-i-preserved : goal.loop-i-preserved
loop-i-preserved c =
    let a = c.args in
    let more =
    line-more (member a.seen) a.trace.now a.log.now a.out.now c.loop-i.i (omega arith) c.requires.1 c.loop-i.invariant.0 c.loop-i.invariant.1 c.put_call-at.ensures.value c.put_call-at.ensures.out_after
    in
    (more.0, more.1)

pub returns : goal.returns
returns c =
    let a = c.args in
    let f = member a.seen in
    let all : take c.loop-i.i a.trace.now ≡ a.trace.now = take_all c.loop-i.i a.trace.now (omega arith) in
    let end : c.loop-i.at ≡ length (extract_of f a.trace.now a.log.now) = c.loop-i.invariant.0 ∙ ap (λ (l : List ℕ). length (extract_of f l a.log.now)) all in
    c.loop-i.invariant.1
    ∙ ap (λ (l : List ℕ). extract_of f l a.log.now ++ drop c.loop-i.at a.out.now) all
    ∙ ap (λ (n : ℕ). extract_of f a.trace.now a.log.now ++ drop n a.out.now) end
