-- `extract::kept` meets its contract. The invariant: `n` counts those of the numbers gone over that stay. In the end it counts all that stay, as many as the list of them holds.
use Rattle.std.proofs.Common.{◌≡◌, ◌∙◌, ◌+◌, ℕ, count_by, take, ap, arith, refl, sym}
use Rattle.std.proofs.Math.Seq.{take_all, length-take-le}
use Rattle.std.proofs.lemmas.List.Sums.{count_by-le-length, count_by_more_yes, count_by_more_no}
use Rattle.masks.specs.Mask.{member}
use Rattle.extract.specs.Seen.{stays}
use Rattle.extract.proofs.Grown.{counted}
use Rattle.extract.proofs.kept.Goals as goal
use Rattle.extract.proofs.kept.Goals.{After-loop-word, then-stays, else-stays}

pub loop-word-init : goal.loop-word-init
loop-word-init c = refl

pub overflow_add-n : goal.overflow_add-n
overflow_add-n c =
    let past = take c.loop-word.word-index c.args.trace.now in
    omega (arith, c.loop-word.invariant, count_by-le-length (stays (member c.args.seen)) past, length-take-le c.loop-word.word-index c.args.trace.now (omega arith))

pub loop-word-preserved : goal.loop-word-preserved
loop-word-preserved c =
    let f = stays (member c.args.seen) in
    let trace = c.args.trace.now in
    elim c.if-stays.branch [
      | then-stays w ↦ w.n-is ∙ ap (λ (n : ℕ). n + 1) c.loop-word.invariant ∙ sym (count_by_more_yes f trace c.loop-word.word-index 0 (omega arith) (sym c.stays.ensures ∙ w.if-stays.true))
      | else-stays w ↦ w.n-is ∙ c.loop-word.invariant ∙ sym (count_by_more_no f trace c.loop-word.word-index 0 (omega arith) (sym c.stays.ensures ∙ w.if-stays.false))
    ]

-- in the end all are counted
total : (c : After-loop-word) → c.loop-word.n ≡ count_by (stays (member c.args.seen)) c.args.trace.now
total c = c.loop-word.invariant ∙ ap (count_by (stays (member c.args.seen))) (take_all c.loop-word.word-index c.args.trace.now (omega arith))

pub returns-clause-value : goal.returns-clause-value
returns-clause-value c = total c ∙ counted (member c.args.seen) c.args.trace.now

pub returns-clause-bound : goal.returns-clause-bound
returns-clause-bound c = omega (arith, total c, count_by-le-length (stays (member c.args.seen)) c.args.trace.now)
