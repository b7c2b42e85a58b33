-- Each turn puts a word behind those before it.
use Rattle.std.proofs.Common.{refl, arith}
use Rattle.text.specs.Words.{words_of, word_count}
use Rattle.text.proofs.Grown.{word_more}
use Rattle.text.proofs.words.Goals as goal

pub loop-i-init : goal.loop-i-init
unfolding words_of
loop-i-init c = refl

pub loop-i-preserved : goal.loop-i-preserved
loop-i-preserved c = word_more c.args.bytes.now c.args.out.now c.loop-i.i (omega (arith, c.loop-i.auto.out)) c.loop-i.invariant c.word_at.ensures

pub returns-clause-value : goal.returns-clause-value
unfolding word_count
returns-clause-value c = c.min-count.ensures
