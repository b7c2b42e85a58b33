-- `queues::queue_in_range` meets its contract: where the length and the head fit, every waiting word is right, and the rest is the definition's last test. Where they do not, the definition
-- fails as well.
use Rattle.std.proofs.Common.{◌≡◌, ◌∙◌, rules, tests, arith, Bool, true, false, sym, ap, ◌&&◌, leb, ltb, get_or}
use Rattle.std.proofs.lemmas.Bool.Decides.{nat_tests}
use Rattle.basics.proofs.Ranges.{all_below}
use Rattle.queues.specs.Waiting.{head_of, length_of, passed_of, ring_in_range, queue_in_range}
use Rattle.queues.proofs.Waiting.{of-class}
use Rattle.queues.proofs.queue_in_range.Goals as goal

pub returns-then-fits : goal.returns-then-fits
unfolding head_of length_of passed_of ring_in_range queue_in_range
returns-then-fits c =
    let q = c.args.queues.now in
    let class = c.args.class in
    let inside : (leb (get_or q.lengths class 0) 8 && ltb (get_or q.heads class 0) 8) ≡ true = grind (arith, nat_tests, c.if-fits.true) in
    rw inside
    (ap (λ (b : Bool). b && leb (get_or q.passed class 0) 15)
    (all_below _ 8 _ _ _ c.all.ensures.ran (λ x b r k. search (rules, tests, of-class class (get_or q.heads class 0) x c.requires))))

pub returns-else-fits : goal.returns-else-fits
unfolding head_of length_of passed_of ring_in_range queue_in_range
returns-else-fits c =
    let q = c.args.queues.now in
    let class = c.args.class in
    let outside : (leb (get_or q.lengths class 0) 8 && ltb (get_or q.heads class 0) 8) ≡ false = grind (arith, nat_tests, c.if-fits.false) in
    let none : queue_in_range c.args.classes c.args.ranks q class ≡ false = rw outside in
    c.if-fits.false ∙ sym none
