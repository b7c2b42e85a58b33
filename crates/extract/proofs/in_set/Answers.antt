-- `extract::in_set` meets its contract: the test is the definition itself, and past 31 a 32-bit number has no bits.
use Rattle.std.proofs.Common.{refl, sym}
use borrow.Author.Tests.{le-ltb}
use Rattle.masks.specs.Mask.{member}
use Rattle.masks.proofs.Masks.{member-over}
use Rattle.extract.proofs.in_set.Goals as goal

pub returns-then-class-lt32 : goal.returns-then-class-lt32
unfolding member
returns-then-class-lt32 c = refl

pub returns-else-class-lt32 : goal.returns-else-class-lt32
returns-else-class-lt32 c = rw (le-ltb c.args.class 32 c.if-class-lt32.false) (sym (member-over c.args.set 32 c.args.class c.ranges.set.fits c.if-class-lt32.false))
