-- `recordings::make` meets its contract: the last cycle is passed exactly where the definition's test says so. The check finds the rest.
use mathlib.Core.Path.{refl, sym, ◌∙◌}
use Prim.Native.Nat.{◌*◌}
use native.Mathlib.Omega.{arith}
use borrow.Author.Tests.{eqb-true}
use lib.ListN.{length}
use Rattle.basics.proofs.Truth.{not-not}
use Rattle.requests.proofs.Trace.{four-times}
use Rattle.refusals.specs.Refusal.{number}
use Rattle.recordings.specs.Logged.{counted, recorded}
use Rattle.recordings.proofs.Logged.{refused-12}
use Rattle.recordings.proofs.make.Goals as goal

pub returns-then-end-clause-value : goal.returns-then-end-clause-value
unfolding counted number recorded
returns-then-end-clause-value c =
    let a = c.args in
    let lengths = eqb-true (length a.log.now) (4 * length a.trace.now) (not-not _ (sym (four-times (length a.log.now) (length a.trace.now)) ∙ c.if-log-trace.false)) in
    rw (refused-12 a.activates a.trace.now a.log.now a.start a.out.now lengths (omega (arith, c.ticks.ensures, c.if-end.true))) refl
