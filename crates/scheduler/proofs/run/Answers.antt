-- `scheduler::run` meets its contract: each return is the side of the definitions that its tests pick.
use mathlib.Core.Path.{◌≡◌, sym, ap, ◌∙◌}
use mathlib.Core.Bool.{true, false}
use Prim.Native.Nat.{◌*◌}
use native.Mathlib.Omega.{arith}
use borrow.Author.Tests.{le-leb, lt-leb}
use lib.ListN.{length}
use Rattle.state.specs.Range.{in_range}
use Rattle.rules.specs.Call.{bus_at}
use Rattle.rules.specs.Run.{has_room}
use Rattle.rules.proofs.Range.{ranged}
use Rattle.rules.proofs.Run.{ran, by-range, by-room, by-calls}
use Rattle.scheduler.specs.InPlace.{moment_of}
use Rattle.scheduler.specs.declared.ticking.Moment.{Moment}
use Rattle.scheduler.proofs.InPlace.{nothing_known}
use Rattle.scheduler.proofs.run.Goals as goal
use Rattle.scheduler.proofs.run.Goals.{Else-not-in_range}

-- 13 does not refuse it
taken : (c : Else-not-in_range) → in_range c.args.p c.args.s ≡ true
taken c = sym c.in_range.ensures ∙ c.if-not-in_range.false

pub returns-then-not-in_range : goal.returns-then-not-in_range
returns-then-not-in_range c =
    let a = c.args in
    let side = by-range a.p a.s a.trace.now a.log.now (sym c.in_range.ensures ∙ c.if-not-in_range.true) in record { value = sym side.0; log_after = sym side.1 }

pub returns-then-log-trace : goal.returns-then-log-trace
unfolding has_room
returns-then-log-trace c =
    let a = c.args in
    let short : has_room a.trace.now a.log.now ≡ false = lt-leb (4 * length a.trace.now) (length a.log.now) (omega (arith, c.if-log-trace.true)) in
    let side = by-room a.p a.s a.trace.now a.log.now (taken (goal.at.returns-then-log-trace c).Else-not-in_range) short in record { value = sym side.0; log_after = sym side.1 }

pub moment_of-m-requires : goal.moment_of-m-requires
moment_of-m-requires c = (ranged c.args.p c.args.s (taken (goal.at.moment_of-m-requires c).Else-not-in_range)).fit

pub calls-requires : goal.calls-requires
calls-requires c =
    let p = c.args.p in
    let s = c.args.s in
    let given = taken (goal.at.calls-requires c).Else-not-in_range in
    let e : c.moment_of-m.result ≡ moment_of p s.cycle = c.moment_of-m.ensures in (
      record {
        ranges = given;
        in_step = ap (λ (m : Moment). m.offset) e;
        none_until = nothing_known (bus_at p s s.turns) c.moment_of-m.result.until (ap (λ (m : Moment). m.until) e);
        known = record { fit = (ranged p s given).fit; bottom_is = ap (λ (m : Moment). m.bottom) e; free_is = ap (λ (m : Moment). m.free) e };
      },
      omega (arith, c.if-log-trace.false),
    )

pub returns : goal.returns
unfolding has_room
returns c =
    let a = c.args in
    let room : has_room a.trace.now a.log.now ≡ true = le-leb (4 * length a.trace.now) (length a.log.now) (omega (arith, c.if-log-trace.false)) in
    let side = by-calls a.p a.s a.trace.now a.log.now (taken (goal.at.returns c).Else-not-in_range) room in record { value = ap (ran 0) c.calls.ensures.state ∙ sym side.0; log_after = c.calls.ensures.logged ∙ sym side.1 }
