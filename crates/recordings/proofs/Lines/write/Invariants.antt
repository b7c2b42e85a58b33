-- `recordings::Lines::write` meets its contract. The invariant: written is the recording of the first `i` lines, and `t` is the cycle after them.
use mathlib.Core.Path.{◌≡◌}
use mathlib.Core.List.{◌++◌}
use Prim.Native.Nat.{◌+◌}
use lib.ListN.{length, take, drop}
use Rattle.recordings.specs.Logged.{ticks_in, recording_of}
use Rattle.recordings.proofs.Lines.write.Given as goal

abbrev pub invariant-loop-i : goal.invariant-loop-i
invariant-loop-i l = record {
  place : l.at ≡ length (recording_of l.activates l.start (take l.i l.self.trace.now) l.self.log.now);
  done : l.out ≡ recording_of l.activates l.start (take l.i l.self.trace.now) l.self.log.now ++ drop l.at l.initial.out;
  cycle : l.t ≡ l.start + ticks_in (take l.i l.self.trace.now) l.self.log.now;
}
