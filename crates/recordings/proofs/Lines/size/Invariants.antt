-- `recordings::Lines::size` meets its contract. The invariant: `count` is how many numbers the recording of the first `i` lines has.
use mathlib.Core.Path.{◌≡◌}
use Prim.Native.Nat.{◌*◌, ◌≤◌}
use lib.ListN.{length, take}
use Rattle.recordings.specs.Logged.{recording_of}
use Rattle.recordings.proofs.Lines.size.Given as goal

abbrev pub invariant-loop-i : goal.invariant-loop-i
invariant-loop-i l = record {
  counted : l.count ≡ length (recording_of l.activates 0 (take l.i l.self.trace.now) l.self.log.now);
  few : l.count ≤ 2 * l.i;
}
