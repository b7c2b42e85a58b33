-- `writer::fill` meets its contract. The invariant: the bytes before `k` are the file's, and those from `k` on as they were.
use Rattle.std.proofs.Common.{◌≡◌, ◌++◌, drop}
use Rattle.basics.specs.Below.{list_of}
use Rattle.writer.specs.Written.{file_byte}
use Rattle.writer.proofs.fill.Given as goal

abbrev pub invariant-loop-k : goal.invariant-loop-k
invariant-loop-k l = l.out ≡ list_of l.k (file_byte l.p) ++ drop l.k l.initial.out
