-- After some bytes the list and the number that has not ended are those that the definition has read of them.
use Rattle.std.proofs.Common.{◌≡◌, ◌-◌, ◌≤◌}
use Rattle.script.specs.Script.{read_of}
use Rattle.script.proofs.numbers.Given as goal

abbrev pub invariant-loop-at : goal.invariant-loop-at
invariant-loop-at l = record {
  read : (record { list = l.list; token = l.token }) ≡ read_of l.text l.from (l.at - l.from);
  within : l.at - l.from ≤ l.end - l.from;
}
