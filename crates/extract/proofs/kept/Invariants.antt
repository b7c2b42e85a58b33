-- `extract::kept` meets its contract. The invariant: `n` counts those of the numbers gone over that stay.
use Rattle.std.proofs.Common.{◌≡◌, count_by, take}
use Rattle.masks.specs.Mask.{member}
use Rattle.extract.specs.Seen.{stays}
use Rattle.extract.proofs.kept.Given as goal

abbrev pub invariant-loop-word : goal.invariant-loop-word
invariant-loop-word l = l.n ≡ count_by (stays (member l.seen)) (take l.word-index l.trace)
