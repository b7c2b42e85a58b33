-- `file::held` meets its contract: at each place of the two arrays stands what the file has of it.
use Rattle.std.proofs.Common.{rules, tests}
use Rattle.file.specs.File.{entry_of, class_count, row_at, epoch_of, minimum_at, held}
use Rattle.basics.proofs.Ranges.{filled_below}
use Rattle.file.proofs.held.Goals as goal

pub returns : goal.returns
unfolding held class_count epoch_of entry_of
returns c =
    let s = c.args.s.now in
    rw (
      c.made.ensures,
      filled_below (row_at s) 16 _ _ c.from_fn-rows.ensures.items (λ x y q k. search (rules, tests)),
      filled_below (minimum_at s) 16 _ _ c.from_fn-minimums.ensures.items (λ x y q k. search (rules, tests)),
      c.timing_of-timing.ensures,
      c.number-epoch.ensures,
      c.start.ensures.value,
      c.from-classes.ensures,
      c.byte.ensures,
    )
