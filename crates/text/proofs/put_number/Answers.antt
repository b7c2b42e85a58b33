-- Four runs of two stores, each where the one before ends, are its digits, and the sign is behind them.
use Rattle.std.proofs.Common.{arith}
use Rattle.text.proofs.Grown.{number_put}
use Rattle.text.proofs.put_number.Goals as goal

pub returns : goal.returns
returns c =
    number_put
    c.args.table.now
    c.args.out.now
    c.args.at
    c.args.n
    c.args.sign
    _
    c.requires.by_index
    (omega arith)
    c.to_be_bytes.ensures
    c.put_pair.ensures
    c.put_pair-2.ensures
    c.put_pair-3.ensures
    c.put_pair-4.ensures
