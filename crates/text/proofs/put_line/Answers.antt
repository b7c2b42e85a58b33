-- Four runs of nine stores, each where the one before ends, are the line.
use Rattle.text.proofs.Grown.{line-put}
use Rattle.text.proofs.put_line.Goals as goal

pub returns : goal.returns
returns c =
    line-put
    c.args.log.now
    c.args.out.now
    c.args.i
    c.put_number.ensures
    c.put_number-2.ensures
    c.put_number-3.ensures
    c.put_number-4.ensures
