-- `writer::fill` meets its contract. The invariant: the bytes before `k` are the file's, and those from `k` on as they were.
use Rattle.std.proofs.Common.{◌≡◌, ◌++◌, ◌∙◌, ℕ, List, ap, arith, refl, slice_set, drop}
use Rattle.basics.specs.Below.{list_of}
use Rattle.policy.proofs.Laws.{policy-laws}
use Rattle.writer.specs.Written.{file_size, file_byte, file_of}
use Rattle.writer.proofs.FileBytes.{byte_small, byte_more}
use Rattle.writer.proofs.fill.Goals as goal

pub loop-k-init : goal.loop-k-init
unfolding list_of
loop-k-init c = refl

pub file_byte-requires : goal.file_byte-requires
file_byte-requires c = (policy-laws c.args.p c.requires.p_value).order.classes_few.1

pub overflow_cast-out : goal.overflow_cast-out
overflow_cast-out c = omega (arith, c.file_byte.ensures, byte_small c.args.p c.requires.p_value c.loop-k.k)

pub loop-k-preserved : goal.loop-k-preserved
loop-k-preserved c =
    let a = c.args in
    ap (λ (l : List ℕ). slice_set l c.loop-k.k c.file_byte.result) c.loop-k.invariant
    ∙ byte_more (file_byte a.p) a.out.now c.loop-k.k c.file_byte.result c.file_byte.ensures (omega arith)

pub returns : goal.returns
unfolding file_of
returns c =
    let end : c.loop-k.k ≡ file_size c.args.p = omega arith in
    c.loop-k.invariant ∙ ap (λ (k : ℕ). list_of k (file_byte c.args.p) ++ drop k c.args.out.now) end
