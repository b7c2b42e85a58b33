-- `capi::vigambul_extract` meets its contract: the file is refused, or the extract is made by its policy.
use mathlib.Core.Path.{sym, ap, ◌∙◌}
use mathlib.Core.List.{List}
use Prim.Native.Nat.{ℕ}
use Rattle.policy.specs.declared.Policy.{Policy}
use Rattle.file.specs.declared.Reading.{Reading}
use Rattle.extract.specs.Extract.{Extracted, extract, out_after}
use Rattle.capi.specs.Extracts.{file_extract_status, file_extract_count, file_extract_out}
use Rattle.capi.proofs.Told.{extracted-status, extracted-count}
use Rattle.capi.proofs.Sides.{refused-extract, taken-extract}
use Rattle.capi.proofs.vigambul_extract.Goals as goal
use Rattle.capi.proofs.vigambul_extract.Goals.{Start}

-- the call on a policy, and what it leaves of `out`
abbrev call : Start → Policy → Extracted
call c p = extract p c.args.class c.args.trace.now c.args.log.now c.args.out.now

abbrev after : Start → Policy → List ℕ
after c p = out_after p c.args.class c.args.trace.now c.args.log.now c.args.out.now

pub returns-then-reading-ne0 : goal.returns-then-reading-ne0
unfolding file_extract_status file_extract_count file_extract_out
returns-then-reading-ne0 c =
    let number = ap (λ (r : Reading). r.status) c.read-reading.ensures in
    let side = refused-extract c.args.file.now (call (goal.at.returns-then-reading-ne0 c).Start) (after (goal.at.returns-then-reading-ne0 c).Start) c.args.out.now (λ z. c.if-reading-ne0.true (number ∙ z)) in record { value = sym side.1; status_after = number ∙ sym side.0; out_after = sym side.2 }

pub returns : goal.returns
unfolding file_extract_status file_extract_count file_extract_out
returns c =
    let read = c.read-reading.ensures in
    let side = taken-extract c.args.file.now (call (goal.at.returns c).Start) (after (goal.at.returns c).Start) c.args.out.now (sym (ap (λ (r : Reading). r.status) read) ∙ c.if-reading-ne0.false) in
    let policy = ap (λ (r : Reading). r.policy) read in
    let right = c.extract-extracted.ensures.value ∙ ap (call (goal.at.returns c).Start) policy in
    record {
      value = c.unwrap_or.ensures ∙ extracted-count _ ∙ ap (λ (e : Extracted). e.count) right ∙ sym side.1;
      status_after = c.status_of.ensures ∙ extracted-status _ ∙ ap (λ (e : Extracted). e.status) right ∙ sym side.0;
      out_after = c.extract-extracted.ensures.out_after ∙ ap (after (goal.at.returns c).Start) policy ∙ sym side.2;
    }
