-- `capi::vigambul_walk_bound` meets its contract: the file is refused, or the bound is that of its policy.
use mathlib.Core.Path.{sym, ap, ◌∙◌}
use Rattle.policy.specs.Policy.{Bound, bound_for}
use Rattle.policy.specs.declared.Policy.{Policy}
use Rattle.file.specs.declared.Reading.{Reading}
use Rattle.capi.proofs.Told.{bound-status, bound-classes}
use Rattle.capi.proofs.Sides.{refused-bound, taken-bound}
use Rattle.capi.proofs.vigambul_walk_bound.Goals as goal

pub returns-then-reading-ne0 : goal.returns-then-reading-ne0
returns-then-reading-ne0 c =
    let a = c.args in
    let number = ap (λ (r : Reading). r.status) c.read-reading.ensures in
    let side = refused-bound a.file.now a.class (λ z. c.if-reading-ne0.true (number ∙ z)) in record { value = sym side.1; status_after = number ∙ sym side.0 }

pub returns : goal.returns
returns c =
    let a = c.args in
    let read = c.read-reading.ensures in
    let side = taken-bound a.file.now a.class (sym (ap (λ (r : Reading). r.status) read) ∙ c.if-reading-ne0.false) in
    let right = c.walk_bound-bound.ensures ∙ ap (λ (p : Policy). bound_for p a.class) (ap (λ (r : Reading). r.policy) read) in
    record {
      value = c.unwrap_or.ensures ∙ bound-classes _ ∙ ap (λ (b : Bound). b.classes) right ∙ sym side.1;
      status_after = c.status_of.ensures ∙ bound-status _ ∙ ap (λ (b : Bound). b.status) right ∙ sym side.0;
    }
