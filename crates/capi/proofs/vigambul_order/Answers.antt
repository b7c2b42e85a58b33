-- `capi::vigambul_order` meets its contract: there is no order to write, or what is written is its policy's file.
use mathlib.Core.Path.{sym, ap, ◌∙◌}
use Rattle.writer.specs.Written.{Written, writing, out_after}
use Rattle.policy.specs.declared.Policy.{Policy}
use Rattle.orders.specs.declared.Fetched.{Fetched}
use Rattle.capi.specs.SmallOrders.{there}
use Rattle.capi.proofs.Told.{written-status, written-size}
use Rattle.capi.proofs.Sides.{not_there, is-there}
use Rattle.capi.proofs.vigambul_order.Goals as goal

pub returns-then-not-fetched-p : goal.returns-then-not-fetched-p
unfolding there
returns-then-not-fetched-p c =
    let a = c.args in
    let f = c.fetch-fetched.result in
    let side = not_there a.n a.place a.timing.now a.file.now (sym (ap there c.fetch-fetched.ensures) ∙ c.if-not-fetched-p.true) in record { value = ap (λ (g : Fetched). g.status) c.fetch-fetched.ensures ∙ sym side.0; len_after = sym side.1; file_after = sym side.2 }

pub returns : goal.returns
unfolding there
returns c =
    let a = c.args in
    let f = c.fetch-fetched.result in
    let side = is-there a.n a.place a.timing.now a.file.now (sym (ap there c.fetch-fetched.ensures) ∙ c.if-not-fetched-p.false) in
    let policy = ap (λ (g : Fetched). g.policy) c.fetch-fetched.ensures in
    let right = c.write-written.ensures.value ∙ ap (λ (p : Policy). writing p a.file.now) policy in
    record {
      value = c.status_of.ensures ∙ written-status _ ∙ ap (λ (w : Written). w.status) right ∙ sym side.0;
      len_after = c.unwrap_or.ensures ∙ written-size _ ∙ ap (λ (w : Written). w.size) right ∙ sym side.1;
      file_after = c.write-written.ensures.out_after ∙ ap (λ (p : Policy). out_after p a.file.now) policy ∙ sym side.2;
    }
