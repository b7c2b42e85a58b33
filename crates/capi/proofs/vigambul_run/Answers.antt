-- `capi::vigambul_run` meets its contract: the file is refused, or the run is made of its policy and its fresh state.
use mathlib.Core.Path.{◌≡◌, sym, ap, ◌∙◌}
use Rattle.policy.specs.declared.Policy.{Policy}
use Rattle.file.specs.declared.Reading.{Reading}
use Rattle.state.specs.Fresh.{fresh}
use Rattle.rules.specs.Run.{run, log_after}
use Rattle.state.specs.declared.Made.{Made}
use Rattle.state.specs.declared.State.{State}
use Rattle.state.specs.declared.Ran.{Ran}
use Rattle.capi.proofs.Sides.{refused, taken}
use Rattle.capi.proofs.vigambul_run.Goals as goal

pub returns-then-reading-ne0 : goal.returns-then-reading-ne0
returns-then-reading-ne0 c =
    let a = c.args in
    let number = ap (λ (r : Reading). r.status) c.read-reading.ensures in
    let side = refused a.file.now a.trace.now a.log.now (λ z. c.if-reading-ne0.true (number ∙ z)) in record { value = number ∙ sym side.0; log_after = sym side.1 }

pub returns : goal.returns
returns c =
    let a = c.args in
    let read = c.read-reading.ensures in
    let side = taken a.file.now a.trace.now a.log.now (sym (ap (λ (r : Reading). r.status) read) ∙ c.if-reading-ne0.false) in
    let p = c.read-reading.result.policy in
    let state : c.fresh.result.state ≡ (fresh p).state = ap (λ (m : Made). m.state) c.fresh.ensures in
    let policy = ap (λ (r : Reading). r.policy) read in record {
      value = ap (λ (r : Ran). r.status) c.run.ensures.value
          ∙ ap (λ (s : State). (run p s a.trace.now a.log.now).status) state
          ∙ ap (λ (p : Policy). (run p (fresh p).state a.trace.now a.log.now).status) policy
          ∙ sym side.0;
      log_after = c.run.ensures.log_after
          ∙ ap (λ (s : State). log_after p s a.trace.now a.log.now) state
          ∙ ap (λ (p : Policy). log_after p (fresh p).state a.trace.now a.log.now) policy
          ∙ sym side.1;
    }
