-- `calls::offer` meets its contract: an offer is the call of its word, and a run over that one number makes it, or is refused with 13.
use mathlib.Core.Path.{sym, ap, ap₂, ◌∙◌}
use mathlib.Core.List.{List}
use Prim.Native.Nat.{ℕ}
use lib.ListN.{get_or}
use Rattle.basics.proofs.Truth.{on-false}
use Rattle.state.specs.Fresh.{zeros}
use Rattle.state.specs.Range.{in_range}
use Rattle.rules.specs.Call.{offer}
use Rattle.rules.specs.Calls.{Answer, answer_to}
use Rattle.state.specs.declared.State.{State}
use Rattle.state.specs.declared.Offered.{Offered}
use Rattle.rules.proofs.Run.{one-refused, one_state, one-log}
use Rattle.rules.proofs.SingleCalls.{offer_called}
use Rattle.calls.proofs.offer.Goals as goal
use Rattle.calls.proofs.offer.Goals.{then-ran-eq0, else-ran-eq0}

-- an offer's answer, of its parts
abbrev offered-of : ℕ → State → Offered
offered-of status state = record { status = status; state = state }

pub returns : goal.returns
unfolding offer zeros
returns c =
    let p = c.args.p in
    let made = c.run-ran.ensures.value in
    let of = λ (n : ℕ). offered-of n c.run-ran.result.state in
    elim c.if-ran-eq0.branch [
      | then-ran-eq0 w ↦
          let none = w.if-ran-eq0.true in
          let at = one-log p c.args.s c.word_of.result c.run-ran.result made none in
          let answer = ap (answer_to p c.args.s) c.word_of.ensures ∙ offer_called p c.args.s c.args.r in
          ap of w.status-is
          ∙ ap₂ offered-of (ap (λ (l : List ℕ). get_or l 0 0) (c.run-ran.ensures.log_after ∙ at)) (one_state p c.args.s c.word_of.result c.run-ran.result made none)
          ∙ ap (λ (a : Answer). offered-of a.status a.state) answer
      | else-ran-eq0 w ↦
          let out = one-refused p c.args.s c.word_of.result c.run-ran.result made w.if-ran-eq0.false in
          ap of w.status-is ∙ ap (offered-of 13) out.1 ∙ sym (on-false (in_range p c.args.s) _ _ out.0)
    ]
