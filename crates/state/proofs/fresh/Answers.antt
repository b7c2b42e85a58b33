-- `state::fresh` meets its contract: each return is the side of the definition that its test picks.
use mathlib.Core.Path.{sym, ap, ◌∙◌}
use Rattle.policy.specs.Policy.{in_range}
use Rattle.basics.proofs.Truth.{on-true, on-false}
use Rattle.state.specs.Fresh.{zeros, fresh_state, zero_state, fresh}
use Rattle.state.specs.declared.State.{State}
use Rattle.state.specs.declared.Made.{Made}
use Rattle.state.proofs.fresh.Goals as goal

abbrev made : State → Made
made s = record { status = 0; state = s }

abbrev refused : State → Made
refused s = record { status = 13; state = s }

pub returns-then-not-in_range : goal.returns-then-not-in_range
unfolding fresh zero_state zeros
returns-then-not-in_range c =
    ap refused c.state_at_start.ensures
    ∙ sym (on-false (in_range c.args.p) (made (fresh_state c.args.p)) (refused zero_state) (sym c.in_range.ensures ∙ c.if-not-in_range.true))

pub returns : goal.returns
unfolding fresh fresh_state
returns c =
    ap made c.state_at_start-2.ensures
    ∙ sym (on-true (in_range c.args.p) (made (fresh_state c.args.p)) (refused zero_state) (sym c.in_range.ensures ∙ c.if-not-in_range.false))
