-- `scheduler::calls` meets its contract: after i turns of the loop the state and the log are those after the first i words, and the next call has what it rests on.
use mathlib.Core.Path.{◌≡◌}
use mathlib.Core.List.{List, ◌++◌}
use Prim.Native.Nat.{ℕ, ◌*◌}
use lib.ListN.{take, drop}
use Rattle.policy.specs.declared.Policy.{Policy}
use Rattle.rules.specs.Calls.{state_after, log_of}
use Rattle.scheduler.specs.InPlace.{Working}
use Rattle.scheduler.specs.declared.ticking.Moment.{Moment}
use Rattle.state.specs.declared.State.{State}
use Rattle.scheduler.proofs.calls.Given as goal

-- after i calls: from the state at the start to the present one, and from the log at the start to the present one
pub record After (p : Policy) (trace log₀ : List ℕ) (s₀ : State) (log : List ℕ) (m : Moment) (s : State) (i : ℕ) : Type 0 where
  pub state : s ≡ state_after p s₀ (take i trace)
  pub logged : log ≡ log_of p s₀ (take i trace) ++ drop (4 * i) log₀
  pub working : Working p s m

abbrev pub invariant-loop-i : goal.invariant-loop-i
invariant-loop-i l = After l.p l.trace l.initial.log l.initial.s l.log l.m l.s l.i
