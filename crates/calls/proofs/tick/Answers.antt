-- `calls::tick` meets its contract: a run over the trace number 0 makes the tick, or is refused with 13, and what the tick showed is read back from its log numbers.
use mathlib.Core.Path.{sym, ap, ap₂, ◌∙◌}
use mathlib.Core.List.{List}
use Prim.Native.Nat.{ℕ}
use lib.ListN.{get_or}
use Rattle.basics.proofs.Truth.{on-false}
use Rattle.requests.specs.Word.{wires_of}
use Rattle.state.specs.Fresh.{zeros}
use Rattle.state.specs.Range.{in_range}
use Rattle.rules.specs.Call.{silent, tick}
use Rattle.rules.specs.Calls.{Answer}
use Rattle.requests.specs.declared.Wires.{Wires}
use Rattle.state.specs.declared.State.{State}
use Rattle.state.specs.declared.Ticked.{Ticked}
use Rattle.rules.proofs.CallsKept.{tick-wires}
use Rattle.rules.proofs.Run.{one-refused, one-fits, one_state, one-log}
use Rattle.rules.proofs.SingleCalls.{tick_called}
use Rattle.calls.proofs.tick.Goals as goal

-- a tick's answer, of its parts
abbrev ticked-of : ℕ → State → Wires → ℕ → ℕ → Ticked
ticked-of status state wires response turn = record { status = status; state = state; shown = record { wires = wires; response = response; turn = turn } }

-- from the state and the log that the run left
abbrev read_back : State → List ℕ → Ticked
read_back state log = ticked-of (get_or log 0 0) state (wires_of (get_or log 1 0)) (get_or log 2 0) (get_or log 3 0)

pub returns-then-ran-ne0 : goal.returns-then-ran-ne0
unfolding tick silent zeros
returns-then-ran-ne0 c =
    let out = one-refused c.args.p c.args.s 0 c.run-ran.result c.run-ran.ensures.value c.if-ran-ne0.true in
    ap (λ (x : State). record { status = 13; state = x; shown = silent }) out.1 ∙ sym (on-false (in_range c.args.p c.args.s) _ _ out.0)

pub returns : goal.returns
unfolding zeros
returns c =
    let p = c.args.p in
    let none = c.if-ran-ne0.false in
    let made = c.run-ran.ensures.value in
    let left = c.run-ran.new.log in
    let state = one_state p c.args.s 0 c.run-ran.result made none in
    let log = c.run-ran.ensures.log_after ∙ one-log p c.args.s 0 c.run-ran.result made none in
    ap (λ (w : Wires). ticked-of (get_or left 0 0) c.run-ran.result.state w (get_or left 2 0) (get_or left 3 0)) c.wires_of.ensures
    ∙ ap₂ read_back state log
    ∙ ap (λ (a : Answer). ticked-of a.status a.state (wires_of a.command) a.response a.turn) (tick_called p c.args.s)
    ∙ ap (λ (w : Wires). ticked-of (tick p c.args.s).status (tick p c.args.s).state w (tick p c.args.s).shown.response (tick p c.args.s).shown.turn) (tick-wires p c.args.s (one-fits p c.args.s 0 c.run-ran.result made none))
