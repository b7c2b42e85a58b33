-- `scheduler::calls` meets its contract: after i turns of the loop the state and the log are those after the first i words, and the next call has what it rests on.
use mathlib.Core.Path.{◌≡◌, refl, sym, ap, ◌∙◌}
use mathlib.Core.List.{List, ◌++◌}
use Prim.Native.Nat.{ℕ, ◌*◌}
use native.Mathlib.Omega.{arith}
use lib.ListN.{length, get_or, take, drop}
use lib.Seq.{take_all}
use Rattle.rules.specs.Calls.{Answer, answer_to, state_after, log_of}
use Rattle.state.specs.declared.State.{State}
use Rattle.rules.proofs.Calls.{written, state-more, log-more}
use Rattle.scheduler.proofs.calls.Goals as goal

pub loop-i-init : goal.loop-i-init
unfolding state_after log_of
loop-i-init c = record { state = refl; logged = refl; working = c.requires.0 }

pub call_at-line-requires : goal.call_at-line-requires
call_at-line-requires c = c.loop-i.invariant.working

pub write-requires : goal.write-requires
write-requires c = omega (arith, c.loop-i-test.true, c.requires.1, c.loop-i.auto.log)

pub loop-i-preserved : goal.loop-i-preserved
loop-i-preserved c =
    let more = c.loop-i-test.true in
    let inv = c.loop-i.invariant in
    let i = c.loop-i.i in
    let p = c.args.p.now in
    let first = c.args.s.now in
    let trace = c.args.trace.now in
    let word = get_or trace i 0 in
    let did = c.call_at-line.ensures in
    record {
      state = ap (λ (a : Answer). a.state) did.answered
          ∙ ap (λ (s : State). (answer_to p s word).state) inv.state
          ∙ sym (state-more p first trace i more);
      logged = c.write.ensures
          ∙ ap (written c.loop-i.log (4 * i)) did.answered
          ∙ ap (λ (s : State). written c.loop-i.log (4 * i) (answer_to p s word)) inv.state
          ∙ log-more p first trace i more c.args.log.now c.loop-i.log (omega (arith, more, c.requires.1)) inv.logged;
      working = did.working;
    }

pub returns : goal.returns
returns c =
    let p = c.args.p.now in
    let first = c.args.s.now in
    let trace = c.args.trace.now in
    let inv = c.loop-i.invariant in
    let end : c.loop-i.i ≡ length trace = omega (arith, c.loop-i-test.false, c.loop-i.auto.i-end) in
    let all : take c.loop-i.i trace ≡ trace = ap (λ (k : ℕ). take k trace) end ∙ take_all (length trace) trace (omega arith) in
    record {
      state = inv.state ∙ ap (state_after p first) all;
      logged = inv.logged
          ∙ ap (λ (xs : List ℕ). log_of p first xs ++ drop (4 * c.loop-i.i) c.args.log.now) all
          ∙ ap (λ (k : ℕ). log_of p first trace ++ drop (4 * k) c.args.log.now) end;
    }
