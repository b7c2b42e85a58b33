-- `wires::queueing::close_up` meets its contract. The invariant: closing up the `older` requests that are left comes to closing up all.
use Rattle.std.proofs.Common.{◌≡◌, ℕ, ◌+◌, ◌-◌, get_or, set, sym, refl, ap, ◌∙◌, ap₂, arith}
use Rattle.queues.specs.Waiting.{place}
use Rattle.queues.proofs.Waiting.{of-class}
use Rattle.rules.specs.Queue.{closed_up}
use Rattle.rules.proofs.Queue.{closed-step}
use Rattle.wires.proofs.queueing.close_up.Goals as goal

pub loop-older-init : goal.loop-older-init
loop-older-init c = refl

pub loop-older-preserved : goal.loop-older-preserved
loop-older-preserved c =
    let class = c.args.class in
    let head = c.args.head in
    let older = c.loop-older.older in
    let slots = c.loop-older.slots in
    let from = c.place-from.ensures.value ∙ of-class class head (older - 1) c.requires in
    let moved : older - 1 + 1 ≡ older = omega (arith, c.loop-older-test.true) in
    let to = c.place-to.ensures.value ∙ of-class class head (older - 1 + 1) c.requires ∙ ap (place class head) moved in
    ap₂ (λ (i j : ℕ). closed_up (set slots i (get_or slots j 0)) class head (older - 1)) to from ∙ sym (closed-step class head older slots c.loop-older-test.true) ∙ c.loop-older.invariant

pub returns : goal.returns
unfolding closed_up
returns c =
    let done : 0 ≡ c.loop-older.older = omega (arith, c.loop-older-test.false) in
    ap (closed_up c.loop-older.slots c.args.class c.args.head) done ∙ c.loop-older.invariant
