-- `recordings::first_alone` meets its contract: an unsound recording gives none; two sound ones it goes along in step, and what it then finds is what the definition says.
use mathlib.Core.Path.{◌≡◌, sym, ap, ◌∙◌}
use mathlib.Core.Bool.{true}
use native.Mathlib.Omega.{arith}
use Rattle.std.specs.declared.option.Option.TheVariants.{Some}
use Rattle.std.specs.declared.result.Result.TheVariants.{Ok}
use Rattle.recordings.specs.Recording.{events_in, due_fits, soundness}
use Rattle.recordings.proofs.Recordings.{ok-some, ok-none, sound-both, wires-three}
use Rattle.recordings.proofs.Matching.{alone-unsound, odds, wires_longer, cores_longer, none_longer}
use Rattle.recordings.proofs.first_alone.Goals as goal
use Rattle.recordings.proofs.first_alone.Goals.{In_ok-ok}

-- both recordings are sound there
sound : (c : In_ok-ok) → soundness c.args.delay c.args.wires.now c.args.cores.now ≡ Ok tt
sound c = sym c.unsound.ensures ∙ ok-some c.unsound.result _ (sym c.ok.ensures.value ∙ c.in_ok-ok.was)

sound-due : (c : In_ok-ok) → due_fits c.args.delay c.args.wires.now ≡ true
sound-due c =
    let a = c.args in
    (wires-three a.delay a.wires.now (sound-both a.delay a.wires.now a.cores.now (sound c)).0).2

pub returns-in_err-ok : goal.returns-in_err-ok
returns-in_err-ok c =
    let a = c.args in
    let fault = ok-none c.unsound.result (sym c.ok.ensures.value ∙ c.in_err-ok.was) in
    c.from_residual.ensures ∙ alone-unsound a.delay a.wires.now a.cores.now fault.0 (sym c.unsound.ensures ∙ fault.1)

pub in_step-k-requires : goal.in_step-k-requires
in_step-k-requires c = (sound-due (goal.at.in_step-k-requires c).In_ok-ok, omega arith, omega arith)

pub at_odds-requires : goal.at_odds-requires
at_odds-requires c = (sound-due (goal.at.at_odds-requires c).In_ok-ok, omega arith, omega arith)

pub returns-then-k-n : goal.returns-then-k-n
unfolding events_in
returns-then-k-n c =
    let a = c.args in
    ap Some c.at_odds.ensures ∙ odds a.delay a.wires.now a.cores.now (sound (goal.at.returns-then-k-n c).In_ok-ok) _ _ c.min-n.ensures c.in_step-k.ensures c.if-k-n.true

pub returns-then-n-w : goal.returns-then-n-w
unfolding events_in
returns-then-n-w c =
    let a = c.args in
    wires_longer a.delay a.wires.now a.cores.now (sound (goal.at.returns-then-n-w c).In_ok-ok) _ _ c.min-n.ensures c.in_step-k.ensures c.if-k-n.false c.if-n-w.true

pub returns-then-n-c : goal.returns-then-n-c
unfolding events_in
returns-then-n-c c =
    let a = c.args in
    cores_longer a.delay a.wires.now a.cores.now (sound (goal.at.returns-then-n-c c).In_ok-ok) _ _ c.min-n.ensures c.in_step-k.ensures c.if-k-n.false c.if-n-w.false c.if-n-c.true

pub returns : goal.returns
unfolding events_in
returns c =
    let a = c.args in
    none_longer a.delay a.wires.now a.cores.now (sound (goal.at.returns c).In_ok-ok) _ _ c.min-n.ensures c.in_step-k.ensures c.if-k-n.false c.if-n-w.false c.if-n-c.false
