-- `recordings::Lines::write` meets its contract. The invariant: written is the recording of the first `i` lines, and `t` is the cycle after them.
use mathlib.Core.Path.{◌≡◌, ap, ap₂, ◌∙◌}
use mathlib.Core.List.{List}
use mir.Val.{bool_byte}
use Prim.Native.Nat.{ℕ, ◌+◌, ◌*◌}
use native.Mathlib.Omega.{arith}
use lib.ListN.{length, get_or}
use lib.Seq.{sets}
use Rattle.recordings.specs.Logged.{tick_in, event_at}
use Rattle.recordings.proofs.Counts.{byte-of}
use Rattle.recordings.proofs.Logged.{ticks-more, event_of, event-more}
use Rattle.recordings.proofs.Lines.write.Goals as goal

pub loop-i-preserved : goal.loop-i-preserved
unfolding tick_in
loop-i-preserved c =
    let a = c.args in
    let lines = a.self.now in
    let i = c.loop-i.i in
    let event : event_at c.loop-i.t c.word_shown.result ≡ event_of a.activates lines.trace.now lines.log.now a.start i = ap₂ event_at c.loop-i.invariant.cycle c.word_shown.ensures in
    let more =
    event-more a.activates lines.trace.now lines.log.now a.out.now a.start i (omega arith) c.requires.in_bounds c.loop-i.invariant.place c.loop-i.invariant.done
    (c.put-at.ensures.value ∙ ap (λ (l : List ℕ). c.loop-i.at + length l) event) (c.put-at.ensures.out_after ∙ ap (sets c.loop-i.out c.loop-i.at) event)
    in
    let moved : c.from-t.result ≡ tick_in (get_or lines.trace.now i 0) lines.log.now (4 * i) = c.from-t.ensures ∙ ap bool_byte c.is_tick.ensures ∙ byte-of _ in
    record { place = more.0; done = more.1; cycle = omega (arith, moved, c.loop-i.invariant.cycle, ticks-more lines.trace.now lines.log.now i (omega arith)) }
