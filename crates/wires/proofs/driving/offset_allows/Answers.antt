-- `wires::driving::offset_allows` meets its contract: with sound timing the difference does not wrap, and it is the definition at the offset that is handed in.
use Rattle.std.proofs.Common.{◌≡◌, ℕ, ◌+◌, ◌-◌, ◌%◌, ◌||◌, ltb, ap₂, arith}
use Rattle.rules.specs.Wire.{offset_allows}
use Rattle.wires.proofs.driving.offset_allows.Goals as goal

pub returns : goal.returns
unfolding offset_allows
returns c (timed, in_step) =
    let a = c.args in
    let difference : (a.timing.turn + (4294967296 - a.timing.dead)) % 4294967296 ≡ a.timing.turn - a.timing.dead = omega (arith, timed.dead_below_turn, timed.turn_bounds) in
    ap₂ (λ (k end : ℕ). a.elided || ltb k end) in_step difference
