-- `wires::driving::activate` meets its contract: the four stores are those of the definition.
use Rattle.std.proofs.Common.{◌≡◌, ℕ, ◌+◌, ◌%◌, refl, arith}
use Rattle.requests.specs.Word.{rank_of, kind_of}
use Rattle.rules.specs.Wire.{activated}
use Rattle.requests.proofs.Word.{rank-small}
use Rattle.wires.proofs.driving.activate.Goals as goal

-- the pending places of a sum are those of the sum that wraps
wraps-to : (sum wrapped : ℕ) → wrapped ≡ sum % 4294967296 → wrapped % 32 ≡ sum % 32
wraps-to sum wrapped e = omega arith

pub returns : goal.returns
unfolding activated
returns c (ticks_left, kind) =
    let a = c.args in
    let column = wraps-to (a.cycle + a.timing.column) _ refl in
    let response = wraps-to (a.cycle + a.timing.response) _ refl in
    let same-cycle : a.cycle % 16777216 ≡ a.cycle = omega (arith, ticks_left) in
    let same_kind : kind_of a.word % 2 ≡ kind_of a.word = omega (arith, kind) in
    let same_rank : rank_of a.word % 4 ≡ rank_of a.word = let small = rank-small a.word in omega (arith, small) in
    rw (column, response, c.activate_at-last.ensures, c.kind_of.ensures, c.rank_of.ensures, c.bank_place-bank.ensures.place, same-cycle, same_kind, same_rank)
