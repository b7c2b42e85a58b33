-- `extract::put_call` meets its contract: of a call that stays four numbers are left, and of another none.
use Rattle.std.proofs.Common.{◌≡◌, ◌∙◌, ◌+◌, ℕ, List, [], true, ap, arith, sym}
use Rattle.std.proofs.lemmas.List.Edits.{sets}
use native.Mathlib.Nat.{add-zero}
use Rattle.masks.specs.Mask.{member}
use Rattle.extract.specs.Seen.{stays}
use Rattle.extract.specs.Extract.{line_seen_at}
use Rattle.extract.proofs.Grown.{four-left, none_left}
use Rattle.extract.proofs.put_call.Goals as goal
use Rattle.extract.proofs.put_call.Goals.{Then-stays, Else-stays}

-- the test passed, and it failed
kept : (c : Then-stays) → stays (member c.args.seen) c.args.word ≡ true
kept c = sym c.stays.ensures ∙ c.if-stays.true

dropped : (c : Else-stays) → line_seen_at (member c.args.seen) c.args.word c.args.log.now c.args.from ≡ []
dropped c = none_left (member c.args.seen) c.args.word c.args.log.now c.args.from (sym c.stays.ensures ∙ c.if-stays.false)

pub put-requires : goal.put-requires
put-requires c =
    let a = c.args in
    omega (arith, four-left (member a.seen) a.word a.log.now a.from (kept (goal.at.put-requires c).Then-stays))

pub returns-then-stays : goal.returns-then-stays
unfolding line_seen_at
returns-then-stays c =
    let a = c.args in
    record {
      value = ap (λ (n : ℕ). a.at + n) (sym (four-left (member a.seen) a.word a.log.now a.from (kept (goal.at.returns-then-stays c).Then-stays)));
      out_after = c.put.ensures ∙ ap (λ (l : List ℕ). sets a.out.now a.at l) c.shown.ensures;
    }

pub returns : goal.returns
returns c =
    let none = dropped (goal.at.returns c).Else-stays in
    record { value = rw none (sym (add-zero c.args.at)); out_after = rw none }
