-- `extract::shown` meets its contract: an offer that stays leaves its line as it is, and a tick's has the hidden numbers.
use Rattle.std.proofs.Common.{◌≡◌, ◌∙◌, rules, length}
use Rattle.masks.specs.Mask.{member}
use Rattle.extract.proofs.Grown.{tick-line, offer-line, four_of}
use Rattle.extract.proofs.shown.Goals as goal

pub returns-then-word-ne0 : goal.returns-then-word-ne0
returns-then-word-ne0 c =
    let a = c.args in
    let four : length a.line ≡ 4 = search rules in
    four_of a.line four ∙ offer-line (member a.seen) a.word _ _ _ _ c.if-word-ne0.true c.requires

pub returns : goal.returns
returns c = tick-line (member c.args.seen) c.args.word _ _ _ _ c.if-word-ne0.false c.hide_word.ensures c.hide_word-2.ensures c.hide_turn.ensures
