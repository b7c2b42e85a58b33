-- `extract::put` meets its contract: four numbers that are copied at once are a run of stores.
use Rattle.std.proofs.Common.{◌≡◌, ◌∙◌, ◌+◌, ◌-◌, ◌≤◌, length, append_assoc, arith, refl, rules, sym}
use Rattle.std.proofs.lemmas.List.Edits.{paste_all, sets-eq}
use Rattle.std.proofs.lemmas.Slice.{put_mid-paste}
use Rattle.extract.proofs.put.Goals as goal

pub returns : goal.returns
returns c =
    let a = c.args in
    let four : length a.line ≡ 4 = search rules in
    let room : a.at + length a.line ≤ length a.out.now = omega arith in
    put_mid-paste a.at (a.at + 4 - a.at) a.out.now c.copy_from_slice.new.self a.line (length a.line) c.copy_from_slice.ensures.after (omega arith) refl
    ∙ paste_all a.out.now a.at a.line (length a.line) refl
    ∙ sym (append_assoc _ a.line _)
    ∙ sym (sets-eq a.line a.out.now a.at room)
