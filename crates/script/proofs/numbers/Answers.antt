-- After i bytes the list and the number that has not ended are those that the definition has read of them.
use Rattle.std.proofs.Common.{◌≡◌, refl, sym, ap, ◌∙◌, subst, List, ℕ, suc, ◌+◌, ◌-◌, arith, get_or}
use Rattle.script.specs.Script.{line_end, token_after, with_token, Progress, read_of, numbers_of}
use Rattle.script.specs.declared.List.{List as Numbers}
use Rattle.script.specs.declared.Token.{Token}
use Rattle.script.proofs.numbers.Goals as goal

-- what is read with a byte more, which stands at a place
step : List ℕ → ℕ → Progress → Progress
step text at p =
    let next = token_after p.token (get_or text at 0) in
    record { list = with_token p.list p.token next; token = next }

step_is : {b : ℕ} {token : Token} {list : Numbers} (text : List ℕ) (at : ℕ) (p : Progress) → b ≡ get_or text at 0 → token ≡ token_after p.token b → list ≡ with_token p.list p.token token → record { list = list; token = token } ≡ step text at p
unfolding step
step_is text at p e then made = rw (made, then, e)

read_more : (text : List ℕ) (from i : ℕ) → read_of text from (suc i) ≡ step text (from + i) (read_of text from i)
unfolding read_of step
read_more text from i = refl

pub loop-at-init : goal.loop-at-init
unfolding read_of
loop-at-init c =
    let a = c.args in
    let start : 0 ≡ a.from - a.from = omega arith in
    record { read = subst (λ (i : ℕ). read_of a.text.now a.from 0 ≡ read_of a.text.now a.from i) start refl; within = omega arith }

pub loop-at-preserved : goal.loop-at-preserved
loop-at-preserved c =
    let a = c.args in
    let text = a.text.now in
    let at = c.loop-at.at in
    let inv = c.loop-at.invariant in
    let before : Progress = record { list = c.loop-at.list; token = c.loop-at.token } in
    let i = at - a.from in
    let there : at ≡ a.from + i = omega (arith, c.loop-at.auto.at) in
    let next : suc i ≡ at + 1 - a.from = omega (arith, c.loop-at.auto.at) in
    record {
      read =
          step_is text at before c.byte.ensures c.token_after-next.ensures c.put.ensures
          ∙ ap (step text at) inv.read
          ∙ ap (λ (k : ℕ). step text k (read_of text a.from i)) there
          ∙ sym (read_more text a.from i)
          ∙ ap (read_of text a.from) next;
      within = omega (arith, c.loop-at.auto.at, c.loop-at-test.true);
    }

pub returns : goal.returns
unfolding numbers_of line_end
returns c =
    let a = c.args in
    let inv = c.loop-at.invariant in
    let done : c.loop-at.at - a.from ≡ c.after-end.result - a.from = omega (arith, inv.within, c.loop-at-test.false) in
    ap (λ (p : Progress). p.list) inv.read
    ∙ ap (λ (i : ℕ). (read_of a.text.now a.from i).list) done
    ∙ ap (λ (end : ℕ). (read_of a.text.now a.from (end - a.from)).list) c.after-end.ensures.place
