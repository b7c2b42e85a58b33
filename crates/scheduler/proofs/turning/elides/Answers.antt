-- `scheduler::turning::elides` meets its contract: before a home turn the owner's row answers, before another each branch is the lookahead by the turns left that its test picks, and an
-- epoch is not 0.
use mathlib.Core.Path.{◌≡◌, sym, ap, ◌∙◌, subst}
use mathlib.Core.Bool.{Bool, true, false, cond}
use mathlib.Core.List.{List}
use Prim.Native.Nat.{ℕ, ◌+◌, ◌%◌, ◌<◌}
use native.Mathlib.Omega.{arith}
use borrow.Author.Tests.{eq-eqb, ne_eqb}
use lib.Dec.{eqb}
use lib.ListN.{get_or}
use Rattle.masks.specs.Mask.{member}
use Rattle.order.specs.Order.{flows_in}
use Rattle.policy.specs.Policy.{flows, least, home_turn, home_class}
use Rattle.policy.proofs.Laws.{policy-laws}
use Rattle.rules.specs.Traversal.{first_class}
use Rattle.rules.specs.Climb.{Climbs}
use Rattle.rules.specs.Lookahead.{looking_ahead, reaches, next_left, elides}
use Rattle.rules.proofs.Traversal.{climbs, first_home, first-least, first_small}
use Rattle.rules.proofs.Lookahead.{elides-home, elides-other}
use Rattle.scheduler.specs.declared.turning.First.{First}
use Rattle.scheduler.proofs.turning.elides.Goals as goal
use Rattle.scheduler.proofs.turning.elides.Goals.{After-first_class-next, Else-next, Start, Then-next}

-- ---- where the next turn's traversal starts, and what turn that is

starts-at : (c : After-first_class-next) → c.first_class-next.result.class ≡ first_class c.args.p.now (c.args.number + 1)
starts-at c = ap (λ (f : First). f.class) c.first_class-next.ensures

home : (c : Then-next) → home_turn c.args.p.now (c.args.number + 1) ≡ true
home c = sym (ap (λ (f : First). f.home) c.first_class-next.ensures) ∙ c.if-next.true

other : (c : Else-next) → home_turn c.args.p.now (c.args.number + 1) ≡ false
other c = sym (ap (λ (f : First). f.home) c.first_class-next.ensures) ∙ c.if-next.false

-- ---- the lookahead
-- by the turns left, from a class on
abbrev reached-by : Start → List ℕ → ℕ → Bool
reached-by s left from = reaches 16 (looking_ahead s.args.p.now.rows s.args.p.now.covers left s.args.turns.now.pointers) s.args.owner from

-- it starts at the least class where the next turn is no home turn
same-reaches : (c : Else-next) (left : List ℕ) → reached-by c.before.before left c.first_class-next.result.class ≡ reached-by c.before.before left (least c.args.p.now)
same-reaches c left =
    ap (reached-by c.before.before left) (starts-at c.before ∙ first-least c.args.p.now (c.args.number + 1) (other c))

-- the definition there, by the turns left that it picks
picked : (c : Else-next) (b : Bool) → eqb ((c.args.number + 1) % c.args.p.now.epoch) 0 ≡ b → elides c.args.p.now c.args.number c.args.turns.now.left c.args.turns.now.pointers c.args.owner ≡ reached-by c.before.before (cond b c.args.p.now.caps c.args.turns.now.left) (least c.args.p.now)
unfolding next_left
picked c b e =
    elides-other c.args.p.now c.args.number c.args.turns.now.left c.args.turns.now.pointers c.args.owner (other c)
    ∙ ap (λ (t : Bool). reached-by c.before.before (cond t c.args.p.now.caps c.args.turns.now.left) (least c.args.p.now)) e

-- what the lookahead rests on
rests : (c : After-first_class-next) → Climbs c.args.p.now.rows c.args.p.now.covers × (c.first_class-next.result.class < 16)
rests c =
    (climbs c.args.p.now c.requires.0.fit, subst (λ (k : ℕ). k < 16) (sym (starts-at c)) (first_small c.args.p.now c.requires.0.fit (c.args.number + 1)))

pub returns-then-next : goal.returns-then-next
unfolding flows flows_in
returns-then-next c =
    let p = c.args.p.now in
    let owner = c.args.owner in
    let at = goal.at.returns-then-next c in
    let then : c.first_class-next.result.class ≡ home_class p (c.args.number + 1) = starts-at at.After-first_class-next ∙ first_home p (c.args.number + 1) (home at.Then-next) in
    c.has.ensures
    ∙ ap (member (get_or p.rows owner 0)) then
    ∙ sym (elides-home p c.args.number c.args.turns.now.left c.args.turns.now.pointers owner (home at.Then-next))

pub nonzero_rem-number : goal.nonzero_rem-number
nonzero_rem-number c = omega (arith, (policy-laws c.args.p.now c.requires.0.fit).capped.epoch_bounds.0)

pub reaches-requires : goal.reaches-requires
reaches-requires c = rests (goal.at.reaches-requires c).After-first_class-next

pub returns-then-number-p-eq0 : goal.returns-then-number-p-eq0
returns-then-number-p-eq0 c =
    let at = goal.at.returns-then-number-p-eq0 c in
    c.reaches.ensures ∙ same-reaches at.Else-next c.args.p.now.caps ∙ sym (picked at.Else-next _ (eq-eqb _ 0 c.if-number-p-eq0.true))

pub reaches-requires-2 : goal.reaches-requires-2
reaches-requires-2 c = rests (goal.at.reaches-requires-2 c).After-first_class-next

pub returns : goal.returns
returns c =
    let at = goal.at.returns c in
    c.reaches-2.ensures ∙ same-reaches at.Else-next c.args.turns.now.left ∙ sym (picked at.Else-next _ (ne_eqb _ 0 c.if-number-p-eq0.false))
