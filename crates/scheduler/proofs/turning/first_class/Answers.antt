-- `scheduler::turning::first_class` meets its contract: the test tells a home turn from another, and its place among the home turns is that of the definition.
use mathlib.Core.Path.{◌≡◌, sym, ap, ap₂, ◌∙◌}
use mathlib.Core.Bool.{Bool, true, false}
use Prim.Native.Nat.{ℕ, ◌-◌, ◌%◌}
use native.Mathlib.Omega.{arith}
use borrow.Author.Tests.{le-leb, lt-leb}
use Rattle.turns.specs.Turns.{free_turns, home_turn_in, home_place, home_at}
use Rattle.policy.specs.Policy.{home_turn, home_class}
use Rattle.policy.proofs.Laws.{policy-laws}
use Rattle.rules.proofs.Traversal.{first_home, first-least}
use Rattle.scheduler.specs.declared.turning.First.{First}
use Rattle.scheduler.proofs.turning.first_class.Goals as goal
use Rattle.scheduler.proofs.turning.first_class.Goals.{Else-place-m, Then-place-m}

-- where a traversal starts, of its parts
abbrev made : ℕ → Bool → First
made class home = record { class = class; home = home }

-- ---- which turn it is, by the test
other : (c : Then-place-m) → home_turn c.args.p.now c.args.number ≡ false
unfolding home_turn home_turn_in
other c =
    let a = c.args in
    lt-leb (free_turns a.p.now.epoch a.p.now.minimums) (a.number % a.p.now.epoch) (omega (arith, c.requires.free_is, c.if-place-m.true))

home : (c : Else-place-m) → home_turn c.args.p.now c.args.number ≡ true
unfolding home_turn home_turn_in
home c =
    let a = c.args in
    le-leb (free_turns a.p.now.epoch a.p.now.minimums) (a.number % a.p.now.epoch) (omega (arith, c.requires.free_is, c.if-place-m.false))

-- ----
pub nonzero_rem-place : goal.nonzero_rem-place
nonzero_rem-place c = omega (arith, (policy-laws c.args.p.now c.requires.fit).capped.epoch_bounds.0)

pub returns-then-place-m : goal.returns-then-place-m
returns-then-place-m c =
    ap₂ made (c.requires.bottom_is ∙ sym (first-least c.args.p.now c.args.number (other (goal.at.returns-then-place-m c).Then-place-m))) (sym (other (goal.at.returns-then-place-m c).Then-place-m))

pub returns : goal.returns
unfolding home_class home_place
returns c =
    let p = c.args.p.now in
    let number = c.args.number in
    let class : c.home_at.result ≡ home_class p number = c.home_at.ensures ∙ ap (λ (free : ℕ). home_at p.minimums (number % p.epoch - free)) c.requires.free_is in
    ap₂ made (class ∙ sym (first_home p number (home (goal.at.returns c).Else-place-m))) (sym (home (goal.at.returns c).Else-place-m))
