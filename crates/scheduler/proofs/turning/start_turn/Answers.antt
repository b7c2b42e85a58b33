-- `scheduler::turning::start_turn` meets its contract. Where the home class takes the turn, the definition's traversal, which tries it as one with a turn left, ends at it; elsewhere
-- that makes no difference to the traversal. Each later call adds its part of the definition.
use mathlib.Core.Path.{◌≡◌, refl, sym, ap, ap₂, ◌∙◌, subst}
use mathlib.Core.Logic.{⊎_elim}
use mathlib.Core.Bool.{Bool, true, cond, not, ◌&&◌}
use mathlib.Core.List.{List}
use Prim.Native.Nat.{ℕ, ◌%◌, ◌≤◌, ◌<◌}
use native.Mathlib.Omega.{arith}
use lib.Dec.{eqb}
use lib.ListN.{length, get_or}
use Rattle.policy.specs.declared.Policy.{Policy}
use Rattle.policy.specs.Policy.{home_turn}
use Rattle.policy.specs.Policy.{in_range as policy_in_range}
use Rattle.basics.proofs.Truth.{either, on_both}
use Rattle.policy.proofs.Laws.{policy-laws}
use Rattle.rules.specs.Traversal.{first_class, candidates, Reached, ends_at, try_class, charge, takes_home, left_tried, charged}
use Rattle.rules.specs.Lookahead.{elides}
use Rattle.rules.specs.Step.{left_at_start, turn_word, TurnStart, owned_by, traversal, start_turn}
use Rattle.state.specs.Stored.{turns_of}
use Rattle.rules.proofs.Traversal.{owner_small, tried-few, climbs, first_small, home-takes, home-idle}
use Rattle.scheduler.specs.declared.turning.First.{First}
use Rattle.scheduler.specs.InPlace.{reached_of}
use Rattle.scheduler.proofs.turning.start_turn.Goals as goal
use Rattle.scheduler.proofs.turning.start_turn.Goals.{After-charge, After-owner_from-owner}

-- ---- where the traversal starts, and whether the home class takes the turn
module _ (p : Policy) (number : ℕ) (first : First) (e : first ≡ record { class = first_class p number; home = home_turn p number }) where
  starts-at : first.class ≡ first_class p number
  starts-at = ap (λ (f : First). f.class) e

  starts-small : policy_in_range p ≡ true → first.class < 16
  starts-small given = omega (arith, starts-at, first_small p given number)

  taken_is : (lengths : List ℕ) → (first.home && not (eqb (get_or lengths first.class 0) 0)) ≡ takes_home p number lengths
  unfolding takes_home first_class
  taken_is lengths =
      ap (λ (f : First). f.home && not (eqb (get_or lengths f.class 0) 0)) e
      ∙ ⊎_elim (λ home. rw home) (λ other. rw other) (either (home_turn p number))

-- ---- the traversal
module _ (p : Policy) (given : policy_in_range p ≡ true) (number : ℕ) (lengths left pointers : List ℕ) (sixteen : length left ≡ 16) where
  -- the turns left as the turn starts
  abbrev full : List ℕ
  full = left_at_start p number left

  full-long : length full ≡ 16
  unfolding left_at_start
  full-long = on_both (λ (l : List ℕ). length l ≡ 16) (eqb (number % p.epoch) 0) p.caps left (policy-laws p given).capped.sixteen sixteen

  -- the definition's, from where it starts and by the turns left that it goes by, is the one by the turns left as they are, unless the home class takes the turn
  either_way : cond (takes_home p number lengths) (ends_at pointers (first_class p number)) (try_class 16 (candidates p.covers lengths full) pointers (first_class p number)) ≡ traversal p number lengths left pointers
  either_way =
      ⊎_elim
      (λ taken. rw taken (sym (home-takes p given number lengths full full-long taken 16 pointers)))
      (λ idle. rw idle (sym (home-idle p number lengths full idle 16 pointers (first_class p number))))
      (either (takes_home p number lengths))

-- what it answered
abbrev reached : After-owner_from-owner → Reached
reached c = reached_of c.owner_from-owner.result c.owner_from-owner.new.pointers c.owner_from-owner.new.tried

abbrev full-at : After-owner_from-owner → List ℕ
full-at c = left_at_start c.args.p.now c.args.number c.args.turns.now.left

abbrev walk : After-owner_from-owner → Reached
walk c = traversal c.args.p.now c.args.number c.args.lengths.now c.args.turns.now.left c.args.turns.now.pointers

walked : (c : After-owner_from-owner) → reached c ≡ walk c
walked c =
    let a = c.args in
    let p = a.p.now in
    let ends : Bool → List ℕ → ℕ → Reached =
    λ taken left from. cond taken (ends_at a.turns.now.pointers from) (try_class 16 (candidates p.covers a.lengths.now left) a.turns.now.pointers from) in
    c.owner_from-owner.ensures
    ∙ ap (λ (left : List ℕ). ends c.takes_home-taken.result left c.first_class-first.result.class) c.left_at_start.ensures
    ∙ ap₂ (λ (taken : Bool) (from : ℕ). ends taken (full-at c) from) (c.takes_home-taken.ensures ∙ taken_is p a.number _ c.first_class-first.ensures a.lengths.now) (starts-at p a.number _ c.first_class-first.ensures)
    ∙ either_way p c.requires.0.fit a.number a.lengths.now a.turns.now.left a.turns.now.pointers c.requires.2

owner_here : (c : After-owner_from-owner) → c.owner_from-owner.result < 16
owner_here c =
    let a = c.args in
    let p = a.p.now in
    subst (λ (r : Reached). r.owner < 16) (sym (walked c))
    (owner_small (candidates p.covers a.lengths.now (left_tried p a.number (full-at c))) p.rows (climbs p c.requires.0.fit) 16 a.turns.now.pointers (first_class p a.number) (first_small p c.requires.0.fit a.number))

tries-few : (c : After-owner_from-owner) → c.owner_from-owner.new.tried ≤ 17
tries-few c =
    let a = c.args in
    let p = a.p.now in
    subst (λ (r : Reached). r.tried ≤ 17) (sym (walked c))
    (tried-few (candidates p.covers a.lengths.now (left_tried p a.number (full-at c))) 16 a.turns.now.pointers (first_class p a.number))

-- ---- the charge
charged-is : (c : After-charge) → c.charge.new.left ≡ charged c.args.p.now c.args.number c.args.lengths.now (left_at_start c.args.p.now c.args.number c.args.turns.now.left) c.owner_from-owner.result
unfolding charged
charged-is c =
    let a = c.args in
    c.charge.ensures
    ∙ ap₂ (λ (taken : Bool) (left : List ℕ). cond taken left (charge left c.owner_from-owner.result)) (c.takes_home-taken.ensures ∙ taken_is a.p.now a.number _ c.first_class-first.ensures a.lengths.now) c.left_at_start.ensures

-- ----
-- what a turn's start hands back, of its parts
abbrev made : ℕ → Bool → List ℕ → List ℕ → ℕ → TurnStart
made owner elided left pointers shown = record { turns = turns_of owner elided left pointers; shown = shown }

pub takes_home-taken-requires : goal.takes_home-taken-requires
takes_home-taken-requires c = starts-small _ _ _ c.first_class-first.ensures c.requires.0.fit

pub owner_from-owner-requires : goal.owner_from-owner-requires
owner_from-owner-requires c =
    (climbs c.args.p.now c.requires.0.fit, starts-small _ _ _ c.first_class-first.ensures c.requires.0.fit, c.requires.3, refl)

pub charge-requires : goal.charge-requires
charge-requires c = owner_here (goal.at.charge-requires c).After-owner_from-owner

pub elides-turns-requires : goal.elides-turns-requires
elides-turns-requires c =
    (c.requires.0, c.requires.1, owner_here (goal.at.elides-turns-requires c).After-owner_from-owner)

pub returns : goal.returns
unfolding owned_by start_turn
returns c =
    let at = goal.at.returns c in
    let p = c.args.p.now in
    let number = c.args.number in
    let lengths = c.args.lengths.now in
    let full = full-at at.After-owner_from-owner in
    let owner = c.owner_from-owner.result in
    let tries = c.owner_from-owner.new.tried in
    let owner-is : owner % 16 ≡ owner = omega (arith, owner_here at.After-owner_from-owner) in
    let tries-is : tries % 32 ≡ tries = omega (arith, tries-few at.After-owner_from-owner) in
    let pointers = c.owner_from-owner.new.pointers in
    let elided : c.elides-turns.result ≡ elides p number (charged p number lengths full owner) pointers owner = c.elides-turns.ensures ∙ ap (λ (l : List ℕ). elides p number l pointers owner) (charged-is at.After-charge) in
    let shown : c.turn_word.result ≡ turn_word owner c.elides-turns.result tries = c.turn_word.ensures ∙ ap₂ (λ (o n : ℕ). turn_word o c.elides-turns.result n) owner-is tries-is in
    let one : made owner c.elides-turns.result c.charge.new.left pointers c.turn_word.result ≡ owned_by p number lengths full (reached at.After-owner_from-owner) =
    ap (made owner c.elides-turns.result c.charge.new.left pointers) shown
    ∙ ap₂ (λ (b : Bool) (l : List ℕ). made owner b l pointers (turn_word owner b tries)) elided (charged-is at.After-charge)
    in
    one ∙ ap (owned_by p number lengths full) (walked at.After-owner_from-owner)
