-- The laws of a tick's steps: the owner of a turn is one of the sixteen, whether the turn starts or goes on, and what a tick shows of its turn; and the three outcomes of
-- the second step, each from the tests that lead to it, with what holds of it from what holds of each of the three.
-- Assumes nothing.
use mathlib.Core.Path.{◌≡◌, sym, ap, subst, ◌∙◌}
use mathlib.Core.Logic.{⊎_elim}
use mathlib.Core.Bool.{Bool, true, cond, false}
use mathlib.Core.List.{List}
use Prim.Native.Nat.{ℕ, ◌+◌, ◌%◌, ◌<◌}
use native.Mathlib.Omega.{arith}
use borrow.Author.Tests.{eqb-true}
use lib.Dec.{eqb}
use Rattle.policy.specs.Policy.{in_range}
use Rattle.policy.specs.declared.Policy.{Policy}
use Rattle.basics.proofs.Truth.{either, on-true, on-false}
use Rattle.rules.specs.Traversal.{first_class, candidates, left_tried}
use Rattle.rules.specs.Step.{turn_starts, turn_number, left_at_start, turn_word, TurnStart, owned_by, traversal, start_turn, turns_at, Driven, Bus, due_column, can_activate, column_sent, request_sent, nothing_sent, drive}
use Rattle.state.specs.declared.Turns.{Turns}
use Rattle.rules.proofs.Traversal.{owner_small, climbs, first_small}

-- ---- the turn

module _ (p : Policy) (given : in_range p ≡ true) where
  start-owner : (k : ℕ) (lengths left pointers : List ℕ) → (start_turn p k lengths left pointers).turns.owner < 16
  unfolding start_turn owned_by
  start-owner k lengths left pointers =
      owner_small (candidates p.covers lengths (left_tried p k (left_at_start p k left))) p.rows (climbs p given) 16 pointers (first_class p k) (first_small p given k)

  pub turn-owner : (t : ℕ) (lengths : List ℕ) (turns : Turns) → turns.owner < 16 → (turns_at p t lengths turns).turns.owner < 16
  unfolding turns_at
  turn-owner t lengths turns l =
      let small : TurnStart → Type 0 = λ r. r.turns.owner < 16 in
      ⊎_elim
      (λ e. subst small (sym (on-true (turn_starts p t) _ _ e)) (start-owner (turn_number p t) lengths turns.left turns.pointers))
      (λ e. subst small (sym (on-false (turn_starts p t) _ _ e)) l)
      (either (turn_starts p t))

-- a turn number in the log names the owner
pub word-owner : (o : ℕ) (b : Bool) (tried : ℕ) → o < 16 → turn_word o b tried % 256 ≡ o + 1
unfolding turn_word
word-owner o true tried l = omega (arith, l)
word-owner o false tried l = omega (arith, l)

-- how many classes the traversal tries, if a turn starts
abbrev pub tried_at : Policy → ℕ → List ℕ → Turns → ℕ
tried_at p t lengths turns = (traversal p (turn_number p t) lengths turns.left turns.pointers).tried

-- "Turn is 0 unless a turn starts, then 1 + owner, plus 256 if the dead time is dropped.", and W-212's field
pub turn-shown : (p : Policy) (t : ℕ) (lengths : List ℕ) (turns : Turns) → (turns_at p t lengths turns).shown ≡ cond (turn_starts p t) (turn_word (turns_at p t lengths turns).turns.owner (turns_at p t lengths turns).turns.elided (tried_at p t lengths turns)) 0
unfolding turns_at start_turn owned_by
turn-shown p t lengths turns =
    let started = start_turn p (turn_number p t) lengths turns.left turns.pointers in
    let same : TurnStart = record { turns = turns; shown = 0 } in
    let word : Turns → ℕ = λ now. turn_word now.owner now.elided (tried_at p t lengths turns) in
    let right : TurnStart → Type 0 = λ r. r.shown ≡ cond (turn_starts p t) (word r.turns) 0 in
    ⊎_elim
    (λ e. subst right (sym (on-true (turn_starts p t) started same e)) (sym (ap (λ (b : Bool). cond b (word started.turns) 0) e)))
    (λ e. subst right (sym (on-false (turn_starts p t) started same e)) (sym (ap (λ (b : Bool). cond b (word turns) 0) e)))
    (either (turn_starts p t))

-- ---- the wires

module _ (b : Bus) where
  pub drive-column : eqb (due_column b) 0 ≡ false → drive b ≡ column_sent b
  unfolding drive
  drive-column e = on-false (eqb (due_column b) 0) _ (column_sent b) e

  pub drive-nothing : eqb (due_column b) 0 ≡ true → can_activate b ≡ false → drive b ≡ nothing_sent b
  unfolding drive
  drive-nothing e n = on-true (eqb (due_column b) 0) _ (column_sent b) e ∙ on-false (can_activate b) (request_sent b) (nothing_sent b) n

  pub drive-activate : eqb (due_column b) 0 ≡ true → can_activate b ≡ true → drive b ≡ request_sent b
  unfolding drive
  drive-activate e y = on-true (eqb (due_column b) 0) _ (column_sent b) e ∙ on-true (can_activate b) (request_sent b) (nothing_sent b) y

  pub outcome : (P : Driven → Type 0) → ((eqb (due_column b) 0 ≡ false) → P (column_sent b)) → ((due_column b ≡ 0) → can_activate b ≡ true → P (request_sent b)) → ((due_column b ≡ 0) → can_activate b ≡ false → P (nothing_sent b)) → P (drive b)
  outcome P column request nothing =
      ⊎_elim
      (λ none.
      let due = eqb-true (due_column b) 0 none in
      ⊎_elim
      (λ goes. subst P (sym (drive-activate none goes)) (request due goes))
      (λ stays. subst P (sym (drive-nothing none stays)) (nothing due stays))
      (either (can_activate b)))
      (λ due. subst P (sym (drive-column due)) (column due))
      (either (eqb (due_column b) 0))
