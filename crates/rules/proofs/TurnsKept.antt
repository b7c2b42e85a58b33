-- A turn's start keeps what 13 asks of the turns: the owner is a class, pointers stay within the covers, and turns left within the caps.
-- Assumes nothing.
use mathlib.Core.Path.{◌≡◌, sym, ◌∙◌, subst}
use mathlib.Core.Logic.{⊎_elim}
use mathlib.Core.Bool.{true}
use mathlib.Core.List.{List}
use Prim.Native.Nat.{ℕ, ◌-◌, ◌%◌, ◌≤◌, ◌<◌, zero-le}
use native.Mathlib.Nat.{le_refl}
use native.Mathlib.Omega.{arith}
use borrow.Author.Tests.{eqb-false}
use lib.Dec.{eqb}
use lib.ListN.{get_or, set, length-set}
use Rattle.policy.specs.Policy.{covers_of, cover_count, cap, in_range}
use Rattle.policy.specs.declared.Policy.{Policy}
use Rattle.basics.proofs.Truth.{either, on_both, on-true, on-false}
use Rattle.basics.proofs.Stores.{stored_at}
use Rattle.policy.proofs.Laws.{policy-laws}
use Rattle.rules.specs.Traversal.{first_class, candidates, moved, moved_pointer, passed_at, ends_at, try_class, charge, left_tried, charged, takes_home}
use Rattle.rules.specs.Step.{turn_starts, turn_number, left_at_start, TurnStart, owned_by, start_turn, turns_at}
use Rattle.state.specs.declared.Turns.{Turns}
use Rattle.rules.proofs.Range.{Within, TurnsRange}
use Rattle.rules.proofs.Traversal.{moved-names, traversed, passes-small, climbs, first-class, first_small, ascends}

-- storing one within its bound keeps that
set-within : (bound : ℕ → ℕ) (l : List ℕ) (c x : ℕ) → c < 16 → x ≤ bound c → Within bound l → Within bound (set l c x)
set-within bound l c x small h w =
    record {
      sixteen = length-set l c x ∙ w.sixteen;
      within =
          λ j under.
          stored_at (λ y. y ≤ bound j) l c x j (subst (λ (n : ℕ). c < n) (sym w.sixteen) small) (λ e. subst (λ (k : ℕ). x ≤ bound k) (sym e) h) (λ e. w.within j under);
    }

module _ (p : Policy) (given : in_range p ≡ true) where
  -- ---- pointers

  moved-within : (pointers : List ℕ) (c : ℕ) → moved_pointer p.covers pointers c ≤ cover_count p c
  unfolding moved_pointer cover_count covers_of moved
  moved-within pointers c =
      ⊎_elim
      (λ e. rw (e) zero-le)
      (λ e. (moved-names (get_or p.covers c 0) (get_or pointers c 0) ((climbs p given).sets c) (eqb-false (get_or p.covers c 0) 0 e)).within)
      (either (eqb (get_or p.covers c 0) 0))

  pub pointers-within : (lengths left : List ℕ) (bound : ℕ) (pointers : List ℕ) (c : ℕ) → c < 16 → Within (cover_count p) pointers → Within (cover_count p) (try_class bound (candidates p.covers lengths left) pointers c).pointers
  unfolding ends_at passed_at
  pointers-within lengths left =
      let all = candidates p.covers lengths left in
      let moving : (pointers : List ℕ) (c : ℕ) → c < 16 → Within (cover_count p) pointers → Within (cover_count p) (passed_at p.covers pointers c) =
      λ pointers c l w. set-within (cover_count p) pointers c (moved_pointer p.covers pointers c) l (moved-within pointers c) w
      in
      traversed all (λ pointers c r. c < 16 → Within (cover_count p) pointers → Within (cover_count p) r.pointers) (λ pointers c l w. w)
      (λ rest pointers c t next l w. next (passes-small all p.rows (climbs p given) pointers c t) (moving pointers c l w))

  -- ---- turns left

  pub caps-within : Within (cap p) p.caps
  unfolding cap
  caps-within = record { sixteen = (policy-laws p given).capped.sixteen; within = λ j l. le_refl (get_or p.caps j 0) }

  pub start-within : (k : ℕ) (left : List ℕ) → Within (cap p) left → Within (cap p) (left_at_start p k left)
  unfolding left_at_start
  start-within k left w = on_both (Within (cap p)) (eqb (k % p.epoch) 0) p.caps left caps-within w

  charge-within : (left : List ℕ) (owner : ℕ) → owner < 16 → Within (cap p) left → Within (cap p) (charge left owner)
  unfolding charge
  charge-within left owner l w =
      set-within (cap p) left owner (get_or left owner 0 - 1) l (omega (arith, w.within owner l)) w

  -- at a home turn that its class takes nobody is charged
  charged-within : (k : ℕ) (lengths left : List ℕ) (owner : ℕ) → owner < 16 → Within (cap p) left → Within (cap p) (charged p k lengths left owner)
  unfolding charged
  charged-within k lengths left owner l w = on_both (Within (cap p)) (takes_home p k lengths) left (charge left owner) w (charge-within left owner l w)

  -- ---- a turn's start

  start-kept : (k : ℕ) (lengths : List ℕ) (turns : Turns) → TurnsRange p turns → TurnsRange p (start_turn p k lengths turns.left turns.pointers).turns
  unfolding start_turn owned_by
  start-kept k lengths turns r =
      let left = left_at_start p k turns.left in
      let tried = left_tried p k left in
      let first = first_class p k in
      let reached = try_class 16 (candidates p.covers lengths tried) turns.pointers first in
      let laws = policy-laws p given in
      let owner_class = laws.order.to_class first reached.owner (ascends p given 16 lengths tried turns.pointers first (first-class p given k)) in
      record {
        owner_class = owner_class;
        left_within = charged-within k lengths left reached.owner (laws.order.class_small reached.owner owner_class) (start-within k turns.left r.left_within);
        pointers_fit = pointers-within lengths tried 16 turns.pointers first (first_small p given k) r.pointers_fit;
      }

  pub turns-kept : (t : ℕ) (lengths : List ℕ) (turns : Turns) → TurnsRange p turns → TurnsRange p (turns_at p t lengths turns).turns
  unfolding turns_at
  turns-kept t lengths turns r =
      let fits : TurnStart → Type 0 = λ start. TurnsRange p start.turns in
      ⊎_elim
      (λ e. subst fits (sym (on-true (turn_starts p t) _ _ e)) (start-kept (turn_number p t) lengths turns r))
      (λ e. subst fits (sym (on-false (turn_starts p t) _ _ e)) r)
      (either (turn_starts p t))
