-- The first step of a tick in two runs: the turns agree after it, and at a low owner the last activates do.
-- Assumes nothing.
use mathlib.Core.Path.{◌≡◌, sym, ap, ◌∙◌, subst}
use mathlib.Core.Logic.{inr, ⊎_elim}
use mathlib.Core.Bool.{Bool, true, false}
use Prim.Native.Nat.{ℕ, ◌+◌}
use native.Mathlib.Omega.{arith}
use Rattle.policy.specs.Policy.{flows}
use Rattle.policy.specs.Policy.{in_range as policy_in_range}
use Rattle.policy.specs.declared.Policy.{Policy}
use Rattle.basics.proofs.Truth.{either, not-both, false-unless, on-true, on-false}
use Rattle.policy.proofs.Laws.{policy-laws}
use Rattle.queues.specs.Waiting.{length_of}
use Rattle.rules.specs.Wire.{gap_met}
use Rattle.rules.specs.Step.{turn_starts, turn_number, owned_by, start_turn, turns_at, TurnStart}
use Rattle.rules.specs.History.{turn_before, until_turn, Activates, Held}
use Rattle.state.specs.declared.Turns.{Turns}
use Rattle.flight.specs.declared.Flight.{Flight}
use Rattle.state.specs.declared.State.{State}
use Rattle.rules.proofs.Lookahead.{elision}
use Rattle.rules.proofs.Step.{tried_at}
use Rattle.rules.proofs.Range.{ranged}
use Rattle.rules.proofs.Calendar.{until-start, number-start}
use Rattle.noninterference.proofs.Low.{Downward, EntriesAgree, TurnsAgree, LastsAgree}
use Rattle.noninterference.proofs.Alike.{Alike}
use Rattle.noninterference.proofs.Walks.{traversal-agrees, start-agrees}
use Rattle.noninterference.proofs.Offers.{same_length}

module _ (p : Policy) (given : policy_in_range p ≡ true) (low : ℕ → Bool) (closed : Downward p low) where
  -- the owner that a turn's start picks
  abbrev picked : State → Turns
  picked s = (start_turn p (turn_number p s.cycle) s.queues.lengths s.turns.left s.turns.pointers).turns

  -- where a low owner follows a high one, the dead time was kept, so every gap is met
  rested : (s : State) → Held p s → turn_starts p s.cycle ≡ true → low s.turns.owner ≡ false → low (picked s).owner ≡ true → Activates (λ last. gap_met last p.timing.dead s.cycle ≡ true) s.flight
  rested s h e high i =
      let t = s.cycle in
      let w = ranged p s h.ranges in
      let two = (policy-laws p given).timed.turn_bounds.0 in
      let now : t + until_turn p t ≡ t = omega (arith, (until-start p two t e).0) in
      let kept : s.turns.elided ≡ false =
      false-unless s.turns.elided
      (λ elided.
      let on = elision p given (turn_before p t) s.turns.left s.turns.pointers s.turns.owner w.turns.owner_class (h.stands elided) s.queues.lengths in
      let to = subst (λ (k : ℕ). flows p s.turns.owner (start_turn p k s.queues.lengths s.turns.left s.turns.pointers).turns.owner ≡ true) (sym (number-start p two t (h.begun elided) e)) on in
      not-both (closed s.turns.owner (picked s).owner to i) high)
      in
      subst (λ (k : ℕ). Activates (λ last. gap_met last p.timing.dead k ≡ true) s.flight) now (h.rested kept)

  -- turns and last activates, once the first step is done
  pub record Begun (t : ℕ) (a b : Turns) (f g : Flight) : Type 0 where
    pub turns : TurnsAgree low a b
    pub lasts : low a.owner ≡ true → LastsAgree p.timing.dead t f g

  module _ (s r : State) (h : Held p s) (g : Held p r) (alike : Alike p low s r) where
    abbrev t : ℕ
    t = s.cycle

    -- what a turn's start gives the second run, at the first one's cycle
    abbrev other : Turns
    other = (start_turn p (turn_number p t) r.queues.lengths r.turns.left r.turns.pointers).turns

    same-lengths : EntriesAgree low s.queues.lengths r.queues.lengths
    unfolding length_of
    same-lengths c i = same_length s.queues r.queues c (alike.queues c i).requests

    started : TurnsAgree low (picked s) other
    started =
        start-agrees p given low closed (turn_number p t) s.queues.lengths r.queues.lengths s.turns r.turns (ranged p s h.ranges).turns (ranged p r g.ranges).turns
        same-lengths alike.turns.left alike.turns.pointers

    -- a low owner after high ones
    afresh : turn_starts p t ≡ true → low s.turns.owner ≡ false → low r.turns.owner ≡ false → low (picked s).owner ≡ true → low other.owner ≡ true → LastsAgree p.timing.dead t s.flight r.flight
    afresh e high high-r i i-r =
        let one = rested s h e high i in
        let e-r = subst (λ (k : ℕ). turn_starts p k ≡ true) alike.cycles e in
        let i-now = subst (λ (k : ℕ). low (start_turn p (turn_number p k) r.queues.lengths r.turns.left r.turns.pointers).turns.owner ≡ true) alike.cycles i-r in
        let two = subst (λ (k : ℕ). Activates (λ last. gap_met last p.timing.dead k ≡ true) r.flight) (sym alike.cycles) (rested r g e-r high-r i-now) in
        record { of_all = inr (one.of_all, two.of_all); of-bank = λ b l. inr (one.of-bank b l, two.of-bank b l) }

    start-lasts : turn_starts p t ≡ true → low (picked s).owner ≡ true → LastsAgree p.timing.dead t s.flight r.flight
    start-lasts e i =
        ⊎_elim
        (λ was-low. alike.lasts was-low)
        (λ high.
        ⊎_elim
        (λ same. absurd (not-both same.1 high))
        (λ both.
        ⊎_elim
        (λ same. afresh e high both.1 i (ap low (sym same.0) ∙ i))
        (λ not_low. absurd (not-both i not_low.0))
        started.owners)
        alike.turns.owners)
        (either (low s.turns.owner))

    pub begun : Begun t (turns_at p t s.queues.lengths s.turns).turns (turns_at p t r.queues.lengths r.turns).turns s.flight r.flight
    unfolding turns_at
    begun =
        let right : TurnStart → TurnStart → Type 0 = λ x y. Begun t x.turns y.turns s.flight r.flight in
        let starts = turn_starts p t in
        let start-s = start_turn p (turn_number p t) s.queues.lengths s.turns.left s.turns.pointers in
        let start-r = start_turn p (turn_number p t) r.queues.lengths r.turns.left r.turns.pointers in
        let stay-s : TurnStart = record { turns = s.turns; shown = 0 } in
        let stay-r : TurnStart = record { turns = r.turns; shown = 0 } in
        ⊎_elim
        (λ e.
        subst (λ (x : TurnStart). right x (turns_at p t r.queues.lengths r.turns)) (sym (on-true starts start-s stay-s e))
        (subst (right start-s) (sym (on-true starts start-r stay-r e)) (record { turns = started; lasts = start-lasts e })))
        (λ e.
        subst (λ (x : TurnStart). right x (turns_at p t r.queues.lengths r.turns)) (sym (on-false starts start-s stay-s e))
        (subst (right stay-s) (sym (on-false starts start-r stay-r e)) (record { turns = alike.turns; lasts = alike.lasts })))
        (either starts)

    -- and where a turn starts, a low owner's traversal has tried as many classes in both
    pub same-tried : turn_starts p t ≡ true → low (turns_at p t s.queues.lengths s.turns).turns.owner ≡ true → tried_at p t s.queues.lengths s.turns ≡ tried_at p t r.queues.lengths r.turns
    unfolding turns_at start_turn owned_by
    same-tried e i =
        (traversal-agrees p given low closed (turn_number p t) s.queues.lengths r.queues.lengths s.turns r.turns (ranged p s h.ranges).turns (ranged p r g.ranges).turns
        same-lengths alike.turns.left alike.turns.pointers).tried
        (subst (λ (x : TurnStart). low x.turns.owner ≡ true) (on-true (turn_starts p t) _ _ e) i)
