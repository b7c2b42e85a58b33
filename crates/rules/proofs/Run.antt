-- A run is refused with 13, refused with 15, or made: each side of its definition, by the tests that pick it. Over one number it is that number's call.
-- Assumes nothing.
use mathlib.Core.Path.{◌≡◌, refl, sym, ap, ◌∙◌}
use mathlib.Core.Logic.{⊎_elim}
use mathlib.Core.Bool.{true, false, ◌&&◌}
use mathlib.Core.List.{List, [], ◌∷◌, ◌++◌}
use Prim.Native.Nat.{ℕ, ◌*◌}
use borrow.Author.Tests.{eqb-false}
use lib.ListN.{length, drop}
use Rattle.policy.specs.declared.Policy.{Policy}
use Rattle.basics.proofs.Truth.{either, and_both, and-fails-left, and-fails-right, on-true, on-false}
use Rattle.state.specs.Fresh.{zeros}
use Rattle.state.specs.Range.{in_range}
use Rattle.rules.specs.Calls.{answer_to, state_after, log_of}
use Rattle.rules.specs.Run.{has_room, run, log_after}
use Rattle.state.specs.declared.State.{State}
use Rattle.state.specs.declared.Ran.{Ran}

abbrev pub ran : ℕ → State → Ran
ran status s = record { status = status; state = s }

module _ (p : Policy) (s : State) (trace log : List ℕ) where
  -- the log after a run that is made
  abbrev pub made : List ℕ
  made = log_of p s trace ++ drop (4 * length trace) log

  -- the sides of the definitions
  pub by-range : in_range p s ≡ false → (run p s trace log ≡ ran 13 s) × (log_after p s trace log ≡ log)
  unfolding run log_after
  by-range out =
      (on-false (in_range p s) (elim (has_room trace log) [ false ↦ ran 15 s | true ↦ ran 0 (state_after p s trace) ]) (ran 13 s) out, on-false (in_range p s && has_room trace log) made log (and-fails-left (in_range p s) (has_room trace log) out))

  pub by-room : in_range p s ≡ true → has_room trace log ≡ false → (run p s trace log ≡ ran 15 s) × (log_after p s trace log ≡ log)
  unfolding run log_after
  by-room fit short = (
    on-true (in_range p s) (elim (has_room trace log) [ false ↦ ran 15 s | true ↦ ran 0 (state_after p s trace) ]) (ran 13 s) fit
        ∙ on-false (has_room trace log) (ran 0 (state_after p s trace)) (ran 15 s) short,
    on-false (in_range p s && has_room trace log) made log (and-fails-right (in_range p s) (has_room trace log) short),
  )

  pub by-calls : in_range p s ≡ true → has_room trace log ≡ true → (run p s trace log ≡ ran 0 (state_after p s trace)) × (log_after p s trace log ≡ made)
  unfolding run log_after
  by-calls fit room = (
    on-true (in_range p s) (elim (has_room trace log) [ false ↦ ran 15 s | true ↦ ran 0 (state_after p s trace) ]) (ran 13 s) fit
        ∙ on-true (has_room trace log) (ran 0 (state_after p s trace)) (ran 15 s) room,
    on-true (in_range p s && has_room trace log) made log (and_both fit room),
  )

-- ---- a run over one number, into a log of four: refused with 13, or that number's call

module _ (p : Policy) (s : State) (w : ℕ) (r : Ran) (e : r ≡ run p s (w ∷ []) (zeros 4)) where
  -- by its status
  pub one-refused : ((r.status ≡ 0) → ⊥) → (in_range p s ≡ false) × (r.state ≡ s)
  unfolding has_room zeros
  one-refused some =
      ⊎_elim
      (λ fit. absurd (some (ap (λ (x : Ran). x.status) (e ∙ (by-calls p s (w ∷ []) (zeros 4) fit refl).0))))
      (λ out. (out, ap (λ (x : Ran). x.state) (e ∙ (by-range p s (w ∷ []) (zeros 4) out).0)))
      (either (in_range p s))

  pub one-fits : r.status ≡ 0 → in_range p s ≡ true
  one-fits none =
      ⊎_elim (λ fit. fit)
      (λ out. absurd (eqb-false 13 0 refl (sym (ap (λ (x : Ran). x.status) (e ∙ (by-range p s (w ∷ []) (zeros 4) out).0)) ∙ none)))
      (either (in_range p s))

  pub one_state : r.status ≡ 0 → r.state ≡ (answer_to p s w).state
  unfolding state_after has_room zeros
  one_state none = ap (λ (x : Ran). x.state) (e ∙ (by-calls p s (w ∷ []) (zeros 4) (one-fits none) refl).0)

  pub one-log : r.status ≡ 0 → log_after p s (w ∷ []) (zeros 4) ≡ (answer_to p s w).status ∷ (answer_to p s w).command ∷ (answer_to p s w).response ∷ (answer_to p s w).turn ∷ []
  unfolding log_of has_room zeros
  one-log none = (by-calls p s (w ∷ []) (zeros 4) (one-fits none) refl).1
