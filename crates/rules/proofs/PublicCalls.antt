-- However its calls are made, a list of them is the list of its trace numbers: a single call is the call of one trace number, a run makes the calls of its trace, and one
-- refused with 15 makes none. Then by going through the list, which can be cut anywhere.
-- Assumes nothing.
use mathlib.Core.Path.{◌≡◌, refl, sym, ap, ap₂, ◌∙◌, subst}
use mathlib.Core.Logic.{⊎_elim}
use mathlib.Core.Bool.{true}
use mathlib.Core.List.{List, [], ◌∷◌, ◌++◌}
use Prim.Native.Nat.{ℕ, ◌*◌}
use lib.ListN.{length, take, drop}
use lib.Seq.{take_at}
use Rattle.policy.specs.declared.Policy.{Policy}
use Rattle.basics.proofs.Truth.{either, on-true, on-false}
use Rattle.state.specs.Range.{in_range}
use Rattle.rules.specs.Calls.{Answer, state_after, log_of}
use Rattle.rules.specs.Run.{has_room, log_after}
use Rattle.state.specs.declared.State.{State}
use Rattle.state.specs.declared.Ran.{Ran}
use Rattle.rules.proofs.SingleCalls.{tick_called, offer_called}
use Rattle.rules.proofs.Calls.{cut_state, cut-log, four_each, after-in-range}
use Rattle.rules.proofs.Run.{by-room, by-calls}
use Rattle.rules.specs.PublicCalls.{PublicCall, single-tick, single-offer, whole_run, numbers_of, state_by, log_by, trace_made, state_made, log_made}

-- the four numbers of an answer
abbrev four : Answer → List ℕ
four a = a.status ∷ a.command ∷ a.response ∷ a.turn ∷ []

module _ (p : Policy) where
  -- what a run wrote is the log of its calls
  ran-log : (s : State) (trace log : List ℕ) → in_range p s ≡ true → has_room trace log ≡ true → take (4 * length trace) (log_after p s trace log) ≡ log_of p s trace
  ran-log s trace log fit room =
      ap (take (4 * length trace)) (by-calls p s trace log fit room).1
      ∙ take_at (log_of p s trace) (drop (4 * length trace) log) (4 * length trace) (four_each p s trace)

  -- ---- one call

  state-one : (s : State) (c : PublicCall) → in_range p s ≡ true → state_by p s c ≡ state_after p s (numbers_of c)
  unfolding state_by numbers_of state_after
  state-one s single-tick fit = sym (ap (λ (a : Answer). a.state) (tick_called p s))
  state-one s (single-offer r) fit = sym (ap (λ (a : Answer). a.state) (offer_called p s r))
  state-one s (whole_run trace log) fit =
      ⊎_elim
      (λ room. ap (λ (r : Ran). r.state) (by-calls p s trace log fit room).0 ∙ sym (ap (state_after p s) (on-true (has_room trace log) trace [] room)))
      (λ short. ap (λ (r : Ran). r.state) (by-room p s trace log fit short).0 ∙ sym (ap (state_after p s) (on-false (has_room trace log) trace [] short)))
      (either (has_room trace log))

  log-one : (s : State) (c : PublicCall) → in_range p s ≡ true → log_by p s c ≡ log_of p s (numbers_of c)
  unfolding log_by numbers_of log_of
  log-one s single-tick fit = sym (ap four (tick_called p s))
  log-one s (single-offer r) fit = sym (ap four (offer_called p s r))
  log-one s (whole_run trace log) fit =
      ⊎_elim
      (λ room.
      let made = on-true (has_room trace log) trace [] room in
      ap (λ (t : List ℕ). take (4 * length t) (log_after p s trace log)) made ∙ ran-log s trace log fit room ∙ sym (ap (log_of p s) made))
      (λ short.
      let none = on-false (has_room trace log) trace [] short in
      ap (λ (t : List ℕ). take (4 * length t) (log_after p s trace log)) none ∙ sym (ap (log_of p s) none))
      (either (has_room trace log))

  -- ---- a list of them

  in-range-one : (s : State) (c : PublicCall) → in_range p s ≡ true → in_range p (state_by p s c) ≡ true
  in-range-one s c fit = subst (λ (r : State). in_range p r ≡ true) (sym (state-one s c fit)) (after-in-range p s (numbers_of c) fit)

  pub state-made : (s : State) (cs : List PublicCall) → in_range p s ≡ true → state_made p s cs ≡ state_after p s (trace_made cs)
  unfolding state_made trace_made state_after
  state-made s [] fit = refl
  state-made s (c ∷ cs) fit =
      state-made (state_by p s c) cs (in-range-one s c fit)
      ∙ ap (λ (r : State). state_after p r (trace_made cs)) (state-one s c fit)
      ∙ sym (cut_state p s (numbers_of c) (trace_made cs))

  pub log-made : (s : State) (cs : List PublicCall) → in_range p s ≡ true → log_made p s cs ≡ log_of p s (trace_made cs)
  unfolding log_made trace_made log_of
  log-made s [] fit = refl
  log-made s (c ∷ cs) fit =
      ap₂ (λ (a b : List ℕ). a ++ b) (log-one s c fit) (log-made (state_by p s c) cs (in-range-one s c fit) ∙ ap (λ (r : State). log_of p r (trace_made cs)) (state-one s c fit))
      ∙ sym (cut-log p s (numbers_of c) (trace_made cs))
