-- Lists of calls: a list cut in two, four log numbers for each call, one call more, and the range kept. Each by going through the list.
-- Assumes nothing.
use mathlib.Core.Path.{◌≡◌, refl, sym, ap, ap₂, ◌∙◌}
use mathlib.Core.Bool.{true}
use mathlib.Core.List.{List, [], ◌∷◌, ◌++◌}
use Prim.Native.Nat.{ℕ, ◌+◌, ◌*◌, ◌≤◌, ◌<◌}
use native.Mathlib.Numerals.{add-one}
use native.Mathlib.Omega.{arith}
use lib.ListN.{length, get_or, take, drop}
use lib.Seq.{take-suc, length-take-le}
use Rattle.policy.specs.declared.Policy.{Policy}
use Rattle.basics.proofs.Stores.{written-more, four}
use Rattle.state.specs.Range.{in_range}
use Rattle.requests.specs.Trace.{call_of}
use Rattle.rules.specs.Calls.{Answer, answer, answer_to, state_after, log_of, line_written}
use Rattle.state.specs.declared.State.{State}
use Rattle.requests.specs.declared.Call.{Call}
use Rattle.requests.specs.declared.Call.TheVariants.{Tick, Offer, Malformed}
use Rattle.rules.proofs.CallsKept.{offer_in_range, tick_in_range}

-- a call's four numbers, written into a slice from a place on
abbrev pub written : List ℕ → ℕ → Answer → List ℕ
written log at a = line_written log at a.status a.command a.response a.turn

module _ (p : Policy) where
  pub cut_state : (s : State) (xs ys : List ℕ) → state_after p s (xs ++ ys) ≡ state_after p (state_after p s xs) ys
  unfolding state_after
  cut_state s [] ys = refl
  cut_state s (x ∷ xs) ys = cut_state (answer_to p s x).state xs ys

  pub cut-log : (s : State) (xs ys : List ℕ) → log_of p s (xs ++ ys) ≡ log_of p s xs ++ log_of p (state_after p s xs) ys
  unfolding state_after log_of
  cut-log s [] ys = refl
  cut-log s (x ∷ xs) ys =
      ap (λ (l : List ℕ). (answer_to p s x).status ∷ (answer_to p s x).command ∷ (answer_to p s x).response ∷ (answer_to p s x).turn ∷ l) (cut-log (answer_to p s x).state xs ys)

  pub four_each : (s : State) (xs : List ℕ) → length (log_of p s xs) ≡ 4 * length xs
  unfolding log_of
  four_each s [] = refl
  four_each s (x ∷ xs) = let rest = four_each (answer_to p s x).state xs in omega (arith, rest)

  -- a call keeps the range
  answer-in-range : (s : State) (t : Call) → in_range p s ≡ true → in_range p (answer p s t).state ≡ true
  unfolding answer
  answer-in-range s Tick e = tick_in_range p s e
  answer-in-range s (Offer r) e = offer_in_range p s r e
  answer-in-range s Malformed e = e

  pub answered-in-range : (s : State) (w : ℕ) → in_range p s ≡ true → in_range p (answer_to p s w).state ≡ true
  unfolding answer_to
  answered-in-range s w e = answer-in-range s (call_of w) e

  pub after-in-range : (s : State) (ws : List ℕ) → in_range p s ≡ true → in_range p (state_after p s ws) ≡ true
  unfolding state_after
  after-in-range s [] e = e
  after-in-range s (w ∷ ws) e = after-in-range (answer_to p s w).state ws (answered-in-range s w e)

  -- ---- one call more

  module _ (s : State) (trace : List ℕ) (i : ℕ) (more : i < length trace) where
    -- the first i + 1 words
    longer : take (i + 1) trace ≡ take i trace ++ (get_or trace i 0 ∷ [])
    longer = ap (λ (k : ℕ). take k trace) (add-one i) ∙ take-suc trace i 0 more

    pub state-more : state_after p s (take (i + 1) trace) ≡ (answer_to p (state_after p s (take i trace)) (get_or trace i 0)).state
    unfolding state_after
    state-more = ap (state_after p s) longer ∙ cut_state s (take i trace) (get_or trace i 0 ∷ [])

    -- the log after it: the call's four numbers follow those written, and what lay past stays
    pub log-more : (first before : List ℕ) → 4 * i + 4 ≤ length first → before ≡ log_of p s (take i trace) ++ drop (4 * i) first → written before (4 * i) (answer_to p (state_after p s (take i trace)) (get_or trace i 0)) ≡ log_of p s (take (i + 1) trace) ++ drop (4 * (i + 1)) first
    unfolding log_of
    log-more first before room e =
        let a = answer_to p (state_after p s (take i trace)) (get_or trace i 0) in
        let numbers : List ℕ = a.status ∷ a.command ∷ a.response ∷ a.turn ∷ [] in
        let done = log_of p s (take i trace) in
        let long : length done ≡ 4 * i = four_each s (take i trace) ∙ ap (λ (k : ℕ). 4 * k) (length-take-le i trace (omega (arith, more))) in
        let place : 4 * i + 4 ≡ 4 * (i + 1) = omega arith in
        ap (λ (l : List ℕ). written l (4 * i) a) e
        ∙ four (done ++ drop (4 * i) first) (4 * i) a.status a.command a.response a.turn
        ∙ written-more done numbers first (4 * i) long room
        ∙ ap₂ (λ (l : List ℕ) (k : ℕ). l ++ drop k first) (sym (ap (log_of p s) longer ∙ cut-log s (take i trace) (get_or trace i 0 ∷ []))) place
