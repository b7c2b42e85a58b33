-- What holds of every list of calls, and of runs. `proofs/Laws.antt` proves it.
use Rattle.std.specs.Prelude.{◌≡◌, true, List, [], ◌∷◌, ◌++◌, ℕ, ◌*◌, length, take, drop}
use Rattle.policy.specs.declared.Policy.{Policy}
use Rattle.state.specs.Range.{in_range}
use Rattle.rules.specs.Calls.{line_of, answer_to, state_after, log_of}
use Rattle.rules.specs.Run.{has_room, run, log_after}
use Rattle.rules.specs.History.{FromFresh}
use Rattle.state.specs.declared.State.{State}
use Rattle.rules.specs.PublicCalls.{PublicCall, trace_made, state_made, log_made}

pub record RunLaws (p : Policy) : Type 0 where
  -- a list cut in two is the two one after the other
  pub cut_state : (s : State) (xs ys : List ℕ) → state_after p s (xs ++ ys) ≡ state_after p (state_after p s xs) ys
  pub cut-log : (s : State) (xs ys : List ℕ) → log_of p s (xs ++ ys) ≡ log_of p s xs ++ log_of p (state_after p s xs) ys
  -- four numbers for each call
  pub four_each : (s : State) (xs : List ℕ) → length (log_of p s xs) ≡ 4 * length xs
  -- it leads from a state reached from fresh to another, and from a state in range to another
  pub from_fresh : (s : State) (xs : List ℕ) → FromFresh p s → FromFresh p (state_after p s xs)
  pub in_range_after : (s : State) (xs : List ℕ) → in_range p s ≡ true → in_range p (state_after p s xs) ≡ true
  -- a run over one trace number is that one call
  pub one_call : (s : State) (w : ℕ) (log : List ℕ) → in_range p s ≡ true → has_room (w ∷ []) log ≡ true
      → (run p s (w ∷ []) log ≡ record { status = 0; state = (answer_to p s w).state })
      × (log_after p s (w ∷ []) log ≡ line_of (answer_to p s w) ++ drop 4 log)
  -- a run over a list cut in two is the two runs one after the other
  pub cut_run : (s : State) (xs ys log : List ℕ) → in_range p s ≡ true → has_room (xs ++ ys) log ≡ true
      → (run p s (xs ++ ys) log ≡ run p (run p s xs log).state ys (drop (4 * length xs) log))
      × (log_after p s (xs ++ ys) log ≡ take (4 * length xs) (log_after p s xs log) ++ log_after p (run p s xs log).state ys (drop (4 * length xs) log))
  -- a list of calls, however made, is the list of its trace numbers
  pub state-made : (s : State) (cs : List PublicCall) → in_range p s ≡ true → state_made p s cs ≡ state_after p s (trace_made cs)
  pub log-made : (s : State) (cs : List PublicCall) → in_range p s ≡ true → log_made p s cs ≡ log_of p s (trace_made cs)
