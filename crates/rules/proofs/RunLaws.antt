-- Lists of calls and runs: what a run does is what its list of calls does, and a list can be cut anywhere.
-- Assumes nothing.
use mathlib.Core.Path.{◌≡◌, sym, ap, ap₂, ◌∙◌}
use mathlib.Core.Bool.{true}
use mathlib.Core.List.{List, [], ◌∷◌, ◌++◌, append_assoc}
use Prim.Native.Nat.{ℕ, ◌+◌, ◌*◌, ◌≤◌}
use native.Mathlib.Omega.{arith}
use borrow.Author.Tests.{leb-true, le-leb}
use lib.ListN.{length, take, drop, length-append, length-drop}
use lib.Seq.{take_at, drop-drop}
use Rattle.policy.specs.declared.Policy.{Policy}
use Rattle.state.specs.Range.{in_range}
use Rattle.requests.specs.Trace.{call_of}
use Rattle.rules.specs.Calls.{answer, answer_to, state_after, log_of}
use Rattle.rules.specs.Run.{has_room, run, log_after}
use Rattle.rules.specs.History.{FromFresh, after-offer, after-tick}
use Rattle.state.specs.declared.State.{State}
use Rattle.state.specs.declared.Ran.{Ran}
use Rattle.requests.specs.declared.Call.{Call}
use Rattle.requests.specs.declared.Call.TheVariants.{Tick, Offer, Malformed}
use Rattle.rules.proofs.Calls.{cut_state, cut-log, four_each, after-in-range}
use Rattle.rules.proofs.Run.{ran, by-calls}
use Rattle.rules.specs.RunLaws.{RunLaws}
use Rattle.rules.proofs.PublicCalls.{state-made, log-made}

module _ (p : Policy) where
  pub one_call : (s : State) (t : Call) → FromFresh p s → FromFresh p (answer p s t).state
  unfolding answer
  one_call s Tick from = after-tick s from
  one_call s (Offer r) from = after-offer s r from
  one_call s Malformed from = from

  from_fresh : (s : State) (xs : List ℕ) → FromFresh p s → FromFresh p (state_after p s xs)
  unfolding state_after answer_to
  from_fresh s [] from = from
  from_fresh s (x ∷ xs) from = from_fresh (answer_to p s x).state xs (one_call s (call_of x) from)

  -- ---- runs

  single : (s : State) (w : ℕ) (log : List ℕ) → in_range p s ≡ true → has_room (w ∷ []) log ≡ true
      → (run p s (w ∷ []) log ≡ ran 0 (answer_to p s w).state)
      × (log_after p s (w ∷ []) log ≡ (answer_to p s w).status ∷ (answer_to p s w).command ∷ (answer_to p s w).response ∷ (answer_to p s w).turn ∷ drop 4 log)
  unfolding state_after log_of
  single s w log fit room = by-calls p s (w ∷ []) log fit room

  module _ (s : State) (xs ys log : List ℕ) (fit : in_range p s ≡ true) (room : has_room (xs ++ ys) log ≡ true) where
    wide : 4 * length xs + 4 * length ys ≤ length log
    unfolding has_room
    wide = let all = leb-true (4 * length (xs ++ ys)) (length log) room in omega (arith, all, length-append xs ys)

    first : has_room xs log ≡ true
    unfolding has_room
    first = let w = wide in le-leb (4 * length xs) (length log) (omega (arith, w))

    rest : has_room ys (drop (4 * length xs) log) ≡ true
    unfolding has_room
    rest = let w = wide in le-leb (4 * length ys) (length (drop (4 * length xs) log)) (omega (arith, w, length-drop (4 * length xs) log))

    -- the state between the two
    between : (run p s xs log).state ≡ state_after p s xs
    between = ap (λ (r : Ran). r.state) (by-calls p s xs log fit first).0

    second : run p (state_after p s xs) ys (drop (4 * length xs) log) ≡ ran 0 (state_after p (state_after p s xs) ys)
    second = (by-calls p (state_after p s xs) ys (drop (4 * length xs) log) (after-in-range p s xs fit) rest).0

    cut-ran : run p s (xs ++ ys) log ≡ run p (run p s xs log).state ys (drop (4 * length xs) log)
    cut-ran =
        (by-calls p s (xs ++ ys) log fit room).0
        ∙ ap (ran 0) (cut_state p s xs ys)
        ∙ sym second
        ∙ ap (λ (q : State). run p q ys (drop (4 * length xs) log)) (sym between)

    -- what lies past the two logs
    past : drop (4 * length ys) (drop (4 * length xs) log) ≡ drop (4 * length (xs ++ ys)) log
    past =
        let e : 4 * length xs + 4 * length ys ≡ 4 * length (xs ++ ys) = omega (arith, length-append xs ys) in
        drop-drop (4 * length ys) (4 * length xs) log ∙ ap (λ (k : ℕ). drop k log) e

    cut-logged : log_after p s (xs ++ ys) log ≡ take (4 * length xs) (log_after p s xs log) ++ log_after p (run p s xs log).state ys (drop (4 * length xs) log)
    cut-logged =
        let one : take (4 * length xs) (log_after p s xs log) ≡ log_of p s xs =
        ap (take (4 * length xs)) (by-calls p s xs log fit first).1 ∙ take_at (log_of p s xs) (drop (4 * length xs) log) (4 * length xs) (four_each p s xs)
        in
        let two : log_after p (run p s xs log).state ys (drop (4 * length xs) log) ≡ log_of p (state_after p s xs) ys ++ drop (4 * length (xs ++ ys)) log =
        ap (λ (q : State). log_after p q ys (drop (4 * length xs) log)) between
        ∙ (by-calls p (state_after p s xs) ys (drop (4 * length xs) log) (after-in-range p s xs fit) rest).1
        ∙ ap (λ (l : List ℕ). log_of p (state_after p s xs) ys ++ l) past
        in
        (by-calls p s (xs ++ ys) log fit room).1
        ∙ ap (λ (l : List ℕ). l ++ drop (4 * length (xs ++ ys)) log) (cut-log p s xs ys)
        ∙ append_assoc (log_of p s xs) (log_of p (state_after p s xs) ys) (drop (4 * length (xs ++ ys)) log)
        ∙ sym (ap₂ (λ (a b : List ℕ). a ++ b) one two)

  pub run-laws : RunLaws p
  run-laws =
      record {
        cut_state = cut_state p;
        cut-log = cut-log p;
        four_each = four_each p;
        from_fresh = from_fresh;
        in_range_after = after-in-range p;
        one_call = single;
        cut_run = λ s xs ys log fit room. (cut-ran s xs ys log fit room, cut-logged s xs ys log fit room);
        state-made = state-made p;
        log-made = log-made p;
      }
