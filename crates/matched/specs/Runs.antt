-- W-204: "A run's log, cut at both ends where nothing is in flight, matches fully under its policy's delay." Said of every list of calls from fresh: those before the stretch, the stretch, and those after it.
use Rattle.std.specs.Prelude.{◌≡◌, Bool, true, false, List, [], ◌++◌, ℕ, ◌+◌, ◌*◌, ◌≤◌, eqb, length, take, drop}
use Rattle.basics.specs.Below.{every}
use Rattle.policy.specs.Policy.{in_range}
use Rattle.policy.specs.declared.Policy.{Policy}
use Rattle.requests.specs.Sizes.{pending_places}
use Rattle.flight.specs.Flight.{due_at}
use Rattle.state.specs.Fresh.{fresh_state}
use Rattle.state.specs.declared.State.{State}
use Rattle.rules.specs.Calls.{state_after, log_of}
use Rattle.recordings.specs.Recording.{soundness}
use Rattle.recordings.specs.Match.{alone, unmatched}
use Rattle.recordings.specs.Logged.{ticks_in, recording_of, record_status}
use Rattle.std.specs.declared.result.Result.TheVariants.{Ok}
use Rattle.std.specs.declared.option.Option.TheVariants.{None}

-- ---- where a log may be cut

-- "nothing is in flight": no answer is pending. An activate is in flight until its answer goes out, and its column command goes out before that.
unfoldable pub nothing_pending : State → Bool
nothing_pending s = every pending_places (λ d. eqb (due_at s.flight.responses (s.cycle + d)) 0)

module _ (p : Policy) where
  -- after a list of calls from fresh
  unfoldable pub quiet_after : List ℕ → Bool
  quiet_after ws = nothing_pending (state_after p (fresh_state p) ws)

  -- ---- a stretch of a log

  -- the numbers of the log of all calls that are the stretch's, four for each call
  unfoldable pub cut_log : List ℕ → List ℕ → List ℕ → List ℕ
  cut_log before ws after = take (4 * length ws) (drop (4 * length before) (log_of p (fresh_state p) (before ++ ws ++ after)))

  -- the cycle at which it begins: "Cycles count from 0", so it is how many ticks were made before it
  unfoldable pub start_of : List ℕ → ℕ
  start_of before = ticks_in before (log_of p (fresh_state p) before)

  -- its recording at the wires, or (where `activates` is false) at the cores
  unfoldable pub stretch : Bool → List ℕ → List ℕ → List ℕ → List ℕ
  stretch activates before ws after = recording_of activates (start_of before) ws (cut_log before ws after)

  -- ---- what is promised

  pub record RunMatches : Type 0 where
    -- both recordings of the stretch are sound, and all their events have partners
    pub sound : (before ws after : List ℕ) → soundness p.timing.response (stretch true before ws after) (stretch false before ws after) ≡ Ok tt
    pub all_matched : (before ws after : List ℕ) → quiet_after before ≡ true → quiet_after (before ++ ws) ≡ true
        → unmatched p.timing.response (stretch true before ws after) (stretch false before ws after) ≡ []
    pub none_alone : (before ws after : List ℕ) → quiet_after before ≡ true → quiet_after (before ++ ws) ≡ true
        → alone p.timing.response (stretch true before ws after) (stretch false before ws after) ≡ None
    -- a stretch is handed back where there is room for it: neither 17 nor 12 meets it
    pub handed_back : (activates : Bool) (before ws after out : List ℕ) → length (stretch activates before ws after) ≤ length out → record_status activates ws (cut_log before ws after) (start_of before) out ≡ 0
    -- where a log may be cut can be read off the log: nothing is in flight exactly if it shows as many answers as activates. It may be at its start.
    pub quiet_shown : (ws : List ℕ) → quiet_after ws ≡ eqb (length (stretch true [] ws [])) (length (stretch false [] ws []))
    pub quiet_at_first : quiet_after [] ≡ true
    -- and its cycle is the state's
    pub start_is : (before : List ℕ) → start_of before ≡ (state_after p (fresh_state p) before).cycle

-- for every policy in range
abbrev pub RunsMatch : Type 0
RunsMatch = (p : Policy) → in_range p ≡ true → RunMatches p
