-- W-203's promises: what it comes to that a request may pass older ones of its class. They are said of every list of calls from fresh, and of what the list and its log show. That "extracts for a class still agree" is
-- `Noninterference` (crate `noninterference`).
use Rattle.std.specs.Prelude.{◌≡◌, Bool, true, cond, ◌&&◌, List, [], ◌∷◌, ◌++◌, ℕ, zero, suc, ◌≤◌, eqb, length, get_or, drop}
use Rattle.policy.specs.Policy.{is_class}
use Rattle.policy.specs.declared.Policy.{Policy}
use Rattle.requests.specs.Sizes.{most_passed}
use Rattle.requests.specs.Word.{class_of, rank_of, kind_of, bank_of, is_offer}
use Rattle.queues.specs.Waiting.{waiting}
use Rattle.state.specs.Fresh.{fresh_state}
use Rattle.rules.specs.Calls.{state_after, log_of}

-- ---- requests of a list

-- a number, if a test passes, and none if not
unfoldable pub only_if : Bool → ℕ → List ℕ
only_if passes w = cond passes (w ∷ []) []

-- the numbers of a list at which a test passes, in their order
unfoldable pub those : (ℕ → Bool) → List ℕ → List ℕ
those f [] = []
those f (w ∷ ws) = only_if (f w) w ++ those f ws

-- a word is that of a request of the class; and of the rank, bank and kind too
unfoldable pub of_class : ℕ → ℕ → Bool
of_class c w = eqb (class_of w) c

unfoldable pub of_stream : ℕ → ℕ → ℕ → ℕ → ℕ → Bool
of_stream c rank bank kind w = of_class c w && eqb (rank_of w) rank && eqb (bank_of w) bank && eqb (kind_of w) kind

-- ---- what a trace and its log show, which has four numbers for each of the trace's

-- the offers that are taken: the trace numbers that are offers and have status 0, the first of the four
unfoldable pub taken_offers : List ℕ → List ℕ → List ℕ
taken_offers [] log = []
taken_offers (w ∷ ws) log = only_if (is_offer w && eqb (get_or log 0 0) 0) w ++ taken_offers ws (drop 4 log)

-- the command numbers, the second of the four, of so many calls
unfoldable pub commands_in : ℕ → List ℕ → List ℕ
commands_in zero log = []
commands_in (suc calls) log = get_or log 1 0 ∷ commands_in calls (drop 4 log)

-- the requests that are activated: the command numbers that are an offer's word (a column command has bit 30 set, and 0 is none)
unfoldable pub activations : List ℕ → List ℕ → List ℕ
activations ws log = those is_offer (commands_in (length ws) log)

-- ---- what is promised

-- of every policy in range, every list of calls from fresh and every class
pub record Overtaking (p : Policy) : Type 0 where
  -- Of one class, rank, bank and kind the requests are activated in the order in which they were offered, and those that are not activated yet wait in that order. So of two waiting ones the older is activated first: their
  -- gaps are met together.
  pub in_order : (ws : List ℕ) (c rank bank kind : ℕ) → is_class p c ≡ true
      → those (of_stream c rank bank kind) (taken_offers ws (log_of p (fresh_state p) ws))
      ≡ those (of_stream c rank bank kind) (activations ws (log_of p (fresh_state p) ws)) ++ those (of_stream c rank bank kind) (waiting (state_after p (fresh_state p) ws).queues c)
  -- "A request that has been the oldest while 15 others passed it goes next": once a request is its class's oldest, at most 15 others of the class are activated before it. That is, in whatever calls follow, as long as
  -- its word is not among the activates. (The first activate of its word is its own, by the order within a rank, bank and kind.)
  pub at_most_15_pass : (ws more : List ℕ) (c oldest : ℕ) (rest : List ℕ) → is_class p c ≡ true
      → waiting (state_after p (fresh_state p) ws).queues c ≡ oldest ∷ rest
      → those (eqb oldest) (activations more (log_of p (state_after p (fresh_state p) ws) more)) ≡ []
      → length (those (of_class c) (activations more (log_of p (state_after p (fresh_state p) ws) more))) ≤ most_passed
