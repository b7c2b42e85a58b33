-- W-201's promises: of the turns that a class passes on, each of its children is named in turn; and "The trial walk follows." And what W-202 says of a turn's start.
use Rattle.std.specs.Prelude.{◌≡◌, ◌⊎◌, Bool, true, false, cond, ◌&&◌, ◌||◌, List, [], ◌∷◌, ℕ, zero, suc, ◌+◌, ◌-◌, ◌%◌, ◌<◌, ltb, eqb, get_or}
use Rattle.policy.specs.Policy.{cover_count, cover, flows, home_turn, home_class}
use Rattle.policy.specs.declared.Policy.{Policy}
use Rattle.requests.specs.Sizes.{last_cycle}
use Rattle.requests.specs.Trace.{call_of}
use Rattle.requests.specs.declared.Call.{Call}
use Rattle.requests.specs.declared.Call.TheVariants.{Tick, Offer, Malformed}
use Rattle.state.specs.Fresh.{fresh_state}
use Rattle.state.specs.Range.{in_range}
use Rattle.state.specs.declared.State.{State}
use Rattle.state.specs.declared.Turns.{Turns}
use Rattle.rules.specs.Traversal.{first_class, Candidates, candidates, moved_pointer, passed_at, named, takes, try_class, charge, takes_home, left_tried}
use Rattle.rules.specs.Step.{turn_starts, turn_number, left_at_start, turn_word}
use Rattle.rules.specs.Calls.{answer_to, state_after}

-- ---- one traversal

-- whether the traversal, from a class on, passes on from class c; the first argument bounds how often it ascends, as in `try_class`
unfoldable pub passes_on : ℕ → Candidates → List ℕ → ℕ → ℕ → Bool
passes_on zero all pointers from c = false
passes_on (suc rest) all pointers from c =
    elim (takes all from) [
      | true ↦ false
      | false ↦ eqb from c || passes_on rest all (passed_at all.covers pointers from) (named all.covers pointers from) c
    ]

-- the class that it tries after class c, where it passes on from c (and 0 where it does not)
unfoldable pub passes_to : ℕ → Candidates → List ℕ → ℕ → ℕ → ℕ
passes_to zero all pointers from c = 0
passes_to (suc rest) all pointers from c =
    elim (takes all from) [
      | true ↦ 0
      | false ↦ cond (eqb from c) (named all.covers pointers from) (passes_to rest all (passed_at all.covers pointers from) (named all.covers pointers from) c)
    ]

-- ---- a turn's start, in a state

-- the classes as the traversal sees them at the start of the turn that the state's cycle starts
abbrev pub seen_at : Policy → State → Candidates
seen_at p s = candidates p.covers s.queues.lengths (left_tried p (turn_number p s.cycle) (left_at_start p (turn_number p s.cycle) s.turns.left))

-- the class that is tried first there
abbrev pub tried_first : Policy → State → ℕ
tried_first p s = first_class p (turn_number p s.cycle)

-- whether a tick of the state starts a turn
abbrev pub tick_starts : Policy → State → Bool
tick_starts p s = ltb s.cycle last_cycle && turn_starts p s.cycle

-- whether it starts one whose traversal passes on from class c
unfoldable pub tick_passes : Policy → State → ℕ → Bool
tick_passes p s c = tick_starts p s && passes_on 16 (seen_at p s) s.turns.pointers (tried_first p s) c

-- and to which class it passes the turn on from there
unfoldable pub tick_passes_to : Policy → State → ℕ → ℕ
tick_passes_to p s c = passes_to 16 (seen_at p s) s.turns.pointers (tried_first p s) c

-- W-212: "how many classes the walk tried, the owner counted"
unfoldable pub tick_tries : Policy → State → ℕ
tick_tries p s = (try_class 16 (seen_at p s) s.turns.pointers (tried_first p s)).tried

-- the turns as the tick leaves them
abbrev pub turns_after : Policy → State → Turns
turns_after p s = (answer_to p s 0).state.turns

-- the tick's turn number in the log is that of a class
abbrev pub Shows : Policy → State → ℕ → Type 0
Shows p s c = (answer_to p s 0).turn ≡ turn_word c (turns_after p s).elided (tick_tries p s)

-- ---- a list of calls

-- whether a call starts such a turn: a tick alone does
unfoldable pub call_passes : Policy → State → Call → ℕ → Bool
call_passes p s Tick c = tick_passes p s c
call_passes p s (Offer r) c = false
call_passes p s Malformed c = false

-- how many turns a class has passed on in a list of calls
unfoldable pub passed_turns : Policy → State → List ℕ → ℕ → ℕ
passed_turns p s [] c = 0
passed_turns p s (w ∷ ws) c = cond (call_passes p s (call_of w) c) 1 0 + passed_turns p (answer_to p s w).state ws c

-- the number of the child that is named by the m-th turn that is passed on, of so many children: 1 for the first, from the number of children back to 1, and 0 for none yet
unfoldable pub in_turn : ℕ → ℕ → ℕ
in_turn children m = cond (eqb m 0) 0 ((m - 1) % children + 1)

-- of every policy in range
pub record RoundRobin (p : Policy) : Type 0 where
  -- "a mark moves only when the walk passes on from the class": after a tick a class's pointer is the moved one if the tick passed a turn on from it, and else what it was
  pub moves : (s : State) → in_range p s ≡ true → (c : ℕ) → c < 16
      → get_or (turns_after p s).pointers c 0 ≡ cond (tick_passes p s c) (moved_pointer p.covers s.turns.pointers c) (get_or s.turns.pointers c 0)
  -- after every list of calls from fresh a class's pointer is the number of the child whose turn it was last, by the count of the turns that the class has passed on
  pub pointer : (ws : List ℕ) (c : ℕ) → c < 16
      → get_or (state_after p (fresh_state p) ws).turns.pointers c 0 ≡ in_turn (cover_count p c) (passed_turns p (fresh_state p) ws c)
  -- "it moves first and then names the child": the next turn that the class passes on goes to the child with the next number
  pub goes : (ws : List ℕ) (c : ℕ) → c < 16 → tick_passes p (state_after p (fresh_state p) ws) c ≡ true
      → tick_passes_to p (state_after p (fresh_state p) ws) c ≡ cover p c (in_turn (cover_count p c) (passed_turns p (fresh_state p) ws c + 1))
  -- what passing on comes to in the log: the class that is tried first owns the turn or passes it on, and so does each class that the turn is passed on to
  pub starts : (s : State) → in_range p s ≡ true → tick_starts p s ≡ true → Shows p s (tried_first p s) ⊎ (tick_passes p s (tried_first p s) ≡ true)
  pub ends : (s : State) → in_range p s ≡ true → (c : ℕ) → tick_passes p s c ≡ true → Shows p s (tick_passes_to p s c) ⊎ (tick_passes p s (tick_passes_to p s c) ≡ true)
  -- and the class that it shows has not passed the turn on, so its pointer stays
  pub stays : (s : State) → in_range p s ≡ true → tick_starts p s ≡ true → (c : ℕ) → Shows p s c → tick_passes p s c ≡ false

-- ---- the trial walk

-- the traversal, from a class on, tries class c: it ends there, or passes on from there
abbrev pub Tries : ℕ → Candidates → List ℕ → ℕ → ℕ → Type 0
Tries bound all pointers from c = ((try_class bound all pointers from).owner ≡ c) ⊎ (passes_on bound all pointers from c ≡ true)

-- the traversal of turn number k tries the owner of the turn before it, where so many requests wait
abbrev pub TriesOwner : Policy → ℕ → Turns → List ℕ → Type 0
TriesOwner p k turns lengths =
    Tries 16 (candidates p.covers lengths (left_tried p k (left_at_start p k turns.left))) turns.pointers (first_class p k) turns.owner

-- the turn after the one that a tick of the state starts
abbrev pub next_turn : Policy → State → ℕ
next_turn p s = turn_number p s.cycle + 1

-- "The trial walk follows.", of every policy in range and every turn's start. W-202: "The trial walk serves only before" turns that are no home turns.
pub record TrialFollows (p : Policy) : Type 0 where
  -- where the dead time is dropped, the next turn's traversal tries the owner, whatever waits by then
  pub dropped : (s : State) → in_range p s ≡ true → tick_starts p s ≡ true → home_turn p (next_turn p s) ≡ false → (turns_after p s).elided ≡ true
      → (lengths : List ℕ) → TriesOwner p (next_turn p s) (turns_after p s) lengths
  -- where it is kept, that traversal does not try the owner if every class has a request waiting by then
  pub kept : (s : State) → in_range p s ≡ true → tick_starts p s ≡ true → home_turn p (next_turn p s) ≡ false → (turns_after p s).elided ≡ false
      → (lengths : List ℕ) → ((c : ℕ) → c < 16 → (get_or lengths c 0 ≡ 0) → ⊥) → TriesOwner p (next_turn p s) (turns_after p s) lengths → ⊥
  -- W-202: "before a home turn the dead time is dropped if and only if the owner may flow to the home class"
  pub before_home : (s : State) → in_range p s ≡ true → tick_starts p s ≡ true → home_turn p (next_turn p s) ≡ true
      → (turns_after p s).elided ≡ flows p (turns_after p s).owner (home_class p (next_turn p s))

-- ---- W-202: home turns

-- of every policy in range and every turn's start
pub record HomeTurns (p : Policy) : Type 0 where
  -- a home turn's class "takes it if a request waits, turns left or not, and is not charged"
  pub taken : (s : State) → in_range p s ≡ true → tick_starts p s ≡ true → takes_home p (turn_number p s.cycle) s.queues.lengths ≡ true
      → Shows p s (home_class p (turn_number p s.cycle)) × ((turns_after p s).left ≡ left_at_start p (turn_number p s.cycle) s.turns.left)
  -- "otherwise the walk ascends as usual and charges. An idle home class with nothing above it owns the turn and is charged.": in this and every other turn the owner is charged
  pub charged : (s : State) → in_range p s ≡ true → tick_starts p s ≡ true → takes_home p (turn_number p s.cycle) s.queues.lengths ≡ false
      → (turns_after p s).left ≡ charge (left_at_start p (turn_number p s.cycle) s.turns.left) (turns_after p s).owner
