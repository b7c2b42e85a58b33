-- W-202's promises, on what a minimum guarantees, and W-209's, on the least class's cap. They are said of every list of calls from fresh, and of what its log shows. W-202's last one, on what a class learns, is
-- `Noninterference` (crate `noninterference`).
use Rattle.std.specs.Prelude.{◌≡◌, Bool, true, false, ◌&&◌, List, [], ◌∷◌, ◌++◌, ℕ, ◌+◌, ◌*◌, ◌-◌, ◌%◌, ◌≤◌, ◌<◌, ltb, eqb, get_or}
use Rattle.basics.specs.Below.{count}
use Rattle.policy.specs.Policy.{is_class, flows, least, cap, minimum, home_turn, home_class}
use Rattle.policy.specs.declared.Policy.{Policy}
use Rattle.queues.specs.Waiting.{length_of, waiting_at}
use Rattle.state.specs.Fresh.{fresh_state}
use Rattle.state.specs.declared.State.{State}
use Rattle.rules.specs.Traversal.{first_class}
use Rattle.rules.specs.Step.{left_at_start, turn_word}
use Rattle.rules.specs.Calls.{line_of, answer_to, state_after, log_of}
use Rattle.rules.specs.RoundRobin.{tick_tries}

-- ---- the ticks of a list

-- how many ticks a list makes: they have the numbers below this. (A tick that is refused with 12 is not made.)
abbrev pub ticks_in : Policy → List ℕ → ℕ
ticks_in p ws = (state_after p (fresh_state p) ws).cycle

-- the state in which calls, from a state on, make tick number t; where they do not, the state after them. (A tick that is refused would count here; what is promised below is said of numbers below `ticks_in`, and there none is.)
unfoldable pub state_at_tick : Policy → State → List ℕ → ℕ → State
state_at_tick p s [] t = s
state_at_tick p s (w ∷ ws) t = elim (eqb w 0 && eqb s.cycle t) [ true ↦ s | false ↦ state_at_tick p (answer_to p s w).state ws t ]

-- the state in which a list from fresh makes tick number t. The tick's four numbers in the log are those of the answer to a 0 there.
abbrev pub at_tick : Policy → List ℕ → ℕ → State
at_tick p ws t = state_at_tick p (fresh_state p) ws t

-- what that comes to: the list is what stands before the tick, the tick, and the rest, and so is its log
pub record TickMade (p : Policy) (ws : List ℕ) (t : ℕ) : Type 0 where
  pub before : List ℕ
  pub after : List ℕ
  pub parts : ws ≡ before ++ (0 ∷ after)
  pub reached : state_after p (fresh_state p) before ≡ at_tick p ws t
  pub number : (at_tick p ws t).cycle ≡ t
  pub logged : log_of p (fresh_state p) ws
      ≡ log_of p (fresh_state p) before ++ (line_of (answer_to p (at_tick p ws t) 0) ++ log_of p (answer_to p (at_tick p ws t) 0).state after)

-- ---- the turns of a list

-- the tick that starts turn number k
abbrev pub first_tick : Policy → ℕ → ℕ
first_tick p k = k * p.timing.turn

-- turn number k starts; it is "ticked to its end"
abbrev pub Started : Policy → List ℕ → ℕ → Type 0
Started p ws k = first_tick p k < ticks_in p ws

abbrev pub Ended : Policy → List ℕ → ℕ → Type 0
Ended p ws k = first_tick p (k + 1) ≤ ticks_in p ws

-- class c "has a request waiting" at the start of turn number k; the oldest of them
abbrev pub Waits : Policy → List ℕ → ℕ → ℕ → Type 0
Waits p ws k c = (length_of (at_tick p ws (first_tick p k)).queues c ≡ 0) → ⊥

abbrev pub oldest_at : Policy → List ℕ → ℕ → ℕ → ℕ
oldest_at p ws k c = waiting_at (at_tick p ws (first_tick p k)).queues c 0

-- class c owns turn number k: the turn starts, and its turn number in the log says so ("The owner is the turn number's low 8 bits less 1")
unfoldable pub owns : Policy → List ℕ → ℕ → ℕ → Bool
owns p ws c k = ltb (first_tick p k) (ticks_in p ws) && eqb ((answer_to p (at_tick p ws (first_tick p k)) 0).turn % 256) (c + 1)

-- how many turns of epoch number e class c owns
unfoldable pub owned_in : Policy → List ℕ → ℕ → ℕ → ℕ
owned_in p ws e c = count p.epoch (λ j. owns p ws c (e * p.epoch + j))

-- tick number t activates "some request of the class" c: its command in the log is the word of one that waits there
pub record ActivatedAt (p : Policy) (ws : List ℕ) (t c : ℕ) : Type 0 where
  pub place : ℕ
  pub waits : place < length_of (at_tick p ws t).queues c
  pub command : (answer_to p (at_tick p ws t) 0).command ≡ waiting_at (at_tick p ws t).queues c place

-- a tick of turn number k does
pub record ActivatedIn (p : Policy) (ws : List ℕ) (k c : ℕ) : Type 0 where
  pub tick : ℕ
  pub not_before : first_tick p k ≤ tick
  pub not_after : tick < first_tick p (k + 1)
  pub activates : ActivatedAt p ws tick c

-- ---- what is promised

-- "a turn of its own starts": class c owns turn number `turn`, one of so many from turn number k on and the first of its own among them, and its oldest request at the start of k is its oldest still
pub record OwnTurn (p : Policy) (ws : List ℕ) (k many c : ℕ) : Type 0 where
  pub turn : ℕ
  pub not_before : k ≤ turn
  pub within : turn < k + many
  pub own : owns p ws c turn ≡ true
  pub first : (j : ℕ) → k ≤ j → j < turn → owns p ws c j ≡ false
  pub waits : Waits p ws turn c
  pub same_oldest : oldest_at p ws turn c ≡ oldest_at p ws k c

-- of every policy in range, every list of calls from fresh and every class
pub record Guarantees (p : Policy) : Type 0 where
  -- what is said of ticks is said of the list and its log
  pub ticks : (ws : List ℕ) (t : ℕ) → t < ticks_in p ws → TickMade p ws t
  -- "A class with a request waiting at all its home turns owns at least its minimum in that epoch": its home turns have started; the rest of the epoch need not
  pub at_least_its_minimum : (ws : List ℕ) (e c : ℕ) → is_class p c ≡ true
      → ((j : ℕ) → j < p.epoch → home_turn p (e * p.epoch + j) ≡ true → home_class p (e * p.epoch + j) ≡ c
      → Started p ws (e * p.epoch + j) × Waits p ws (e * p.epoch + j) c)
      → minimum p c ≤ owned_in p ws e c
  -- "every class owns at most its cap"
  pub at_most_its_cap : (ws : List ℕ) (e c : ℕ) → is_class p c ≡ true → owned_in p ws e c ≤ cap p c
  -- W-209: "a least class with a request waiting at every turn start of an epoch owns exactly its cap in that epoch": its E turns have all started
  pub exactly_its_cap : (ws : List ℕ) (e : ℕ)
      → ((j : ℕ) → j < p.epoch → Started p ws (e * p.epoch + j) × Waits p ws (e * p.epoch + j) (least p))
      → owned_in p ws e (least p) ≡ cap p (least p)
  -- "If a class with a minimum of 1 or more has a request waiting at a turn's start, a turn of its own starts within E turns, that one counted, if so many start, or the request has gone before." A request goes in
  -- a turn of its class alone, so the first half always holds, with the same oldest.
  pub within_an_epoch : (ws : List ℕ) (k c : ℕ) → is_class p c ≡ true → 1 ≤ minimum p c → Waits p ws k c → Started p ws (k + (p.epoch - 1))
      → OwnTurn p ws k p.epoch c
  -- "With a turn length of at least twice the dead time, the head at that start is activated in that turn, if it is ticked to its end.", where W-203 reads "some request of the class" for the head. It need not be one that waited at that start: one that comes
  -- later may pass them all, and its gaps hold them back until the turn's end.
  pub some_goes : (ws : List ℕ) (k c : ℕ) → 2 * p.timing.dead ≤ p.timing.turn → owns p ws c k ≡ true → Waits p ws k c → Ended p ws k
      → ActivatedIn p ws k c

-- What the plan of home turns comes to for the turns left. A class can be tried only in turns whose first class may flow to it, and these are, in an epoch, no more than its cap: so, from fresh, turns left turn no class away.
pub record CapsSuffice (p : Policy) : Type 0 where
  -- as a turn starts, each class that its traversal can come to has a turn left
  pub some_left : (ws : List ℕ) (k c : ℕ) → Started p ws k → flows p (first_class p k) c ≡ true
      → 1 ≤ get_or (left_at_start p k (at_tick p ws (first_tick p k)).turns.left) c 0
  -- so before a turn that is no home turn the trial walk gets no further than the least class: the dead time is dropped if that is the owner, and else kept
  pub least_drops : (ws : List ℕ) (k c : ℕ) → owns p ws c k ≡ true → home_turn p (k + 1) ≡ false
      → (answer_to p (at_tick p ws (first_tick p k)) 0).turn ≡ turn_word c (eqb c (least p)) (tick_tries p (at_tick p ws (first_tick p k)))
