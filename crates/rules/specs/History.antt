-- The states that calls lead to from a fresh one, and what holds of them but not of every state in range.
use Rattle.std.specs.Prelude.{◌≡◌, ◌⊎◌, true, false, cond, List, ℕ, ◌+◌, ◌-◌, ◌%◌, ◌≤◌, ◌<◌, get_or}
use Rattle.policy.specs.Policy.{flows}
use Rattle.policy.specs.declared.Policy.{Policy}
use Rattle.requests.specs.Sizes.{bank_places, pending_places}
use Rattle.requests.specs.Word.{class_of}
use Rattle.rules.specs.Lookahead.{elides}
use Rattle.flight.specs.Flight.{due_at}
use Rattle.rules.specs.Wire.{gap_met}
use Rattle.rules.specs.Step.{turn_starts, turn_number}
use Rattle.state.specs.Fresh.{fresh_state}
use Rattle.state.specs.Range.{in_range}
use Rattle.rules.specs.Call.{offer, tick}
use Rattle.requests.specs.declared.Request.{Request}
use Rattle.flight.specs.declared.Flight.{Flight}
use Rattle.state.specs.declared.State.{State}

-- a state reached from fresh by calls
pub data FromFresh (p : Policy) : State → Type 0 where
  at_first : FromFresh p (fresh_state p)
  after-offer : (s : State) (r : Request) → FromFresh p s → FromFresh p (offer p s r).state
  after-tick : (s : State) → FromFresh p s → FromFresh p (tick p s).state

-- ---- turns, seen from the state between two ticks

-- the turn that a state belongs to: that of the tick before it. At a turn's first cycle, before its tick, that is still the turn before.
unfoldable pub turn_before : Policy → ℕ → ℕ
turn_before p t = turn_number p (t - 1)

-- how many ticks come before the one that starts the next turn: that is at the least multiple of the turn length that is at least the cycle
unfoldable pub until_turn : Policy → ℕ → ℕ
until_turn p t = cond (turn_starts p t) 0 (p.timing.turn - t % p.timing.turn)

-- ---- what is in flight

-- so it is with each pending word, due d cycles after the next tick
abbrev pub Each : (ℕ → ℕ → Type 0) → ℕ → List ℕ → Type 0
Each P t pending = (d : ℕ) → d < pending_places → (due_at pending (t + d) ≡ 0) ⊎ P d (due_at pending (t + d))

-- with each column command and each response
pub record InFlight (P : ℕ → ℕ → Type 0) (t : ℕ) (f : Flight) : Type 0 where
  pub column : Each P t f.columns
  pub response : Each P t f.responses

-- and so it is with the last activate of all, and with that of each bank
pub record Activates (P : ℕ → Type 0) (f : Flight) : Type 0 where
  pub of_all : P f.last
  pub of-bank : (b : ℕ) → b < bank_places → P (get_or f.banks b 0)

-- ---- what holds of every state reached from fresh

pub record Held (p : Policy) (s : State) : Type 0 where
  pub ranges : in_range p s ≡ true
  -- what is in flight may flow to the owner
  pub flowing : InFlight (λ d w. flows p (class_of w) s.turns.owner ≡ true) s.cycle s.flight
  -- an elided turn has begun, and what elided it still holds as it stands
  pub begun : s.turns.elided ≡ true → 1 ≤ s.cycle
  pub stands : s.turns.elided ≡ true → elides p (turn_before p s.cycle) s.turns.left s.turns.pointers s.turns.owner ≡ true
  -- a kept dead time: when the next turn starts nothing is in flight any more, and every gap is met, since none is longer than the dead time
  pub drained : s.turns.elided ≡ false → InFlight (λ d w. d < until_turn p s.cycle) s.cycle s.flight
  pub rested : s.turns.elided ≡ false → Activates (λ last. gap_met last p.timing.dead (s.cycle + until_turn p s.cycle) ≡ true) s.flight
