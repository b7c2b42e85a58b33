-- Two states that the low classes cannot tell apart: a definition for the proof, which shows that it is kept by every pair of calls that the claim compares.
-- Assumes nothing.
use mathlib.Core.Path.{◌≡◌}
use mathlib.Core.Bool.{Bool, true}
use Prim.Native.Nat.{ℕ}
use Rattle.policy.specs.declared.Policy.{Policy}
use Rattle.state.specs.declared.State.{State}
use Rattle.noninterference.proofs.Low.{TurnsAgree, QueuesAgree, PendingAgree, LastsAgree}

pub record Alike (p : Policy) (low : ℕ → Bool) (s r : State) : Type 0 where
  pub cycles : s.cycle ≡ r.cycle
  pub queues : QueuesAgree low s.queues r.queues
  pub turns : TurnsAgree low s.turns r.turns
  pub columns : PendingAgree low s.flight.columns r.flight.columns
  pub responses : PendingAgree low s.flight.responses r.flight.responses
  -- at a low owner the last activates count, and are the same or long past in both
  pub lasts : low s.turns.owner ≡ true → LastsAgree p.timing.dead s.cycle s.flight r.flight
