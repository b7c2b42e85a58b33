-- What 13 refuses of a state.
use Rattle.std.specs.Prelude.{Bool, ◌&&◌, ℕ, leb, eqb, length, get_or}
use Rattle.basics.specs.Below.{every}
use Rattle.policy.specs.Policy.{is_class, cover_count, cap}
use Rattle.policy.specs.Policy.{in_range as policy_in_range}
use Rattle.policy.specs.declared.Policy.{Policy}
use Rattle.requests.specs.Sizes.{last_cycle, bank_places, pending_places}
use Rattle.queues.specs.Waiting.{queue_in_range}
use Rattle.flight.specs.Flight.{flight_in_range}
use Rattle.state.specs.declared.Turns.{Turns}
use Rattle.state.specs.declared.State.{State}

-- ---- in range: "Out of range in 13 means", clause by clause

-- what the types of the fields say: so many entries in each list. No state that a program can hold breaks it.
unfoldable pub shaped : State → Bool
shaped s =
    eqb (length s.queues.slots) 128
    && eqb (length s.queues.heads) 16
    && eqb (length s.queues.lengths) 16
    && eqb (length s.queues.passed) 16
    && eqb (length s.turns.left) 16
    && eqb (length s.turns.pointers) 16
    && eqb (length s.flight.columns) pending_places
    && eqb (length s.flight.responses) pending_places
    && eqb (length s.flight.banks) bank_places

-- "a mark above the number of children"; "turns left above the cap"
unfoldable pub turns_in_range : Policy → Turns → ℕ → Bool
turns_in_range p t c = leb (get_or t.pointers c 0) (cover_count p c) && leb (get_or t.left c 0) (cap p c)

-- "a class count other than the policy's; an owner not below n"; "a cycle above 16,777,215"
unfoldable pub counts_in_range : Policy → State → Bool
counts_in_range p s = eqb s.classes p.classes && is_class p s.turns.owner && leb s.cycle last_cycle

unfoldable pub state_in_range : Policy → State → Bool
state_in_range p s =
    shaped s
    && counts_in_range p s
    && every 16 (queue_in_range p.classes p.timing.ranks s.queues)
    && every 16 (turns_in_range p s.turns)
    && flight_in_range p.classes p.timing s.cycle s.flight

-- 13: "a state or policy handed in has numbers out of range"
unfoldable pub in_range : Policy → State → Bool
in_range p s = policy_in_range p && state_in_range p s
