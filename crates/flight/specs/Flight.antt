-- What is in flight: how it is stored, and what 13 refuses of it. What is pending stands at its due cycle modulo 32, by its word, so that it holds the rank (W-206: "waiting and in-flight requests hold it"). A last activate is one number.
use Rattle.std.specs.Prelude.{Bool, ◌&&◌, ◌||◌, List, ℕ, ◌+◌, ◌*◌, ◌/◌, ◌%◌, leb, ltb, eqb, get_or, set}
use Rattle.basics.specs.Below.{every}
use Rattle.timing.specs.declared.Timing.{Timing}
use Rattle.requests.specs.Sizes.{pending_places, bank_places}
use Rattle.requests.specs.Word.{sound_word}
use Rattle.flight.specs.declared.Flight.{Flight}

-- the word that is due at a cycle, 0 for none: what is pending stands at its due cycle modulo the pending places, which are more than any delay
unfoldable pub due_at : List ℕ → ℕ → ℕ
due_at pending t = get_or pending (t % pending_places) 0

-- what was due at a cycle has gone out
unfoldable pub sent_at : List ℕ → ℕ → List ℕ
sent_at pending t = set pending (t % pending_places) 0

-- how a last activate is stored: eight times one more than its cycle, plus twice its rank (W-206), plus its kind; 0 is none
unfoldable pub activate_at : ℕ → ℕ → ℕ → ℕ
activate_at t rank kind = 8 * (t + 1) + 2 * rank + kind

-- one more than the cycle of a stored last activate, its rank and its kind
unfoldable pub activate_next : ℕ → ℕ
activate_next last = last / 8

unfoldable pub activate_rank : ℕ → ℕ
activate_rank last = last / 2 % 4

unfoldable pub activate_kind : ℕ → ℕ
activate_kind last = last % 2

-- ---- in range: "Out of range in 13 means", clause by clause

-- "a last activate not before the cycle". A stored 1 to 7 is no activate and not none: refused. Every other number is an activate of kind 0 or 1 on rank 0 to 3.
unfoldable pub activate_in_range : ℕ → ℕ → Bool
activate_in_range t last = eqb last 0 || leb 1 (activate_next last) && leb (activate_next last) t

-- what is pending: at d cycles after the next tick "an in-flight request that 9 or 10 would refuse"; "its delay or more after it" there is none.
-- "due before the next tick" and "two .. due in one cycle" cannot be stored.
unfoldable pub pending_in_range : ℕ → ℕ → ℕ → ℕ → List ℕ → Bool
pending_in_range n ranks t delay pending =
    every pending_places (λ d. eqb (due_at pending (t + d)) 0 || ltb d delay && sound_word n ranks (due_at pending (t + d)))

unfoldable pub flight_in_range : ℕ → Timing → ℕ → Flight → Bool
flight_in_range n timing t f =
    activate_in_range t f.last
    && every bank_places (λ b. activate_in_range t (get_or f.banks b 0))
    && pending_in_range n timing.ranks t timing.column f.columns
    && pending_in_range n timing.ranks t timing.response f.responses
