-- The classes that are looked at, called low: those that may flow to L, or any set that holds, with a class, all that may flow to it. The others are high.
-- Definitions for the proof: what two states' parts have in common for the low classes; and of queues, that each agrees with itself, and two both ways and through a third.
-- Assumes nothing.
use mathlib.Core.Path.{◌≡◌, refl, sym, ◌∙◌}
use mathlib.Core.Logic.{◌⊎◌}
use mathlib.Core.Bool.{Bool, true, false}
use mathlib.Core.List.{List}
use Prim.Native.Nat.{ℕ, ◌<◌}
use lib.ListN.{get_or}
use Rattle.policy.specs.Policy.{flows}
use Rattle.policy.specs.declared.Policy.{Policy}
use Rattle.requests.specs.Sizes.{bank_places}
use Rattle.queues.specs.Waiting.{passed_of, waiting}
use Rattle.rules.specs.Wire.{gap_met}
use Rattle.flight.specs.declared.Flight.{Flight}
use Rattle.queues.specs.declared.Queues.{Queues}
use Rattle.state.specs.declared.Turns.{Turns}
use Rattle.extract.specs.Extract.{hide_word}

-- closed downward: what may flow to a low class is low
abbrev pub Downward : Policy → (ℕ → Bool) → Type 0
Downward p low = (c d : ℕ) → flows p c d ≡ true → low d ≡ true → low c ≡ true

-- two lists, with an entry for each class, agree on the low classes
abbrev pub EntriesAgree : (ℕ → Bool) → List ℕ → List ℕ → Type 0
EntriesAgree low xs ys = (c : ℕ) → low c ≡ true → get_or xs c 0 ≡ get_or ys c 0

-- the same low owner, or a high owner in both
abbrev pub OwnersAgree : (ℕ → Bool) → ℕ → ℕ → Type 0
OwnersAgree low o u = ((o ≡ u) × (low o ≡ true)) ⊎ ((low o ≡ false) × (low u ≡ false))

-- two states' turns, seen by the low classes
pub record TurnsAgree (low : ℕ → Bool) (t u : Turns) : Type 0 where
  pub owners : OwnersAgree low t.owner u.owner
  pub elisions : low t.owner ≡ true → t.elided ≡ u.elided
  pub left : EntriesAgree low t.left u.left
  pub pointers : EntriesAgree low t.pointers u.pointers

-- a class's queue in two states: the same requests wait, oldest first, and as many have passed the oldest
pub record QueueAgrees (q r : Queues) (c : ℕ) : Type 0 where
  pub requests : waiting q c ≡ waiting r c
  pub passed : passed_of q c ≡ passed_of r c

-- two states' queues, seen by the low classes
abbrev pub QueuesAgree : (ℕ → Bool) → Queues → Queues → Type 0
QueuesAgree low q r = (c : ℕ) → low c ≡ true → QueueAgrees q r c

-- a queue agrees with itself
pub queue-self : (q : Queues) (c : ℕ) → QueueAgrees q q c
queue-self q c = record { requests = refl; passed = refl }

-- two that agree do so the other way round
pub queue-back : {q r : Queues} {c : ℕ} → QueueAgrees q r c → QueueAgrees r q c
queue-back h = record { requests = sym h.requests; passed = sym h.passed }

-- and through a third
pub queue-through : {q r s : Queues} {c : ℕ} → QueueAgrees q r c → QueueAgrees r s c → QueueAgrees q s c
queue-through h g = record { requests = h.requests ∙ g.requests; passed = h.passed ∙ g.passed }

-- two lists of pending words agree, due cycle by due cycle, once high ones are hidden
abbrev pub PendingAgree : (ℕ → Bool) → List ℕ → List ℕ → Type 0
PendingAgree low xs ys = (i : ℕ) → hide_word low (get_or xs i 0) ≡ hide_word low (get_or ys i 0)

-- two last activates: the same, kind included, or both so long ago, or never, that every gap is met
abbrev pub LastAgree : ℕ → ℕ → ℕ → ℕ → Type 0
LastAgree dead t x y = (x ≡ y) ⊎ ((gap_met x dead t ≡ true) × (gap_met y dead t ≡ true))

-- of all, and of each bank
pub record LastsAgree (dead t : ℕ) (f g : Flight) : Type 0 where
  pub of_all : LastAgree dead t f.last g.last
  pub of-bank : (b : ℕ) → b < bank_places → LastAgree dead t (get_or f.banks b 0) (get_or g.banks b 0)
