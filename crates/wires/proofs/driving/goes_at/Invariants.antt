-- `wires::driving::goes_at` meets its contract. The invariant: no request before the k-th may go, none of them before the tick `until`, which has not come, and the look goes past the oldest only where fewer than
-- may have passed it.
use Rattle.std.proofs.Common.{◌≡◌, ℕ, ◌+◌, ◌<◌, ◌≤◌, min, Bool, false, ◌&&◌, ◌||◌, eqb, ltb, leb, ap, ◌∙◌, subst, ap₂, ⊎_elim, lt_irrefl, arith, le-ltb, ne_eqb}
use borrow.Author.Tests.{lt-leb}
use Rattle.timing.specs.declared.Timing.{Timing}
use Rattle.basics.proofs.Truth.{either, and-fails-left, and-fails-right}
use Rattle.basics.proofs.Loops.{Missed}
use Rattle.requests.specs.Word.{kind_of}
use Rattle.queues.specs.declared.Queues.{Queues}
use Rattle.queues.specs.Waiting.{length_of, passed_of, waiting_at}
use Rattle.flight.specs.declared.Flight.{Flight}
use Rattle.rules.specs.Wire.{opens_at, kind_gap, gaps_met}
use Rattle.rules.specs.Step.{may_go}
use Rattle.wires.specs.InPlace.{opens_by, bus_by, Scannable}
use Rattle.wires.proofs.InPlace.{gaps-open}
use Rattle.wires.proofs.driving.goes_at.Given as goal

-- ---- when a request of a class may go, of the queues and the flight that are lent
module _ (timing : Timing) (class : ℕ) (q : Queues) (f : Flight) where
  -- the ticks, counted from 1, at which the last activate of all lets a read and a write go, and at which the k-th request may go
  abbrev pub read : ℕ
  read = opens_at f.last (kind_gap timing f.last 0)

  abbrev pub write : ℕ
  write = opens_at f.last (kind_gap timing f.last 1)

  abbrev pub opens : ℕ → ℕ
  opens k = opens_by timing f.last read write f.banks (waiting_at q class k)

  abbrev pub may : ℕ → ℕ → Bool
  may t = may_go (bus_by timing t class q f)

  module _ (given : Scannable q class) where
    pub may-is : (t k : ℕ) → k < length_of q class → may t k ≡ ((eqb k 0 || ltb (passed_of q class) 15) && leb (opens k) (t + 1))
    unfolding may_go gaps_met
    may-is t k waits = ap (λ (b : Bool). (eqb k 0 || ltb (passed_of q class) 15) && b) (gaps-open timing f.last f.banks (waiting_at q class k) t (given.kind k waits))

    -- before its tick it may not
    pub shut : (t k : ℕ) → k < length_of q class → t + 1 < opens k → may t k ≡ false
    shut t k waits early = may-is t k waits ∙ and-fails-right (eqb k 0 || ltb (passed_of q class) 15) (leb (opens k) (t + 1)) (lt-leb (opens k) (t + 1) early)

    -- and before the earlier of the two ticks none may
    pub both-shut : (t k : ℕ) → k < length_of q class → t + 1 < min read write → may t k ≡ false
    both-shut t k waits early =
        shut t k waits
        (⊎_elim
        (λ e. rw e (omega (arith, early)))
        (λ e. rw e (omega (arith, early)))
        (either (eqb (kind_of (waiting_at q class k)) 0)))

  -- past an oldest that so many have passed none may
  pub held : (t k : ℕ) → 15 ≤ passed_of q class → 0 < k → may t k ≡ false
  unfolding may_go
  held t k many past = and-fails-left (eqb k 0 || ltb (passed_of q class) 15) _ (ap₂ ◌||◌ (ne_eqb k 0 (λ e. lt_irrefl 0 (subst (λ (n : ℕ). 0 < n) e past))) (le-ltb (passed_of q class) 15 many))

abbrev pub invariant-loop-k : goal.invariant-loop-k
invariant-loop-k l =
    (Scannable l.queues l.class
    → Missed (may l.timing l.class l.queues l.flight l.cycle) (length_of l.queues l.class) l.k × ((i : ℕ) → i < l.k → l.until ≤ opens l.timing l.class l.queues l.flight i))
    × (0 < l.k → passed_of l.queues l.class < 15) × (l.cycle + 1 < l.until)
