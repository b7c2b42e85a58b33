-- The gaps. A gap met at one cycle is met at another for a gap that is longer by no more than the cycle is later; and from an activate just made every gap counts from its
-- cycle. That a last activate is before a cycle is that a gap of 1 is met there. How one is stored is told apart in this file alone, beside the proofs of the functions that
-- store and read one.
-- Assumes nothing.
use mathlib.Core.Path.{◌≡◌}
use mathlib.Core.Logic.{⊎_elim}
use mathlib.Core.Bool.{true, false, ◌&&◌, ◌||◌}
use Prim.Native.Nat.{ℕ, ◌+◌, ◌*◌, ◌≤◌, ◌<◌, zero-le}
use native.Mathlib.Nat.{not-suc-le-zero}
use native.Mathlib.Omega.{arith}
use borrow.Author.Tests.{leb-true, le-leb, ne_eqb}
use lib.Dec.{leb, eqb}
use Rattle.basics.proofs.Truth.{either, not-both, and_left, and_right, and_both, or_left, or_right, or_cases}
use Rattle.timing.specs.declared.Timing.{Timing}
use Rattle.policy.specs.Laws.{TimingLaws}
use Rattle.flight.specs.Flight.{activate_at, activate_next, activate_rank, activate_kind, activate_in_range}
use Rattle.rules.specs.Wire.{opens_at, gap_met, kind_gap, bank_gap, rank_opens, rank_gap_met, gaps_met_by}

-- one cycle for another, and one gap for another
pub gap-shift : (last gap other t u : ℕ) → t + other ≤ u + gap → gap_met last gap t ≡ true → gap_met last other u ≡ true
unfolding gap_met opens_at
gap-shift last gap other t u l e =
    ⊎_elim
    (λ none. rw none (le-leb 0 (u + 1) zero-le))
    (λ some. rw some (le-leb (activate_next last + other) (u + 1) (omega (arith, l, leb-true (activate_next last + gap) (t + 1) (rw some at e)))))
    (either (eqb last 0))

-- from an activate at t
pub gap-new : (rank kind gap t u : ℕ) → rank < 4 → kind < 2 → t + gap ≤ u → gap_met (activate_at t rank kind) gap u ≡ true
unfolding gap_met opens_at activate_at activate_next
gap-new rank kind gap t u m k l =
    ⊎_elim
    (λ none. rw none (le-leb 0 (u + 1) zero-le))
    (λ some. rw some (le-leb (activate_next (activate_at t rank kind) + gap) (u + 1) (omega (arith, m, k, l))))
    (either (eqb (activate_at t rank kind) 0))

-- its cycle and its rank
pub next-new : (t rank kind : ℕ) → rank < 4 → kind < 2 → activate_next (activate_at t rank kind) ≡ t + 1
unfolding activate_at activate_next
next-new t rank kind m k = omega (arith, m, k)

pub rank-new : (t rank kind : ℕ) → rank < 4 → kind < 2 → activate_rank (activate_at t rank kind) ≡ rank
unfolding activate_at activate_rank
rank-new t rank kind m k = omega (arith, m, k)

-- it is one
pub some-new : (t rank kind : ℕ) → eqb (activate_at t rank kind) 0 ≡ false
unfolding activate_at
some-new t rank kind = ne_eqb (activate_at t rank kind) 0 (λ e. not-suc-le-zero {n = 0} (omega (arith, e)))

-- where there was none
pub gap-none : (gap t : ℕ) → gap_met 0 gap t ≡ true
unfolding gap_met opens_at
gap-none gap t = le-leb 0 (t + 1) zero-le

-- a kind is 0 or 1
pub kind-small : (last : ℕ) → activate_kind last < 2
unfolding activate_kind
kind-small last = omega arith

-- ---- all gaps

-- none is longer than the dead time: where that is met after the last activate, each gap is met
module _ (timing : Timing) (laws : TimingLaws timing) (t : ℕ) where
  abbrev Rests : ℕ → Type 0
  Rests last = gap_met last timing.dead t ≡ true

  shorter : (last gap : ℕ) → gap ≤ timing.dead → Rests last → gap_met last gap t ≡ true
  shorter last gap short = gap-shift last timing.dead gap t t (omega (arith, short))

  pub kind-rested : (kind : ℕ) → kind < 2 → (last : ℕ) → Rests last → gap_met last (kind_gap timing last kind) t ≡ true
  kind-rested kind small last =
      shorter last (kind_gap timing last kind) (laws.gaps_bounds (2 * activate_kind last + kind) (omega (arith, small, kind-small last))).1

  pub rank-rested : (rank last : ℕ) → Rests last → rank_gap_met timing last rank t ≡ true
  unfolding rank_gap_met rank_opens gap_met
  rank-rested rank last rests =
      ⊎_elim
      (λ same. rw same (le-leb 0 (t + 1) zero-le))
      (λ other. rw other (shorter last timing.rank laws.rank_bound rests))
      (either (eqb (activate_rank last) rank))

  pub bank-rested : (of_bank : ℕ) → Rests of_bank → gap_met of_bank (bank_gap timing of_bank) t ≡ true
  bank-rested of_bank = shorter of_bank (bank_gap timing of_bank) (laws.bank_bounds (activate_kind of_bank) (kind-small of_bank)).1

  pub gaps-rested : (last of_bank rank kind : ℕ) → kind < 2 → Rests last → Rests of_bank → gaps_met_by timing last of_bank rank kind t ≡ true
  unfolding gaps_met_by
  gaps-rested last of_bank rank kind small all bank = and_both (and_both (kind-rested kind small last all) (rank-rested rank last all)) (bank-rested of_bank bank)

-- ---- before a cycle

-- what is stored is an activate, or none: a 1 to 7 is neither
abbrev pub Stored : ℕ → Type 0
Stored last = (eqb last 0 || leb 1 (activate_next last)) ≡ true

pub stored-new : (t rank kind : ℕ) → Stored (activate_at t rank kind)
unfolding activate_at activate_next
stored-new t rank kind = or_right (eqb (activate_at t rank kind) 0) (leb 1 (activate_next (activate_at t rank kind))) (le-leb 1 (activate_next (activate_at t rank kind)) (omega arith))

-- "a last activate not before the cycle" is refused
abbrev pub Before : ℕ → ℕ → Type 0
Before t last = Stored last × (gap_met last 1 t ≡ true)

-- a gap of 1 is met: there was none, or it was before the cycle
early : (t last : ℕ) → gap_met last 1 t ≡ true → (eqb last 0 || leb (activate_next last) t) ≡ true
unfolding gap_met opens_at
early t last e =
    ⊎_elim
    (λ none. or_left (eqb last 0) (leb (activate_next last) t) none)
    (λ some. or_right (eqb last 0) (leb (activate_next last) t) (le-leb (activate_next last) t (omega (arith, leb-true (activate_next last + 1) (t + 1) (rw some at e)))))
    (either (eqb last 0))

early-back : (t last : ℕ) → (eqb last 0 || leb (activate_next last) t) ≡ true → gap_met last 1 t ≡ true
unfolding gap_met opens_at
early-back t last e =
    ⊎_elim
    (λ none. rw none (le-leb 0 (t + 1) zero-le))
    (λ some.
    let late = ⊎_elim (λ none. absurd (not-both none some)) (λ h. h) (or_cases (eqb last 0) (leb (activate_next last) t) e) in
    rw some (le-leb (activate_next last + 1) (t + 1) (omega (arith, leb-true (activate_next last) t late))))
    (either (eqb last 0))

pub before : (t last : ℕ) → activate_in_range t last ≡ true → Before t last
unfolding activate_in_range
before t last e =
    ⊎_elim
    (λ z. (or_left (eqb last 0) (leb 1 (activate_next last)) z, early-back t last (or_left (eqb last 0) (leb (activate_next last) t) z)))
    (λ h. (
      or_right (eqb last 0) (leb 1 (activate_next last)) (and_left (leb 1 (activate_next last)) (leb (activate_next last) t) h),
      early-back t last (or_right (eqb last 0) (leb (activate_next last) t) (and_right (leb 1 (activate_next last)) (leb (activate_next last) t) h)),
    ))
    (or_cases (eqb last 0) (leb 1 (activate_next last) && leb (activate_next last) t) e)

pub before_back : (t last : ℕ) → Before t last → activate_in_range t last ≡ true
unfolding activate_in_range
before_back t last b =
    let none : eqb last 0 ≡ true → activate_in_range t last ≡ true = or_left (eqb last 0) (leb 1 (activate_next last) && leb (activate_next last) t) in
    ⊎_elim none
    (λ stored.
    ⊎_elim none
    (λ late. or_right (eqb last 0) (leb 1 (activate_next last) && leb (activate_next last) t) (and_both stored late))
    (or_cases (eqb last 0) (leb (activate_next last) t) (early t last b.1)))
    (or_cases (eqb last 0) (leb 1 (activate_next last)) b.0)
