-- What is in flight in two runs that agree on the low classes: stores that both make, and stores that the low classes do not see, keep the agreement; and the gaps are
-- met in both or in neither.
-- Assumes nothing.
use mathlib.Core.Path.{◌≡◌, refl, sym, ap, ap₂, ◌∙◌}
use mathlib.Core.Logic.{⊎_elim}
use mathlib.Core.Bool.{Bool, true, ◌&&◌}
use mathlib.Core.List.{List}
use Prim.Native.Nat.{ℕ, ◌<◌}
use lib.ListN.{length, get_or, set}
use Rattle.policy.specs.Laws.{TimingLaws}
use Rattle.timing.specs.declared.Timing.{Timing}
use Rattle.basics.proofs.Stores.{stored_at, stored-in-both}
use Rattle.requests.specs.Word.{rank_of, kind_of, bank_place}
use Rattle.rules.specs.Wire.{gap_met, kind_gap, bank_gap, rank_gap_met, gaps_met_by, gaps_met}
use Rattle.flight.specs.declared.Flight.{Flight}
use Rattle.rules.proofs.Wire.{kind-rested, rank-rested, bank-rested}
use Rattle.requests.proofs.Word.{place-small}
use Rattle.extract.specs.Extract.{hide_word}
use Rattle.noninterference.proofs.Low.{PendingAgree, LastAgree, LastsAgree}

-- ---- pending words

-- a store of words that look alike, in both
pub stored-both : (low : ℕ → Bool) (xs ys : List ℕ) (k x y : ℕ) → k < length xs → k < length ys → hide_word low x ≡ hide_word low y → PendingAgree low xs ys → PendingAgree low (set xs k x) (set ys k y)
stored-both low xs ys k x y l m e h i =
    stored-in-both (λ a b. hide_word low a ≡ hide_word low b) xs ys k x y i l m (λ same. e) (λ other. h i)

-- a store in one alone, of a word that looks like the one that stood there
pub stored-unseen : (low : ℕ → Bool) (xs : List ℕ) (k x : ℕ) → k < length xs → hide_word low x ≡ hide_word low (get_or xs k 0) → PendingAgree low (set xs k x) xs
stored-unseen low xs k x l e i =
    stored_at (λ a. hide_word low a ≡ hide_word low (get_or xs i 0)) xs k x i l (λ same. e ∙ ap (λ (j : ℕ). hide_word low (get_or xs j 0)) (sym same)) (λ other. refl)

-- ---- gaps

-- what goes by a last activate and holds where that is at least the dead time old, holds in both runs or in neither
same_met : (met : ℕ → Bool) (dead t x y : ℕ) → ((z : ℕ) → gap_met z dead t ≡ true → met z ≡ true) → LastAgree dead t x y → met x ≡ met y
same_met met dead t x y old h = ⊎_elim (λ e. ap met e) (λ rest. old x rest.0 ∙ sym (old y rest.1)) h

-- so it is with each gap, since none is longer than the dead time
pub same_gaps : (timing : Timing) (t : ℕ) (f g : Flight) (w : ℕ) → TimingLaws timing → kind_of w < 2 → LastsAgree timing.dead t f g → gaps_met timing f w t ≡ gaps_met timing g w t
unfolding gaps_met gaps_met_by
same_gaps timing t f g w laws kind h =
    let of-bank : Flight → ℕ = λ x. get_or x.banks (bank_place w) 0 in
    ap₂ ◌&&◌
    (ap₂ ◌&&◌
    (same_met (λ z. gap_met z (kind_gap timing z (kind_of w)) t) timing.dead t f.last g.last (kind-rested timing laws t (kind_of w) kind) h.of_all)
    (same_met (λ z. rank_gap_met timing z (rank_of w) t) timing.dead t f.last g.last (rank-rested timing laws t (rank_of w)) h.of_all))
    (same_met (λ z. gap_met z (bank_gap timing z) t) timing.dead t (of-bank f) (of-bank g) (bank-rested timing laws t) (h.of-bank (bank_place w) (place-small w)))
