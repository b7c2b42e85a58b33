-- W-206's promises: what ranks come to, of every list of calls from fresh. That extracts still agree is `Noninterference` (crate `noninterference`).
use Rattle.std.specs.Prelude.{◌≡◌, Bool, true, cond, ◌&&◌, List, [], ◌∷◌, ◌++◌, ℕ, suc, ◌+◌, ◌/◌, ◌%◌, ◌≤◌, ◌<◌, leb, eqb, length, get_or, drop}
use Rattle.policy.specs.Policy.{is_class}
use Rattle.policy.specs.declared.Policy.{Policy}
use Rattle.requests.specs.Word.{rank_of, kind_of, bank_of, bank_place, is_offer, request_of, bank_kind_rank_fit}
use Rattle.queues.specs.Waiting.{length_of, waiting_at}
use Rattle.flight.specs.declared.Flight.{Flight}
use Rattle.state.specs.Fresh.{fresh_state}
use Rattle.rules.specs.Wire.{gap_met, kind_gap, bank_gap, rank_opens, gaps_met}
use Rattle.rules.specs.Calls.{state_after, log_of}
use Rattle.rules.specs.Overtaking.{only_if, activations}
use Rattle.state.specs.declared.State.{State}

-- ---- what a trace and its log show

-- the number of the tick of each activate, in their order (`Overtaking.activations` has their words): a trace number of 0 that is taken is a tick, and these are counted from t
unfoldable pub activation_ticks : ℕ → List ℕ → List ℕ → List ℕ
activation_ticks t [] log = []
activation_ticks t (w ∷ ws) log = only_if (is_offer (get_or log 1 0)) t ++ activation_ticks (t + cond (eqb w 0 && eqb (get_or log 0 0) 0) 1 0) ws (drop 4 log)

-- ---- the rank gap

-- of every policy in range: "the rank gap .., kept from the last activate of all where that was on another rank". Of two activates of a log, one after the other and on different ranks, the later comes at least the
-- rank gap after the earlier.
abbrev pub RankGapKept : Policy → Type 0
RankGapKept p =
    (ws : List ℕ) (i : ℕ)
    → let words = activations ws (log_of p (fresh_state p) ws) in
    let at = activation_ticks 0 ws (log_of p (fresh_state p) ws) in
    suc i < length words → ((rank_of (get_or words i 0) ≡ rank_of (get_or words (suc i) 0)) → ⊥) → get_or at i 0 + p.timing.rank ≤ get_or at (suc i) 0

-- ---- "Ten-byte files with traces that have both bits 0 give the logs they gave before."

-- document 01's gaps of a request: by the two kinds from the last activate of all, and from that of the bank with its number
abbrev pub gaps_before : Policy → Flight → ℕ → ℕ → Bool
gaps_before p f w t =
    let of_bank = get_or f.banks (bank_of w) 0 in
    gap_met f.last (kind_gap p.timing f.last (kind_of w)) t && gap_met of_bank (bank_gap p.timing of_bank) t

-- the k-th request from the oldest that waits in a class's queue after a list of calls is on the rank of the last activate of all, so that the rank gap is not asked of the two; its gaps are document 01's, at every
-- cycle; and where it is activated, that is stored as its bank's last activate by the bank's number
pub record GapsAsBefore (p : Policy) (s : State) (c k : ℕ) : Type 0 where
  pub not_asked : rank_opens p.timing s.flight.last (rank_of (waiting_at s.queues c k)) ≡ 0
  pub same_gaps : (t : ℕ) → gaps_met p.timing s.flight (waiting_at s.queues c k) t ≡ gaps_before p s.flight (waiting_at s.queues c k) t
  pub same_place : bank_place (waiting_at s.queues c k) ≡ bank_of (waiting_at s.queues c k)

-- of every policy in range with one rank, as a file with ten timing bytes gives it (`Taken.policy_of`)
pub record TenByteLogs (p : Policy) : Type 0 where
  -- no number of a log has bit 22 or 23 set: whatever the trace is, since an offer on another rank is refused
  pub no_rank_shown : (ws : List ℕ) (i : ℕ) → rank_of (get_or (log_of p (fresh_state p) ws) i 0) ≡ 0
  -- the rank gap is asked of no pair of activates
  pub gaps_as_before : (ws : List ℕ) (c k : ℕ) → is_class p c ≡ true → k < length_of (state_after p (fresh_state p) ws).queues c → GapsAsBefore p (state_after p (fresh_state p) ws) c k
  -- and a word that has both bits 0 is an offer if it was one by document 01, and is refused by 10 for what document 01 refuses
  pub form_as_before : (w : ℕ) → rank_of w ≡ 0 → is_offer w ≡ (eqb (w / 536870912) 4 && eqb (w / 4194304 % 4) 0)
  pub refused_as_before : (w : ℕ) → rank_of w ≡ 0 → bank_kind_rank_fit p.timing.ranks (request_of w) ≡ (leb (bank_of w) 7 && leb (kind_of w) 1)

-- of every policy in range
pub record Ranks (p : Policy) : Type 0 where
  pub rank_gap_kept : RankGapKept p
  pub ten_bytes : p.timing.ranks ≡ 1 → TenByteLogs p
