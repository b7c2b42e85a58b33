-- What the functions in place leave is what the definitions say.
-- Assumes nothing.
use Rattle.std.proofs.Common.{◌≡◌, ℕ, zero, suc, ◌+◌, ◌<◌, max, Bool, cond, ◌&&◌, eqb, leb, List, get_or, sym, refl, ap, ◌∙◌, ap₂, not-suc-le-zero, arith, ne_eqb, le-leb, leb-true}
use Rattle.timing.specs.declared.Timing.{Timing}
use Rattle.basics.proofs.Truth.{same_truth, and_left, and_right, and_both}
use Rattle.requests.specs.Word.{rank_of, kind_of, bank_place, word_of}
use Rattle.rules.specs.Queue.{offer_status, queues_after}
use Rattle.rules.specs.Wire.{opens_at, gap_met, kind_gap, bank_gap, rank_opens, rank_gap_met, gaps_met_by}
use Rattle.requests.specs.declared.Request.{Request}
use Rattle.queues.specs.declared.Queues.{Queues}
use Rattle.wires.specs.InPlace.{queued_by, opens_by}

-- the status and the word of an offer say what it leaves
pub queued-by : (n ranks : ℕ) (q : Queues) (r : Request) (status word : ℕ) → status ≡ offer_status n ranks q.lengths r → word ≡ word_of r → queued_by status q r.class word ≡ queues_after n ranks q r
unfolding queues_after
queued-by n ranks q r status word e f = ap₂ (λ (k w : ℕ). queued_by k q r.class w) e f

-- ---- when a request's gaps are met

-- two ticks have come if the later one has
both-come : (a b n : ℕ) → (leb a n && leb b n) ≡ leb (max a b) n
both-come a b n =
    same_truth (leb a n && leb b n) (leb (max a b) n)
    (λ t. le-leb (max a b) n (omega (arith, leb-true a n (and_left (leb a n) (leb b n) t), leb-true b n (and_right (leb a n) (leb b n) t))))
    (λ t. let come = leb-true (max a b) n t in and_both (le-leb a n (omega (arith, come))) (le-leb b n (omega (arith, come))))

-- a kind is a read or a write
of-kind : (f : ℕ → ℕ) (kind : ℕ) → kind < 2 → f kind ≡ cond (eqb kind 0) (f 0) (f 1)
of-kind f zero small = refl
of-kind f (suc kind) small =
    let one : suc kind ≡ 1 = omega (arith, small) in
    ap f one ∙ sym (ap (λ (b : Bool). cond b (f 0) (f 1)) (ne_eqb (suc kind) 0 (λ e. not-suc-le-zero {n = kind} (omega (arith, e)))))

-- they are met from the latest of three ticks on: that of its kind, that of its rank and that of its bank
pub gaps-open : (timing : Timing) (last : ℕ) (banks : List ℕ) (w t : ℕ) → kind_of w < 2 → gaps_met_by timing last (get_or banks (bank_place w) 0) (rank_of w) (kind_of w) t ≡ leb (opens_by timing last (opens_at last (kind_gap timing last 0)) (opens_at last (kind_gap timing last 1)) banks w) (t + 1)
unfolding gaps_met_by gap_met rank_gap_met
gaps-open timing last banks w t small =
    let of_bank = opens_at (get_or banks (bank_place w) 0) (bank_gap timing (get_or banks (bank_place w) 0)) in
    let of_rank = rank_opens timing last (rank_of w) in
    let opens : ℕ → ℕ = λ kind. opens_at last (kind_gap timing last kind) in
    ap (λ (b : Bool). b && leb of_bank (t + 1)) (both-come (opens (kind_of w)) of_rank (t + 1))
    ∙ both-come (max (opens (kind_of w)) of_rank) of_bank (t + 1)
    ∙ ap (λ (k : ℕ). leb (max (max k of_rank) of_bank) (t + 1)) (of-kind opens (kind_of w) small)
