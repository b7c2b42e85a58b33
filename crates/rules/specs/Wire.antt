-- What is on its way, the gaps, and what an activate does.
use Rattle.std.specs.Prelude.{Bool, cond, ◌&&◌, ◌||◌, List, ℕ, ◌+◌, ◌-◌, ◌*◌, ◌%◌, leb, ltb, eqb, get_or, set}
use Rattle.timing.specs.declared.Timing.{Timing}
use Rattle.requests.specs.Sizes.{pending_places}
use Rattle.flight.specs.Flight.{activate_at, activate_next, activate_rank, activate_kind}
use Rattle.requests.specs.Word.{rank_of, kind_of, bank_place}
use Rattle.flight.specs.declared.Flight.{Flight}

-- ---- gaps

-- "A gap of g is met from g cycles after that activate on, and where there was none": the first tick at which it is, the ticks counted from 1; 0 where there was none
unfoldable pub opens_at : ℕ → ℕ → ℕ
opens_at last gap = cond (eqb last 0) 0 (activate_next last + gap)

unfoldable pub gap_met : ℕ → ℕ → ℕ → Bool
gap_met last gap t = leb (opens_at last gap) (t + 1)

-- "Gaps run from the last activate of all (by the two kinds)", the earlier first, "and from the last activate of the same bank (by that one's kind)"
abbrev pub kind_gap : Timing → ℕ → ℕ → ℕ
kind_gap timing last kind = get_or timing.gaps (2 * activate_kind last + kind) 0

abbrev pub bank_gap : Timing → ℕ → ℕ
bank_gap timing of_bank = get_or timing.bank (activate_kind of_bank) 0

-- W-206: "the rank gap .., kept from the last activate of all where that was on another rank": the first tick at which it is met; 0 where that was on the same rank, or there was none
unfoldable pub rank_opens : Timing → ℕ → ℕ → ℕ
rank_opens timing last rank = cond (eqb (activate_rank last) rank) 0 (opens_at last timing.rank)

unfoldable pub rank_gap_met : Timing → ℕ → ℕ → ℕ → Bool
rank_gap_met timing last rank t = leb (rank_opens timing last rank) (t + 1)

-- ".. besides the other gaps"
unfoldable pub gaps_met_by : Timing → ℕ → ℕ → ℕ → ℕ → ℕ → Bool
gaps_met_by timing last of_bank rank kind t = gap_met last (kind_gap timing last kind) t && rank_gap_met timing last rank t && gap_met of_bank (bank_gap timing of_bank) t

-- W-206: "a bank is then known by rank and bank"
unfoldable pub gaps_met : Timing → Flight → ℕ → ℕ → Bool
gaps_met timing f w t = gaps_met_by timing f.last (get_or f.banks (bank_place w) 0) (rank_of w) (kind_of w) t

-- "The owner may activate at offsets below turn length less dead time; if the dead time is dropped, at all offsets."
unfoldable pub offset_allows : Timing → Bool → ℕ → Bool
offset_allows timing elided t = elided || ltb (t % timing.turn) (timing.turn - timing.dead)

-- ---- an activate

-- "An activate at t brings its column command at t plus the column delay and its answer at t plus the answer delay."
unfoldable pub activated : Timing → List ℕ → List ℕ → List ℕ → ℕ → ℕ → Flight
activated timing columns responses banks w t =
    record {
      columns = set columns ((t + timing.column) % pending_places) w;
      responses = set responses ((t + timing.response) % pending_places) w;
      banks = set banks (bank_place w) (activate_at t (rank_of w) (kind_of w));
      last = activate_at t (rank_of w) (kind_of w);
    }
