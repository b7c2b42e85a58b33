-- What holds of every extract, and the extracts of document 01's printed log. `proofs/Laws.antt` proves it.
use Rattle.std.specs.Prelude.{◌≡◌, Bool, false, List, [], ◌∷◌, ◌++◌, ℕ, ◌*◌, eqb, length}
use Rattle.extract.specs.Seen.{staying}
use Rattle.extract.specs.Extract.{extract_of}

pub record ExtractLaws (seen : ℕ → Bool) : Type 0 where
  -- a trace and its log, cut at the same call, give the extracts of the parts one after the other
  pub cut : (xs ys ls ms : List ℕ) → length ls ≡ 4 * length xs → extract_of seen (xs ++ ys) (ls ++ ms) ≡ extract_of seen xs ls ++ extract_of seen ys ms
  -- four numbers for each call that stays
  pub four_each : (trace log : List ℕ) → length (extract_of seen trace log) ≡ 4 * length (staying seen trace)

-- the printed trace, of an offer of class 0 and three ticks, and its log
abbrev pub printed_trace : List ℕ
printed_trace = 0x80010007 ∷ 0 ∷ 0 ∷ 0 ∷ []

abbrev pub printed_log : List ℕ
printed_log = 0 ∷ 0 ∷ 0 ∷ 0 ∷ 0 ∷ 0x80010007 ∷ 0 ∷ 0x10101 ∷ 0 ∷ 0xC0010007 ∷ 0 ∷ 0 ∷ 0 ∷ 0 ∷ 0x80010007 ∷ 0 ∷ []

pub record PrintedExtracts : Type 0 where
  -- where class 0 may be seen, all of it
  pub whole : extract_of (λ c. eqb c 0) printed_trace printed_log ≡ printed_log
  -- where it may not, the ticks alone, with nothing but that another's turn starts
  pub blind : extract_of (λ c. false) printed_trace printed_log ≡ 0 ∷ 0 ∷ 0 ∷ 512 ∷ 0 ∷ 0 ∷ 0 ∷ 0 ∷ 0 ∷ 0 ∷ 0 ∷ 0 ∷ []
