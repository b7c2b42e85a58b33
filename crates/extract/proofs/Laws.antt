-- The laws of `specs/Laws.antt`. A cut: the first part of a log, with four numbers for each call, is all that the first calls look at. The lengths: line by line.
-- The printed log's extracts are computed.
-- Assumes nothing.
use mathlib.Core.Path.{◌≡◌, refl, ap, ap₂, ◌∙◌}
use mathlib.Core.Logic.{⊎_elim}
use mathlib.Core.Bool.{Bool}
use mathlib.Core.List.{List, [], ◌∷◌, ◌++◌}
use Prim.Native.Nat.{ℕ, ◌*◌, ◌<◌}
use native.Mathlib.Omega.{arith}
use lib.ListN.{length, drop, length-append, length-drop, get_or-append}
use lib.Seq.{drop_at, drop-append-le}
use Rattle.basics.proofs.Truth.{either}
use Rattle.requests.specs.Word.{class_of, is_offer, request_of}
use Rattle.requests.specs.Trace.{call_of}
use Rattle.extract.specs.Seen.{call_stays, stays, staying}
use Rattle.extract.specs.Extract.{hide_word, owner_seen, hide_turn, line_seen, line_seen_at, extract_of}
use Rattle.extract.specs.Laws.{ExtractLaws, PrintedExtracts}
use Rattle.extract.proofs.Grown.{four-left, none_left, purge-yes, purge-no, extract-append}

module _ (seen : ℕ → Bool) where
  -- what stands behind the four numbers of a line does not matter to it
  pub own_line : (w : ℕ) (ls ms : List ℕ) → 3 < length ls → line_seen_at seen w (ls ++ ms) 0 ≡ line_seen_at seen w ls 0
  unfolding line_seen_at
  own_line w ls ms h =
      rw (get_or-append ls ms 0 0 (omega arith), get_or-append ls ms 0 1 (omega arith), get_or-append ls ms 0 2 (omega arith), get_or-append ls ms 0 3 h)

  -- nor what stands behind the numbers of the calls to their extract
  own-part : (xs ls ms : List ℕ) → length ls ≡ 4 * length xs → extract_of seen xs (ls ++ ms) ≡ extract_of seen xs ls
  unfolding extract_of
  own-part [] ls ms e = refl
  own-part (x ∷ xs) ls ms e =
      ap₂ ◌++◌ (own_line x ls ms (omega (arith, e)))
      (ap (λ (l : List ℕ). extract_of seen xs l) (drop-append-le 4 ls ms (omega (arith, e)))
      ∙ own-part xs (drop 4 ls) ms (length-drop 4 ls ∙ omega (arith, e)))

  cut : (xs ys ls ms : List ℕ) → length ls ≡ 4 * length xs → extract_of seen (xs ++ ys) (ls ++ ms) ≡ extract_of seen xs ls ++ extract_of seen ys ms
  cut xs ys ls ms e =
      extract-append seen xs ys (ls ++ ms)
      ∙ ap₂ ◌++◌ (own-part xs ls ms e) (ap (λ (l : List ℕ). extract_of seen ys l) (drop_at ls ms (4 * length xs) e))

  pub four_each : (trace log : List ℕ) → length (extract_of seen trace log) ≡ 4 * length (staying seen trace)
  unfolding extract_of staying
  four_each [] log = refl
  four_each (w ∷ ws) log =
      length-append (line_seen_at seen w log 0) (extract_of seen ws (drop 4 log))
      ∙ ⊎_elim
      (λ e. omega (arith, four-left seen w log 0 e, ap length (purge-yes seen w ws e), four_each ws (drop 4 log)))
      (λ e. omega (arith, ap length (none_left seen w log 0 e), ap length (purge-no seen w ws e), four_each ws (drop 4 log)))
      (either (stays seen w))

  pub extract-laws : ExtractLaws seen
  extract-laws = record { cut = cut; four_each = four_each }

pub printed-extracts : PrintedExtracts
unfolding class_of is_offer request_of call_of call_stays hide_word owner_seen hide_turn line_seen line_seen_at extract_of
printed-extracts = record { whole = refl; blind = refl }
