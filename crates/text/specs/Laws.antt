-- What holds of every log and trace, and lines of document 01's printed log. `proofs/Laws.antt` proves it.
use Rattle.std.specs.Prelude.{◌≡◌, List, [], ◌∷◌, ◌++◌, ℕ, ◌+◌, ◌*◌, length, drop}
use Rattle.text.specs.Lines.{lines_of}
use Rattle.text.specs.Words.{words_of}

pub record TextLaws : Type 0 where
  -- 36 bytes a line
  pub line_bytes : (k : ℕ) (log : List ℕ) → length (lines_of k log) ≡ 36 * k
  -- a log or a trace that is cut between two lines or words is the two parts one after the other
  pub cut_lines : (a b : ℕ) (log : List ℕ) → lines_of (a + b) log ≡ lines_of a log ++ lines_of b (drop (4 * a) log)
  pub cut_words : (a b : ℕ) (bytes : List ℕ) → words_of (a + b) bytes ≡ words_of a bytes ++ words_of b (drop (4 * a) bytes)
  -- the trace 0x80010007, 0
  pub read : words_of 2 (7 ∷ 0 ∷ 1 ∷ 128 ∷ 0 ∷ 0 ∷ 0 ∷ 0 ∷ []) ≡ 0x80010007 ∷ 0 ∷ []
  -- "00000000 80010007 00000000 00010101" and "00000000 C0010007 00000000 00000000"
  pub printed : lines_of 2 (0 ∷ 0x80010007 ∷ 0 ∷ 0x10101 ∷ 0 ∷ 0xC0010007 ∷ 0 ∷ 0 ∷ [])
      ≡ (48 ∷ 48 ∷ 48 ∷ 48 ∷ 48 ∷ 48 ∷ 48 ∷ 48 ∷ 32 ∷ [])
      ++ (56 ∷ 48 ∷ 48 ∷ 49 ∷ 48 ∷ 48 ∷ 48 ∷ 55 ∷ 32 ∷ [])
      ++ (48 ∷ 48 ∷ 48 ∷ 48 ∷ 48 ∷ 48 ∷ 48 ∷ 48 ∷ 32 ∷ [])
      ++ (48 ∷ 48 ∷ 48 ∷ 49 ∷ 48 ∷ 49 ∷ 48 ∷ 49 ∷ 10 ∷ [])
      ++ (48 ∷ 48 ∷ 48 ∷ 48 ∷ 48 ∷ 48 ∷ 48 ∷ 48 ∷ 32 ∷ [])
      ++ (67 ∷ 48 ∷ 48 ∷ 49 ∷ 48 ∷ 48 ∷ 48 ∷ 55 ∷ 32 ∷ [])
      ++ (48 ∷ 48 ∷ 48 ∷ 48 ∷ 48 ∷ 48 ∷ 48 ∷ 48 ∷ 32 ∷ [])
      ++ (48 ∷ 48 ∷ 48 ∷ 48 ∷ 48 ∷ 48 ∷ 48 ∷ 48 ∷ 10 ∷ [])
