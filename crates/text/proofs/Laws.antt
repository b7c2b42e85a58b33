-- The laws of `specs/Laws.antt`. A cut is an induction on the lines or words behind it: each has the same numbers in the part as in the whole. The printed
-- lines are computed.
-- Assumes nothing.
use mathlib.Core.Path.{◌≡◌, refl, sym, ap, ◌∙◌}
use mathlib.Core.List.{List, [], ◌∷◌, ◌++◌, append-nil, append_assoc}
use Prim.Native.Nat.{ℕ, zero, suc, ◌+◌, ◌*◌}
use native.Mathlib.Nat.{add-zero, add-suc}
use native.Mathlib.Omega.{arith}
use lib.ListN.{get_or, drop}
use lib.Seq.{get_or-drop}
use Rattle.text.specs.Lines.{digits, digit, hex_of, line_of, line_at, lines_of}
use Rattle.text.specs.Words.{word_at, words_of}
use Rattle.text.specs.Laws.{TextLaws}
use Rattle.text.proofs.Grown.{length-lines}

-- the number j of group b in the part is that of group a + b in the whole
there : (a b j : ℕ) (l : List ℕ) → get_or (drop (4 * a) l) (4 * b + j) 0 ≡ get_or l (4 * (a + b) + j) 0
there a b j l =
    let e : 4 * a + (4 * b + j) ≡ 4 * (a + b) + j = omega arith in
    get_or-drop (4 * a) l (4 * b + j) 0 ∙ ap (λ (i : ℕ). get_or l i 0) e

first : (a b : ℕ) (l : List ℕ) → get_or (drop (4 * a) l) (4 * b) 0 ≡ get_or l (4 * (a + b)) 0
first a b l =
    let e : 4 * a + 4 * b ≡ 4 * (a + b) = omega arith in
    get_or-drop (4 * a) l (4 * b) 0 ∙ ap (λ (i : ℕ). get_or l i 0) e

line-there : (a b : ℕ) (log : List ℕ) → line_at (drop (4 * a) log) b ≡ line_at log (a + b)
unfolding line_at
line-there a b log = rw (first a b log, there a b 1 log, there a b 2 log, there a b 3 log)

word-there : (a b : ℕ) (bytes : List ℕ) → word_at (drop (4 * a) bytes) b ≡ word_at bytes (a + b)
unfolding word_at
word-there a b bytes = rw (first a b bytes, there a b 1 bytes, there a b 2 bytes, there a b 3 bytes)

cut_lines : (a b : ℕ) (log : List ℕ) → lines_of (a + b) log ≡ lines_of a log ++ lines_of b (drop (4 * a) log)
unfolding lines_of
cut_lines a zero log = rw (add-zero a) (sym (append-nil (lines_of a log)))
cut_lines a (suc b) log = rw (add-suc a b, cut_lines a b log, line-there a b log) (append_assoc (lines_of a log) (lines_of b (drop (4 * a) log)) (line_at log (a + b)))

cut_words : (a b : ℕ) (bytes : List ℕ) → words_of (a + b) bytes ≡ words_of a bytes ++ words_of b (drop (4 * a) bytes)
unfolding words_of
cut_words a zero bytes = rw (add-zero a) (sym (append-nil (words_of a bytes)))
cut_words a (suc b) bytes = rw (add-suc a b, cut_words a b bytes, word-there a b bytes) (append_assoc (words_of a bytes) (words_of b (drop (4 * a) bytes)) (word_at bytes (a + b) ∷ []))

pub text-laws : TextLaws
unfolding digits digit hex_of line_of line_at lines_of word_at words_of
text-laws = record { line_bytes = length-lines; cut_lines = cut_lines; cut_words = cut_words; read = refl; printed = refl }
