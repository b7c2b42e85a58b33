-- Laws of a log's lines and a trace's words: their lengths, and what one more line or word is. The forms at `k + 1` are those that a counting loop asks.
-- Assumes nothing.
use mathlib.Core.Path.{◌≡◌, refl, ap, ◌∙◌}
use mathlib.Core.List.{List, [], ◌∷◌, ◌++◌}
use Prim.Native.Nat.{ℕ, zero, suc, ◌+◌, ◌*◌, ◌/◌, ◌%◌, ◌^◌, ◌≤◌, ◌<◌}
use native.Mathlib.Numerals.{add-one}
use native.Mathlib.Omega.{arith}
use lib.ListN.{length, get_or, drop, set, length-append}
use lib.Seq.{sets}
use Rattle.std.specs.Int.{w32, to_be_bytes}
use Rattle.text.specs.Lines.{digit, hex_of, line_of, line_at, lines_of}
use Rattle.text.specs.Words.{word_at, words_of}
use Rattle.basics.proofs.Stores.{sets-append, written-more}

-- ---- lines

-- a run behind a run
joined : (vs ws l : List ℕ) (i : ℕ) {before after : List ℕ}
    → before ≡ sets l i vs
    → after ≡ sets before (i + length vs) ws
    → after ≡ sets l i (vs ++ ws)
joined vs ws l i b a = a ∙ ap (λ (q : List ℕ). sets q (i + length vs) ws) b ∙ sets-append vs ws l i

-- the four pairs of a number, one for each of its bytes, and its sign
pub number_put : (t l : List ℕ) (i n s : ℕ) (bytes : List ℕ) {la lb lc ld : List ℕ}
    → ((k : ℕ) → k < 256 → (get_or t (2 * k) 0 ≡ digit (k / 16)) × (get_or t (2 * k + 1) 0 ≡ digit (k % 16)))
    → n < 16 ^ 8
    → bytes ≡ to_be_bytes w32 n
    → la ≡ sets l i (get_or t (2 * get_or bytes 0 0) 0 ∷ get_or t (2 * get_or bytes 0 0 + 1) 0 ∷ [])
    → lb ≡ sets la (i + 2) (get_or t (2 * get_or bytes 1 0) 0 ∷ get_or t (2 * get_or bytes 1 0 + 1) 0 ∷ [])
    → lc ≡ sets lb (i + 4) (get_or t (2 * get_or bytes 2 0) 0 ∷ get_or t (2 * get_or bytes 2 0 + 1) 0 ∷ [])
    → ld ≡ sets lc (i + 6) (get_or t (2 * get_or bytes 3 0) 0 ∷ get_or t (2 * get_or bytes 3 0 + 1) 0 ∷ [])
    → set ld (i + 8) s ≡ sets l i (hex_of n ++ (s ∷ []))
unfolding hex_of
number_put t l i n s bytes {la} {lb} {lc} {ld} pair h is ea eb ec ed =
    let a : List ℕ = digit (n / 16 ^ 7 % 16) ∷ digit (n / 16 ^ 6 % 16) ∷ [] in
    let b : List ℕ = digit (n / 16 ^ 5 % 16) ∷ digit (n / 16 ^ 4 % 16) ∷ [] in
    let c : List ℕ = digit (n / 16 ^ 3 % 16) ∷ digit (n / 16 ^ 2 % 16) ∷ [] in
    let d : List ℕ = digit (n / 16 % 16) ∷ digit (n % 16) ∷ [] in
    let pa = pair (n / 16777216 % 256) (omega arith) in
    let pb = pair (n / 65536 % 256) (omega arith) in
    let pc = pair (n / 256 % 256) (omega arith) in
    let pd = pair (n % 256) (omega arith) in
    let e7 : n / 16777216 % 256 / 16 ≡ n / 16 ^ 7 % 16 = omega arith in
    let e6 : n / 16777216 % 256 % 16 ≡ n / 16 ^ 6 % 16 = omega arith in
    let e5 : n / 65536 % 256 / 16 ≡ n / 16 ^ 5 % 16 = omega arith in
    let e4 : n / 65536 % 256 % 16 ≡ n / 16 ^ 4 % 16 = omega arith in
    let e3 : n / 256 % 256 / 16 ≡ n / 16 ^ 3 % 16 = omega arith in
    let e2 : n / 256 % 256 % 16 ≡ n / 16 ^ 2 % 16 = omega arith in
    let e1 : n % 256 / 16 ≡ n / 16 % 16 = omega arith in
    let e0 : n % 256 % 16 ≡ n % 16 = omega arith in
    let one : la ≡ sets l i a = rw (is, pa.0, pa.1, e7, e6) at ea in
    let two : lb ≡ sets l i (a ++ b) = joined a b l i one (rw (is, pb.0, pb.1, e5, e4) at eb) in
    let three : lc ≡ sets l i (a ++ b ++ c) = joined (a ++ b) c l i two (rw (is, pc.0, pc.1, e3, e2) at ec) in
    let four : ld ≡ sets l i (a ++ b ++ c ++ d) = joined (a ++ b ++ c) d l i three (rw (is, pd.0, pd.1, e1, e0) at ed) in
    joined (a ++ b ++ c ++ d) (s ∷ []) l i four refl

-- the four runs of a line
pub line-put : (log l : List ℕ) (i : ℕ) {la lb lc ld : List ℕ}
    → la ≡ sets l (36 * i) (hex_of (get_or log (4 * i) 0) ++ (32 ∷ []))
    → lb ≡ sets la (36 * i + 9) (hex_of (get_or log (4 * i + 1) 0) ++ (32 ∷ []))
    → lc ≡ sets lb (36 * i + 18) (hex_of (get_or log (4 * i + 2) 0) ++ (32 ∷ []))
    → ld ≡ sets lc (36 * i + 27) (hex_of (get_or log (4 * i + 3) 0) ++ (10 ∷ []))
    → ld ≡ sets l (36 * i) (line_at log i)
unfolding hex_of line_of line_at
line-put log l i ea eb ec ed =
    let a : List ℕ = hex_of (get_or log (4 * i) 0) ++ (32 ∷ []) in
    let b : List ℕ = hex_of (get_or log (4 * i + 1) 0) ++ (32 ∷ []) in
    let c : List ℕ = hex_of (get_or log (4 * i + 2) 0) ++ (32 ∷ []) in
    let d : List ℕ = hex_of (get_or log (4 * i + 3) 0) ++ (10 ∷ []) in
    joined (a ++ b ++ c) d l (36 * i) (joined (a ++ b) c l (36 * i) (joined a b l (36 * i) ea eb) ec) ed

-- a line is 36 bytes
pub length-line : (log : List ℕ) (i : ℕ) → length (line_at log i) ≡ 36
unfolding hex_of line_of line_at
length-line log i = refl

pub length-lines : (k : ℕ) (log : List ℕ) → length (lines_of k log) ≡ 36 * k
unfolding lines_of
length-lines zero log = refl
length-lines (suc k) log = length-append (lines_of k log) (line_at log k) ∙ omega (arith, length-lines k log, length-line log k)

-- line k, put behind the k lines before it
pub line-more : (log l : List ℕ) (k : ℕ) {before after : List ℕ}
    → 36 * k + 36 ≤ length l
    → before ≡ lines_of k log ++ drop (36 * k) l
    → after ≡ sets before (36 * k) (line_at log k)
    → after ≡ lines_of (k + 1) log ++ drop (36 * (k + 1)) l
unfolding lines_of
line-more log l k {before} {after} h b a =
    let place : 36 * k + length (line_at log k) ≡ 36 * suc k = omega (arith, length-line log k) in
    let fits : 36 * k + length (line_at log k) ≤ length l = omega (arith, length-line log k) in
    rw (add-one k)
    (a
    ∙ ap (λ (q : List ℕ). sets q (36 * k) (line_at log k)) b
    ∙ written-more (lines_of k log) (line_at log k) l (36 * k) (length-lines k log) fits
    ∙ ap (λ (n : ℕ). lines_of k log ++ line_at log k ++ drop n l) place)

-- ---- words

pub length-words : (k : ℕ) (bytes : List ℕ) → length (words_of k bytes) ≡ k
unfolding words_of
length-words zero bytes = refl
length-words (suc k) bytes = length-append (words_of k bytes) (word_at bytes k ∷ []) ∙ omega (arith, length-words k bytes)

-- word k, put behind the k words before it
pub word_more : (bytes l : List ℕ) (k : ℕ) {before : List ℕ} {w : ℕ}
    → k + 1 ≤ length l
    → before ≡ words_of k bytes ++ drop k l
    → w ≡ word_at bytes k
    → set before k w ≡ words_of (k + 1) bytes ++ drop (k + 1) l
unfolding words_of
word_more bytes l k {before} {w} h b e =
    rw (add-one k)
    (ap (λ (q : List ℕ). set q k w) b
    ∙ ap (λ (v : ℕ). set (words_of k bytes ++ drop k l) k v) e
    ∙ written-more (words_of k bytes) (word_at bytes k ∷ []) l k (length-words k bytes) h
    ∙ ap (λ (n : ℕ). words_of k bytes ++ (word_at bytes k ∷ []) ++ drop n l) (add-one k))
