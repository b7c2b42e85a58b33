-- The words of a trace: "The program reads .. trace.bin (low byte first)". A file is a list of bytes. 1 to 3 left-over bytes are no word.
use Rattle.std.specs.Prelude.{List, [], ◌∷◌, ◌++◌, ℕ, zero, suc, ◌+◌, ◌*◌, ◌/◌, min, length, get_or}

-- word i, of the 4 bytes from 4 * i on, "low byte first"
unfoldable pub word_at : List ℕ → ℕ → ℕ
word_at bytes i = get_or bytes (4 * i) 0 + 256 * get_or bytes (4 * i + 1) 0 + 65536 * get_or bytes (4 * i + 2) 0 + 16777216 * get_or bytes (4 * i + 3) 0

-- the first k words
unfoldable pub words_of : ℕ → List ℕ → List ℕ
words_of zero bytes = []
words_of (suc k) bytes = words_of k bytes ++ (word_at bytes k ∷ [])

-- how many words are written: as many as the bytes have whole, and as there is room for
unfoldable pub word_count : List ℕ → List ℕ → ℕ
word_count bytes out = min (length bytes / 4) (length out)
