-- The lines of a log: "a line for each trace number, in hexadecimal of 8 digits". Four numbers to a line ("status command answer turn"), with a space
-- between and a line feed at the end, in ASCII, as in document 01's example, whose digits are capitals.
use Rattle.std.specs.Prelude.{List, [], ◌∷◌, ◌++◌, ℕ, zero, suc, ◌+◌, ◌*◌, ◌/◌, ◌%◌, ◌^◌, min, length, get_or}

-- "in hexadecimal": the digits '0' to '9' and 'A' to 'F'
unfoldable pub digits : List ℕ
digits = 48 ∷ 49 ∷ 50 ∷ 51 ∷ 52 ∷ 53 ∷ 54 ∷ 55 ∷ 56 ∷ 57 ∷ 65 ∷ 66 ∷ 67 ∷ 68 ∷ 69 ∷ 70 ∷ []

-- the digit of a number below 16
unfoldable pub digit : ℕ → ℕ
digit d = get_or digits d 0

-- "of 8 digits", the highest first
unfoldable pub hex_of : ℕ → List ℕ
hex_of n =
    digit (n / 16 ^ 7 % 16)
    ∷ digit (n / 16 ^ 6 % 16)
    ∷ digit (n / 16 ^ 5 % 16)
    ∷ digit (n / 16 ^ 4 % 16)
    ∷ digit (n / 16 ^ 3 % 16)
    ∷ digit (n / 16 ^ 2 % 16)
    ∷ digit (n / 16 % 16)
    ∷ digit (n % 16)
    ∷ []

-- "00000000 80010007 00000000 00000101": four numbers, with a space (32) between, and a line feed (10) at the end
unfoldable pub line_of : ℕ → ℕ → ℕ → ℕ → List ℕ
line_of a b c d = hex_of a ++ (32 ∷ []) ++ hex_of b ++ (32 ∷ []) ++ hex_of c ++ (32 ∷ []) ++ hex_of d ++ (10 ∷ [])

-- line i, of the four numbers from 4 * i on
unfoldable pub line_at : List ℕ → ℕ → List ℕ
line_at log i = line_of (get_or log (4 * i) 0) (get_or log (4 * i + 1) 0) (get_or log (4 * i + 2) 0) (get_or log (4 * i + 3) 0)

-- the first k lines
unfoldable pub lines_of : ℕ → List ℕ → List ℕ
lines_of zero log = []
lines_of (suc k) log = lines_of k log ++ line_at log k

-- how many lines are written: as many as the log has whole, and as there is room for, at 36 bytes a line
unfoldable pub line_count : List ℕ → List ℕ → ℕ
line_count log out = min (length log / 4) (length out / 36)
