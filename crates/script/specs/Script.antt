-- The script of a test program, said of its bytes: where its lines start, and which numbers they hold. (No paper of the project speaks of it; crates/cases_calls/stdin has the form in words.)
use Rattle.std.specs.Prelude.{Bool, cond, not, ◌&&◌, Option, None, Some, List, ℕ, zero, suc, ◌+◌, ◌*◌, ◌-◌, ◌%◌, ltb, leb, eqb, length, get_or, set, replicate}
use Rattle.std.specs.Borrow.{Bor}
use Rattle.basics.specs.Below.{first}
use Rattle.script.specs.declared.Case.{Case}
use Rattle.script.specs.declared.Line.{Line}
use Rattle.script.specs.declared.List.{List as Numbers}
use Rattle.script.specs.declared.Token.{Token}
use Rattle.script.specs.declared.Token.TheVariants.{Between, Word, Number}

-- ---- lines

-- a byte stands at a place, and another does not stand after it
unfoldable pub stands_at : List ℕ → ℕ → ℕ → ℕ → Bool
stands_at text wanted unwanted at = eqb (get_or text at 0) wanted && not (eqb (get_or text (at + 1) 0) unwanted)

-- the first such place, from a place on; where there is none it is not within the text
unfoldable pub found_from : List ℕ → ℕ → ℕ → ℕ → ℕ
found_from text from wanted unwanted = from + first (length text - from) (λ i. stands_at text wanted unwanted (from + i))

-- the place after it, and the text's length where there is none
unfoldable pub after : List ℕ → ℕ → ℕ → ℕ → ℕ
after text from wanted unwanted =
    cond (ltb (found_from text from wanted unwanted) (length text)) (found_from text from wanted unwanted + 1) (length text)

-- a line ends with a line feed (10) that no space (32) follows
unfoldable pub line_end : List ℕ → ℕ → ℕ
line_end text from = after text from 10 32

-- a line's name starts after its first space (32), and its numbers after its colon (58)
unfoldable pub numbers_start : List ℕ → ℕ → ℕ
numbers_start text from = after text from 58 58

-- the line after another. Where its first letter is F, S, T or L (70, 83, 84, 76) it has the numbers of a file, a state, a trace or a log, by which the lines below it go.
unfoldable pub next_line : List ℕ → Line → Line
next_line text l =
    let at = l.next in
    let letter = get_or text at 0 in
    let numbers = numbers_start text at in
    record {
      letter = letter;
      name = after text at 32 32;
      numbers = numbers;
      next = line_end text at;
      file = cond (eqb letter 70) numbers l.file;
      state = cond (eqb letter 83) numbers l.state;
      trace = cond (eqb letter 84) numbers l.trace;
      log = cond (eqb letter 76) numbers l.log;
    }

-- the line before the first
unfoldable pub no_line : Line
no_line = record { letter = 0; name = 0; numbers = 0; next = 0; file = 0; state = 0; trace = 0; log = 0 }

-- the line after another, where the text has one
unfoldable pub line_after : List ℕ → Line → Option Line
line_after text l = cond (ltb l.next (length text)) (Some (next_line text l)) None

-- ---- numbers

-- the value of a digit, up to F
unfoldable pub digit_of : ℕ → ℕ
digit_of b = cond (ltb b 48) 0 (cond (ltb b 65) (b - 48) (b - 55))

-- a number with a digit more, in 32 bits
unfoldable pub grown : ℕ → ℕ → ℕ → ℕ
grown base value b = (base * value + digit_of b % 16) % 4294967296

-- what is read once a byte more is. A space (32) or less ends a number; an x (120) starts a hexadecimal one, a digit a decimal one, and a letter a word.
unfoldable pub token_after : Token → ℕ → Token
token_after Between b = cond (leb b 32) Between (cond (eqb b 120) (Number 16 0) (cond (ltb b 65) (Number 10 (grown 10 0 b)) (Word b)))
token_after (Word letter) b = cond (leb b 32) Between (Word letter)
token_after (Number base value) b = cond (leb b 32) Between (cond (eqb b 120) (Number 16 0) (Number base (grown base value b)))

-- a list with a number more, where there is room
unfoldable pub pushed : Numbers → ℕ → Numbers
pushed list value = cond (ltb list.count 160) (record { at = set list.at list.count value; count = list.count + 1 }) list

-- a list with the number of what was read: of a word its first letter, and of nothing none
unfoldable pub with_value : Numbers → Token → Numbers
with_value list Between = list
with_value list (Word letter) = pushed list letter
with_value list (Number base value) = pushed list value

-- the same where a byte more ends it
unfoldable pub with_token : Numbers → Token → Token → Numbers
with_token list before Between = with_value list before
with_token list before (Word letter) = list
with_token list before (Number base value) = list

-- what is read of the first bytes from a place on: the numbers that have ended, and the one that has not
pub record Progress : Type 0 where
  pub list : Numbers
  pub token : Token

unfoldable pub read_of : List ℕ → ℕ → ℕ → Progress
read_of text from zero = record { list = record { at = replicate 160 0; count = 0 }; token = Between }
read_of text from (suc k) =
    let before = read_of text from k in
    let next = token_after before.token (get_or text (from + k) 0) in
    record { list = with_token before.list before.token next; token = next }

-- the numbers from a place to the end of its line
unfoldable pub numbers_of : List ℕ → ℕ → Numbers
numbers_of text from = (read_of text from (line_end text from - from)).list

-- ---- cases

-- the case on a line: the text, the line, and the numbers of that line. Where the first letter is not a small one (a is 97), as of a comment, an empty line and what later lines go by, there is none.
unfoldable pub case_of : Bor (List ℕ) → Line → Option Case
case_of text l = cond (ltb l.letter 97) None (Some (record { text = text; line = l; own = numbers_of text.now l.numbers }))
