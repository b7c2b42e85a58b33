-- Requests and their words: "An offer has bit 31 set, class in bits 24 to 28, kind in 20 and 21 (0 read, 1 write), bank in 16 to 19 (0 to 7), tag in 0 to 15,
-- other bits 0." W-206: "Trace, command and answer words carry the rank in bits 22 and 23". A request is stored by its word, and 0 is none.
use Rattle.std.specs.Prelude.{Bool, true, false, cond, ◌&&◌, ℕ, ◌+◌, ◌*◌, ◌/◌, ◌%◌, min, leb, ltb, eqb}
use Rattle.order.specs.Order.{is_class_in}
use Rattle.requests.specs.Sizes.{bank_count}
use Rattle.requests.specs.declared.Request.{Request}
use Rattle.requests.specs.declared.Wires.{Wires}
use Rattle.requests.specs.declared.Wires.TheVariants.{Nothing, Activate, Column}

-- ---- the fields of a word

unfoldable pub class_of : ℕ → ℕ
class_of w = w / 16777216 % 32

unfoldable pub rank_of : ℕ → ℕ
rank_of w = w / 4194304 % 4

unfoldable pub kind_of : ℕ → ℕ
kind_of w = w / 1048576 % 4

unfoldable pub bank_of : ℕ → ℕ
bank_of w = w / 65536 % 16

unfoldable pub tag_of : ℕ → ℕ
tag_of w = w % 65536

-- W-206: "a bank is then known by rank and bank": the place of a word's bank among the "four ranks of eight banks". 10 refuses a bank above 7; here it counts as what it is modulo 8.
unfoldable pub bank_place : ℕ → ℕ
bank_place w = bank_count * rank_of w + bank_of w % bank_count

-- the word has the form of an offer: bit 31 set, and bits 29 and 30 not. W-206: "A trace number is no longer malformed for its bits 22 and 23."
unfoldable pub is_offer : ℕ → Bool
is_offer w = eqb (w / 536870912) 4

unfoldable pub request_of : ℕ → Request
request_of w = record { class = class_of w; kind = kind_of w; bank = bank_of w; rank = rank_of w; tag = tag_of w }

-- the word of a request. Of a number too large for its field, which document 01 leaves open, the largest of the field is taken: 9 or 10 refuses the word as it refuses the
-- request, so that every offer is the call of one trace number. No tag is too large, since its type has 16 bits; numbers here have no width, and with one rule for all
-- fields an offer is the call of its word without a premise. Only of a rank the largest of its field is one that 10 takes, with four ranks: so of a rank above 3 the word has the largest bank, which 10 refuses.
unfoldable pub bank_in_word : Request → ℕ
bank_in_word r = cond (leb r.rank 3) (min r.bank 15) 15

unfoldable pub word_of : Request → ℕ
word_of r = 2147483648 + min r.class 31 * 16777216 + min r.rank 3 * 4194304 + min r.kind 3 * 1048576 + bank_in_word r * 65536 + min r.tag 65535

-- ---- what 9 and 10 refuse

-- 9: "class not below n"
unfoldable pub class_fits : ℕ → Request → Bool
class_fits n r = is_class_in n r.class

-- 10: "bank above 7 or kind above 1". W-206: "With ten bytes a rank other than 0 is refused with 10": there is one rank then, and with eleven there are four.
unfoldable pub bank_kind_rank_fit : ℕ → Request → Bool
bank_kind_rank_fit ranks r = leb r.bank 7 && leb r.kind 1 && ltb r.rank ranks

-- a stored word is that of a request which 9 and 10 do not refuse
unfoldable pub sound_word : ℕ → ℕ → ℕ → Bool
sound_word n ranks w = is_offer w && class_fits n (request_of w) && bank_kind_rank_fit ranks (request_of w)

-- ---- what a record's parts are in the log

-- "A command or answer is the offer's word, with bit 30 set for a column command; 0 is none."
unfoldable pub column_number : ℕ → ℕ
column_number w = w + 1073741824

unfoldable pub command_number : Wires → ℕ
command_number Nothing = 0
command_number (Activate r) = word_of r
command_number (Column r) = column_number (word_of r)

-- and back: the wires that a command's number says
unfoldable pub wires_of : ℕ → Wires
wires_of k = elim (eqb k 0) [ true ↦ Nothing | false ↦ elim (is_offer k) [ true ↦ Activate (request_of k) | false ↦ Column (request_of k) ] ]
