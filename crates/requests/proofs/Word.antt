-- A request and its word say the same: each field is read back as it was written, and an offer's word is that of its request. So are the
-- wires that a command's number says those that it was made from.
-- Assumes nothing.
use mathlib.Core.Path.{◌≡◌, ap, ◌∙◌}
use mathlib.Core.Logic.{⊎_elim}
use mathlib.Core.Bool.{true, false}
use Prim.Native.Nat.{ℕ, ◌+◌, ◌*◌, ◌/◌, ◌%◌, ◌≤◌, ◌<◌, min}
use native.Mathlib.Omega.{arith}
use borrow.Author.Tests.{le-leb, lt-leb, eqb-true, eq-eqb, ne_eqb}
use lib.Dec.{eqb}
use Rattle.basics.proofs.Truth.{on-true, on-false}
use Rattle.basics.proofs.Below.{lt-or-ge}
use Rattle.requests.specs.Word.{class_of, rank_of, kind_of, bank_of, tag_of, bank_place, is_offer, request_of, bank_in_word, word_of, column_number, wires_of}
use Rattle.requests.specs.declared.Request.{Request}
use Rattle.requests.specs.declared.Wires.TheVariants.{Nothing, Activate, Column}

-- a rank has two bits, and a bank a place among those of four ranks, which goes by rank and bank alone
pub rank-small : (w : ℕ) → rank_of w < 4
unfolding rank_of
rank-small w = omega arith

pub place-small : (w : ℕ) → bank_place w < 32
unfolding bank_place
place-small w = omega (arith, rank-small w)

pub place_same : (v w : ℕ) → rank_of v ≡ rank_of w → bank_of v ≡ bank_of w → bank_place v ≡ bank_place w
unfolding bank_place
place_same v w rank bank = omega (arith, rank, bank)

-- the bank of a word, where the rank has its field, and where it is too large
pub bank-held : (r : Request) → r.rank < 4 → bank_in_word r ≡ min r.bank 15
unfolding bank_in_word
bank-held r small = rw (le-leb r.rank 3 (omega (arith, small)))

pub bank-told : (r : Request) → 4 ≤ r.rank → bank_in_word r ≡ 15
unfolding bank_in_word
bank-told r large = rw (lt-leb r.rank 3 large)

pub bank_fits : (r : Request) → bank_in_word r ≤ 15
bank_fits r = ⊎_elim (λ small. omega (arith, bank-held r small)) (λ large. omega (arith, bank-told r large)) (lt-or-ge r.rank 4)

pub class_back : (r : Request) → class_of (word_of r) ≡ min r.class 31
unfolding class_of word_of
class_back r = omega (arith, bank_fits r)

pub rank-back : (r : Request) → rank_of (word_of r) ≡ min r.rank 3
unfolding rank_of word_of
rank-back r = omega (arith, bank_fits r)

pub kind-back : (r : Request) → kind_of (word_of r) ≡ min r.kind 3
unfolding kind_of word_of
kind-back r = omega (arith, bank_fits r)

pub bank-back : (r : Request) → bank_of (word_of r) ≡ bank_in_word r
unfolding bank_of word_of
bank-back r = omega (arith, bank_fits r)

pub tag_back : (r : Request) → tag_of (word_of r) ≡ min r.tag 65535
unfolding tag_of word_of
tag_back r = omega arith

pub is-offer : (r : Request) → is_offer (word_of r) ≡ true
unfolding is_offer word_of
is-offer r = let top : word_of r / 536870912 ≡ 4 = omega (arith, bank_fits r) in eq-eqb (word_of r / 536870912) 4 top

-- an offer's word has bits 30 and 29 clear, so setting bit 30 does not wrap
pub offer-fits : (w : ℕ) → is_offer w ≡ true → w + 1073741824 < 4294967296
unfolding is_offer
offer-fits w e = omega (arith, eqb-true (w / 536870912) 4 e)

pub word_fits : (r : Request) → word_of r + 1073741824 < 4294967296
word_fits r = offer-fits (word_of r) (is-offer r)

-- the fields of a word, put together from the lowest
together : (w high16 high20 high22 high24 class rank kind bank tag : ℕ) → w ≡ high16 * 65536 + tag → high16 ≡ high20 * 16 + bank → high20 ≡ high22 * 4 + kind → high22 ≡ high24 * 4 + rank → high24 ≡ 128 + class → 2147483648 + class * 16777216 + rank * 4194304 + kind * 1048576 + bank * 65536 + tag ≡ w
together w high16 high20 high22 high24 class rank kind bank tag a b c d e = omega (arith, a, b, c, d, e)

-- a field within its bits is itself
within : (class rank kind bank tag held : ℕ) → held ≡ min (bank % 16) 15 → 2147483648 + min (class % 32) 31 * 16777216 + min (rank % 4) 3 * 4194304 + min (kind % 4) 3 * 1048576 + held * 65536 + min (tag % 65536) 65535 ≡ 2147483648 + class % 32 * 16777216 + rank % 4 * 4194304 + kind % 4 * 1048576 + bank % 16 * 65536 + tag % 65536
within class rank kind bank tag held e = omega (arith, e)

pub word_back : (w : ℕ) → is_offer w ≡ true → word_of (request_of w) ≡ w
unfolding is_offer word_of request_of class_of rank_of kind_of bank_of tag_of
word_back w e =
    let top = eqb-true (w / 536870912) 4 e in
    let small : w / 4194304 % 4 < 4 = omega arith in
    within (w / 16777216) (w / 4194304) (w / 1048576) (w / 65536) w (bank_in_word (request_of w)) (bank-held (request_of w) small)
    ∙ together w (w / 65536) (w / 1048576) (w / 4194304) (w / 16777216) (w / 16777216 % 32) (w / 4194304 % 4) (w / 1048576 % 4) (w / 65536 % 16) (w % 65536)
    (omega arith) (omega arith) (omega arith) (omega arith) (omega (arith, top))

-- a request whose numbers fit their fields is that of its word
pub request_back : (r : Request) → r.class < 32 → r.rank < 4 → r.kind < 4 → r.bank < 16 → r.tag < 65536 → request_of (word_of r) ≡ r
unfolding request_of
request_back r c m k b t =
    let class : class_of (word_of r) ≡ r.class = class_back r ∙ omega (arith, c) in
    let rank : rank_of (word_of r) ≡ r.rank = rank-back r ∙ omega (arith, m) in
    let kind : kind_of (word_of r) ≡ r.kind = kind-back r ∙ omega (arith, k) in
    let bank : bank_of (word_of r) ≡ r.bank = bank-back r ∙ bank-held r m ∙ omega (arith, b) in
    let tag : tag_of (word_of r) ≡ r.tag = tag_back r ∙ omega (arith, t) in
    λ i. record { class = class i; kind = kind i; bank = bank i; rank = rank i; tag = tag i }

-- ---- the wires that a command's number says

-- bit 30 is none of a request's fields
pub column-class : (w : ℕ) → class_of (column_number w) ≡ class_of w
unfolding class_of column_number
column-class w = omega arith

module _ (w : ℕ) (e : is_offer w ≡ true) where
  top : w / 536870912 ≡ 4
  unfolding is_offer
  top = eqb-true (w / 536870912) 4 e

  pub wires-activate : wires_of w ≡ Activate (request_of w)
  unfolding wires_of
  wires-activate = on-false (eqb w 0) Nothing _ (ne_eqb w 0 (λ z. omega (arith, z, top))) ∙ on-true (is_offer w) (Activate (request_of w)) (Column (request_of w)) e

  same-request : request_of (column_number w) ≡ request_of w
  unfolding request_of class_of rank_of kind_of bank_of tag_of column_number
  same-request =
      let class = column-class w in
      let rank : (w + 1073741824) / 4194304 % 4 ≡ w / 4194304 % 4 = omega arith in
      let kind : (w + 1073741824) / 1048576 % 4 ≡ w / 1048576 % 4 = omega arith in
      let bank : (w + 1073741824) / 65536 % 16 ≡ w / 65536 % 16 = omega arith in
      let tag : (w + 1073741824) % 65536 ≡ w % 65536 = omega arith in
      λ i. record { class = class i; kind = kind i; bank = bank i; rank = rank i; tag = tag i }

  -- a column command's number is no offer's word
  pub column-no-offer : is_offer (column_number w) ≡ false
  unfolding column_number is_offer
  column-no-offer =
      let k = w + 1073741824 in
      ne_eqb (k / 536870912) 4 (λ z. omega (arith, z, top))

  pub wires-column : wires_of (column_number w) ≡ Column (request_of w)
  unfolding wires_of column_number
  wires-column =
      let k = w + 1073741824 in
      on-false (eqb k 0) Nothing _ (ne_eqb k 0 (λ z. omega (arith, z)))
      ∙ on-false (is_offer k) (Activate (request_of k)) (Column (request_of k)) column-no-offer
      ∙ ap Column same-request
