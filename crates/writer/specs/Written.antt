-- A policy written as a file: "A contents table, then the bodies." The bytes are given by their place, as `Encodes` (file: `Taken`) reads them.
use Rattle.std.specs.Prelude.{Result, Ok, Err, cond, List, [], ◌∷◌, ◌++◌, ℕ, ◌+◌, ◌-◌, ◌*◌, ◌/◌, ◌%◌, leb, ltb, eqb, length, get_or, drop}
use Rattle.basics.specs.Below.{list_of}
use Rattle.policy.specs.Policy.{minimum, in_range}
use Rattle.timing.specs.declared.Timing.{Timing}
use Rattle.policy.specs.declared.Policy.{Policy}
use Rattle.refusals.specs.Refusal.{number}
use Rattle.refusals.specs.declared.Refusal.{Refusal}

-- ---- the sizes

-- "Timing, 10 bytes". W-206: "The timing body may have an eleventh byte, the rank gap": it has where there are four ranks.
unfoldable pub timing_size : Timing → ℕ
timing_size t = cond (eqb t.ranks 4) 11 10

-- the contents table has 16 bytes, the order "Length 1 + 2n", the turns "Length 1 + n"; the timing follows from byte 18 + 3n, "and the last ends the file"
unfoldable pub file_size : Policy → ℕ
file_size p = 18 + 3 * p.classes + timing_size p.timing

-- ---- the bytes

-- "Byte 0 is 3. Then three entries of 5 bytes: kind (1 order, 2 turns, 3 timing, in that order), start (16 bits), length (16 bits), low byte first. The bodies follow from
-- byte 16, abutting". No start and no length is above 255, so the high byte of each is 0.
-- Of n classes and a timing body of so many bytes.
unfoldable pub contents : ℕ → ℕ → List ℕ
contents n size = 3 ∷ 1 ∷ 16 ∷ 0 ∷ (1 + 2 * n) ∷ 0 ∷ 2 ∷ (17 + 2 * n) ∷ 0 ∷ (1 + n) ∷ 0 ∷ 3 ∷ (18 + 3 * n) ∷ 0 ∷ size ∷ 0 ∷ []

-- "16 bits, low byte first": half 0 is the low one, half 1 the high one
unfoldable pub half_of : ℕ → ℕ → ℕ
half_of row half = cond (eqb half 0) (row % 256) (row / 256)

-- "Order: n (1 to 16), then n rows of 16 bits, low byte first."
unfoldable pub order_byte : Policy → ℕ → ℕ
order_byte p k = cond (eqb k 0) p.classes (half_of (get_or p.rows ((k - 1) / 2) 0) ((k - 1) % 2))

-- "Turns: epoch length E in turns (1 to 64), then n minimums, one byte each"
unfoldable pub turns_byte : Policy → ℕ → ℕ
turns_byte p k = cond (eqb k 0) p.epoch (minimum p (k - 1))

-- "Timing, 10 bytes: turn length; dead time; gaps read-read, read-write, write-read, write-write ..; same-bank gap after a read, after a write; column delay; answer delay."
-- W-206: then the rank gap, where the body has so many bytes
unfoldable pub timing_bytes : Timing → List ℕ
timing_bytes t =
    t.turn
    ∷ t.dead
    ∷ get_or t.gaps 0 0
    ∷ get_or t.gaps 1 0
    ∷ get_or t.gaps 2 0
    ∷ get_or t.gaps 3 0
    ∷ get_or t.bank 0 0
    ∷ get_or t.bank 1 0
    ∷ t.column
    ∷ t.response
    ∷ t.rank
    ∷ []

-- byte k of the file
unfoldable pub file_byte : Policy → ℕ → ℕ
file_byte p k =
    let n = p.classes in
    cond (ltb k 16) (get_or (contents n (timing_size p.timing)) k 0)
    (cond (ltb k (17 + 2 * n)) (order_byte p (k - 16))
    (cond (ltb k (18 + 3 * n)) (turns_byte p (k - (17 + 2 * n))) (get_or (timing_bytes p.timing) (k - (18 + 3 * n)) 0)))

-- the file
unfoldable pub file_of : Policy → List ℕ
file_of p = list_of (file_size p) (file_byte p)

-- ---- the call

-- 13: "a state or policy handed in has numbers out of range"; 16: too little room. 0 where neither refuses it.
unfoldable pub write_status : Policy → List ℕ → ℕ
write_status p out = cond (in_range p) (cond (leb (file_size p) (length out)) 0 16) 13

-- what the call answers: 0, or the number that refuses it, and how many bytes were written
pub record Written : Type 0 where
  pub status : ℕ
  pub size : ℕ

-- so much is said by the size of what was written, or by what turned it down
unfoldable pub written_of : Result ℕ Refusal → Written
written_of (Ok n) = record { status = 0; size = n }
written_of (Err r) = record { status = number r; size = 0 }

-- and how many bytes were written, none where it is refused
unfoldable pub writing : Policy → List ℕ → Written
writing p out = record { status = write_status p out; size = cond (eqb (write_status p out) 0) (file_size p) 0 }

-- the bytes of `out` after the call: "Numbers past the written part stay", and a refused call "writes nothing"
unfoldable pub out_after : Policy → List ℕ → List ℕ
out_after p out = cond (eqb (write_status p out) 0) (file_of p ++ drop (file_size p) out) out
