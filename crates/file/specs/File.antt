-- The policy file: "A contents table, then the bodies." A file is a list of bytes.
use Rattle.std.specs.Prelude.{Bool, cond, ◌&&◌, List, [], ◌∷◌, ℕ, ◌+◌, ◌*◌, ltb, eqb, length, get_or}
use Rattle.basics.specs.Below.{list_of}
use Rattle.timing.specs.Timing.{within}
use Rattle.policy.specs.Policy.{made, first_failing, policy_tests}
-- "the policy of no classes, all zeros": the one of the policies' own definitions
unfoldable pub use Rattle.policy.specs.Policy.{no_policy}
use Rattle.std.specs.declared.result.Result.{Result}
use Rattle.std.specs.declared.result.Result.TheVariants.{Ok, Err}
use Rattle.refusals.specs.Refusal.{number}
use Rattle.refusals.specs.declared.Refusal.{Refusal}
use Rattle.timing.specs.declared.Timing.{Timing}
use Rattle.policy.specs.declared.Policy.{Policy}
use Rattle.file.specs.declared.Body.{Body}
use Rattle.file.specs.declared.Body.TheVariants as bodies
use Rattle.file.specs.declared.Reading.{Reading}

-- the byte at a place; past the end, where none is read once 1 and 2 have passed, 0
unfoldable pub byte : List ℕ → ℕ → ℕ
byte s at = get_or s at 0

-- "16 bits .. low byte first"
unfoldable pub word : List ℕ → ℕ → ℕ
word s at = byte s at + 256 * byte s (at + 1)

-- ---- the contents table: "Byte 0 is 3. Then three entries of 5 bytes: kind .., start (16 bits), length (16 bits)". Entries are numbered from 0.

-- the number of a body's entry
unfoldable pub entry_of : Body → ℕ
entry_of bodies.Order = 0
entry_of bodies.Turns = 1
entry_of bodies.Timing = 2

unfoldable pub kind : List ℕ → ℕ → ℕ
kind s e = byte s (1 + 5 * e)

unfoldable pub start : List ℕ → ℕ → ℕ
start s e = word s (2 + 5 * e)

unfoldable pub body_size : List ℕ → ℕ → ℕ
body_size s e = word s (4 + 5 * e)

-- "kind (1 order, 2 turns, 3 timing, in that order)"
unfoldable pub kinds_fit : List ℕ → Bool
kinds_fit s = eqb (byte s 0) 3 && eqb (kind s 0) 1 && eqb (kind s 1) 2 && eqb (kind s 2) 3

-- "The bodies follow from byte 16, abutting, and the last ends the file."
unfoldable pub bodies_abut : List ℕ → Bool
bodies_abut s =
    eqb (start s 0) 16
    && eqb (start s 1) (16 + body_size s 0)
    && eqb (start s 2) (start s 1 + body_size s 1)
    && eqb (length s) (start s 2 + body_size s 2)

-- 1: "file under 17 or above 65,535 bytes, or contents not as above, lengths apart"
unfoldable pub contents_fit : List ℕ → Bool
contents_fit s = within 17 (length s) 65535 && kinds_fit s && bodies_abut s

-- ---- the bodies

-- "Order: n (1 to 16), then n rows of 16 bits"
unfoldable pub class_count : List ℕ → ℕ
class_count s = byte s 16

-- 2: "n not 1 to 16, or a body's length does not fit it". W-206: "The timing body may have an eleventh byte".
unfoldable pub lengths_fit : List ℕ → Bool
lengths_fit s =
    within 1 (class_count s) 16
    && eqb (body_size s 0) (1 + 2 * class_count s)
    && eqb (body_size s 1) (1 + class_count s)
    && within 10 (body_size s 2) 11

-- row i; the file has n, and where it has none it is 0
unfoldable pub row_at : List ℕ → ℕ → ℕ
row_at s i = cond (ltb i (class_count s)) (word s (17 + 2 * i)) 0

-- "Turns: epoch length E in turns (1 to 64), then n minimums, one byte each"; where the file has none it is 0
unfoldable pub epoch_of : List ℕ → ℕ
epoch_of s = byte s (start s 1)

unfoldable pub minimum_at : List ℕ → ℕ → ℕ
minimum_at s i = cond (ltb i (class_count s)) (byte s (start s 1 + 1 + i)) 0

-- W-206: with "an eleventh byte, the rank gap" in the timing body, there are "four ranks"; without it there is one, and no gap between ranks
unfoldable pub ranks_of : List ℕ → ℕ
ranks_of s = cond (eqb (body_size s 2) 11) 4 1

unfoldable pub rank_gap_of : List ℕ → ℕ
rank_gap_of s = cond (eqb (body_size s 2) 11) (byte s (start s 2 + 10)) 0

-- "Timing, 10 bytes: turn length; dead time; gaps read-read, read-write, write-read, write-write ..; same-bank gap after a read, after a write; column delay;
-- answer delay."
unfoldable pub timing_of : List ℕ → Timing
timing_of s =
    let t = start s 2 in
    record {
      turn = byte s t;
      dead = byte s (t + 1);
      gaps = byte s (t + 2) ∷ byte s (t + 3) ∷ byte s (t + 4) ∷ byte s (t + 5) ∷ [];
      bank = byte s (t + 6) ∷ byte s (t + 7) ∷ [];
      column = byte s (t + 8);
      response = byte s (t + 9);
      ranks = ranks_of s;
      rank = rank_gap_of s;
    }

-- the policy that the bodies hold, with its covers and caps
unfoldable pub held : List ℕ → Policy
held s = made (class_count s) (list_of 16 (row_at s)) (epoch_of s) (list_of 16 (minimum_at s)) (timing_of s)

-- ---- reading

-- 1 to 8 of "What is turned down", in its order
unfoldable pub file_tests : List ℕ → List Bool
file_tests s = contents_fit s ∷ lengths_fit s ∷ policy_tests (held s)

-- the number of 1 to 8 that refuses the file, and 0 where none does
unfoldable pub status : List ℕ → ℕ
status s = first_failing 1 (file_tests s)

unfoldable pub refused_with : ℕ → Reading
refused_with k = record { status = k; policy = no_policy }

-- a refusal's number and that policy
unfoldable pub reading_of : Result Policy Refusal → Reading
reading_of (Ok p) = record { status = 0; policy = p }
reading_of (Err r) = refused_with (number r)

-- the answer: the policy that the file holds, or "A refused file gives the policy of no classes, all zeros"
unfoldable pub read_file : List ℕ → Reading
read_file s = cond (eqb (status s) 0) (record { status = 0; policy = held s }) (refused_with (status s))
