-- When a file is taken, said of its numbers and without naming how that is tested: "a policy file is taken if and only if it has the form and holds a partial order
-- with a least class and sound turns and timing". `proofs/Taken.antt` proves both statements of every list of bytes.
use Rattle.std.specs.Prelude.{◌≡◌, ◌↔◌, Bool, true, cond, List, [], ◌∷◌, ℕ, suc, ◌+◌, ◌*◌, ◌≤◌, ◌<◌, ltb, eqb, length}
use Rattle.basics.specs.Below.{sum, list_of}
use Rattle.masks.specs.Mask.{member}
use Rattle.order.specs.Order.{is_class_in, cover_set}
use Rattle.turns.specs.Turns.{cap_in}
use Rattle.policy.specs.Policy.{in_range}
use Rattle.file.specs.File.{byte, word, read_file}
use Rattle.order.specs.Laws.{Reflexive, Antisymmetric, Transitive, Least}
use Rattle.timing.specs.declared.Timing.{Timing}
use Rattle.policy.specs.declared.Policy.{Policy}

-- a file is a list of bytes
abbrev pub Bytes : List ℕ → Type 0
Bytes s = (i : ℕ) → byte s i < 256

-- ---- what the numbers have to be

-- low ≤ x ≤ high
pub record Between (low x high : ℕ) : Type 0 where
  pub at_least : low ≤ x
  pub at_most : x ≤ high

-- "epoch length E in turns (1 to 64), then n minimums .., their sum at most E"
pub record SoundTurns (n epoch : ℕ) (minimum : ℕ → ℕ) : Type 0 where
  pub epoch_bounds : Between 1 epoch 64
  pub sum_bound : sum n minimum ≤ epoch

-- "Turn length 2 to 255, dead time 2 to 31 and below the turn length, each gap 1 to the dead time, answer delay 2 to the dead time, column delay 1 to the answer
-- delay less 1." The numbers by their place in the body: 0 turn length, 1 dead time, 2 to 7 gaps, 8 column delay, 9 answer delay. W-206: "an eleventh byte, the rank gap
-- (1 to the dead time)", where the body has so many.
pub record SoundTiming (size : ℕ) (t : ℕ → ℕ) : Type 0 where
  pub turn_length : Between 2 (t 0) 255
  pub dead_time : Between 2 (t 1) 31
  pub dead_below_turn : t 1 < t 0
  pub gaps : (k : ℕ) → 2 ≤ k → k ≤ 7 → Between 1 (t k) (t 1)
  pub answer_delay : Between 2 (t 9) (t 1)
  pub column_delay : (1 ≤ t 8) × (t 8 < t 9)
  pub rank_gap : size ≡ 11 → Between 1 (t 10) (t 1)

-- bit j of row i is set
abbrev pub bits : (ℕ → ℕ) → ℕ → ℕ → Bool
bits row i j = member (row i) j

-- "The order must be reflexive, antisymmetric and transitive with a least class", sound turns and timing, for 1 to 16 classes, and no bit at n or above
pub record Sound (n : ℕ) (row : ℕ → ℕ) (epoch : ℕ) (minimum : ℕ → ℕ) (size : ℕ) (timing : ℕ → ℕ) : Type 0 where
  pub count_bounds : Between 1 n 16
  pub no_other_bit : (i j : ℕ) → is_class_in n i ≡ true → bits row i j ≡ true → is_class_in n j ≡ true
  pub reflexive : Reflexive (is_class_in n) (bits row)
  pub antisymmetric : Antisymmetric (is_class_in n) (bits row)
  pub transitive : Transitive (is_class_in n) (bits row)
  pub lowest : (i : ℕ) × (is_class_in n i ≡ true) × Least (is_class_in n) (bits row) i
  pub turns : SoundTurns n epoch minimum
  pub timing-sound : SoundTiming size timing

-- ---- what the bytes have to be

-- an entry of the contents table, at its first byte: "kind .., start (16 bits), length (16 bits)"
pub record Entry (s : List ℕ) (at kind start size : ℕ) : Type 0 where
  pub kind_is : byte s at ≡ kind
  pub start_is : word s (at + 1) ≡ start
  pub size_is : word s (at + 3) ≡ size

-- the file holds these numbers: "Byte 0 is 3. Then three entries ..", the order body from byte 16 on, the turns body after it, the timing body after that, of ten
-- bytes or, by W-206, eleven, and no more
pub record Encodes (s : List ℕ) (n : ℕ) (row : ℕ → ℕ) (epoch : ℕ) (minimum : ℕ → ℕ) (size : ℕ) (timing : ℕ → ℕ) : Type 0 where
  pub entries : byte s 0 ≡ 3
  pub order_entry : Entry s 1 1 16 (1 + 2 * n)
  pub turns_entry : Entry s 6 2 (17 + 2 * n) (1 + n)
  pub timing_entry : Entry s 11 3 (18 + 3 * n) size
  pub timing-size : Between 10 size 11
  pub whole : length s ≡ 18 + 3 * n + size
  pub class-count : byte s 16 ≡ n
  pub rows : (i : ℕ) → i < n → word s (17 + 2 * i) ≡ row i
  pub epoch_byte : byte s (17 + 2 * n) ≡ epoch
  pub minimums : (i : ℕ) → i < n → byte s (18 + 2 * n + i) ≡ minimum i
  pub timing-bytes : (k : ℕ) → k < size → byte s (18 + 3 * n + k) ≡ timing k

-- the timing of these numbers, by their place in a body of so many bytes
unfoldable pub timing_from : ℕ → (ℕ → ℕ) → Timing
timing_from size timing =
    record {
      turn = timing 0;
      dead = timing 1;
      gaps = timing 2 ∷ timing 3 ∷ timing 4 ∷ timing 5 ∷ [];
      bank = timing 6 ∷ timing 7 ∷ [];
      column = timing 8;
      response = timing 9;
      ranks = cond (eqb size 11) 4 1;
      rank = cond (eqb size 11) (timing 10) 0;
    }

-- the policy of these numbers, as it is handed back
unfoldable pub policy_of : ℕ → (ℕ → ℕ) → ℕ → (ℕ → ℕ) → ℕ → (ℕ → ℕ) → Policy
policy_of n row epoch minimum size timing =
    let rows = list_of 16 (λ i. cond (ltb i n) (row i) 0) in
    let minimums = list_of 16 (λ i. cond (ltb i n) (minimum i) 0) in
    record {
      classes = n;
      rows = rows;
      epoch = epoch;
      minimums = minimums;
      timing =
          record {
            turn = timing 0;
            dead = timing 1;
            gaps = timing 2 ∷ timing 3 ∷ timing 4 ∷ timing 5 ∷ [];
            bank = timing 6 ∷ timing 7 ∷ [];
            column = timing 8;
            response = timing 9;
            ranks = cond (eqb size 11) 4 1;
            rank = cond (eqb size 11) (timing 10) 0;
          };
      covers = list_of 16 (cover_set rows);
      caps = list_of 16 (cap_in n rows epoch minimums);
    }

-- ---- taken, if and only if

pub record Encoded (s : List ℕ) : Type 0 where
  pub n : ℕ
  pub row : ℕ → ℕ
  pub epoch : ℕ
  pub minimum : ℕ → ℕ
  pub size : ℕ
  pub timing : ℕ → ℕ
  pub encoded : Encodes s n row epoch minimum size timing
  pub sound : Sound n row epoch minimum size timing

pub record TakenIff (s : List ℕ) : Type 0 where
  -- status 0 exactly if the file encodes sound numbers
  pub taken : ((read_file s).status ≡ 0) ↔ Encoded s
  -- and then the policy is the one of those numbers
  pub policy_is : (h : Encoded s) → (read_file s).policy ≡ policy_of h.n h.row h.epoch h.minimum h.size h.timing
  -- "A policy is accepted if a fresh state asked of it does not get 13; each whose file gets none of 1 to 8 is."
  pub in-range : (read_file s).status ≡ 0 → in_range (read_file s).policy ≡ true

-- ---- refused, with the number of the first condition that fails

-- 1: "file under 17 or above 65,535 bytes, or contents not as above, lengths apart"
pub record Form (s : List ℕ) : Type 0 where
  pub length_bounds : Between 17 (length s) 65535
  pub entries : byte s 0 ≡ 3
  pub kinds : (byte s 1 ≡ 1) × (byte s 6 ≡ 2) × (byte s 11 ≡ 3)
  pub first_start : word s 2 ≡ 16
  pub second_start : word s 7 ≡ 16 + word s 4
  pub third_start : word s 12 ≡ word s 7 + word s 9
  pub end : length s ≡ word s 12 + word s 14

-- 2: "n not 1 to 16, or a body's length does not fit it"
pub record Lengths (s : List ℕ) : Type 0 where
  pub count_bounds : Between 1 (byte s 16) 16
  pub order-size : word s 4 ≡ 1 + 2 * byte s 16
  pub turns_size : word s 9 ≡ 1 + byte s 16
  pub timing-size : Between 10 (word s 14) 11

-- the order that the file's rows give
abbrev pub file_order : List ℕ → ℕ → ℕ → Bool
file_order s i j = member (word s (17 + 2 * i)) j

-- 3: "a row has a bit at n or above, or lacks its own"
pub record Rows (s : List ℕ) : Type 0 where
  pub no_other_bit : (i j : ℕ) → is_class_in (byte s 16) i ≡ true → file_order s i j ≡ true → is_class_in (byte s 16) j ≡ true
  pub own : Reflexive (is_class_in (byte s 16)) (file_order s)

-- 1 to 8 of "What is turned down", in its order: what each asks of the file's numbers
abbrev pub conditions : List ℕ → List (Type 0)
conditions s =
    let n = byte s 16 in
    Form s
    ∷ Lengths s
    ∷ Rows s
    ∷ Antisymmetric (is_class_in n) (file_order s)
    ∷ Transitive (is_class_in n) (file_order s)
    ∷ ((i : ℕ) × (is_class_in n i ≡ true) × Least (is_class_in n) (file_order s) i)
    ∷ SoundTurns n (byte s (17 + 2 * n)) (λ i. byte s (18 + 2 * n + i))
    ∷ SoundTiming (word s 14) (λ k. byte s (18 + 3 * n + k))
    ∷ []

-- the first condition that fails has the number m, where the first of all has the number k; m is 0 where none fails
pub data FirstFails : List (Type 0) → ℕ → ℕ → Type 1 where
  none : {k : ℕ} → FirstFails [] k 0
  here : {C : Type 0} {Cs : List (Type 0)} {k : ℕ} → (C → ⊥) → FirstFails (C ∷ Cs) k k
  later : {C : Type 0} {Cs : List (Type 0)} {k m : ℕ} → C → FirstFails Cs (suc k) m → FirstFails (C ∷ Cs) k m

-- "files 1 to 8": the number is that of the first condition, in the table's order, that fails
pub record RefusalNumbers (s : List ℕ) : Type 1 where
  pub number_is : (m : ℕ) → ((read_file s).status ≡ m) ↔ FirstFails (conditions s) 1 m
