-- Reading the file of a policy in range gives that policy back: each number is found at the place where it was written, and what is made of them is the policy, since a policy in
-- range is the one made of its numbers, and its timing has as many gaps as its type says. A file that is taken is the one written of its policy: each of its bytes is that of a number which the file encodes.
-- Assumes nothing.
use mathlib.Core.Path.{◌≡◌, refl, sym, ap, ap₂, ◌∙◌, subst}
use mathlib.Core.Logic.{⊎_elim}
use mathlib.Core.Bool.{true, false, cond}
use mathlib.Core.List.{List, [], ◌∷◌}
use Prim.Native.Nat.{ℕ, zero, suc, ◌+◌, ◌-◌, ◌*◌, ◌/◌, ◌%◌, ◌≤◌, ◌<◌}
use native.Mathlib.Nat.{not-suc-le-zero, le_of_suc-le-suc, add-zero}
use native.Mathlib.Omega.{arith}
use borrow.Author.Tests.{lt-ltb, le-ltb, eq-eqb, ne_eqb, eqb-true, eqb-false, le-leb}
use lib.Dec.{ltb, eqb, lit<}
use lib.ListN.{length, get_or}
use lib.Seq.{ext_get_or}
use Rattle.basics.specs.Below.{list_of}
use Rattle.order.specs.Order.{is_class_in}
use Rattle.timing.specs.Timing.{within, gaps_within, bank_within, timing_sound}
use Rattle.policy.specs.Policy.{made, is_class, minimum, first_failing, policy_tests, refusal, in_range}
use Rattle.policy.specs.Laws.{PolicyLaws}
use Rattle.file.specs.File.{byte, word, kind, start, body_size, kinds_fit, bodies_abut, contents_fit, class_count, lengths_fit, row_at, epoch_of, minimum_at, ranks_of, rank_gap_of, timing_of, held, no_policy, file_tests, status, refused_with, read_file}
use Rattle.file.specs.Taken.{Bytes, Between, Entry, Encodes, policy_of, Encoded}
use Rattle.writer.specs.Written.{timing_size, file_size, contents, half_of, order_byte, turns_byte, timing_bytes, file_byte, file_of}
use Rattle.writer.specs.ReadBack.{TimingShape, ReadBack, WrittenBack}
use Rattle.timing.specs.declared.Timing.{Timing}
use Rattle.policy.specs.declared.Policy.{Policy}
use Rattle.basics.proofs.Truth.{either, and_both}
use Rattle.basics.proofs.Below.{lt-or-ge, length-list_of, get_or-list_of}
use Rattle.basics.proofs.Stores.{past_end}
use Rattle.policy.proofs.Laws.{policy-laws}
use Rattle.file.proofs.Taken.{taken-iff}
use Rattle.writer.proofs.FileBytes.{timing-size, in-contents, in_order, in_turns, in-timing, byte_small}

-- ---- lists of so many

four-entries : (l : List ℕ) → length l ≡ 4 → get_or l 0 0 ∷ get_or l 1 0 ∷ get_or l 2 0 ∷ get_or l 3 0 ∷ [] ≡ l
four-entries [] e = absurd (omega (arith, e))
four-entries (a ∷ []) e = absurd (omega (arith, e))
four-entries (a ∷ b ∷ []) e = absurd (omega (arith, e))
four-entries (a ∷ b ∷ d ∷ []) e = absurd (omega (arith, e))
four-entries (a ∷ b ∷ d ∷ f ∷ []) e = refl
four-entries (a ∷ b ∷ d ∷ f ∷ g ∷ l) e = absurd (omega (arith, e))

two-entries : (l : List ℕ) → length l ≡ 2 → get_or l 0 0 ∷ get_or l 1 0 ∷ [] ≡ l
two-entries [] e = absurd (omega (arith, e))
two-entries (a ∷ []) e = absurd (omega (arith, e))
two-entries (a ∷ b ∷ []) e = refl
two-entries (a ∷ b ∷ d ∷ l) e = absurd (omega (arith, e))

-- ---- reading what was written

module _ (p : Policy) (given : in_range p ≡ true) where
  laws : PolicyLaws p
  laws = policy-laws p given

  few : p.classes ≤ 16
  few = laws.order.classes_few.1

  -- the byte at a place of the file
  byte_at : (k : ℕ) → k < file_size p → byte (file_of p) k ≡ file_byte p k
  unfolding byte file_of
  byte_at k l = get_or-list_of (file_byte p) (file_size p) k l

  long : length (file_of p) ≡ file_size p
  unfolding file_of
  long = length-list_of (file_byte p) (file_size p)

  -- past the contents table and the class count there is more
  sized : 28 + 3 * p.classes ≤ file_size p
  unfolding file_size
  sized = omega (arith, (timing-size p.timing).0)

  table_at : (k : ℕ) → k < 16 → byte (file_of p) k ≡ get_or (contents p.classes (timing_size p.timing)) k 0
  table_at k l = byte_at k (omega (arith, sized)) ∙ in-contents p k l

  bytes : Bytes (file_of p)
  unfolding byte
  bytes i =
      ⊎_elim (λ l. rw (byte_at i l) (byte_small p given i))
      (λ past. rw (sym (past_end (file_of p) i long past)) (lit< tt))
      (lt-or-ge i (file_size p))

  -- ---- the contents table

  word_at : (k : ℕ) → k + 1 < 16
      → word (file_of p) k ≡ get_or (contents p.classes (timing_size p.timing)) k 0 + 256 * get_or (contents p.classes (timing_size p.timing)) (k + 1) 0
  unfolding word
  word_at k l =
      let here : k < 16 = omega arith in
      rw (table_at k here, table_at (k + 1) l)

  kinds : kinds_fit (file_of p) ≡ true
  unfolding kinds_fit kind contents
  kinds = rw (table_at 0 (lit< tt), table_at 1 (lit< tt), table_at 6 (lit< tt), table_at 11 (lit< tt))

  order-start : start (file_of p) 0 ≡ 16
  unfolding start contents
  order-start = word_at 2 (lit< tt)

  order-size : body_size (file_of p) 0 ≡ 1 + 2 * p.classes
  unfolding body_size contents
  order-size = let w = word_at 4 (lit< tt) in omega (arith, w)

  turns-start : start (file_of p) 1 ≡ 17 + 2 * p.classes
  unfolding start contents
  turns-start = let w = word_at 7 (lit< tt) in omega (arith, w)

  turns_size : body_size (file_of p) 1 ≡ 1 + p.classes
  unfolding body_size contents
  turns_size = let w = word_at 9 (lit< tt) in omega (arith, w)

  timing-start : start (file_of p) 2 ≡ 18 + 3 * p.classes
  unfolding start contents
  timing-start = let w = word_at 12 (lit< tt) in omega (arith, w)

  timing-length : body_size (file_of p) 2 ≡ timing_size p.timing
  unfolding body_size contents
  timing-length = let w = word_at 14 (lit< tt) in omega (arith, w)

  contents-fit : contents_fit (file_of p) ≡ true
  unfolding contents_fit bodies_abut within file_size
  contents-fit =
      let size = timing-size p.timing in
      and_both
      (and_both (and_both (le-leb 17 (length (file_of p)) (omega (arith, long, sized))) (le-leb (length (file_of p)) 65535 (omega (arith, long, few, size.1)))) kinds)
      (and_both
      (and_both (and_both (eq-eqb (start (file_of p) 0) 16 order-start) (eq-eqb (start (file_of p) 1) (16 + body_size (file_of p) 0) (omega (arith, turns-start, order-size))))
      (eq-eqb (start (file_of p) 2) (start (file_of p) 1 + body_size (file_of p) 1) (omega (arith, timing-start, turns-start, turns_size))))
      (eq-eqb (length (file_of p)) (start (file_of p) 2 + body_size (file_of p) 2) (omega (arith, long, timing-start, timing-length))))

  -- ---- the order

  order_at : (k : ℕ) → k < 1 + 2 * p.classes → byte (file_of p) (16 + k) ≡ order_byte p k
  order_at k l =
      let at : 16 + k - 16 ≡ k = omega arith in
      byte_at (16 + k) (omega (arith, sized)) ∙ in_order p (16 + k) (omega arith) (omega arith) ∙ ap (order_byte p) at

  count-is : class_count (file_of p) ≡ p.classes
  unfolding class_count order_byte
  count-is = order_at 0 (omega arith)

  lengths-fit : lengths_fit (file_of p) ≡ true
  unfolding lengths_fit within
  lengths-fit =
      let size = timing-size p.timing in
      let classes = laws.order.classes_few in
      let n = class_count (file_of p) in
      and_both
      (and_both
      (and_both (and_both (le-leb 1 n (omega (arith, count-is, classes.0))) (le-leb n 16 (omega (arith, count-is, classes.1))))
      (eq-eqb (body_size (file_of p) 0) (1 + 2 * n) (omega (arith, order-size, count-is))))
      (eq-eqb (body_size (file_of p) 1) (1 + n) (omega (arith, turns_size, count-is))))
      (and_both (le-leb 10 (body_size (file_of p) 2) (omega (arith, timing-length, size.0))) (le-leb (body_size (file_of p) 2) 11 (omega (arith, timing-length, size.1))))

  -- a row is its two halves
  halves : (row : ℕ) → half_of row 0 + 256 * half_of row 1 ≡ row
  unfolding half_of
  halves row = omega arith

  row-half : (i half : ℕ) → half < 2 → order_byte p (1 + 2 * i + half) ≡ half_of (get_or p.rows i 0) half
  unfolding order_byte
  row-half i half l =
      let first : (1 + 2 * i + half - 1) / 2 ≡ i = omega arith in
      let second : (1 + 2 * i + half - 1) % 2 ≡ half = omega arith in
      let some : (1 + 2 * i + half ≡ 0) → ⊥ = λ e. absurd (omega (arith, e)) in
      rw (ne_eqb (1 + 2 * i + half) 0 some, first, second)

  row_is : (i : ℕ) → i < p.classes → word (file_of p) (17 + 2 * i) ≡ get_or p.rows i 0
  unfolding word
  row_is i l =
      let low : 17 + 2 * i ≡ 16 + (1 + 2 * i + 0) = omega arith in
      let high : 17 + 2 * i + 1 ≡ 16 + (1 + 2 * i + 1) = omega arith in
      rw (high, low)
      (rw (order_at (1 + 2 * i + 0) (omega arith) ∙ row-half i 0 (lit< tt), order_at (1 + 2 * i + 1) (omega arith) ∙ row-half i 1 (lit< tt)) (halves (get_or p.rows i 0)))

  rows_are : list_of 16 (row_at (file_of p)) ≡ p.rows
  unfolding row_at is_class is_class_in
  rows_are =
      ext_get_or 0 (list_of 16 (row_at (file_of p))) p.rows (length-list_of (row_at (file_of p)) 16 ∙ sym laws.numbers.sixteen_rows)
      (λ i b.
      let below : i < 16 = omega (arith, length-list_of (row_at (file_of p)) 16) in
      get_or-list_of (row_at (file_of p)) 16 i below
      ∙ ap (λ (n : ℕ). cond (ltb i n) (word (file_of p) (17 + 2 * i)) 0) count-is
      ∙ ⊎_elim (λ l. rw (lt-ltb i p.classes l) (row_is i l))
      (λ h. let no = le-ltb i p.classes h in rw no (sym (laws.numbers.no_row i no)))
      (lt-or-ge i p.classes))

  -- ---- the turns

  turns-at : (k : ℕ) → k < 1 + p.classes → byte (file_of p) (start (file_of p) 1 + k) ≡ turns_byte p k
  turns-at k l =
      let at : 17 + 2 * p.classes + k - (17 + 2 * p.classes) ≡ k = omega arith in
      ap (λ (from : ℕ). byte (file_of p) (from + k)) turns-start
      ∙ byte_at (17 + 2 * p.classes + k) (omega (arith, sized))
      ∙ in_turns p (17 + 2 * p.classes + k) (omega arith) (omega arith)
      ∙ ap (turns_byte p) at

  epoch-is : epoch_of (file_of p) ≡ p.epoch
  unfolding epoch_of turns_byte
  epoch-is =
      let at : start (file_of p) 1 ≡ start (file_of p) 1 + 0 = omega arith in
      ap (byte (file_of p)) at ∙ turns-at 0 (omega arith)

  minimum-is : (i : ℕ) → i < p.classes → byte (file_of p) (start (file_of p) 1 + 1 + i) ≡ minimum p i
  unfolding turns_byte
  minimum-is i l =
      let at : start (file_of p) 1 + 1 + i ≡ start (file_of p) 1 + (1 + i) = omega arith in
      let some : (1 + i ≡ 0) → ⊥ = λ e. absurd (omega (arith, e)) in
      let back : 1 + i - 1 ≡ i = omega arith in
      ap (byte (file_of p)) at ∙ turns-at (1 + i) (omega arith) ∙ rw (ne_eqb (1 + i) 0 some, back)

  minimums-are : list_of 16 (minimum_at (file_of p)) ≡ p.minimums
  unfolding minimum_at is_class is_class_in minimum
  minimums-are =
      ext_get_or 0 (list_of 16 (minimum_at (file_of p))) p.minimums (length-list_of (minimum_at (file_of p)) 16 ∙ sym laws.numbers.sixteen_minimums)
      (λ i b.
      let below : i < 16 = omega (arith, length-list_of (minimum_at (file_of p)) 16) in
      get_or-list_of (minimum_at (file_of p)) 16 i below
      ∙ ap (λ (n : ℕ). cond (ltb i n) (byte (file_of p) (start (file_of p) 1 + 1 + i)) 0) count-is
      ∙ ⊎_elim (λ l. rw (lt-ltb i p.classes l) (minimum-is i l))
      (λ h. let no = le-ltb i p.classes h in rw no (sym (laws.numbers.no_minimum i no)))
      (lt-or-ge i p.classes))

  -- ---- the timing

  timing-at : (k : ℕ) → k < timing_size p.timing → byte (file_of p) (start (file_of p) 2 + k) ≡ get_or (timing_bytes p.timing) k 0
  unfolding file_size
  timing-at k l =
      let at : 18 + 3 * p.classes + k - (18 + 3 * p.classes) ≡ k = omega arith in
      ap (λ (from : ℕ). byte (file_of p) (from + k)) timing-start
      ∙ byte_at (18 + 3 * p.classes + k) (omega arith)
      ∙ in-timing p (18 + 3 * p.classes + k) (omega arith)
      ∙ ap (λ (at : ℕ). get_or (timing_bytes p.timing) at 0) at

  first-ten : (k : ℕ) → k < 10 → byte (file_of p) (start (file_of p) 2 + k) ≡ get_or (timing_bytes p.timing) k 0
  first-ten k l = timing-at k (omega (arith, (timing-size p.timing).0))

  turn_is : byte (file_of p) (start (file_of p) 2) ≡ p.timing.turn
  unfolding timing_bytes
  turn_is =
      let at : start (file_of p) 2 ≡ start (file_of p) 2 + 0 = omega arith in
      ap (byte (file_of p)) at ∙ first-ten 0 (lit< tt)

  -- one rank, and no gap between ranks, or four and a gap
  ranks_are : (ranks_of (file_of p) ≡ p.timing.ranks) × (rank_gap_of (file_of p) ≡ p.timing.rank)
  unfolding ranks_of rank_gap_of timing_bytes timing_size
  ranks_are =
      ⊎_elim
      (λ one.
      let no : eqb p.timing.ranks 4 ≡ false = rw one.0 in
      let ten : body_size (file_of p) 2 ≡ 10 = timing-length ∙ rw no in
      (rw ten (sym one.0), rw ten (sym one.1)))
      (λ four.
      let yes : eqb p.timing.ranks 4 ≡ true = rw four.0 in
      let size : timing_size p.timing ≡ 11 = rw yes in
      let eleven : body_size (file_of p) 2 ≡ 11 = timing-length ∙ size in
      (rw eleven (sym four.0), rw eleven (timing-at 10 (omega (arith, size)))))
      laws.timed.ranks_are

  -- the timing that is read: p's, with the gaps that were written
  abbrev read-timing : Timing
  read-timing =
      let t = p.timing in
      record {
        turn = t.turn;
        dead = t.dead;
        gaps = get_or t.gaps 0 0 ∷ get_or t.gaps 1 0 ∷ get_or t.gaps 2 0 ∷ get_or t.gaps 3 0 ∷ [];
        bank = get_or t.bank 0 0 ∷ get_or t.bank 1 0 ∷ [];
        column = t.column;
        response = t.response;
        ranks = t.ranks;
        rank = t.rank;
      }

  timing-is : timing_of (file_of p) ≡ read-timing
  unfolding timing_of timing_bytes
  timing-is =
      λ i.
      record {
        turn = turn_is i;
        dead = first-ten 1 (lit< tt) i;
        gaps = first-ten 2 (lit< tt) i ∷ first-ten 3 (lit< tt) i ∷ first-ten 4 (lit< tt) i ∷ first-ten 5 (lit< tt) i ∷ [];
        bank = first-ten 6 (lit< tt) i ∷ first-ten 7 (lit< tt) i ∷ [];
        column = first-ten 8 (lit< tt) i;
        response = first-ten 9 (lit< tt) i;
        ranks = ranks_are.0 i;
        rank = ranks_are.1 i;
      }

  -- which is p's own where it has as many gaps as its type says
  timing-own : TimingShape p.timing → read-timing ≡ p.timing
  timing-own shape =
      let t = p.timing in
      λ i.
      record {
        turn = t.turn;
        dead = t.dead;
        gaps = four-entries t.gaps shape.four_gaps i;
        bank = two-entries t.bank shape.two_gaps i;
        column = t.column;
        response = t.response;
        ranks = t.ranks;
        rank = t.rank;
      }

  -- ---- all of it

  held-is : held (file_of p) ≡ made p.classes p.rows p.epoch p.minimums read-timing
  unfolding held made
  held-is = λ i. made (count-is i) (rows_are i) (epoch-is i) (minimums-are i) (timing-is i)

  -- the tests see no more of the timing than was written
  not_refused : status (file_of p) ≡ 0
  unfolding status file_tests first_failing refusal policy_tests made timing_sound gaps_within bank_within
  not_refused = rw (contents-fit, lengths-fit, held-is) laws.numbers.not_refused

  taken : (read_file (file_of p)).status ≡ 0
  unfolding read_file
  taken = rw not_refused

  reads : TimingShape p.timing → read_file (file_of p) ≡ record { status = 0; policy = p }
  unfolding read_file
  reads shape =
      let same = held-is ∙ (λ i. made p.classes p.rows p.epoch p.minimums (timing-own shape i)) ∙ sym laws.numbers.is_made in
      rw not_refused (λ i. record { status = 0; policy = same i })

  -- ---- the numbers, where document 01 has them

  minimum-place : (i : ℕ) → i < p.classes → byte (file_of p) (18 + 2 * p.classes + i) ≡ minimum p i
  minimum-place i l =
      let at : 18 + 2 * p.classes + i ≡ start (file_of p) 1 + 1 + i = omega (arith, turns-start) in
      ap (byte (file_of p)) at ∙ minimum-is i l

  numbers : Encodes (file_of p) p.classes (λ i. get_or p.rows i 0) p.epoch (minimum p) (timing_size p.timing) (λ k. get_or (timing_bytes p.timing) k 0)
  unfolding contents file_size class_count epoch_of start body_size
  numbers =
      let size = timing-size p.timing in
      record {
        entries = table_at 0 (lit< tt);
        order_entry = record { kind_is = table_at 1 (lit< tt); start_is = order-start; size_is = order-size };
        turns_entry = record { kind_is = table_at 6 (lit< tt); start_is = turns-start; size_is = turns_size };
        timing_entry = record { kind_is = table_at 11 (lit< tt); start_is = timing-start; size_is = timing-length };
        timing-size = record { at_least = size.0; at_most = size.1 };
        whole = long;
        class-count = count-is;
        rows = row_is;
        epoch_byte = sym (ap (byte (file_of p)) turns-start) ∙ epoch-is;
        minimums = minimum-place;
        timing-bytes = λ k l. ap (λ (from : ℕ). byte (file_of p) (from + k)) (sym timing-start) ∙ timing-at k l;
      }

  pub read_back : ReadBack p
  read_back = record { bytes = bytes; encodes = numbers; taken = taken; reads = reads }

-- ---- writing what was read

-- a list has at each place what a function gives, from a number on
data Agrees (f : ℕ → ℕ) : ℕ → List ℕ → Type 0 where
  none : {from : ℕ} → Agrees f from []
  more : {from : ℕ} (x : ℕ) {l : List ℕ} → x ≡ f from → Agrees f (suc from) l → Agrees f from (x ∷ l)

agrees_at : {f : ℕ → ℕ} {from : ℕ} {l : List ℕ} → Agrees f from l → (k : ℕ) → k < length l → get_or l k 0 ≡ f (from + k)
agrees_at none k h = absurd (not-suc-le-zero h)
agrees_at {f = f} {from = from} (more x e rest) zero h = e ∙ ap f (sym (add-zero from))
agrees_at {f = f} {from = from} (more x e rest) (suc k) h =
    let at : suc from + k ≡ from + suc k = omega arith in
    agrees_at rest k (le_of_suc-le-suc h) ∙ ap f at

agrees : {f : ℕ → ℕ} {l : List ℕ} → Agrees f 0 l → (k : ℕ) → k < length l → get_or l k 0 ≡ f k
agrees {f = f} all k h = let at : 0 + k ≡ k = omega arith in agrees_at all k h ∙ ap f at

-- ---- the numbers of a policy that is made of them

module _ (n : ℕ) (row : ℕ → ℕ) (epoch : ℕ) (minimum-of : ℕ → ℕ) (size : ℕ) (timing : ℕ → ℕ) (few : n ≤ 16) (sized : Between 10 size 11) where
  made-policy : Policy
  made-policy = policy_of n row epoch minimum-of size timing

  made-classes : made-policy.classes ≡ n
  unfolding made-policy policy_of
  made-classes = refl

  made-epoch : made-policy.epoch ≡ epoch
  unfolding made-policy policy_of
  made-epoch = refl

  made_row : (i : ℕ) → i < n → get_or made-policy.rows i 0 ≡ row i
  unfolding made-policy policy_of
  made_row i l = get_or-list_of (λ j. cond (ltb j n) (row j) 0) 16 i (omega arith) ∙ rw (lt-ltb i n l)

  made-minimum : (i : ℕ) → i < n → minimum made-policy i ≡ minimum-of i
  unfolding made-policy policy_of minimum
  made-minimum i l = get_or-list_of (λ j. cond (ltb j n) (minimum-of j) 0) 16 i (omega arith) ∙ rw (lt-ltb i n l)

  made-size : timing_size made-policy.timing ≡ size
  unfolding made-policy policy_of timing_size
  made-size =
      ⊎_elim (λ eleven. rw eleven (sym (eqb-true size 11 eleven)))
      (λ other. rw other (omega (arith, eqb-false size 11 other, sized.at_least, sized.at_most)))
      (either (eqb size 11))

  -- the numbers of the body, and 0 past its end
  number : ℕ → ℕ
  number k = cond (ltb k size) (timing k) 0

  number_is : (k : ℕ) → k < 10 → timing k ≡ number k
  unfolding number
  number_is k l = rw (lt-ltb k size (omega (arith, sized.at_least)))

  last-number : cond (eqb size 11) (timing 10) 0 ≡ number 10
  unfolding number
  last-number =
      ⊎_elim
      (λ z. rw (z, lt-ltb 10 size (omega (arith, eqb-true size 11 z))))
      (λ z. rw (z, le-ltb 10 size (omega (arith, eqb-false size 11 z, sized.at_most))))
      (either (eqb size 11))

  made-body : Agrees number 0 (timing_bytes made-policy.timing)
  unfolding made-policy policy_of timing_bytes
  made-body =
      more (timing 0) (number_is 0 (lit< tt))
      (more (timing 1) (number_is 1 (lit< tt))
      (more (timing 2) (number_is 2 (lit< tt))
      (more (timing 3) (number_is 3 (lit< tt))
      (more (timing 4) (number_is 4 (lit< tt))
      (more (timing 5) (number_is 5 (lit< tt))
      (more (timing 6) (number_is 6 (lit< tt))
      (more (timing 7) (number_is 7 (lit< tt))
      (more (timing 8) (number_is 8 (lit< tt))
      (more (timing 9) (number_is 9 (lit< tt)) (more (cond (eqb size 11) (timing 10) 0) last-number none))))))))))

  made-timing : (k : ℕ) → k < size → get_or (timing_bytes made-policy.timing) k 0 ≡ timing k
  unfolding number timing_bytes
  made-timing k l = agrees made-body k (omega (arith, sized.at_most)) ∙ rw (lt-ltb k size l)

  -- so its file holds them
  pub numbers-encoded : in_range (policy_of n row epoch minimum-of size timing) ≡ true → Encodes (file_of (policy_of n row epoch minimum-of size timing)) n row epoch minimum-of size timing
  unfolding made-policy
  numbers-encoded given =
      let e = numbers made-policy given in
      let sizes = made-size in
      record {
        entries = e.entries;
        order_entry = subst (λ (m : ℕ). Entry (file_of made-policy) 1 1 16 (1 + 2 * m)) made-classes e.order_entry;
        turns_entry = subst (λ (m : ℕ). Entry (file_of made-policy) 6 2 (17 + 2 * m) (1 + m)) made-classes e.turns_entry;
        timing_entry = subst (λ (m : ℕ). Entry (file_of made-policy) 11 3 (18 + 3 * n) m) sizes (subst (λ (m : ℕ). Entry (file_of made-policy) 11 3 (18 + 3 * m) (timing_size made-policy.timing)) made-classes e.timing_entry);
        timing-size = sized;
        whole = omega (arith, e.whole, made-classes, sizes);
        class-count = e.class-count ∙ made-classes;
        rows = λ i l. e.rows i (omega (arith, made-classes)) ∙ made_row i l;
        epoch_byte = ap (λ (m : ℕ). byte (file_of made-policy) (17 + 2 * m)) (sym made-classes) ∙ e.epoch_byte ∙ made-epoch;
        minimums = λ i l. ap (λ (m : ℕ). byte (file_of made-policy) (18 + 2 * m + i)) (sym made-classes) ∙ e.minimums i (omega (arith, made-classes)) ∙ made-minimum i l;
        timing-bytes = λ k l. ap (λ (m : ℕ). byte (file_of made-policy) (18 + 3 * m + k)) (sym made-classes) ∙ e.timing-bytes k (omega (arith, sizes)) ∙ made-timing k l;
      }

module _ (s : List ℕ) (given : Bytes s) (h : Encoded s) where
  n-few : h.n ≤ 16
  n-few = h.sound.count_bounds.at_most

  -- the policy of the numbers that the file encodes
  q : Policy
  q = made-policy h.n h.row h.epoch h.minimum h.size h.timing n-few h.encoded.timing-size

  classes-are : q.classes ≡ h.n
  unfolding q
  classes-are = made-classes h.n h.row h.epoch h.minimum h.size h.timing n-few h.encoded.timing-size

  size_is : timing_size q.timing ≡ h.size
  unfolding q
  size_is = made-size h.n h.row h.epoch h.minimum h.size h.timing n-few h.encoded.timing-size

  -- both bytes of a word whose high byte is 0
  low_byte : (at w : ℕ) → word s at ≡ w → w < 256 → (w ≡ byte s at) × (0 ≡ byte s (at + 1))
  unfolding word
  low_byte at w e l = (omega (arith, e, given at, given (at + 1)), omega (arith, e, given at, given (at + 1)))

  table : Agrees (byte s) 0 (contents h.n h.size)
  unfolding contents
  table =
      let e = h.encoded in
      let order-start = low_byte 2 16 e.order_entry.start_is (lit< tt) in
      let order-size = low_byte 4 (1 + 2 * h.n) e.order_entry.size_is (omega (arith, n-few)) in
      let turns-start = low_byte 7 (17 + 2 * h.n) e.turns_entry.start_is (omega (arith, n-few)) in
      let turns_size = low_byte 9 (1 + h.n) e.turns_entry.size_is (omega (arith, n-few)) in
      let timing-start = low_byte 12 (18 + 3 * h.n) e.timing_entry.start_is (omega (arith, n-few)) in
      let timing-size = low_byte 14 h.size e.timing_entry.size_is (omega (arith, e.timing-size.at_most)) in
      more 3 (sym e.entries)
      (more 1 (sym e.order_entry.kind_is)
      (more 16 order-start.0
      (more 0 order-start.1
      (more (1 + 2 * h.n) order-size.0
      (more 0 order-size.1
      (more 2 (sym e.turns_entry.kind_is)
      (more (17 + 2 * h.n) turns-start.0
      (more 0 turns-start.1
      (more (1 + h.n) turns_size.0
      (more 0 turns_size.1
      (more 3 (sym e.timing_entry.kind_is)
      (more (18 + 3 * h.n) timing-start.0 (more 0 timing-start.1 (more h.size timing-size.0 (more 0 timing-size.1 none)))))))))))))))

  contents-same : (k : ℕ) → k < 16 → file_byte q k ≡ byte s k
  unfolding contents
  contents-same k l = in-contents q k l ∙ ap₂ (λ (n size : ℕ). get_or (contents n size) k 0) classes-are size_is ∙ agrees table k l

  -- ---- the order

  row_of : (i : ℕ) → i < h.n → get_or q.rows i 0 ≡ byte s (17 + 2 * i) + 256 * byte s (17 + 2 * i + 1)
  unfolding q word
  row_of i l = made_row h.n h.row h.epoch h.minimum h.size h.timing n-few h.encoded.timing-size i l ∙ sym (h.encoded.rows i l)

  half-same : (i half : ℕ) → i < h.n → half < 2 → half_of (get_or q.rows i 0) half ≡ byte s (17 + 2 * i + half)
  unfolding half_of
  half-same i half l b =
      ⊎_elim
      (λ z.
      let first : half ≡ 0 = eqb-true half 0 z in
      let at : 17 + 2 * i ≡ 17 + 2 * i + half = omega (arith, first) in
      rw z (low ∙ ap (byte s) at))
      (λ z.
      let at : 17 + 2 * i + 1 ≡ 17 + 2 * i + half = omega (arith, eqb-false half 0 z) in
      rw z (high ∙ ap (byte s) at))
      (either (eqb half 0))
    where
      low : get_or q.rows i 0 % 256 ≡ byte s (17 + 2 * i)
      low = omega (arith, row_of i l, given (17 + 2 * i), given (17 + 2 * i + 1))

      high : get_or q.rows i 0 / 256 ≡ byte s (17 + 2 * i + 1)
      high = omega (arith, row_of i l, given (17 + 2 * i), given (17 + 2 * i + 1))

  order_same : (k : ℕ) → 16 ≤ k → k < 17 + 2 * h.n → file_byte q k ≡ byte s k
  unfolding order_byte
  order_same k past l =
      in_order q k past (omega (arith, classes-are))
      ∙ ⊎_elim
      (λ z.
      let at : 16 ≡ k = omega (arith, eqb-true (k - 16) 0 z) in
      rw z (classes-are ∙ sym h.encoded.class-count ∙ ap (byte s) at))
      (λ z.
      let i : (k - 16 - 1) / 2 < h.n = omega (arith, eqb-false (k - 16) 0 z) in
      let at : 17 + 2 * ((k - 16 - 1) / 2) + (k - 16 - 1) % 2 ≡ k = omega (arith, eqb-false (k - 16) 0 z) in
      rw z (half-same ((k - 16 - 1) / 2) ((k - 16 - 1) % 2) i (omega arith) ∙ ap (byte s) at))
      (either (eqb (k - 16) 0))

  -- ---- the turns

  minimum-of : (i : ℕ) → i < h.n → minimum q i ≡ byte s (18 + 2 * h.n + i)
  unfolding q
  minimum-of i l = made-minimum h.n h.row h.epoch h.minimum h.size h.timing n-few h.encoded.timing-size i l ∙ sym (h.encoded.minimums i l)

  epoch-of : q.epoch ≡ byte s (17 + 2 * h.n)
  unfolding q
  epoch-of = made-epoch h.n h.row h.epoch h.minimum h.size h.timing n-few h.encoded.timing-size ∙ sym h.encoded.epoch_byte

  turns_same : (k : ℕ) → 17 + 2 * h.n ≤ k → k < 18 + 3 * h.n → file_byte q k ≡ byte s k
  unfolding turns_byte
  turns_same k past l =
      in_turns q k (omega (arith, classes-are)) (omega (arith, classes-are))
      ∙ ap (λ (n : ℕ). turns_byte q (k - (17 + 2 * n))) classes-are
      ∙ ⊎_elim
      (λ z.
      let at : 17 + 2 * h.n ≡ k = omega (arith, eqb-true (k - (17 + 2 * h.n)) 0 z) in
      rw z (epoch-of ∙ ap (byte s) at))
      (λ z.
      let some = eqb-false (k - (17 + 2 * h.n)) 0 z in
      let at : 18 + 2 * h.n + (k - (17 + 2 * h.n) - 1) ≡ k = omega (arith, some) in
      rw z (minimum-of (k - (17 + 2 * h.n) - 1) (omega (arith, some)) ∙ ap (byte s) at))
      (either (eqb (k - (17 + 2 * h.n)) 0))

  -- ---- the timing

  timing-same : (k : ℕ) → 18 + 3 * h.n ≤ k → k < 18 + 3 * h.n + h.size → file_byte q k ≡ byte s k
  unfolding q
  timing-same k past l =
      let at : 18 + 3 * h.n + (k - (18 + 3 * h.n)) ≡ k = omega arith in
      let inside : k - (18 + 3 * h.n) < h.size = omega arith in
      in-timing q k (omega (arith, classes-are))
      ∙ ap (λ (n : ℕ). get_or (timing_bytes q.timing) (k - (18 + 3 * n)) 0) classes-are
      ∙ made-timing h.n h.row h.epoch h.minimum h.size h.timing n-few h.encoded.timing-size (k - (18 + 3 * h.n)) inside
      ∙ sym (h.encoded.timing-bytes (k - (18 + 3 * h.n)) inside)
      ∙ ap (byte s) at

  -- ---- all of it

  bytes_same : (k : ℕ) → k < length s → file_byte q k ≡ byte s k
  bytes_same k l =
      ⊎_elim (λ a. contents-same k a)
      (λ a.
      ⊎_elim (λ b. order_same k a b)
      (λ b. ⊎_elim (λ d. turns_same k b d) (λ d. timing-same k d (omega (arith, h.encoded.whole))) (lt-or-ge k (18 + 3 * h.n)))
      (lt-or-ge k (17 + 2 * h.n)))
      (lt-or-ge k 16)

  file-same : file_of q ≡ s
  unfolding file_of file_size byte
  file-same =
      let whole : file_size q ≡ length s = omega (arith, classes-are, size_is, h.encoded.whole) in
      ext_get_or 0 (list_of (file_size q) (file_byte q)) s (length-list_of (file_byte q) (file_size q) ∙ whole)
      (λ k b.
      let below : k < file_size q = omega (arith, length-list_of (file_byte q) (file_size q)) in
      get_or-list_of (file_byte q) (file_size q) k below ∙ bytes_same k (omega (arith, whole)))

shape-read : (s : List ℕ) → TimingShape (read_file s).policy.timing
unfolding read_file held made timing_of refused_with no_policy
shape-read s =
    ⊎_elim (λ yes. rw yes (record { four_gaps = refl; two_gaps = refl }))
    (λ no. rw no (record { four_gaps = refl; two_gaps = refl }))
    (either (eqb (status s) 0))

pub written_back : (s : List ℕ) → Bytes s → WrittenBack s
unfolding q made-policy
written_back s given =
    let iff = taken-iff s given in
    record {
      shape = shape-read s;
      same =
          λ e.
          let h = iff.taken.0 e in
          ap file_of (iff.policy_is h) ∙ file-same s given h;
    }
